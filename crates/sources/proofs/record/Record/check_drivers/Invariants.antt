use Rattle.std.proofs.Common.{◌≡◌, [], ◌∷◌, None}
use Rattle.sources.specs.First.{first_failing, each_below}
use Rattle.sources.specs.Checks.{driver_check}
use Rattle.sources.proofs.record.Record.check_drivers.Given as goal

abbrev pub invariant-loop-position : goal.invariant-loop-position
invariant-loop-position l = first_failing (each_below l.position (λ k. driver_check l.self.bytes.now l.self.m k ∷ [])) ≡ None
