use Rattle.std.proofs.Common.{◌≡◌, None}
use Rattle.sources.specs.First.{first_failing, each_below}
use Rattle.sources.specs.Layout.{earlier_lengths}
use Rattle.sources.specs.Checks.{record_checks}
use Rattle.sources.proofs.header.Header.check_records.Given as goal

abbrev pub invariant-loop-m : goal.invariant-loop-m
invariant-loop-m l = (first_failing (each_below l.m (record_checks l.self.bytes.now)) ≡ None) × (l.earlier ≡ earlier_lengths l.self.bytes.now l.m)
