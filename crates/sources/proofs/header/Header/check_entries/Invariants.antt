use Rattle.std.proofs.Common.{◌≡◌, None}
use Rattle.sources.specs.First.{first_failing, each_below}
use Rattle.sources.specs.Checks.{entry_checks}
use Rattle.sources.proofs.header.Header.check_entries.Given as goal

abbrev pub invariant-loop-number : goal.invariant-loop-number
invariant-loop-number l = first_failing (each_below l.number (entry_checks l.self.bytes.now)) ≡ None
