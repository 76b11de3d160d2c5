use Rattle.std.proofs.Common.{◌≡◌, Some, None, arith, rules}
use Rattle.sources.specs.First.{first_failing}
use Rattle.sources.specs.Layout.{entries_of}
use Rattle.sources.specs.Checks.{entry_checks}
use Rattle.sources.proofs.Firsts.{none_fails_more, first_failing_below}
use Rattle.sources.proofs.Told.{tells_passed_on}
use Rattle.sources.proofs.header.Header.check_entries.Goals as goal

pub returns-in_err-require : goal.returns-in_err-require
returns-in_err-require c =
    let bs = c.args.self.now.bytes.now in
    let here : first_failing (entry_checks bs c.loop-number.number) ≡ Some c.in_err-require.field-0.0 = search rules in
    tells_passed_on c.from_residual.result c.from_residual.ensures.1 (first_failing_below (entry_checks bs) (entries_of bs) c.loop-number.number _ (omega arith) c.loop-number.invariant here)

pub loop-number-preserved : goal.loop-number-preserved
loop-number-preserved c =
    let bs = c.args.self.now.bytes.now in
    let here : first_failing (entry_checks bs c.loop-number.number) ≡ None = search rules in
    none_fails_more (entry_checks bs) c.loop-number.number c.loop-number.invariant here
