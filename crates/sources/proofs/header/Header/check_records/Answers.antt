use Rattle.std.proofs.Common.{◌+◌, refl, add-one, arith}
use Rattle.std.proofs.lemmas.Result.{err_from_is_err_and}
use Rattle.plan.specs.Sums.{over}
use Rattle.sources.specs.Layout.{earlier_lengths}
use Rattle.sources.specs.LayoutLaws.{earlier_lengths_more}
use Rattle.sources.specs.Checks.{record_checks}
use Rattle.sources.specs.PassedLaws.{records_passed}
use Rattle.sources.proofs.Firsts.{none_fails_more, first_failing_below}
use Rattle.sources.proofs.Lengths.{length_bounded, earlier_lengths_bounded}
use Rattle.sources.proofs.header.Header.check_records.Goals as goal

pub loop-m-init : goal.loop-m-init
unfolding earlier_lengths over
loop-m-init c = (refl, refl)

pub returns-in_err-check : goal.returns-in_err-check
returns-in_err-check c =
    let p = err_from_is_err_and c.from_residual.result c.from_residual.ensures.1 in
    rw (p.1, p.2)
    (first_failing_below (record_checks c.args.self.now.bytes.now) c.args.self.now.measures c.loop-m.m _
    (omega arith) c.loop-m.invariant.0 c.in_err-check.ensures)

pub table_length-earlier-requires : goal.table_length-earlier-requires
table_length-earlier-requires c =
    let bs = c.args.self.now.bytes.now in
    let here = none_fails_more (record_checks bs) c.loop-m.m c.loop-m.invariant.0 c.in_ok-check.ensures in
    records_passed bs (c.loop-m.m + 1) here

pub overflow_add-earlier : goal.overflow_add-earlier
overflow_add-earlier c =
    let bs = c.args.self.now.bytes.now in
    let m = c.loop-m.m in
    let here = none_fails_more (record_checks bs) m c.loop-m.invariant.0 c.in_ok-check.ensures in
    let before = earlier_lengths_bounded bs m (records_passed bs m c.loop-m.invariant.0) in
    let own = length_bounded bs m (records_passed bs (m + 1) here) in
    omega (arith, before, own)

pub loop-m-preserved : goal.loop-m-preserved
loop-m-preserved c =
    let bs = c.args.self.now.bytes.now in
    let m = c.loop-m.m in (
      none_fails_more (record_checks bs) m c.loop-m.invariant.0 c.in_ok-check.ensures,
      (rw add-one (omega (arith, earlier_lengths_more bs m))),
    )
