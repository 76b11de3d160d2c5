use Rattle.std.proofs.Common.{◌≡◌, reverse}
use Rattle.std.specs.Iterator.Adapters.{rev_source}
use Rattle.std.specs.Slice.Iter.{iter_rest}
use Rattle.graph.specs.Marks.{marked}
use Rattle.cutset.specs.Method.{held, thinned, measures}
use Rattle.cutset.specs.Tables.{picked}
use Rattle.cutset.proofs.thinning.leave_out.Given as goal

abbrev pub invariant-loop-pick : goal.invariant-loop-pick
invariant-loop-pick g l =
    held (g.S.Source.plan l.source) (marked l.taken.marks) (picked l.picks)
    ≡ thinned (g.S.Source.plan l.source) (marked l.taken.marks) (marked l.held.marks) (reverse (measures (iter_rest (rev_source l.pick-iterator))))
