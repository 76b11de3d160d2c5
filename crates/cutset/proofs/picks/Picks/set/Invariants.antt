use Rattle.std.proofs.Common.{◌≡◌, take}
use Rattle.plan.specs.Sums.{among}
use Rattle.graph.specs.Marks.{marked}
use Rattle.cutset.specs.Method.{measures}
use Rattle.cutset.proofs.picks.Picks.set.Given as goal

abbrev pub invariant-loop-pick : goal.invariant-loop-pick
invariant-loop-pick l = marked l.set.marks ≡ among (measures (take l.pick-index l.pick-items))
