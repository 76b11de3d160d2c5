use Rattle.graph.specs.Marks.{marked}
use Rattle.cutset.specs.Lists.{listed}
use Rattle.cutset.proofs.Choices.{Counted}
use Rattle.cutset.proofs.choice.Cutset.of.Given as goal

abbrev pub invariant-loop-m : goal.invariant-loop-m
invariant-loop-m g l =
    Counted (g.S.Source.plan l.source) (marked l.held.marks) l.m (listed l.members) l.weight l.settings
