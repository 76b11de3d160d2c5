use Rattle.graph.specs.Pruning.{forest}
use Rattle.graph.proofs.split.SplitGraph.is_forest.Goals as goal

pub returns : goal.returns
unfolding forest
returns c = let left = c.prune.ensures.value in cc
