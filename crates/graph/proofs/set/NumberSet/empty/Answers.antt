use Rattle.graph.specs.Split.{most_nodes}
use Rattle.graph.proofs.Marks.{marked_none}
use Rattle.graph.proofs.set.NumberSet.empty.Goals as goal

pub returns : goal.returns
returns c = marked_none most_nodes
