use Rattle.graph.specs.Split.{most_nodes}
use Rattle.graph.proofs.Rows.{edges_in_none}
use Rattle.graph.proofs.split.SplitGraph.edgeless.Goals as goal

pub returns-clause-edges : goal.returns-clause-edges
returns-clause-edges c = edges_in_none most_nodes c.empty.result c.empty.ensures
