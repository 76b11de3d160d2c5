use Rattle.plan.specs.Sums.{size}
use Rattle.graph.specs.Read.{set_of, edges, node_count}
use Rattle.graph.specs.Pruning.{Shrinks}
use Rattle.graph.proofs.split.SplitGraph.prune.Given as goal

abbrev pub invariant-loop : goal.invariant-loop
invariant-loop l = Shrinks (node_count l.self) (edges l.self) (set_of l.initial.nodes) (set_of l.nodes)

abbrev pub decreases-loop : goal.decreases-loop
decreases-loop l = size (node_count l.self) (set_of l.nodes)
