use Rattle.graph.specs.Read.{set_of, edges, node_count}
use Rattle.graph.proofs.Pruning.{Sweeping}
use Rattle.graph.proofs.split.SplitGraph.sweep.Given as goal

abbrev pub invariant-loop-node : goal.invariant-loop-node
invariant-loop-node l =
    Sweeping (node_count l.self) (edges l.self) (set_of l.initial.nodes) (set_of l.nodes) l.node l.went
