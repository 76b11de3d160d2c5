use Rattle.std.proofs.Common.{◌≡◌, ◌≤◌}
use Rattle.graph.specs.Read.{set_of, edges}
use Rattle.graph.specs.Graphs.{deg}
use Rattle.graph.proofs.split.SplitGraph.degree.Given as goal

abbrev pub invariant-loop-x : goal.invariant-loop-x
invariant-loop-x l = record {
  counted : l.edges ≡ deg l.x (edges l.self) (set_of l.within) l.node;
  few : l.edges ≤ l.x;
}
