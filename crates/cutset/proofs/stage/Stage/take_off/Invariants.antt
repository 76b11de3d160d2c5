use Rattle.std.proofs.Common.{◌≡◌}
use Rattle.graph.specs.Read.{set_of, node_count, edges}
use Rattle.cutset.specs.Tables.{holds}
use Rattle.cutset.proofs.Payments.{Paying}
use Rattle.cutset.proofs.stage.Stage.take_off.Given as goal

abbrev pub invariant-loop-node : goal.invariant-loop-node
invariant-loop-node l = record {
  same_graph : l.self.graph ≡ l.initial.self.graph;
  same_free : l.self.free ≡ l.initial.self.free;
  same_nodes : l.self.nodes ≡ l.initial.self.nodes;
  paying :
      Paying (node_count l.self.graph.now) (edges l.self.graph.now) (set_of l.self.free) (set_of l.self.nodes) (set_of l.left)
      (holds l.initial.self.holdings.amounts) l.share l.node l.self.holdings.amounts;
}
