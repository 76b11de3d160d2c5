use Rattle.std.proofs.Common.{◌≡◌, take}
use Rattle.graph.specs.Read.{edges}
use Rattle.graph.specs.Split.{linked_to}
use Rattle.graph.proofs.split.SplitGraph.link_table.Given as goal

abbrev pub invariant-loop-position : goal.invariant-loop-position
invariant-loop-position g l = record {
  count : l.self.count ≡ l.initial.self.count;
  edges : edges l.self
      ≡ linked_to (edges l.initial.self) l.table_node (take l.position ((g.S.Source.plan l.source).drivers l.table));
}
