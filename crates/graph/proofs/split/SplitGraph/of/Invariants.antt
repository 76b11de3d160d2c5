use Rattle.std.proofs.Common.{◌≡◌}
use Rattle.graph.specs.Read.{edges}
use Rattle.graph.proofs.SplitNodes.{split_below}
use Rattle.graph.proofs.split.SplitGraph.of.Given as goal

abbrev pub invariant-loop-table : goal.invariant-loop-table
invariant-loop-table g l = record {
  count : l.graph.count ≡ (g.S.Source.plan l.source).count;
  edges : edges l.graph ≡ split_below (g.S.Source.plan l.source) l.table;
}
