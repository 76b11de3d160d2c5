use Rattle.std.proofs.Common.{◌≡◌}
use Rattle.plan.specs.Sums.{size}
use Rattle.graph.specs.Read.{set_of, node_count, edges}
use Rattle.cutset.specs.Method.{unbarred, picks}
use Rattle.cutset.specs.Tables.{holds, picked}
use Rattle.cutset.proofs.PickSteps.{Picking}
use Rattle.cutset.proofs.picking.pick_measures.Given as goal

abbrev pub invariant-loop-measure : goal.invariant-loop-measure
invariant-loop-measure g l = record {
  free : set_of l.stage.free ≡ unbarred (g.S.Source.plan l.source);
  picking :
      Picking (picks (g.S.Source.plan l.source) (set_of l.taken)) l.stage.graph.now.count (node_count l.stage.graph.now) (edges l.stage.graph.now)
      (set_of l.stage.free) (set_of l.stage.nodes) (holds l.stage.holdings.amounts) (picked l.picks);
}

abbrev pub decreases-loop-measure : goal.decreases-loop-measure
decreases-loop-measure g l = size (node_count l.stage.graph.now) (set_of l.stage.nodes)
