use Rattle.std.proofs.Common.{ap, ◌∙◌}
use Rattle.graph.specs.Read.{set_of, node_count, edges}
use Rattle.graph.specs.Pruning.{prune}
use Rattle.cutset.specs.declared.stage.Stage.{Stage}
use Rattle.cutset.proofs.PickSteps.{pick_inside}
use Rattle.cutset.proofs.stage.Stage.pick.Goals as goal

pub take_off-requires-clause-inside : goal.take_off-requires-clause-inside
take_off-requires-clause-inside c =
    let s : Stage = c.args.self.now in
    pick_inside (node_count s.graph.now) (edges s.graph.now) (set_of s.nodes) (set_of c.prune.new.nodes) c.args.measure
    (c.prune.ensures.value ∙ ap (prune (node_count s.graph.now) (edges s.graph.now)) c.remove.ensures)
