use Rattle.std.proofs.Common.{◌≡◌, ℕ, ◌+◌, ◌≤◌, sym, refl, ap, ◌∙◌, arith}
use Rattle.std.proofs.lemmas.Result.{err_from_is_err_and}
use Rattle.std.proofs.lemmas.Bool.{eqb-true}
use Rattle.plan.specs.Plan.{Plan}
use Rattle.plan.specs.Sums.{Set, size, meet}
use Rattle.plan.proofs.Sets.{meet_in, meet_from}
use Rattle.plan.proofs.Sums.{size_below, size_member}
use Rattle.graph.specs.Read.{set_of, node_count, edges}
use Rattle.graph.specs.Pruning.{prune}
use Rattle.graph.specs.Split.{remaining}
use Rattle.cutset.specs.declared.stage.Stage.{Stage}
use Rattle.cutset.proofs.PlanNodes.{unbarred_below}
use Rattle.cutset.proofs.Smallest.{with_share_some, with_share_none, share-le}
use Rattle.cutset.proofs.PickSteps.{picks_start, picking_first, picking_done, picking_barred, picking_short, picking_more, pick_present, pick_fewer}
use Rattle.cutset.proofs.picking.pick_measures.Goals as goal

pub loop-measure-init : goal.loop-measure-init
loop-measure-init g c =
    let p : Plan = g.S.Source.plan c.args.source.now in
    let T : Set = set_of c.args.taken.now in
    let first : Stage = c.first-stage.result in
    let k : ℕ = first.graph.now.count in
    let e = c.first-stage.ensures in
    let count : k ≡ p.count = ap (λ g. g.count) e.graph ∙ c.of-graph.ensures.count in
    let nodes : set_of first.nodes ≡ prune (node_count first.graph.now) (edges first.graph.now) (remaining k T) = rw e.graph e.nodes in
    record {
      free = e.free;
      picking = rw c.none-picks.ensures (picking_first k (k + k) _ _ _ _ _
          (picks_start p T k _ _ _ _ count (rw e.graph c.of-graph.ensures.edges) e.free nodes e.holdings)
          (size_below (k + k) k _ (λ x m. omega (arith, count, unbarred_below p x (rw (← e.free) (meet_in (set_of first.nodes) (set_of first.free) x m).1)))));
    }

pub pick-requires : goal.pick-requires
pick-requires g c =
    let found = with_share_some _ _ _ _ _ _ _ c.in-Some.ensures in
    omega (arith, found.1, share-le)

pub returns-in_err-pick : goal.returns-in_err-pick
returns-in_err-pick g c =
    let found = with_share_some _ _ _ _ _ _ _ c.in-Some.ensures in
    let failed = c.in_err-pick.ensures.holdings in
    let r = err_from_is_err_and c.from_residual.result c.from_residual.ensures.1 in
    rw (r.1, r.2, failed.0)
    (picking_short _ _ _ _ _ _ _ _ c.loop-measure.invariant.picking _ found.0 _ refl (rw found.1 at failed.1))

pub push-requires : goal.push-requires
push-requires g c =
    let p : Plan = g.S.Source.plan c.args.source.now in
    let s : Stage = c.loop-measure.stage in
    let m = c.in-Some.measure in
    let found = with_share_some _ _ _ _ _ _ _ c.in-Some.ensures in
    let here = pick_present _ _ _ _ _ _ _ _ c.loop-measure.invariant.picking m found.0 in
    let C : Set = set_of s.nodes in
    let F : Set = set_of s.free in
    let some : 1 ≤ size (node_count s.graph.now) (meet C F) = size_member (node_count s.graph.now) (meet C F) m here.0 (meet_from C F m here.1 here.2) in
    record {
      room = omega (arith, c.loop-measure.invariant.picking.few, some, s.graph.now.few);
      known = omega (arith, unbarred_below p m (rw (← c.loop-measure.invariant.free) here.2), (g.S.Source.lawful c.args.source.now).few_measures);
    }

pub loop-measure-smaller : goal.loop-measure-smaller
loop-measure-smaller g c =
    let found = with_share_some _ _ _ _ _ _ _ c.in-Some.ensures in
    rw c.pick.ensures.graph
    (pick_fewer _ _ _ _ _ _ _ _ c.loop-measure.invariant.picking _ found.0 _ c.in_ok-pick.ensures.nodes)

pub loop-measure-preserved : goal.loop-measure-preserved
loop-measure-preserved g c =
    let found = with_share_some _ _ _ _ _ _ _ c.in-Some.ensures in
    let done = c.in_ok-pick.ensures in
    rw (c.push.ensures, c.pick.ensures.graph, c.pick.ensures.free, done.nodes, found.1) record {
      free = c.loop-measure.invariant.free;
      picking =
          picking_more _ _ _ _ _ _ _ _ c.loop-measure.invariant.picking _ found.0 _ refl _ (rw found.1 at done.holdings.0) (rw found.1 at done.holdings.1);
    }

pub returns-then-is_done : goal.returns-then-is_done
returns-then-is_done g c =
    let none = with_share_none _ _ _ _ _ c.in_default.ensures in
    picking_done _ _ _ _ _ _ _ _ c.loop-measure.invariant.picking none (eqb-true _ 0 (sym c.is_done.ensures ∙ c.if-is_done.true))

pub returns-else-is_done : goal.returns-else-is_done
returns-else-is_done g c =
    let none = with_share_none _ _ _ _ _ c.in_default.ensures in
    picking_barred _ _ _ _ _ _ _ _ c.loop-measure.invariant.picking none (sym c.is_done.ensures ∙ c.if-is_done.false)
