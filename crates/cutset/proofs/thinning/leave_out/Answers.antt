use Rattle.std.proofs.Common.{◌≡◌, List, reverse, sym, ◌∙◌}
use Rattle.std.proofs.lemmas.List.{nil_from_length}
use Rattle.std.specs.Iterator.Adapters.{rev_source}
use Rattle.std.specs.Slice.Iter.{iter_rest}
use Rattle.plan.specs.Plan.{Plan}
use Rattle.plan.specs.Sums.{Set}
use Rattle.graph.specs.Marks.{marked}
use Rattle.cutset.specs.Method.{measures, held}
use Rattle.cutset.specs.Tables.{picked}
use Rattle.cutset.specs.declared.pick.Pick.{Pick}
use Rattle.cutset.proofs.ThinSteps.{test_is, thinned_next, thinned_out, thinned_kept, thinned_none}
use Rattle.cutset.proofs.thinning.leave_out.Goals as goal

pub loop-pick-init : goal.loop-pick-init
unfolding held
loop-pick-init g c =
    let all : iter_rest (rev_source c.into_iter-pick-iterator.result) ≡ picked c.args.picks.now = cc in
    rw (all, c.set-held.ensures)

pub loop-pick-preserved : goal.loop-pick-preserved
loop-pick-preserved g c =
    let p : Plan = g.S.Source.plan c.args.source.now in
    let T : Set = marked c.args.taken.now.marks in
    let H : Set = marked c.loop-pick.held.marks in
    let rest : List Pick = iter_rest (rev_source c.next.new.self) in
    let pick : Pick = c.in-Some.pick.now in
    let graph = c.of-graph in
    c.loop-pick.invariant
    ∙ thinned_next p T H _ rest pick c.in-Some.ensures.steps
    ∙ thinned_kept p T H pick.measure (reverse (measures rest))
    (sym (test_is p T H _ _ _ _ graph.result.count _ graph.ensures.count graph.ensures.edges c.remove.ensures c.union.ensures c.without.ensures)
    ∙ sym c.is_forest.ensures ∙ c.if-is_forest.false)

pub loop-pick-preserved-then-is_forest : goal.loop-pick-preserved-then-is_forest
loop-pick-preserved-then-is_forest g c =
    let p : Plan = g.S.Source.plan c.args.source.now in
    let T : Set = marked c.args.taken.now.marks in
    let H : Set = marked c.loop-pick.held.marks in
    let rest : List Pick = iter_rest (rev_source c.next.new.self) in
    let pick : Pick = c.in-Some.pick.now in
    let graph = c.of-graph in
    rw c.remove.ensures
    (c.loop-pick.invariant
    ∙ thinned_next p T H _ rest pick c.in-Some.ensures.steps
    ∙ thinned_out p T H pick.measure (reverse (measures rest))
    (sym (test_is p T H _ _ _ _ graph.result.count _ graph.ensures.count graph.ensures.edges c.remove.ensures c.union.ensures c.without.ensures)
    ∙ sym c.is_forest.ensures ∙ c.if-is_forest.true))

pub returns : goal.returns
returns g c =
    let none = nil_from_length _ c.in-None.ensures.steps.0 in
    sym (rw none at c.loop-pick.invariant ∙ thinned_none _ _ _)
