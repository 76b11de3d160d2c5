use Rattle.std.proofs.Common.{◌≡◌, sym, ◌∙◌, arith}
use Rattle.plan.specs.Plan.{Plan}
use Rattle.plan.specs.Sums.{Set}
use Rattle.graph.specs.Marks.{marked}
use Rattle.cutset.proofs.Choices.{counted_none, counted_yes, counted_no, counted_all}
use Rattle.cutset.proofs.choice.Cutset.of.Goals as goal
use Rattle.cutset.proofs.choice.Cutset.of.Goals.{then-contains, else-contains}

pub loop-m-init : goal.loop-m-init
loop-m-init g c = rw c.new-members.ensures.items (counted_none (g.S.Source.plan c.args.source.now) (marked c.args.held.now.marks))

pub loop-m-preserved : goal.loop-m-preserved
loop-m-preserved g c =
    let p : Plan = g.S.Source.plan c.args.source.now in
    let H : Set = marked c.args.held.now.marks in
    elim c.if-contains.branch [
      | then-contains w ↦
          rw (w.members-is, w.push.ensures.items, w.weight-is, w.weight.ensures, w.settings-is, w.times_capped-settings.ensures, w.classes.ensures)
          (counted_yes p H _ _ _ _ c.loop-m.invariant (g.S.Source.lawful c.args.source.now) (sym c.contains.ensures ∙ w.if-contains.true))
      | else-contains w ↦
          rw (w.members-is, w.weight-is, w.settings-is)
          (counted_no p H _ _ _ _ c.loop-m.invariant (sym c.contains.ensures ∙ w.if-contains.false))
    ]

pub returns : goal.returns
returns g c =
    let all : c.loop-m.m ≡ (g.S.Source.plan c.args.source.now).count = omega (arith, c.count-m-end.ensures) in
    counted_all _ _ _ _ _ (rw all at c.loop-m.invariant)
