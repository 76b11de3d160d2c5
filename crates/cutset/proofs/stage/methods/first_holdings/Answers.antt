use Rattle.std.proofs.Common.{rules, ◌≡◌, ℕ, ◌*◌, cond, List, sym, ◌∙◌, inl, inr, arith}
use Rattle.std.proofs.Math.Path.{fun_ext}
use Rattle.std.proofs.lemmas.Bool.{cases_Bool, cases_lt}
use Rattle.std.proofs.lemmas.List.{get_or_past}
use Rattle.std.specs.Array.{IsFromFnResult}
use Rattle.std.specs.Fn.{Mut}
use Rattle.plan.specs.Plan.{Plan, Lawful}
use Rattle.graph.specs.Split.{most_nodes}
use Rattle.cutset.specs.Method.{share_unit, first_holding}
use Rattle.cutset.specs.Tables.{holds}
use Rattle.plan.proofs.FromFn.{Gives, made_of}
use Rattle.cutset.proofs.PlanNodes.{unbarred_within, first_holding_free, first_holding_barred, first_holding_past, first_holding_bounded}
use Rattle.cutset.proofs.stage.methods.first_holdings.Goals as goal

module _ (p : Plan) (law : Lawful p) where
  -- a number outside the plan is barred
  first_holding_of : (v : ℕ) → cond (p.barred v) 0 (share_unit * p.weight v) ≡ first_holding p v
  first_holding_of v =
      elim (cases_lt v p.count) [
        | inl lt ↦
            elim (cases_Bool (p.barred v)) [
              | inl shut ↦ rw shut (sym (first_holding_barred p v (rw (unbarred_within p v lt, shut))))
              | inr free ↦ rw free (sym (first_holding_free p v (rw (unbarred_within p v lt, free))))
            ]
        | inr past ↦ rw (law.outside v past).not_held (sym (first_holding_past p v past))
      ]

  held_first :
      {F : Type 0} {g : Mut F (ℕ × Unit {0}) ℕ} {f : F} {amounts : List ℕ} → IsFromFnResult g f amounts most_nodes
      → Gives g f most_nodes (λ v. cond (p.barred v) 0 (share_unit * p.weight v)) → (v : ℕ) → holds amounts v ≡ first_holding p v
  held_first {amounts = amounts} made gives v =
      elim (cases_lt v most_nodes) [
        | inl lt ↦ made_of (λ u. cond (p.barred u) 0 (share_unit * p.weight u)) made gives v 0 lt ∙ first_holding_of v
        | inr past ↦ get_or_past amounts v 0 (omega (arith, made.long)) ∙ sym (first_holding_past p v (omega (arith, law.few_measures)))
      ]

pub invariant_of-result : goal.invariant_of-result
invariant_of-result g c =
    let p : Plan = g.S.Source.plan c.args.source.now in
    let law : Lawful p = g.S.Source.lawful c.args.source.now in
    let held = held_first p law c.from_fn-amounts.ensures.items (λ i y q lt told. (search rules, search rules)) in record {
      full = c.from_fn-amounts.ensures.items.long;
      bounded = λ v. omega (arith, held v, first_holding_bounded p law v);
    }

pub returns : goal.returns
returns g c =
    let p : Plan = g.S.Source.plan c.args.source.now in
    let law : Lawful p = g.S.Source.lawful c.args.source.now in
    fun_ext (held_first p law c.from_fn-amounts.ensures.items (λ i y q lt told. (search rules, search rules)))
