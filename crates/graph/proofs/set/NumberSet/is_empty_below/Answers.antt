use Rattle.std.proofs.Common.{◌≡◌, ℕ, ◌<◌, min, Bool, true, false, not, ◌==◌, List, length, take, refl, sym, ◌∙◌, inl, inr, arith, length-take, get_or-take}
use Rattle.std.specs.Bool.{Decides}
use Rattle.std.specs.Cmp.{booleans_Decides}
use Rattle.std.specs.List.{HoldsAt}
use Rattle.std.proofs.lemmas.Bool.{cases_lt, eq-eqb, ne_eqb, both_ways}
use Rattle.std.proofs.lemmas.Grind.{elements}
use Rattle.std.proofs.lemmas.List.Elements.{contains_decides}
use Rattle.plan.specs.Sums.{size}
use Rattle.plan.proofs.Sums.{size_find, size_member}
use Rattle.graph.specs.Marks.{marked}
use Rattle.graph.specs.Split.{most_nodes}
use Rattle.graph.proofs.Marks.{marked_past}
use Rattle.graph.proofs.set.NumberSet.is_empty_below.Goals as goal

-- where one of the first m marks is made, or none is, there is a member below n, or there is none: past the marks nothing is in
empty_below : (n m : ℕ) (bs : List Bool) (r : Bool) → m ≡ min n most_nodes → length bs ≡ most_nodes
    → Decides r ((k : ℕ) × (k < length (take m bs)) × HoldsAt (λ y. y ≡ true) (take m bs) k)
    → not r ≡ (size n (marked bs) == 0)
empty_below n m bs true few long told =
    let h = told.0 refl in
    let lt : h.0 < m = omega (arith, h.1, length-take m bs) in
    let here : marked bs h.0 ≡ true = sym (get_or-take m bs h.0 false lt) ∙ h.2 false in
    sym (ne_eqb (size n (marked bs)) 0 (λ e. omega (arith, size_member n (marked bs) h.0 (omega arith) here)))
empty_below n m bs false few long told =
    elim (size_find n (marked bs)) [
      | inl e ↦ sym (eq-eqb (size n (marked bs)) 0 e)
      | inr w ↦
          elim (cases_lt w.0 most_nodes) [
            | inl lt ↦ absurd (both_ways false refl (told.1 (w.0, omega (arith, length-take m bs), λ d. grind (arith, elements, w.2))))
            | inr past ↦ absurd (both_ways (marked bs w.0) (marked_past bs w.0 (omega arith)) w.2)
          ]
    ]

pub returns : goal.returns
returns c =
    empty_below c.args.n c.min.result c.args.self.now.marks c.contains.result c.min.ensures (omega arith)
    (contains_decides _ booleans_Decides _ true c.contains.result c.contains.ensures.cases)
