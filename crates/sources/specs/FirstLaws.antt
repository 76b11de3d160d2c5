-- Laws of the first failing check. They stand here and not among the proofs since what a card owes as a source, that its plan is lawful,
-- may cite only what stands in specs (CardLawful).
use Rattle.std.specs.Prelude.{◌≡◌, ℕ, zero, suc, ◌<◌, ◌≤◌, Bool, true, false, cond, ◌⊎◌, List, [], ◌∷◌, ◌++◌, Some, None, Option, ◌≢◌, refl}
use Rattle.std.proofs.Common.{inl, inr, ⊎_elim, sym, ap, subst, ◌∙◌, arith}
use Rattle.std.proofs.lemmas.Bool.{cases_lt}
use Rattle.sources.specs.First.{Check, first_failing, each_below}

-- a fault is told or it is not
pub none_or_some : {A : Type 0} (o : Option A) → (o ≡ None) ⊎ ((a : A) × (o ≡ Some a))
none_or_some None = inl refl
none_or_some (Some a) = inr (a, refl)

pub none_not_some : {A : Type 0} {o : Option A} (a : A) → o ≡ None → o ≢ Some a
none_not_some a p q = let z : ◌≡◌ {A = ℕ} 0 1 = cc in omega arith

-- where no check of a list fails, the first holds and no later one fails
pub none_fails_parts : {F : Type 0} (c : Check F) (cs : List (Check F)) → first_failing (c ∷ cs) ≡ None → (c.holds ≡ true) × (first_failing cs ≡ None)
none_fails_parts c cs none = by_test c.holds none
  where
    by_test : (t : Bool) → cond t (first_failing cs) (Some c.fault) ≡ None → (t ≡ true) × (first_failing cs ≡ None)
    by_test true h = (refl, h)
    by_test false h = absurd (none_not_some c.fault h refl)

-- where no check of a list fails, each of them holds
abbrev pub EachHolds : {F : Type 0} → List (Check F) → Type 0
EachHolds [] = Unit {0}
EachHolds (c ∷ cs) = (c.holds ≡ true) × EachHolds cs

pub each_holds : {F : Type 0} (cs : List (Check F)) → first_failing cs ≡ None → EachHolds cs
each_holds [] none = tt
each_holds (c ∷ cs) none = let parts = none_fails_parts c cs none in (parts.0, each_holds cs parts.1)

-- checks that all hold before others change nothing
pub first_failing_append_holding : {F : Type 0} (cs ds : List (Check F)) → first_failing cs ≡ None → first_failing (cs ++ ds) ≡ first_failing ds
first_failing_append_holding [] ds none = refl
first_failing_append_holding (c ∷ cs) ds none =
    let parts = none_fails_parts c cs none in
    ap (λ t. cond t (first_failing (cs ++ ds)) (Some c.fault)) parts.0 ∙ first_failing_append_holding cs ds parts.1

-- a first failing check stays the first where others follow
pub first_failing_append_failing : {F : Type 0} (cs ds : List (Check F)) (e : F) → first_failing cs ≡ Some e → first_failing (cs ++ ds) ≡ Some e
first_failing_append_failing [] ds e some = absurd (none_not_some e refl some)
first_failing_append_failing (c ∷ cs) ds e some = by_test (first_failing_append_failing cs ds e) c.holds some
  where
    by_test : (first_failing cs ≡ Some e → first_failing (cs ++ ds) ≡ Some e) → (t : Bool) → cond t (first_failing cs) (Some c.fault) ≡ Some e → cond t (first_failing (cs ++ ds)) (Some c.fault) ≡ Some e
    by_test later true h = later h
    by_test later false h = h

-- where no check of two lists fails, none of either fails
pub none_fails_append : {F : Type 0} (cs ds : List (Check F)) → first_failing (cs ++ ds) ≡ None → (first_failing cs ≡ None) × (first_failing ds ≡ None)
none_fails_append cs ds none =
    ⊎_elim
    (λ (left : first_failing cs ≡ None). (left, sym (first_failing_append_holding cs ds left) ∙ none))
    (λ s. absurd (none_not_some s.0 none (first_failing_append_failing cs ds s.0 s.1)))
    (none_or_some (first_failing cs))

-- where no check fails below n, none fails at a number below n
pub none_fails_below : {F : Type 0} (n : ℕ) (f : ℕ → List (Check F)) → first_failing (each_below n f) ≡ None → (k : ℕ) → k < n → first_failing (f k) ≡ None
none_fails_below zero f none k h = absurd (omega arith)
none_fails_below (suc n) f none k h =
    let parts = none_fails_append (each_below n f) (f n) none in
    ⊎_elim
    (λ (below : k < n). none_fails_below n f parts.0 k below)
    (λ (above : n ≤ k). let same : n ≡ k = omega arith in subst (λ (j : ℕ). first_failing (f j) ≡ None) same parts.1)
    (cases_lt k n)
