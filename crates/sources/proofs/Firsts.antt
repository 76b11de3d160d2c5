-- Checks that are made in a loop, and that the first failing check is the first.
use Rattle.std.proofs.Common.{◌≡◌, ℕ, zero, suc, ◌+◌, ◌<◌, ◌≤◌, Bool, true, false, cond, List, [], ◌∷◌, Some, None, sym, refl, ap, ◌∙◌, subst, ⊎_elim, add-one, arith}
use Rattle.std.specs.List.{slice_get}
use Rattle.std.proofs.lemmas.Bool.{cases_lt}
use Rattle.sources.specs.First.{Check, First, first_failing, each_below}
use Rattle.sources.specs.FirstLaws.{none_fails_parts, none_not_some, first_failing_append_holding, first_failing_append_failing}

-- one number more whose checks hold
pub none_fails_more : {F : Type 0} (f : ℕ → List (Check F)) (i : ℕ) → first_failing (each_below i f) ≡ None → first_failing (f i) ≡ None → first_failing (each_below (i + 1) f) ≡ None
none_fails_more f i none here = rw add-one (first_failing_append_holding (each_below i f) (f i) none ∙ here)

-- the first number at which a check fails has the first failing check below any bound past it
pub first_failing_below : {F : Type 0} (f : ℕ → List (Check F)) (n i : ℕ) (e : F) → i < n → first_failing (each_below i f) ≡ None → first_failing (f i) ≡ Some e → first_failing (each_below n f) ≡ Some e
first_failing_below f zero i e h none here = absurd (omega arith)
first_failing_below f (suc n) i e h none here =
    ⊎_elim
    (λ (below : i < n). first_failing_append_failing (each_below n f) (f n) e (first_failing_below f n i e below none here))
    (λ (above : n ≤ i).
    let same : i ≡ n = omega arith in
    let none' : first_failing (each_below n f) ≡ None = subst (λ (k : ℕ). first_failing (each_below k f) ≡ None) same none in
    let here' : first_failing (f n) ≡ Some e = subst (λ (k : ℕ). first_failing (f k) ≡ Some e) same here in
    first_failing_append_holding (each_below n f) (f n) none' ∙ here')
    (cases_lt i n)

-- where none fails, each check holds
pub none_fails_first : {F : Type 0} (cs : List (Check F)) → first_failing cs ≡ None → First cs None
none_fails_first [] none k c at = absurd (none_not_some c refl at)
none_fails_first (d ∷ cs) none zero c at =
    let same : d ≡ c = cc in
    ap (λ (x : Check _). x.holds) (sym same) ∙ (none_fails_parts d cs none).0
none_fails_first (d ∷ cs) none (suc k) c at = none_fails_first cs (none_fails_parts d cs none).1 k c at

-- the checks before those of a list hold where the one in front of it and those before in the list do
holds_before : {F : Type 0} (d : Check F) (cs : List (Check F)) (k : ℕ) → d.holds ≡ true → ((j : ℕ) (c : Check F) → j < k → slice_get cs j ≡ Some c → c.holds ≡ true) → (j : ℕ) (c : Check F) → j < suc k → slice_get (d ∷ cs) j ≡ Some c → c.holds ≡ true
holds_before d cs k front before zero c h at =
    let same : d ≡ c = cc in
    ap (λ (x : Check _). x.holds) (sym same) ∙ front
holds_before d cs k front before (suc j) c h at = before j c (omega arith) at

-- the first failing check is the first that fails
pub some_fails_first : {F : Type 0} (cs : List (Check F)) (e : F) → first_failing cs ≡ Some e → First cs (Some e)
some_fails_first [] e some = absurd (none_not_some e refl some)
some_fails_first (d ∷ cs) e some = by_test (some_fails_first cs e) d.holds refl some
  where
    by_test : (first_failing cs ≡ Some e → First cs (Some e)) → (t : Bool) → d.holds ≡ t → cond t (first_failing cs) (Some d.fault) ≡ Some e → First (d ∷ cs) (Some e)
    by_test later true front h =
        let r = later h in
        (suc r.0, r.1, r.2, r.3, r.4, holds_before d cs r.0 front r.5)
    by_test later false front h =
        let same : d.fault ≡ e = cc in
        (0, d, refl, front, same, λ j c below at. absurd (omega arith))
