-- Checks in a stated order, and the first of them that fails.
use Rattle.std.specs.Prelude.{◌≡◌, ℕ, zero, suc, ◌<◌, Bool, true, false, cond, List, [], ◌∷◌, ◌++◌, Some, None, Option, Result, MatchResult}
use Rattle.std.specs.List.{slice_get}

-- a test that has to come out true, and the fault that is told where it does not
pub record Check (F : Type 0) : Type 0 where
  pub holds : Bool
  pub fault : F

abbrev pub check : {F : Type 0} → Bool → F → Check F
check holds fault = record { holds = holds; fault = fault }

-- the fault of the first check that fails, if one does
abbrev pub first_failing : {F : Type 0} → List (Check F) → Option F
first_failing [] = None
first_failing (c ∷ cs) = cond c.holds (first_failing cs) (Some c.fault)

-- the checks of 0, then of 1, and so on up to n - 1
abbrev pub each_below : {F : Type 0} → ℕ → (ℕ → List (Check F)) → List (Check F)
each_below zero f = []
each_below (suc n) f = each_below n f ++ f n

-- What "the first" means: where no fault is told every check holds; a fault that is told is that of a check that fails, and every check
-- before it holds.
abbrev pub First : {F : Type 0} → List (Check F) → Option F → Type 0
First cs None = (k : ℕ) (c : Check _) → slice_get cs k ≡ Some c → c.holds ≡ true
First cs (Some e) =
    (k : ℕ) × (c : Check _) × (slice_get cs k ≡ Some c) × (c.holds ≡ false) × (c.fault ≡ e)
    × ((j : ℕ) (d : Check _) → j < k → slice_get cs j ≡ Some d → d.holds ≡ true)

-- a result that passes where no fault is told, and refuses with the fault where one is
abbrev pub Tells : {A F : Type 0} → Result A F → Option F → Type 0
Tells r told = MatchResult r (λ _. told ≡ None) (λ e. told ≡ Some e)

-- a result that passes where the test holds, and refuses with the fault where it does not
abbrev pub Passes : {A F : Type 0} → Result A F → Bool → F → Type 0
Passes r holds fault = MatchResult r (λ _. holds ≡ true) (λ e. (holds ≡ false) × (e ≡ fault))
