-- Rows of one value, as an array is made.
use Rattle.std.proofs.Common.{◌≡◌, ℕ, get_or, replicate, inl, inr}
use Rattle.std.proofs.lemmas.List.{get_or-replicate, length-replicate}
use Rattle.std.proofs.lemmas.List.{get_or_past}
use Rattle.std.proofs.lemmas.Bool.{cases_lt}

-- such a row is read as that value everywhere, past its end too where that is the default
pub same_row : {X : Type 0} (n : ℕ) (x : X) (i : ℕ) → get_or (replicate n x) i x ≡ x
same_row n x i =
    elim (cases_lt i n) [
      | inl l ↦ get_or-replicate n i x x l
      | inr g ↦ get_or_past (replicate n x) i x (simp length-replicate g)
    ]
