-- Text written into a row of bytes.
use Rattle.std.specs.Prelude.{◌≡◌, ℕ, ◌+◌, List, ◌++◌, length, take, drop}

-- a row that held `was` holds a text from `at` up to `end`, and is as it was before and after that
pub record Wrote (was now : List ℕ) (at end : ℕ) (text : List ℕ) : Type 0 where
  pub extent : end ≡ at + length text
  pub up_to : take end now ≡ take at was ++ text
  pub beyond : drop end now ≡ drop end was
