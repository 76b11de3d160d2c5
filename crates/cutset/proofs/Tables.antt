-- A table that is filled in rising order: the places below i have the values of f, the others still those of g.
use Rattle.std.proofs.Common.{◌≡◌, ℕ, ◌+◌, ◌<◌, ◌≤◌, cond, ltb, List, length, set, replicate, arith, get_or-set_other, get_or-set_same}
use Rattle.std.proofs.Math.Path.{fun_ext}
use Rattle.std.proofs.lemmas.Bool.Decides.{nat_tests}
use Rattle.plan.proofs.Rows.{same_row}
use Rattle.cutset.specs.Tables.{holds}

module _ (xs : List ℕ) (f g : ℕ → ℕ) (i : ℕ) (so_far : (v : ℕ) → holds xs v ≡ cond (ltb v i) (f v) (g v)) where
  pub tabled_here : holds xs i ≡ g i
  tabled_here = grind (arith, nat_tests, so_far i)

  -- the next value is written
  pub tabled_write : (y : ℕ) → i < length xs → y ≡ f i → (v : ℕ) → holds (set xs i y) v ≡ cond (ltb v (i + 1)) (f v) (g v)
  tabled_write y lt e v = grind (arith, nat_tests, so_far v, get_or-set_same xs i y 0, get_or-set_other xs i v y 0)

  -- the next value is there already
  pub tabled_keep : f i ≡ g i → (v : ℕ) → holds xs v ≡ cond (ltb v (i + 1)) (f v) (g v)
  tabled_keep e v = grind (arith, nat_tests, so_far v)

  -- all values are written: past them the two are the same
  pub tabled_all : ((v : ℕ) → i ≤ v → f v ≡ g v) → holds xs ≡ f
  tabled_all past = fun_ext (λ v. grind (arith, nat_tests, so_far v, past v))

-- nothing is written yet
pub tabled_none : (n : ℕ) (f : ℕ → ℕ) (v : ℕ) → holds (replicate n 0) v ≡ cond (ltb v 0) (f v) 0
tabled_none n f v = grind (arith, nat_tests, same_row {X = ℕ} n 0 v)
