-- The list that `array::from_fn` makes with a function that stays as it is.
use Rattle.std.proofs.Common.{◌≡◌, ℕ, zero, suc, ◌+◌, ◌<◌, ◌≤◌, List, slice_index_or, subst, sym, refl, inl, inr, arith}
use Rattle.std.proofs.lemmas.Bool.{cases_eq}
use Rattle.std.specs.Fn.{Called, Mut}
use Rattle.std.specs.Array.{index_steps, IsFromFnResult, IsFromFnResultFrom}
use Rattle.std.specs.Iterator.{CallableAtEachTurn}
use Rattle.std.proofs.lemmas.Fn.{chained_keeps}

-- called at a number below n, f gives what R lets it give there, and stays f
abbrev pub GivesSome : {F B : Type 0} → Mut F (ℕ × Unit {0}) B → F → ℕ → (ℕ → B → Type 0) → Type 0
GivesSome {F} {B} g f n R = (i : ℕ) (y : B) (q : F) → i < n → Called g f (i, tt) y q → (q ≡ f) × R i y

-- called at a number below n, f gives h of it, and stays f
abbrev pub Gives : {F B : Type 0} → Mut F (ℕ × Unit {0}) B → F → ℕ → (ℕ → B) → Type 0
Gives {F} {B} g f n h = (i : ℕ) (y : B) (q : F) → i < n → Called g f (i, tt) y q → (q ≡ f) × (y ≡ h i)

module _ {F B : Type 0} (g : Mut F (ℕ × Unit {0}) B) (f : F) (ys : List B) (n : ℕ) (R : ℕ → B → Type 0) (gives : GivesSome g f n R) where
  -- the last m of the n calls, from number i on
  pub made_from : (i m : ℕ) (p : F) → p ≡ f → i + m ≤ n → IsFromFnResultFrom g p ys i m
      → (k : ℕ) (d : B) → i ≤ k → k < i + m → R k (slice_index_or ys k d)
  made_from i zero p same fits made k d low high = absurd (omega arith)
  made_from i (suc m) p same fits made k d low high =
      let told = gives i made.1 made.0 (omega arith) (subst (λ x. Called g x (i, tt) made.1 made.0) same made.3) in
      elim (cases_eq k i) [
        | inl here ↦ subst (λ x. R x (slice_index_or ys x d)) (sym here) (subst (R i) (sym (made.2.1 d)) told.1)
        | inr later ↦ made_from (i + 1) m made.0 told.0 (omega arith) made.4 k d (omega arith) (omega arith)
      ]

-- each of them
pub made_each : {F B : Type 0} {g : Mut F (ℕ × Unit {0}) B} {f : F} {ys : List B} {n : ℕ} (R : ℕ → B → Type 0) → IsFromFnResult g f ys n
    → GivesSome g f n R → (k : ℕ) (d : B) → k < n → R k (slice_index_or ys k d)
made_each {g = g} {f = f} {ys = ys} {n = n} R made gives k d lt =
    made_from g f ys n R gives 0 n f refl (omega arith) made.each k d (omega arith) (omega arith)

-- all of them
pub made_of : {F B : Type 0} {g : Mut F (ℕ × Unit {0}) B} {f : F} {ys : List B} {n : ℕ} (h : ℕ → B) → IsFromFnResult g f ys n → Gives g f n h
    → (k : ℕ) (d : B) → k < n → slice_index_or ys k d ≡ h k
made_of h made gives k d lt = made_each (λ i y. y ≡ h i) made gives k d lt

-- it may be called at each number below n in turn, where it may be called at each as it stands, and stays as it is
pub callable_below : {P : Type 0} {R : P → ℕ → P → Type 0} {Q : P → ℕ → Type 0} {n : ℕ} {p : P} → ((x : ℕ) (q : P) → R p x q → q ≡ p)
    → ((x : ℕ) → x < n → Q p x) → CallableAtEachTurn (index_steps n) R Q 0 p
callable_below {R = R} {Q = Q} {p = p} stays may = record {
  at = λ xs t q x u y c e.
      subst (λ k. Q k x) (sym (chained_keeps R (λ _ k. k ≡ p) (λ _ k z v same r. stays z v (subst (λ j. R j z v) same r)) xs p q refl c))
      (may x (omega (arith, e.0, e.1)));
}
