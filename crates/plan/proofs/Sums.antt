-- The algebra of sums over the members of a set, and one term more of products and lists of them.
use Rattle.std.proofs.Common.{◌≡◌, ℕ, zero, suc, ◌+◌, ◌*◌, ◌<◌, ◌≤◌, Bool, true, false, cond, ◌⊎◌, [], ◌∷◌, ◌++◌, sym, refl, ap, inl, inr, add-one, arith}
use Rattle.std.proofs.lemmas.Bool.{cases_lt, eqb-true, ne_eqb, eq-eqb}
use Rattle.plan.specs.Sums.{Set, on, over, size, factor, times, rising, single}

-- X has just the members of A and those of B, which have none in common
abbrev pub Parts : ℕ → Set → Set → Set → Type 0
Parts n X A B = (x : ℕ) → x < n → on (X x) 1 ≡ on (A x) 1 + on (B x) 1

on_add : (b : Bool) (k l : ℕ) → on b (k + l) ≡ on b k + on b l
on_add true k l = refl
on_add false k l = refl

on_parts : (x a b : Bool) (k : ℕ) → on x 1 ≡ on a 1 + on b 1 → on x k ≡ on a k + on b k
on_parts true true true k h = omega arith
on_parts true true false k h = omega arith
on_parts true false true k h = omega arith
on_parts true false false k h = omega arith
on_parts false true true k h = omega arith
on_parts false true false k h = omega arith
on_parts false false true k h = omega arith
on_parts false false false k h = omega arith

on_mono : (a b : Bool) (k l : ℕ) → (a ≡ true → b ≡ true) → (a ≡ true → k ≤ l) → on a k ≤ on b l
on_mono true true k l s h = h refl
on_mono true false k l s h = let e : false ≡ true = s refl in let z : ◌≡◌ {A = ℕ} 0 1 = cc in omega arith
on_mono false true k l s h = omega arith
on_mono false false k l s h = omega arith

pub on_one : (b : Bool) → on b 1 ≤ 1
on_one true = omega arith
on_one false = omega arith

pub on-zero : (b : Bool) → on b 0 ≡ 0
on-zero true = refl
on-zero false = refl

-- one term more, as a loop that counts up by one meets it
pub over_more : (n : ℕ) (X : Set) (f : ℕ → ℕ) → over (n + 1) X f ≡ over n X f + on (X n) (f n)
unfolding over
over_more n X f = rw add-one refl

pub over_none_yet : (X : Set) (f : ℕ → ℕ) → over 0 X f ≡ 0
unfolding over
over_none_yet X f = refl

pub over_add : (n : ℕ) (X : Set) (f g : ℕ → ℕ) → over n X (λ x. f x + g x) ≡ over n X f + over n X g
unfolding over
over_add zero X f g = omega arith
over_add (suc n) X f g = omega (arith, over_add n X f g, on_add (X n) (f n) (g n))

pub over_parts : (n : ℕ) (X A B : Set) (f : ℕ → ℕ) → Parts n X A B → over n X f ≡ over n A f + over n B f
unfolding over
over_parts zero X A B f h = omega arith
over_parts (suc n) X A B f h =
    omega (arith, over_parts n X A B f (λ x lt. h x (omega arith)), on_parts (X n) (A n) (B n) (f n) (h n (omega arith)))

-- more members and larger terms give no smaller sum
pub over_mono : (n : ℕ) (X Y : Set) (f g : ℕ → ℕ)
    → ((x : ℕ) → x < n → X x ≡ true → Y x ≡ true)
    → ((x : ℕ) → x < n → X x ≡ true → f x ≤ g x)
    → over n X f ≤ over n Y g
unfolding over
over_mono zero X Y f g s h = omega arith
over_mono (suc n) X Y f g s h =
    omega (
      arith,
      over_mono n X Y f g (λ x lt. s x (omega arith)) (λ x lt. h x (omega arith)),
      on_mono (X n) (Y n) (f n) (g n) (s n (omega arith)) (h n (omega arith)),
    )

pub over_eq : (n : ℕ) (X : Set) (f g : ℕ → ℕ) → ((x : ℕ) → x < n → X x ≡ true → f x ≡ g x) → over n X f ≡ over n X g
over_eq n X f g h =
    omega (
      arith,
      over_mono n X X f g (λ x lt e. e) (λ x lt e. omega (arith, h x lt e)),
      over_mono n X X g f (λ x lt e. e) (λ x lt e. omega (arith, h x lt e)),
    )

pub over_zero : (n : ℕ) (X : Set) → over n X (λ _. 0) ≡ 0
unfolding over
over_zero zero X = refl
over_zero (suc n) X = go (X n) (over_zero n X)
  where
    go : (b : Bool) → over n X (λ _. 0) ≡ 0 → over n X (λ _. 0) + on b 0 ≡ 0
    go true h = omega arith
    go false h = omega arith

pub over_none : (n : ℕ) (X : Set) (f : ℕ → ℕ) → ((x : ℕ) → x < n → X x ≡ true → ⊥) → over n X f ≡ 0
over_none n X f h =
    omega (arith, over_zero n X, over_mono n X X f (λ _. 0) (λ x lt e. e) (λ x lt e. absurd (h x lt e)))

pub over_member : (n : ℕ) (X : Set) (f : ℕ → ℕ) (x : ℕ) → x < n → X x ≡ true → f x ≤ over n X f
unfolding over
over_member zero X f x lt e = omega arith
over_member (suc n) X f x lt e = elim (cases_lt x n) [ inl l ↦ omega (arith, over_member n X f x l e) | inr g ↦ here (omega arith) ]
  where
    here : x ≡ n → f x ≤ over n X f + on (X n) (f n)
    here q = rw (← q, e) (omega arith)

-- a sum that is not 0 has a member with a term above 0
pub over_find : (n : ℕ) (X : Set) (f : ℕ → ℕ) → (over n X f ≡ 0) ⊎ ((x : ℕ) × (x < n) × (X x ≡ true) × (1 ≤ f x))
unfolding over
over_find zero X f = inl refl
over_find (suc n) X f = elim (over_find n X f) [ inl e ↦ here (X n) refl (f n) refl e | inr w ↦ inr (w.0, omega arith, w.2, w.3) ]
  where
    here : (b : Bool) → X n ≡ b → (k : ℕ) → f n ≡ k → over n X f ≡ 0
        → (over n X f + on b k ≡ 0) ⊎ ((x : ℕ) × (x < suc n) × (X x ≡ true) × (1 ≤ f x))
    here false p k q e = inl (omega arith)
    here true p zero q e = inl (omega arith)
    here true p (suc k) q e = inr (n, omega arith, p, omega arith)

pub over-single : (n v : ℕ) (f : ℕ → ℕ) → v < n → over n (single v) f ≡ f v
unfolding over
over-single zero v f lt = omega arith
over-single (suc n) v f lt = elim (cases_lt v n) [ inl l ↦ below l (over-single n v f l) | inr g ↦ here (omega arith) ]
  where
    below : v < n → over n (single v) f ≡ f v → over n (single v) f + on (single v n) (f n) ≡ f v
    below l ih = rw (ne_eqb n v (λ e. omega arith)) (omega arith)

    here : v ≡ n → over n (single v) f + on (single v n) (f n) ≡ f v
    here q =
        rw (eq-eqb n v (sym q))
        (omega (arith, ap f q, over_none n (single v) f (λ x l e. omega (arith, eqb-true x v e))))

pub size_more : (n : ℕ) (X : Set) → size (n + 1) X ≡ size n X + on (X n) 1
unfolding size
size_more n X = over_more n X (λ _. 1)

pub size_none_yet : (X : Set) → size 0 X ≡ 0
unfolding size
size_none_yet X = over_none_yet X (λ _. 1)

pub size_parts : (n : ℕ) (X A B : Set) → Parts n X A B → size n X ≡ size n A + size n B
unfolding size
size_parts n X A B h = over_parts n X A B (λ _. 1) h

pub size_member : (n : ℕ) (X : Set) (x : ℕ) → x < n → X x ≡ true → 1 ≤ size n X
unfolding size
size_member n X x lt e = over_member n X (λ _. 1) x lt e

pub size_mono : (n : ℕ) (X Y : Set) → ((x : ℕ) → x < n → X x ≡ true → Y x ≡ true) → size n X ≤ size n Y
unfolding size
size_mono n X Y s = over_mono n X Y (λ _. 1) (λ _. 1) s (λ x l e. omega arith)

pub size-le : (n : ℕ) (X : Set) → size n X ≤ n
unfolding size over
size-le zero X = omega arith
size-le (suc n) X = omega (arith, size-le n X, on_one (X n))

-- a set whose members are below k has at most k
pub size_below : (n k : ℕ) (X : Set) → ((x : ℕ) → X x ≡ true → x < k) → size n X ≤ k
unfolding size over
size_below zero k X h = omega arith
size_below (suc n) k X h = here (X n) refl (size_below n k X h)
  where
    here : (b : Bool) → X n ≡ b → size n X ≤ k → size n X + on b 1 ≤ k
    here true e l = omega (arith, size-le n X, h n e)
    here false e l = omega arith

-- a set that is not empty has a member
pub size_find : (n : ℕ) (X : Set) → (size n X ≡ 0) ⊎ ((x : ℕ) × (x < n) × (X x ≡ true))
unfolding size
size_find n X = elim (over_find n X (λ _. 1)) [ inl e ↦ inl e | inr w ↦ inr (w.0, w.1, w.2) ]

pub size-single : (n v : ℕ) → v < n → size n (single v) ≡ 1
unfolding size
size-single n v lt = over-single n v (λ _. 1) lt

pub times_more : (n : ℕ) (X : Set) (f : ℕ → ℕ) → times (n + 1) X f ≡ times n X f * factor (X n) (f n)
unfolding times
times_more n X f = rw add-one refl

pub rising_more : (n : ℕ) (X : Set) → rising (n + 1) X ≡ rising n X ++ cond (X n) (n ∷ []) []
unfolding rising
rising_more n X = rw add-one refl
