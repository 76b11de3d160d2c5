-- Membership in sets that are made of others, and how a set falls into parts.
use Rattle.std.proofs.Common.{◌≡◌, ℕ, suc, ◌+◌, ◌<◌, Bool, true, false, not, ◌&&◌, ◌||◌, eqb, ltb, ◌⊎◌, List, [], ◌∷◌, ◌++◌, length, get_or, sym, refl, ap, ◌∙◌, inl, inr, arith}
use Rattle.std.proofs.Math.Bool.{or-false}
use Rattle.std.proofs.Math.Path.{fun_ext}
use Rattle.std.proofs.lemmas.Bool.{cases_lt, cases_Bool, lt-ltb, le-ltb, both_ways, or_cases, and_parts, and_from, and_left, and_right, not-true, not_from_false, eqb-true}
use Rattle.plan.specs.Sums.{Set, on, size, among, minus, meet, with, Within}
use Rattle.plan.proofs.Sums.{Parts, size_parts, size_member}

pub minus_in : (X Y : Set) (x : ℕ) → minus X Y x ≡ true → (X x ≡ true) × (Y x ≡ false)
unfolding minus
minus_in X Y x e = let i = and_parts (X x) (not (Y x)) e in (i.0, not-true (Y x) i.1)

pub minus_from : (X Y : Set) (x : ℕ) → X x ≡ true → Y x ≡ false → minus X Y x ≡ true
unfolding minus
minus_from X Y x e f = and_from (X x) (not (Y x)) e (not_from_false (Y x) f)

pub meet_in : (X Y : Set) (x : ℕ) → meet X Y x ≡ true → (X x ≡ true) × (Y x ≡ true)
unfolding meet
meet_in X Y x e = and_parts (X x) (Y x) e

pub meet_from : (X Y : Set) (x : ℕ) → X x ≡ true → Y x ≡ true → meet X Y x ≡ true
unfolding meet
meet_from X Y x e f = and_from (X x) (Y x) e f

pub meet-not : (X Y : Set) (x : ℕ) → (X x ≡ false) ⊎ (Y x ≡ false) → meet X Y x ≡ false
unfolding meet
meet-not X Y x (inl e) = and_left (X x) (Y x) e
meet-not X Y x (inr e) = and_right (X x) (Y x) e

parts_of : (x y : Bool) → (y ≡ true → x ≡ true) → on x 1 ≡ on y 1 + on (x && not y) 1
parts_of true true h = refl
parts_of true false h = refl
parts_of false true h = let e : false ≡ true = h refl in cc
parts_of false false h = refl

-- a set is a part of it and the rest
pub parts_within : (n : ℕ) (X Y : Set) → Within n Y X → Parts n X Y (minus X Y)
unfolding minus
parts_within n X Y s x lt = parts_of (X x) (Y x) (s x lt)

-- a part as large as the whole is the whole
pub size_same : (n : ℕ) (D C : Set) → Within n D C → size n D ≡ size n C → Within n C D
size_same n D C s e x l c =
    elim (cases_Bool (D x)) [
      | inl p ↦ p
      | inr q ↦ absurd (omega (arith, size_parts n C D (minus C D) (parts_within n C D s), size_member n (minus C D) x l (minus_from C D x c q)))
    ]

-- a part that lacks a member is smaller
pub size_less : (n : ℕ) (D C : Set) (x : ℕ) → Within n D C → x < n → C x ≡ true → D x ≡ false → size n D < size n C
size_less n D C x s l c d =
    omega (arith, size_parts n C D (minus C D) (parts_within n C D s), size_member n (minus C D) x l (minus_from C D x c d))

-- two tests that imply each other are one
pub same_test : (a b : Bool) → (a ≡ true → b ≡ true) → (b ≡ true → a ≡ true) → a ≡ b
same_test true true p q = refl
same_test true false p q = sym (p refl)
same_test false true p q = q refl
same_test false false p q = refl

-- only the next number comes in as the limit rises by one
pub ltb_next : (x i : ℕ) → (x ≡ i → ⊥) → ltb x (i + 1) ≡ ltb x i
ltb_next x i ne =
    elim (cases_lt x i) [
      | inl l ↦ lt-ltb x (i + 1) (omega arith) ∙ sym (lt-ltb x i l)
      | inr g ↦ le-ltb x (i + 1) (omega (arith, ne)) ∙ sym (le-ltb x i g)
    ]

pub among_append : (xs ys : List ℕ) (x : ℕ) → among (xs ++ ys) x ≡ (among xs x || among ys x)
among_append [] ys x = refl
among_append (z ∷ zs) ys x = ap (λ b. eqb x z || b) (among_append zs ys x) ∙ grind arith

-- each member of a list stands at some place of it
pub among_place : (xs : List ℕ) (x : ℕ) → among xs x ≡ true → (k : ℕ) × (k < length xs) × (get_or xs k 0 ≡ x)
among_place [] x e = absurd (both_ways false refl e)
among_place (z ∷ zs) x e =
    elim (or_cases (eqb x z) (among zs x) e) [
      | inl here ↦ (0, omega arith, sym (eqb-true x z here))
      | inr later ↦ let w = among_place zs x later in (suc w.0, omega (arith, w.1), w.2)
    ]

-- a list with one more at its end has one member more
pub among_push : (xs : List ℕ) (x : ℕ) → among (xs ++ (x ∷ [])) ≡ with (among xs) x
unfolding with
among_push xs x = fun_ext (λ y. among_append xs (x ∷ []) y ∙ ap (λ b. among xs y || b) (or-false (eqb y x)))
