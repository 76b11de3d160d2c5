-- The search for the smallest share.
use Rattle.std.proofs.Common.{◌≡◌, ℕ, zero, suc, ◌+◌, ◌/◌, ◌<◌, ◌≤◌, true, false, ◌&&◌, ltb, Some, None, Option, refl, ap, inl, inr, div-le_self, add-one, arith}
use Rattle.std.proofs.lemmas.Bool.{cases_lt, and_parts, cond_both, lt-ltb, le-ltb, le-leb, lt-leb}
use Rattle.plan.specs.Sums.{Set, meet}
use Rattle.graph.specs.Graphs.{Adj, deg}
use Rattle.cutset.specs.Stages.{share, better, smallest, next_pick}
use Rattle.cutset.specs.Tables.{with_share, smaller_of}

-- the share, by a degree that was counted
pub share_is : (n : ℕ) (adj : Adj) (C : Set) (h : ℕ → ℕ) (v d : ℕ) → d ≡ deg n adj C v → h v / d ≡ share n adj C h v
unfolding share
share_is n adj C h v d e = ap (λ x. h v / x) e

pub smallest_more : (n : ℕ) (X : Set) (f : ℕ → ℕ) → smallest (n + 1) X f ≡ better X f n (smallest n X f)
unfolding smallest
smallest_more n X f = rw add-one refl

pub smallest_none_yet : (X : Set) (f : ℕ → ℕ) → smallest 0 X f ≡ None
unfolding smallest
smallest_none_yet X f = refl

-- a number that is no member changes nothing
pub better_no : (X : Set) (f : ℕ → ℕ) (u : ℕ) (o : Option ℕ) → X u ≡ false → better X f u o ≡ o
unfolding better
better_no X f u None e = rw e
better_no X f u (Some v) e = rw e

-- a member is compared with what was found so far
pub better_yes : (n : ℕ) (adj : Adj) (C X : Set) (h : ℕ → ℕ) (u : ℕ) (o : Option ℕ) → X u ≡ true
    → with_share n adj C h (better X (share n adj C h) u o) ≡ smaller_of (with_share n adj C h o) u (share n adj C h u)
unfolding better
better_yes n adj C X h u None e = rw e
better_yes n adj C X h u (Some v) e =
    elim (cases_lt (share n adj C h u) (share n adj C h v)) [
      | inl less ↦ rw (e, lt-ltb _ _ less, lt-leb _ _ less)
      | inr more ↦ rw (e, le-ltb _ _ more, le-leb _ _ more)
    ]

-- what is found is a member
abbrev pub Found : ℕ → Set → Option ℕ → Type 0
Found n X None = Unit {0}
Found n X (Some v) = (v < n) × (X v ≡ true)

better_found : (n : ℕ) (X : Set) (f : ℕ → ℕ) (o : Option ℕ) → Found n X o → Found (suc n) X (better X f n o)
unfolding better
better_found n X f None w = cond_both (X n) (Some n) None (Found (suc n) X) (λ e. (omega arith, e)) (λ e. tt)
better_found n X f (Some v) w =
    cond_both (X n && ltb (f n) (f v)) (Some n) (Some v) (Found (suc n) X)
    (λ e. (omega arith, (and_parts (X n) (ltb (f n) (f v)) e).0)) (λ e. (omega arith, w.1))

pub smallest_found : (n : ℕ) (X : Set) (f : ℕ → ℕ) → Found n X (smallest n X f)
unfolding smallest
smallest_found zero X f = tt
smallest_found (suc n) X f = better_found n X f (smallest n X f) (smallest_found n X f)

-- the pick is present and may be picked
pub next_pick_found : (n : ℕ) (adj : Adj) (free C : Set) (h : ℕ → ℕ) (v : ℕ) → next_pick n adj free C h ≡ Some v
    → (v < n) × (meet C free v ≡ true)
unfolding next_pick
next_pick_found n adj free C h v e = rw e at (smallest_found n (meet C free) (share n adj C h))

-- what the search answers, taken apart
pub with_share_some : (n : ℕ) (adj : Adj) (C : Set) (h : ℕ → ℕ) (o : Option ℕ) (m s : ℕ) → Some (m, s) ≡ with_share n adj C h o
    → (o ≡ Some m) × (s ≡ share n adj C h m)
with_share_some n adj C h None m s e = cc
with_share_some n adj C h (Some v) m s e =
    let same : ◌≡◌ {A = ℕ × ℕ} (m, s) (v, share n adj C h v) = cc in
    let first : m ≡ v = ap (λ (w : ℕ × ℕ). w.0) same in
    let second : s ≡ share n adj C h v = ap (λ (w : ℕ × ℕ). w.1) same in (cc, cc)

pub with_share_none : (n : ℕ) (adj : Adj) (C : Set) (h : ℕ → ℕ) (o : Option ℕ) → None ≡ with_share n adj C h o → o ≡ None
with_share_none n adj C h None e = refl
with_share_none n adj C h (Some v) e = cc

pub share-le : (n : ℕ) (adj : Adj) (C : Set) (h : ℕ → ℕ) (v : ℕ) → share n adj C h v ≤ h v
unfolding share
share-le n adj C h v = div-le_self (h v) (deg n adj C v)
