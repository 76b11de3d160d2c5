-- Pruning leaves the core, and there is one core only.
use Rattle.std.proofs.Common.{◌≡◌, ℕ, zero, suc, ◌+◌, ◌<◌, ◌≤◌, Bool, true, false, eqb, sym, refl, ap, ◌∙◌, inl, inr, arith, below_more}
use Rattle.std.proofs.Math.Path.{fun_ext}
use Rattle.std.proofs.lemmas.Bool.{cases_lt, eqb-true, eqb-false, cond_both, both_ways, ne_eqb}
use Rattle.std.proofs.lemmas.Bool.Decides.{nat_tests}
use Rattle.plan.specs.Sums.{Set, size, minus, single, without, Within}
use Rattle.plan.proofs.Sums.{size_member, size_mono, size-le}
use Rattle.plan.proofs.Sets.{size_same, size_less, same_test, minus_from}
use Rattle.graph.specs.Graphs.{Adj, deg, TwoEdged, Core}
use Rattle.graph.specs.Pruning.{sweep, rounds, prune, Shrinks, Swept, Pruned}
use Rattle.graph.proofs.Degrees.{deg_mono}

module _ (n : ℕ) (adj : Adj) where
  sweep_in : (C : Set) → Within n (sweep n adj C) C
  unfolding sweep
  sweep_in C x l e = grind (arith, nat_tests)

  sweep_two : (C : Set) (x : ℕ) → x < n → sweep n adj C x ≡ true → 2 ≤ deg n adj C x
  unfolding sweep
  sweep_two C x l e = grind (arith, nat_tests)

  sweep_from : (C X : Set) → Within n X C → TwoEdged n adj X → Within n X (sweep n adj C)
  unfolding sweep
  sweep_from C X s two x l e = grind (arith, nat_tests, s x l e, two x l e, deg_mono n adj X C x s)

  sweep_beyond : (C : Set) (x : ℕ) → n ≤ x → sweep n adj C x ≡ C x
  unfolding sweep
  sweep_beyond C x g = grind (arith, nat_tests)

  rounds_core : (k : ℕ) (C : Set) → size n C ≤ k → Core n adj C (rounds k n adj C)
  unfolding rounds
  rounds_core zero C few =
      record { inside = λ x l e. e; two_edged = λ x l e. omega (arith, size_member n C x l e); largest = λ X s two. s }
  rounds_core (suc k) C few =
      let D : Set = sweep n adj C in
      let small : size n D ≤ size n C = size_mono n D C (sweep_in C) in
      cond_both (eqb (size n D) (size n C)) C (rounds k n adj D) (Core n adj C)
      (λ e. record {
        inside = λ x l c. c;
        two_edged = λ x l c. sweep_two C x l (size_same n D C (sweep_in C) (eqb-true (size n D) (size n C) e) x l c);
        largest = λ X s two. s;
      })
      (λ e.
      let no : size n D ≡ size n C → ⊥ = eqb-false (size n D) (size n C) e in
      let r : Core n adj D (rounds k n adj D) = rounds_core k D (omega arith) in
      record {
        inside = λ x l c. sweep_in C x l (r.inside x l c);
        two_edged = r.two_edged;
        largest = λ X s two. r.largest X (sweep_from C X s two) two;
      })

  rounds_beyond : (k : ℕ) (C : Set) (x : ℕ) → n ≤ x → rounds k n adj C x ≡ C x
  unfolding rounds
  rounds_beyond zero C x g = refl
  rounds_beyond (suc k) C x g =
      cond_both (eqb (size n (sweep n adj C)) (size n C)) C (rounds k n adj (sweep n adj C)) (λ D. D x ≡ C x)
      (λ t. refl) (λ t. rounds_beyond k (sweep n adj C) x g ∙ sweep_beyond C x g)

  -- what pruning leaves is the core
  pub prune_core : (U : Set) → Core n adj U (prune n adj U)
  unfolding prune
  prune_core U = rounds_core n U (size-le n U)

  pub prune_beyond : (U : Set) (x : ℕ) → n ≤ x → prune n adj U x ≡ U x
  unfolding prune
  prune_beyond U x g = rounds_beyond n U x g

  -- there is one core only, so whatever has its law is what pruning leaves
  pub core_unique : (U C : Set) → ((x : ℕ) → n ≤ x → C x ≡ U x) → Core n adj U C → C ≡ prune n adj U
  core_unique U C beyond c =
      let d = prune_core U in
      fun_ext (λ x. elim (cases_lt x n) [
        | inl l ↦
            same_test (C x) (prune n adj U x) (λ e. d.largest C c.inside c.two_edged x l e)
            (λ e. c.largest (prune n adj U) d.inside d.two_edged x l e)
        | inr g ↦ beyond x g ∙ sym (prune_beyond U x g)
      ])

  -- before any removal
  pub shrinks_none : (U : Set) → Shrinks n adj U U
  shrinks_none U = record { inside = λ x l e. e; keeps = λ X s two. s; beyond = λ x g. refl }

  pub shrinks_then : (U C D : Set) → Shrinks n adj U C → Shrinks n adj C D → Shrinks n adj U D
  shrinks_then U C D p q = record {
    inside = λ x l e. p.inside x l (q.inside x l e);
    keeps = λ X s two. q.keeps X (p.keeps X s two) two;
    beyond = λ x g. q.beyond x g ∙ p.beyond x g;
  }

  -- a node with at most one edge may go
  pub shrinks_one : (C : Set) (v : ℕ) → v < n → deg n adj C v ≤ 1 → Shrinks n adj C (without C v)
  unfolding minus
  shrinks_one C v lt low = record {
    inside = λ x l e. grind (arith, nat_tests);
    keeps = λ X s two x l e. minus_from C (single v) x (s x l e) (ne_eqb x v (low_not X s two x l e));
    beyond = λ x g. grind (arith, nat_tests);
  }
    where
      low_not : (X : Set) → Within n X C → TwoEdged n adj X → (x : ℕ) → x < n → X x ≡ true → x ≡ v → ⊥
      low_not X s two x l e q = omega (arith, two x l e, deg_mono n adj X C x s, ap (deg n adj C) q)

  -- nothing more can go: this is the core
  pub shrinks_core : (U C : Set) → Shrinks n adj U C → TwoEdged n adj C → Pruned n adj U C
  shrinks_core U C p two =
      let c : Core n adj U C = record { inside = p.inside; two_edged = two; largest = p.keeps } in
      record { core = c; value = core_unique U C p.beyond c }

-- a pass that has come to node i: some node went and fewer are left, or none did and those before i have two edges each
pub record Sweeping (n : ℕ) (adj : Adj) (U C : Set) (i : ℕ) (went : Bool) : Type 0 where
  pub shrinks : Shrinks n adj U C
  pub fewer : went ≡ true → size n C < size n U
  pub same : went ≡ false → (v : ℕ) → v < i → C v ≡ true → 2 ≤ deg n adj C v

module _ (n : ℕ) (adj : Adj) (U : Set) where
  pub sweeping_none : Sweeping n adj U U 0 false
  sweeping_none = record {
    shrinks = shrinks_none n adj U;
    fewer = λ e. absurd (both_ways false refl e);
    same = λ e v l. absurd (omega arith);
  }

  -- the node i has at most one edge, and goes
  pub sweeping_goes : (C : Set) (i : ℕ) (went : Bool) → Sweeping n adj U C i went → i < n → C i ≡ true → deg n adj C i ≤ 1
      → Sweeping n adj U (without C i) (i + 1) true
  unfolding minus
  sweeping_goes C i went s lt here low =
      let one : Shrinks n adj C (without C i) = shrinks_one n adj C i lt low in
      let all : Shrinks n adj U (without C i) = shrinks_then n adj U C (without C i) s.shrinks one in
      let gone : without C i i ≡ false = grind (arith, nat_tests) in
      record {
        shrinks = all;
        fewer = λ e. size_less n (without C i) U i all.inside lt (s.shrinks.inside i lt here) gone;
        same = λ e. absurd (both_ways true e refl);
      }

  -- the node i is not there, or has two edges, and nothing changes
  pub sweeping_stays : (C : Set) (i : ℕ) (went : Bool) → Sweeping n adj U C i went → (C i ≡ true → 2 ≤ deg n adj C i)
      → Sweeping n adj U C (i + 1) went
  sweeping_stays C i went s two = record {
    shrinks = s.shrinks;
    fewer = s.fewer;
    same = λ e. below_more (λ v. C v ≡ true → 2 ≤ deg n adj C v) i (s.same e) two;
  }

  pub sweeping_all : (C : Set) (i : ℕ) (went : Bool) → n ≤ i → Sweeping n adj U C i went → Swept n adj U C went
  sweeping_all C i true g s = s.fewer refl
  sweeping_all C i false g s = λ v l e. s.same refl v (omega arith) e
