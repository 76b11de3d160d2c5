-- Degrees are sums: how they grow with the set.
use Rattle.std.proofs.Common.{◌≡◌, ℕ, ◌+◌, ◌≤◌, refl, arith}
use Rattle.plan.specs.Sums.{Set, on, over, size, Within}
use Rattle.plan.proofs.Sums.{Parts, on_one, over_more, over_none_yet, over_mono, over_parts, size-le}
use Rattle.graph.specs.Graphs.{Adj, deg}

pub deg_mono : (n : ℕ) (adj : Adj) (X Y : Set) (v : ℕ) → Within n X Y → deg n adj X v ≤ deg n adj Y v
unfolding deg
deg_mono n adj X Y v s = over_mono n X Y (λ x. on (adj v x) 1) (λ x. on (adj v x) 1) s (λ x lt e. omega arith)

pub deg_parts : (n : ℕ) (adj : Adj) (X A B : Set) (v : ℕ) → Parts n X A B → deg n adj X v ≡ deg n adj A v + deg n adj B v
unfolding deg
deg_parts n adj X A B v h = over_parts n X A B (λ x. on (adj v x) 1) h

-- the edges into the first n nodes, counted one by one
pub deg_more : (n : ℕ) (adj : Adj) (X : Set) (v : ℕ) → deg (n + 1) adj X v ≡ deg n adj X v + on (X n) (on (adj v n) 1)
unfolding deg
deg_more n adj X v = over_more n X (λ x. on (adj v x) 1)

pub deg_none_yet : (adj : Adj) (X : Set) (v : ℕ) → deg 0 adj X v ≡ 0
unfolding deg
deg_none_yet adj X v = over_none_yet X (λ x. on (adj v x) 1)

-- a node has no more edges than there are nodes
pub deg-le : (n : ℕ) (adj : Adj) (X : Set) (v : ℕ) → deg n adj X v ≤ n
unfolding deg size
deg-le n adj X v =
    omega (
      arith,
      size-le n X,
      over_mono n X X (λ x. on (adj v x) 1) (λ _. 1) (λ x l e. e) (λ x l e. on_one (adj v x)),
      size_is n X,
    )
  where
    size_is : (n : ℕ) (X : Set) → size n X ≡ over n X (λ _. 1)
    size_is n X = refl
