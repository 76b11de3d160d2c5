-- Pruning: to remove, as long as there is one, a node with at most one edge. It is defined here by rounds, so that it computes; what it
-- leaves is the core whatever the order of removal (proofs/Pruning.antt: prune_core, core_unique), and proofs use that alone.
use Rattle.std.specs.Prelude.{◌≡◌, ℕ, zero, suc, ◌<◌, ◌≤◌, Bool, cond, ◌&&◌, ◌||◌, ◌==◌, nat_le}
use Rattle.plan.specs.Sums.{Set, size, Within}
use Rattle.graph.specs.Graphs.{Adj, deg, TwoEdged, Core}

-- one round: every node with at most one edge goes; what is no node stays
unfoldable pub sweep : ℕ → Adj → Set → Set
sweep n adj C v = C v && (nat_le n v || nat_le 2 (deg n adj C v))

-- at most k rounds, until one removes nothing
unfoldable pub rounds : ℕ → ℕ → Adj → Set → Set
rounds zero n adj C = C
rounds (suc k) n adj C =
    let D : Set = sweep n adj C in
    let rest : Set = rounds k n adj D in
    cond (size n D == size n C) C rest

unfoldable pub prune : ℕ → Adj → Set → Set
prune n adj C = rounds n n adj C

-- whether nothing is left: then C has no cycle
unfoldable pub forest : ℕ → Adj → Set → Bool
forest n adj C = size n (prune n adj C) == 0

-- C is U after some removals: no part in which each node has two edges has lost a node
pub record Shrinks (n : ℕ) (adj : Adj) (U C : Set) : Type 0 where
  pub inside : Within n C U
  pub keeps : (X : Set) → Within n X U → TwoEdged n adj X → Within n X C
  pub beyond : (x : ℕ) → n ≤ x → C x ≡ U x

-- after a pass over all the nodes: one went and fewer are left, or each has two edges
abbrev pub Swept : ℕ → Adj → Set → Set → Bool → Type 0
Swept n adj U C went = cond went (size n C < size n U) (TwoEdged n adj C)

-- what is left when nothing more can go, in two ways: it is the core, and it is what `prune` says
pub record Pruned (n : ℕ) (adj : Adj) (U C : Set) : Type 0 where
  pub core : Core n adj U C
  pub value : C ≡ prune n adj U
