-- Finite graphs on the nodes 0 .. n - 1, by counting edges.
use Rattle.std.specs.Prelude.{◌≡◌, ℕ, ◌<◌, ◌≤◌, Bool, true}
use Rattle.plan.specs.Sums.{Set, on, over, Within}

-- whether an edge joins two nodes
abbrev pub Adj : Type 0
Adj = ℕ → ℕ → Bool

-- the degree of v in X: how many edges lead from v into X
unfoldable pub deg : ℕ → Adj → Set → ℕ → ℕ
deg n adj X v = over n X (λ x. on (adj v x) 1)

-- each node of X has at least two edges in X
abbrev pub TwoEdged : ℕ → Adj → Set → Type 0
TwoEdged n adj X = (v : ℕ) → v < n → X v ≡ true → 2 ≤ deg n adj X v

-- C is the core of U: the largest part of U in which each node has at least two edges
pub record Core (n : ℕ) (adj : Adj) (U C : Set) : Type 0 where
  pub inside : Within n C U
  pub two_edged : TwoEdged n adj C
  pub largest : (X : Set) → Within n X U → TwoEdged n adj X → Within n X C
