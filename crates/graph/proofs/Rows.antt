-- The graph that a table of sets stands for, each the set of a node's neighbours: a member more in a set is an edge more.
use Rattle.std.proofs.Common.{◌≡◌, ℕ, ◌<◌, false, ◌&&◌, ◌||◌, eqb, List, [], length, get_or, set, map, replicate, ap, arith, length-set}
use Rattle.std.proofs.Math.Path.{fun_ext}
use Rattle.std.proofs.lemmas.Bool.Decides.{nat_tests}
use Rattle.std.proofs.lemmas.Grind.{elements}
use Rattle.std.proofs.lemmas.List.{get_or-map, map-set}
use Rattle.plan.specs.Sums.{with}
use Rattle.graph.specs.Graphs.{Adj}
use Rattle.graph.specs.Marks.{linked}
use Rattle.graph.specs.Read.{set_of}
use Rattle.graph.specs.Split.{joined}
use Rattle.graph.specs.declared.set.NumberSet.{NumberSet}
use Rattle.graph.proofs.Marks.{linked_past_row}

-- the edges that a table of sets holds
abbrev pub edges_in : List NumberSet → Adj
edges_in rows = linked (map (λ s. s.marks) rows)

pub edges_in_none : (n : ℕ) (s : NumberSet) → set_of s ≡ (λ _. false) → edges_in (replicate n s) ≡ (λ _ _. false)
edges_in_none n s none =
    fun_ext (λ x. fun_ext (λ y.
    let rows : List NumberSet = replicate n s in
    grind (arith, elements, ap (λ X. X y) none, get_or-map (λ t. t.marks) rows x s [], linked_past_row (map (λ t. t.marks) rows) x y)))

-- y goes into the set of x: an edge more, as seen from x
edges_in_insert : (rows : List NumberSet) (r s : NumberSet) (x y : ℕ) → x < length rows → set_of s ≡ with (set_of (get_or rows x r)) y
    → (a b : ℕ) → edges_in (set rows x s) a b ≡ (edges_in rows a b || (eqb a x && eqb b y))
unfolding with
edges_in_insert rows r s x y lx more a b =
    let row = get_or-map (λ t. t.marks) rows x r [] lx in
    let more_b = ap (λ X. X b) more in
    rw (map-set (λ t. t.marks) rows x s) (grind (arith, nat_tests, elements))

-- x and y go into the sets of each other: an edge more
pub edges_in_join : (rows : List NumberSet) (r s r' s' : NumberSet) (n x y : ℕ) → length rows ≡ n → x < n → y < n
    → set_of s ≡ with (set_of (get_or rows x r)) y → set_of s' ≡ with (set_of (get_or (set rows x s) y r')) x
    → edges_in (set (set rows x s) y s') ≡ joined (edges_in rows) x y
unfolding joined
edges_in_join rows r s r' s' n x y tall lx ly more more' =
    fun_ext (λ a. fun_ext (λ b.
    let first = edges_in_insert rows r s x y (omega arith) more a b in
    let second = edges_in_insert (set rows x s) r' s' y x (simp length-set (omega arith)) more' a b in
    grind arith))
