-- The split graph of a plan: each measure has a value node and a table node, and an edge joins the value node of a to the table node of t
-- where the table of t reads a, that is, a is t itself or drives it. Of k measures the value node of m is m, and its table node k + m.
use Rattle.std.specs.Prelude.{ℕ, ◌+◌, ◌-◌, Bool, not, ◌&&◌, ◌||◌, List, ◌==◌, nat_le, nat_lt}
use Rattle.plan.specs.Plan.{Plan, scope}
use Rattle.plan.specs.Limits.{most_measures}
use Rattle.plan.specs.Sums.{Set, among}
use Rattle.graph.specs.Graphs.{Adj}

abbrev pub most_nodes : ℕ
most_nodes = most_measures + most_measures

-- how many nodes the split graph of a plan has
abbrev pub nodes : Plan → ℕ
nodes p = p.count + p.count

-- whether x is the value node of a measure and y the table node of one that reads it
unfoldable pub value_table : Plan → ℕ → ℕ → Bool
value_table p x y = nat_lt x p.count && (nat_le p.count y && among (scope p (y - p.count)) x)

unfoldable pub split : Plan → Adj
split p x y = value_table p x y || value_table p y x

-- of k measures, all the nodes but the value nodes of the measures in T
unfoldable pub remaining : ℕ → Set → Set
remaining k T x = nat_lt x (k + k) && not (nat_lt x k && T x)

-- a graph and one edge more, between x and y
unfoldable pub joined : Adj → ℕ → ℕ → Adj
joined adj x y a b = adj a b || ((a == x && b == y) || (a == y && b == x))

-- a graph and an edge more between x and each of ys
unfoldable pub linked_to : Adj → ℕ → List ℕ → Adj
linked_to adj x ys a b = adj a b || ((a == x && among ys b) || (b == x && among ys a))
