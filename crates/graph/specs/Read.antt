-- What the structs of the code stand for.
use Rattle.std.specs.Prelude.{ℕ, ◌+◌, map}
use Rattle.plan.specs.Sums.{Set}
use Rattle.graph.specs.Graphs.{Adj}
use Rattle.graph.specs.Marks.{marked, linked}
use Rattle.graph.specs.declared.set.NumberSet.{NumberSet}
use Rattle.graph.specs.declared.split.SplitGraph.{SplitGraph}

-- the set
abbrev pub set_of : NumberSet → Set
set_of s = marked s.marks

-- the graph: its number of nodes, and its edges
abbrev pub node_count : SplitGraph → ℕ
node_count g = g.count + g.count

abbrev pub edges : SplitGraph → Adj
edges g = linked (map (λ s. s.marks) g.rows)
