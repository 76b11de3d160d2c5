-- How the tables of the code are read as sets and graphs.
use Rattle.std.specs.Prelude.{Bool, false, List, [], slice_index_or}
use Rattle.plan.specs.Sums.{Set}
use Rattle.graph.specs.Graphs.{Adj}

-- the set whose members are marked
abbrev pub marked : List Bool → Set
marked marks x = slice_index_or marks x false

-- the graph whose edges are marked, row by row
abbrev pub linked : List (List Bool) → Adj
linked rows x y = slice_index_or (slice_index_or rows x []) y false
