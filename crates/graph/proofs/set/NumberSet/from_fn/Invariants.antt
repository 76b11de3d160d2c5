use Rattle.std.proofs.Common.{◌≡◌, ℕ, ◌<◌, ◌≤◌, false, length}
use Rattle.graph.specs.Marks.{marked}
use Rattle.graph.specs.Split.{most_nodes}
use Rattle.graph.proofs.set.NumberSet.from_fn.Given as goal

-- below x each mark is an answer of the test, and from there on none is made
abbrev pub invariant-loop-x : goal.invariant-loop-x
invariant-loop-x g l = record {
  long : length l.marks ≡ most_nodes;
  tested : (y : ℕ) → y < l.x → goal.F-post g l.test y (marked l.marks y);
  beyond : (y : ℕ) → l.x ≤ y → marked l.marks y ≡ false;
}
