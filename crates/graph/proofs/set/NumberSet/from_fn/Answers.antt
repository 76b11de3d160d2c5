use Rattle.std.proofs.Common.{refl, ap, arith}
use Rattle.graph.specs.Split.{most_nodes}
use Rattle.graph.proofs.Marks.{marked_none}
use Rattle.graph.proofs.set.NumberSet.from_fn.Goals as goal

pub loop-x-init : goal.loop-x-init
loop-x-init g c = record { long = refl; tested = λ y lt. absurd (omega arith); beyond = λ y past. ap (λ X. X y) (marked_none most_nodes) }
