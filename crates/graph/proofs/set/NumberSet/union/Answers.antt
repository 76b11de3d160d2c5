use Rattle.std.proofs.Common.{rules, ◌≡◌, ◌∙◌, arith}
use Rattle.plan.specs.Sums.{Set, union}
use Rattle.graph.specs.Read.{set_of}
use Rattle.graph.specs.Split.{most_nodes}
use Rattle.graph.proofs.Marks.{marked_past, below-all, made_by_test}
use Rattle.graph.proofs.set.NumberSet.union.Goals as goal

pub returns : goal.returns
unfolding union
returns c =
    let X : Set = set_of c.args.self.now in
    let Y : Set = set_of c.args.other.now in
    made_by_test (λ x r. r ≡ union X Y x) most_nodes _ (union X Y)
    (λ x lt. let told = c.from_fn.ensures.tested x lt in search rules) c.from_fn.ensures.beyond (λ x r lt told. told)
    ∙ below-all _ (union X Y)
    (λ x here. grind (arith, marked_past c.args.self.now.marks x, marked_past c.args.other.now.marks x))
