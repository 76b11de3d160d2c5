use Rattle.std.proofs.Common.{rules, ◌≡◌, tests, ◌∙◌, arith}
use Rattle.plan.specs.Sums.{Set}
use Rattle.graph.specs.Read.{set_of}
use Rattle.graph.specs.Split.{remaining}
use Rattle.graph.proofs.Marks.{below-all, made_by_test}
use Rattle.graph.proofs.SplitNodes.{remaining_below}
use Rattle.graph.proofs.split.SplitGraph.without.Goals as goal

pub returns : goal.returns
unfolding remaining
returns c =
    let k = c.args.self.now.count in
    let T : Set = set_of c.args.measures.now in
    made_by_test (λ x r. r ≡ remaining k T x) c.nodes.result _ (remaining k T)
    (λ x lt. let told = c.from_fn.ensures.tested x lt in search (rules, tests)) c.from_fn.ensures.beyond (λ x r lt told. told)
    ∙ below-all _ (remaining k T) (λ x here. let lt = remaining_below k T x here in omega arith)
