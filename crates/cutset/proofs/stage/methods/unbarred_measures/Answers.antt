use Rattle.std.proofs.Common.{rules, ◌≡◌, min, not, ap, ◌∙◌, arith}
use Rattle.plan.specs.Plan.{Plan}
use Rattle.plan.specs.Sums.{Set}
use Rattle.graph.proofs.Marks.{below, made_by_test}
use Rattle.graph.specs.Split.{most_nodes}
use Rattle.cutset.specs.Method.{unbarred}
use Rattle.cutset.proofs.stage.methods.unbarred_measures.Goals as goal

pub returns : goal.returns
unfolding unbarred below
returns g c =
    let p : Plan = g.S.Source.plan c.args.source.now in
    let X : Set = λ v. not (p.barred v) in
    let few : min c.count.result most_nodes ≡ p.count = omega (arith, c.count.ensures, (g.S.Source.lawful c.args.source.now).few_measures) in
    made_by_test (λ x r. r ≡ X x) c.count.result _ X
    (λ x lt. let told = c.from_fn.ensures.tested x lt in search rules) c.from_fn.ensures.beyond (λ x r lt told. told) ∙ ap (λ n. below n X) few
