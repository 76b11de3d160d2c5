use Rattle.std.proofs.Common.{rules, tests, ℕ, ◌∙◌, refl, arith}
use Rattle.std.proofs.lemmas.Iterator.{YieldsList-from_range, YieldsList-from_map}
use Rattle.std.proofs.lemmas.Iterator.Consumers.{YieldsList-at, YieldsList-from_filter}
use Rattle.plan.specs.Sums.{Set, meet}
use Rattle.graph.specs.Graphs.{Adj}
use Rattle.graph.specs.Read.{set_of, node_count, edges}
use Rattle.cutset.specs.Stages.{share, next_pick}
use Rattle.cutset.specs.Tables.{holds}
use Rattle.cutset.specs.declared.stage.Stage.{Stage}
use Rattle.cutset.proofs.Least.{least_of, shares_least}
use Rattle.cutset.proofs.stage.Stage.smallest_share.Goals as goal

pub returns : goal.returns
unfolding next_pick meet
returns c =
    let s : Stage = c.args.self.now in
    let n = node_count s.graph.now in
    let adj : Adj = edges s.graph.now in
    let C : Set = set_of s.nodes in
    let F : Set = set_of s.free in
    let h : ℕ → ℕ = holds s.holdings.amounts in
    least_of _ _ (λ p. p.1) _ (λ x k q told. search rules) c.min_by_key.result c.min_by_key.ensures.ran (
    YieldsList-from_map _ (λ v. (v, share n adj C h v))
    (YieldsList-at c.map.ensures.source (
    YieldsList-from_filter _ (meet C F)
    (YieldsList-at c.filter.ensures.source (YieldsList-from_range 0 c.nodes.result n refl (omega arith)))
    c.filter.ensures.closure (λ x b q told. search (rules, tests))
    ))
    c.map.ensures.closure (λ x r q told. search rules)
    )
    ∙ shares_least n adj C (meet C F) h n
