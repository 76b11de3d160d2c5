use Rattle.std.proofs.Common.{◌≡◌, ◌<◌, true, List, length, get_or, take, sym, ◌∙◌, arith}
use Rattle.std.proofs.lemmas.List.{map_more}
use Rattle.std.proofs.lemmas.List.Elements.{All-same}
use Rattle.std.proofs.lemmas.Bool.{lt-ltb}
use Rattle.plan.specs.Limits.{most_measures}
use Rattle.plan.proofs.Sets.{among_push}
use Rattle.graph.specs.Split.{most_nodes}
use Rattle.cutset.specs.Method.{measures}
use Rattle.cutset.specs.Unused.{no_pick}
use Rattle.cutset.specs.declared.pick.Pick.{Pick}
use Rattle.cutset.proofs.picks.Picks.set.Goals as goal

pub loop-pick-preserved : goal.loop-pick-preserved
loop-pick-preserved c =
    let ps : List Pick = c.as_slice-pick-items.result.now in
    let i = c.loop-pick.pick-index in
    let in_list : i < length ps = omega arith in
    let known : (get_or ps i no_pick).measure < most_measures =
    All-same (λ (pick : Pick). pick.measure < most_measures) ps _ c.as_slice-pick-items.ensures c.args.self.now.known i no_pick in_list in
    let inserted : c.insert.result ≡ true = c.insert.ensures.answer ∙ lt-ltb _ most_nodes (omega arith) in
    rw (c.insert.ensures.after, inserted, c.loop-pick.invariant, map_more (λ (pick : Pick). pick.measure) ps i no_pick in_list) (sym (among_push (measures (take i ps)) _))
