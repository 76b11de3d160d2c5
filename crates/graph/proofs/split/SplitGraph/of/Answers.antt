use Rattle.std.proofs.Common.{◌≡◌, ◌<◌, sym, ◌∙◌, arith}
use Rattle.plan.specs.Plan.{Plan}
use Rattle.graph.proofs.SplitNodes.{split_below_none, split_below_more, split_below-all}
use Rattle.graph.proofs.split.SplitGraph.of.Goals as goal

pub loop-table-init : goal.loop-table-init
loop-table-init g c =
    let p : Plan = g.S.Source.plan c.args.source.now in
    record { count = cc; edges = c.edgeless-graph.ensures.edges ∙ sym (split_below_none p (g.S.Source.lawful c.args.source.now)) }

pub loop-table-preserved : goal.loop-table-preserved
loop-table-preserved g c =
    let p : Plan = g.S.Source.plan c.args.source.now in
    let lt : c.loop-table.table < p.count = omega (arith, c.count-count.ensures) in
    let more = split_below_more p (g.S.Source.lawful c.args.source.now) c.loop-table.table lt in
    record { count = cc; edges = cc }

pub returns-clause-edges : goal.returns-clause-edges
returns-clause-edges g c =
    let p : Plan = g.S.Source.plan c.args.source.now in
    let last : c.loop-table.table ≡ p.count = omega (arith, c.count-count.ensures) in
    let all = split_below-all p (g.S.Source.lawful c.args.source.now) in
    cc
