use Rattle.std.proofs.Common.{◌≡◌, ◌≤◌, true, sym, ◌∙◌, arith}
use Rattle.plan.specs.Sums.{Set}
use Rattle.graph.specs.Graphs.{Adj, deg}
use Rattle.graph.specs.Read.{set_of, edges, node_count}
use Rattle.graph.proofs.Pruning.{sweeping_goes, sweeping_stays}
use Rattle.graph.proofs.split.SplitGraph.sweep.Goals as goal
use Rattle.graph.proofs.split.SplitGraph.sweep.Goals.{then-contains+then-degree-le-FEW_EDGES, else-contains}

pub loop-node-preserved : goal.loop-node-preserved
loop-node-preserved c =
    let n = node_count c.args.self.now in
    let adj : Adj = edges c.args.self.now in
    let C : Set = set_of c.loop-node.nodes in
    let i = c.loop-node.node in
    elim c.if-contains.branch [
      | then-contains+then-degree-le-FEW_EDGES w ↦
          rw (w.nodes-is, w.went-is, w.remove.ensures)
          (sweeping_goes n adj (set_of c.args.nodes.now) C i c.loop-node.went c.loop-node.invariant (omega arith)
          (sym c.contains.ensures ∙ w.if-contains.true) (omega (arith, w.degree.ensures)))
      | else-contains w ↦
          let two : C i ≡ true → 2 ≤ deg n adj C i = grind arith in
          rw (w.nodes-is, w.went-is) (sweeping_stays n adj (set_of c.args.nodes.now) C i c.loop-node.went c.loop-node.invariant two)
    ]
