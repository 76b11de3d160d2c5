use Rattle.std.proofs.Common.{◌≡◌, ℕ, ◌*◌, ◌-◌, ◌<◌, ◌≤◌, sym, refl, ap, ◌∙◌, arith}
use Rattle.std.proofs.lemmas.Nat.{mul-le}
use Rattle.plan.specs.Limits.{most_weight}
use Rattle.plan.specs.Sums.{Set, Within}
use Rattle.graph.specs.Graphs.{Adj}
use Rattle.graph.specs.Read.{set_of, node_count, edges}
use Rattle.graph.specs.Split.{most_nodes}
use Rattle.graph.proofs.Degrees.{deg-le, deg_mono}
use Rattle.cutset.specs.Method.{share_unit}
use Rattle.cutset.specs.Tables.{holds}
use Rattle.cutset.specs.declared.stage.Stage.{Stage}
use Rattle.cutset.proofs.Payments.{due_is, paying_none, paying_off, paying_skip, paying_short, paying_all}
use Rattle.cutset.proofs.stage.Stage.take_off.Goals as goal
use Rattle.cutset.proofs.stage.Stage.take_off.Goals.{then-is_free_in+else-self-node, else-is_free_in}

pub loop-node-init : goal.loop-node-init
loop-node-init c = record {
  same_graph = refl;
  same_free = refl;
  same_nodes = refl;
  paying = paying_none _ _ _ _ _ _ _ c.args.self.now.holdings.amounts (λ v. refl);
}

pub overflow_sub-went : goal.overflow_sub-went
overflow_sub-went c =
    let s : Stage = c.loop-node.self in
    let i = c.loop-node.invariant in
    let inside : Within (node_count s.graph.now) (set_of c.args.left.now) (set_of s.nodes) = rw (i.same_graph, i.same_nodes) c.requires.inside in
    omega (
      arith,
      c.degree.ensures,
      c.degree-then-is_free_in.ensures,
      deg_mono (node_count s.graph.now) (edges s.graph.now) (set_of c.args.left.now) (set_of s.nodes) c.loop-node.node inside,
    )

pub overflow_cast-due : goal.overflow_cast-due
overflow_cast-due c =
    let s : Stage = c.loop-node.self in
    omega (arith, c.degree.ensures, s.graph.now.few, deg-le (node_count s.graph.now) (edges s.graph.now) (set_of s.nodes) c.loop-node.node)

pub overflow_mul-due : goal.overflow_mul-due
overflow_mul-due c =
    let s : Stage = c.loop-node.self in
    let few = deg-le (node_count s.graph.now) (edges s.graph.now) (set_of s.nodes) c.loop-node.node in
    let went = c.degree.result - c.degree-then-is_free_in.result in
    let small : went ≤ most_nodes = omega (arith, c.degree.ensures, s.graph.now.few) in
    omega (arith, mul-le c.args.share went (share_unit * most_weight) most_nodes c.requires.small small)

pub loop-node-preserved : goal.loop-node-preserved
loop-node-preserved c =
    let s : Stage = c.loop-node.self in
    let n : ℕ = node_count s.graph.now in
    let adj : Adj = edges s.graph.now in
    let F : Set = set_of s.free in
    let C : Set = set_of s.nodes in
    let D : Set = set_of c.args.left.now in
    let h : ℕ → ℕ = holds c.args.self.now.holdings.amounts in
    let i = c.loop-node.node in
    let so_far = c.loop-node.invariant in
    let in_graph : i < n = omega (arith, ap (λ g. node_count g.now) so_far.same_graph) in
    elim c.if-is_free_in.branch [
      | then-is_free_in+else-self-node w ↦
          let e = due_is n adj C D c.args.share i w.degree.result w.degree-then-is_free_in.result w.degree.ensures w.degree-then-is_free_in.ensures in
          rw (w.self-is, e) record {
            same_graph = so_far.same_graph;
            same_free = so_far.same_free;
            same_nodes = so_far.same_nodes;
            paying =
                paying_off n adj F C D h c.args.share i s.holdings.amounts so_far.paying in_graph
                (omega (arith, s.holdings.full, s.graph.now.few)) (sym c.is_free_in.ensures ∙ w.if-is_free_in.true)
                (omega (arith, e, w.if-self-node.false));
          }
      | else-is_free_in w ↦
          rw w.self-is record {
            same_graph = so_far.same_graph;
            same_free = so_far.same_free;
            same_nodes = so_far.same_nodes;
            paying =
                paying_skip n adj F C D h c.args.share i s.holdings.amounts so_far.paying (sym c.is_free_in.ensures ∙ w.if-is_free_in.false);
          }
    ]

pub returns-then-self-node-clause-holdings : goal.returns-then-self-node-clause-holdings
returns-then-self-node-clause-holdings c =
    let s : Stage = c.loop-node.self in
    let n : ℕ = node_count s.graph.now in
    let adj : Adj = edges s.graph.now in
    let C : Set = set_of s.nodes in
    let D : Set = set_of c.args.left.now in
    let i = c.loop-node.node in
    let so_far = c.loop-node.invariant in
    let in_graph : i < n = omega (arith, ap (λ g. node_count g.now) so_far.same_graph) in
    let e = due_is n adj C D c.args.share i c.degree.result c.degree-then-is_free_in.result c.degree.ensures c.degree-then-is_free_in.ensures in
    rw (← so_far.same_graph, ← so_far.same_free, ← so_far.same_nodes) (
      refl,
      paying_short n adj (set_of s.free) C D (holds c.args.self.now.holdings.amounts) c.args.share i s.holdings.amounts so_far.paying in_graph
          (sym c.is_free_in.ensures ∙ c.if-is_free_in.true) (omega (arith, e, c.if-self-node.true)),
    )

pub returns-clause-holdings : goal.returns-clause-holdings
returns-clause-holdings c =
    let so_far = c.loop-node.invariant in
    let all : c.loop-node.node ≡ node_count c.loop-node.self.graph.now = omega (arith, ap (λ g. node_count g.now) so_far.same_graph) in
    rw (← so_far.same_graph, ← so_far.same_free, ← so_far.same_nodes) (paying_all _ _ _ _ _ _ _ _ (rw all at so_far.paying))
