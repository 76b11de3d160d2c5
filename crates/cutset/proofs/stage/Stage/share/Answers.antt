use Rattle.std.proofs.Common.{arith}
use Rattle.graph.specs.Read.{set_of, node_count, edges}
use Rattle.graph.proofs.Degrees.{deg-le}
use Rattle.cutset.specs.Tables.{holds}
use Rattle.cutset.specs.declared.stage.Stage.{Stage}
use Rattle.cutset.proofs.Smallest.{share_is}
use Rattle.cutset.proofs.stage.Stage.share.Goals as goal

pub overflow_cast-result : goal.overflow_cast-result
overflow_cast-result c =
    let s : Stage = c.args.self.now in
    omega (arith, c.degree.ensures, s.graph.now.few, deg-le (node_count s.graph.now) (edges s.graph.now) (set_of s.nodes) c.args.node)

pub returns : goal.returns
returns c =
    let s : Stage = c.args.self.now in
    share_is (node_count s.graph.now) (edges s.graph.now) (set_of s.nodes) (holds s.holdings.amounts) c.args.node c.degree.result c.degree.ensures
