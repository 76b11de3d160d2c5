use Rattle.std.proofs.Common.{sym, arith}
use Rattle.graph.specs.Read.{set_of, edges}
use Rattle.graph.proofs.Degrees.{deg_more, deg_none_yet}
use Rattle.graph.proofs.split.SplitGraph.degree.Goals as goal

pub loop-x-init : goal.loop-x-init
loop-x-init c =
    record { counted = sym (deg_none_yet (edges c.args.self.now) (set_of c.args.within.now) c.args.node); few = omega arith }

pub loop-x-preserved : goal.loop-x-preserved
loop-x-preserved c =
    let more = deg_more c.loop-x.x (edges c.args.self.now) (set_of c.args.within.now) c.args.node in
    grind arith
