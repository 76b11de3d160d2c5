use Rattle.graph.specs.Read.{set_of}
use Rattle.graph.proofs.Pruning.{shrinks_then, shrinks_core}
use Rattle.graph.proofs.split.SplitGraph.prune.Goals as goal

pub loop-preserved : goal.loop-preserved
loop-preserved c =
    shrinks_then _ _ (set_of c.args.nodes.now) (set_of c.loop.nodes) (set_of c.sweep.new.nodes) c.loop.invariant c.sweep.ensures.shrinks

pub returns : goal.returns
returns c =
    let all = shrinks_then _ _ (set_of c.args.nodes.now) (set_of c.loop.nodes) (set_of c.sweep.new.nodes) c.loop.invariant c.sweep.ensures.shrinks in
    shrinks_core _ _ (set_of c.args.nodes.now) (set_of c.sweep.new.nodes) all (rw c.loop-test.false at c.sweep.ensures.swept)
