use Rattle.std.proofs.Common.{arith}
use Rattle.graph.specs.Read.{set_of}
use Rattle.graph.proofs.Marks.{marked_past, marked-without, without_absent}
use Rattle.graph.proofs.set.NumberSet.remove.Goals as goal

pub returns-then-x-lt-MOST_NODES : goal.returns-then-x-lt-MOST_NODES
returns-then-x-lt-MOST_NODES c = marked-without c.args.self.now.marks c.args.x (omega arith)

pub returns-else-x-lt-MOST_NODES : goal.returns-else-x-lt-MOST_NODES
returns-else-x-lt-MOST_NODES c =
    without_absent (set_of c.args.self.now) c.args.x (marked_past c.args.self.now.marks c.args.x (omega arith))
