use Rattle.std.proofs.Common.{arith}
use Rattle.graph.proofs.Marks.{marked-with}
use Rattle.graph.proofs.set.NumberSet.insert.Goals as goal

pub returns-clause-after : goal.returns-clause-after
returns-clause-after c = marked-with c.args.self.now.marks c.args.x (omega arith)
