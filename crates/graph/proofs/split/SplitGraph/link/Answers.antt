use Rattle.std.proofs.Common.{arith}
use Rattle.graph.proofs.Rows.{edges_in_join}
use Rattle.graph.proofs.split.SplitGraph.link.Goals as goal

pub returns-clause-edges : goal.returns-clause-edges
returns-clause-edges c =
    let g = c.args.self.now in
    edges_in_join g.rows c.index-rows-x.result c.insert.new.self c.index-rows-y.result c.insert-2.new.self _ c.args.x c.args.y
    g.tall c.requires.x_in_bounds c.requires.y_in_bounds (grind arith) (grind arith)
