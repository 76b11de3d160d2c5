use Rattle.std.proofs.Common.{ℕ, ◌+◌, ◌<◌, List, length, take, get_or, sym, refl, ap, ◌∙◌, arith}
use Rattle.std.proofs.lemmas.List.{take_more, take_all}
use Rattle.std.proofs.lemmas.Option.{slice_get-get_or, get_or_from_slice_get}
use Rattle.graph.specs.Graphs.{Adj}
use Rattle.graph.specs.Read.{edges}
use Rattle.graph.proofs.SplitNodes.{linked_to_none, linked_to_more}
use Rattle.graph.proofs.split.SplitGraph.link_table.Goals as goal
use Rattle.graph.proofs.split.SplitGraph.link_table.Goals.{in-Some, in_default}

pub loop-position-init : goal.loop-position-init
loop-position-init g c = record { count = refl; edges = linked_to_none (edges c.args.self.now) (c.args.self.now.count + c.args.table) }

pub link-requires-clause-y_in_bounds : goal.link-requires-clause-y_in_bounds
link-requires-clause-y_in_bounds g c =
    let ds : List ℕ = (g.S.Source.plan c.args.source.now).drivers c.args.table in
    let i = c.loop-position.position in
    let lower = (g.S.Source.lawful c.args.source.now).lower_drivers c.args.table i (omega (arith, c.drivers-position-end.ensures)) in
    omega (arith, c.args.self.now.few, get_or_from_slice_get ds i c.in-Some.driver 0 (sym c.in-Some.ensures))

pub loop-position-preserved : goal.loop-position-preserved
loop-position-preserved g c =
    let ds : List ℕ = (g.S.Source.plan c.args.source.now).drivers c.args.table in
    let A : Adj = edges c.args.self.now in
    let t = c.args.self.now.count + c.args.table in
    let i = c.loop-position.position in
    let lt : i < length ds = omega (arith, c.drivers-position-end.ensures) in
    elim c.match-driver.branch [
      | in-Some w ↦
          let same = get_or_from_slice_get ds i w.in-Some.driver 0 (sym w.in-Some.ensures) in
          record {
            count = cc;
            edges = ap edges w.self-is ∙ w.link.ensures.edges
                ∙ rw (c.loop-position.invariant.edges, ← same, take_more ds i 0 lt) (linked_to_more A t (get_or ds i 0) (take i ds));
          }
      | in_default w ↦ absurd (w.in_default.not-Some (get_or ds i 0) (c.driver.ensures ∙ slice_get-get_or ds i 0 lt))
    ]

pub returns-clause-edges : goal.returns-clause-edges
returns-clause-edges g c =
    let ds : List ℕ = (g.S.Source.plan c.args.source.now).drivers c.args.table in
    let t = c.args.self.now.count + c.args.table in
    let all = take_all c.loop-position.position ds (omega (arith, c.drivers-position-end.ensures)) in
    let last = linked_to_more (edges c.args.self.now) t c.args.table (take c.loop-position.position ds) in
    cc
