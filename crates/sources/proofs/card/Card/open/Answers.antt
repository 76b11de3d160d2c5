use Rattle.std.proofs.Common.{sym, ap}
use Rattle.sources.proofs.Opened.{card_plan_refused}
use Rattle.sources.proofs.card.Card.open.Goals as goal
use Rattle.sources.proofs.card.Card.open.Goals.{in-Ok, in-Err}

pub invariant_of-result : goal.invariant_of-result
invariant_of-result c =
    elim c.match-try_from.branch [
      | in-Ok w ↦ rw w.result-is record { opened = w.in-Ok.card.opened; octets = w.in-Ok.card.octets }
      | in-Err w ↦
          rw w.result-is
          record { opened = sym (ap (λ p. p.count) (card_plan_refused c.args.bytes.now _ w.in-Err.ensures)); octets = λ k. (c.type_inv.bytes k).fits }
    ]
