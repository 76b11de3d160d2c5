use Rattle.std.proofs.Common.{sym, ap, ◌∙◌}
use Rattle.std.proofs.lemmas.Result.{err_from_is_err_and, MatchResult-weaker}
use Rattle.sources.specs.Checks.{card_checks, card_fault}
use Rattle.sources.proofs.CardParts.{header_fails}
use Rattle.sources.proofs.Firsts.{none_fails_first, some_fails_first}
use Rattle.sources.proofs.card.Card.check.Goals as goal

pub returns-in_err-check : goal.returns-in_err-check
returns-in_err-check c =
    let bs = c.args.bytes.now in
    let p = err_from_is_err_and c.from_residual.result c.from_residual.ensures.1 in
    let told = header_fails bs _ c.in_err-check.ensures in
    rw (p.1, p.2) record { told = told; first = some_fails_first (card_checks bs) _ told }

pub returns : goal.returns
returns c =
    let bs = c.args.bytes.now in
    let same = sym (ap card_fault c.in_ok-check.ensures) in
    record {
      told = MatchResult-weaker c.check_rest.result c.check_rest.ensures (λ _ h. same ∙ h) (λ _ h. same ∙ h);
      first =
          MatchResult-weaker c.check_rest.result c.check_rest.ensures
          (λ _ h. none_fails_first (card_checks bs) (same ∙ h))
          (λ e h. some_fails_first (card_checks bs) e (same ∙ h));
    }
