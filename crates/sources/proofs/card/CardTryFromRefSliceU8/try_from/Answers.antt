use Rattle.std.proofs.Common.{sym, ap, ◌∙◌, arith}
use Rattle.sources.specs.PassedLaws.{card_passed}
use Rattle.sources.proofs.Opened.{card_plan_accepted}
use Rattle.sources.proofs.card.CardTryFromRefSliceU8.try_from.Goals as goal

pub read_u16-requires : goal.read_u16-requires
read_u16-requires c = omega (arith, (card_passed c.args.bytes.now c.in_ok-check.ensures.told).header.as_long)

pub overflow_cast-result : goal.overflow_cast-result
overflow_cast-result c = omega (arith, (card_passed c.args.bytes.now c.in_ok-check.ensures.told).header.few_measures)

pub invariant_of-result : goal.invariant_of-result
invariant_of-result c = record {
  opened = c.read_u16.ensures ∙ sym (ap (λ p. p.count) (card_plan_accepted c.args.bytes.now c.in_ok-check.ensures.told));
  octets = λ k. (c.type_inv.bytes k).fits;
}
