use Rattle.std.proofs.Common.{arith}
use Rattle.sources.specs.CardLawful.{card_lawful}
use Rattle.sources.proofs.Opened.{inside}
use Rattle.sources.proofs.card.Card.record.Goals as goal

pub invariant_of-result : goal.invariant_of-result
invariant_of-result c =
    let known = inside c.args.self.now.bytes.now c.args.m (omega arith) in
    record { known = omega (arith, known.passed.header.few_measures, known.below); whole = known.within }

pub returns-then-m-self-clause-inside : goal.returns-then-m-self-clause-inside
returns-then-m-self-clause-inside c = inside c.args.self.now.bytes.now c.args.m (omega arith)

pub returns-else-m-self-clause-outside : goal.returns-else-m-self-clause-outside
returns-else-m-self-clause-outside c = (card_lawful c.args.self.now.bytes.now c.args.self.now.octets).outside c.args.m (omega arith)
