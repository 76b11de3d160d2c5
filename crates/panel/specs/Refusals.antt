-- The number and the place of each refusal, and which refusal the fault of a choice becomes.
use Rattle.std.specs.Prelude.{ℕ, Some, None, Option}
use Rattle.sources.specs.Faults.{card_fault_number, card_fault_place}
use Rattle.cutset.specs.declared.fault.ChoiceFault.{ChoiceFault}
use Rattle.cutset.specs.declared.fault.ChoiceFault.TheVariants as choice
use Rattle.panel.specs.declared.refusal.Refusal.{Refusal}
use Rattle.panel.specs.declared.refusal.Refusal.TheVariants.{Card, LoopBarred, HoldsTooLittle, ShortRow}

-- a card's fault keeps its number; the others have numbers of their own
abbrev pub refusal_number : Refusal → ℕ
refusal_number (Card e) = card_fault_number e
refusal_number LoopBarred = 14
refusal_number HoldsTooLittle = 15
refusal_number ShortRow = 18

-- the place in the card, where the card is at fault
abbrev pub refusal_place : Refusal → Option ℕ
refusal_place (Card e) = Some (card_fault_place e)
refusal_place LoopBarred = None
refusal_place HoldsTooLittle = None
refusal_place ShortRow = None

-- the refusal where no set is chosen
abbrev pub of_choice : ChoiceFault → Refusal
of_choice choice.LoopBarred = LoopBarred
of_choice choice.HoldsTooLittle = HoldsTooLittle
