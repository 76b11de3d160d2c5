-- What is said of each refusal.
use Rattle.std.specs.Prelude.{ℕ, List, ◌++◌, codes, decimal}
use Rattle.sources.specs.Sentences.{card_fault_text}
use Rattle.panel.specs.Refusals.{refusal_number}
use Rattle.panel.specs.declared.refusal.Refusal.{Refusal}
use Rattle.panel.specs.declared.refusal.Refusal.TheVariants.{Card, LoopBarred, HoldsTooLittle, ShortRow}

-- the number, and in a sentence what is wrong
abbrev pub refusal_text : Refusal → List ℕ
refusal_text (Card e) = codes "refusal " ++ decimal (refusal_number (Card e)) ++ codes ": " ++ card_fault_text e
refusal_text LoopBarred = codes "refusal " ++ decimal (refusal_number LoopBarred) ++ codes ": the measures that would open some loop are all barred"
refusal_text HoldsTooLittle = codes "refusal " ++ decimal (refusal_number HoldsTooLittle) ++ codes ": a measure holds less than is to come off it"
refusal_text ShortRow = codes "refusal " ++ decimal (refusal_number ShortRow) ++ codes ": the row is too short for a listing"
