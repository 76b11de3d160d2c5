-- What is said of each fault of a card.
use Rattle.std.specs.Prelude.{ℕ, List, ◌++◌, codes, decimal}
use Rattle.sources.specs.Faults.{card_fault_place}
use Rattle.sources.specs.declared.fault.CardFault.{CardFault}
use Rattle.sources.specs.declared.fault.CardFault.TheVariants.{TooShort, HeaderField, WrongLength, RecordByte, DriverByte, TableStart, EntryTotal, EntryValue}

-- in a sentence what is wrong, and at which byte
abbrev pub card_fault_text : CardFault → List ℕ
card_fault_text (TooShort length) = codes "the card has " ++ decimal length ++ codes " bytes, fewer than its header"
card_fault_text (HeaderField place) = codes "the header's field at byte " ++ decimal place ++ codes " is outside its values"
card_fault_text (WrongLength length) = codes "the card has " ++ decimal length ++ codes " bytes, not as many as its header says"
card_fault_text (RecordByte place) = codes "the record's byte " ++ decimal place ++ codes " is outside its values"
card_fault_text (DriverByte place) = codes "the driver at byte " ++ decimal place ++ codes " has no lower number, or is named twice"
card_fault_text (TableStart place) = codes "the start at byte " ++ decimal place ++ codes " is not where the earlier tables end"
card_fault_text EntryTotal = codes "the number of entries at byte " ++ decimal (card_fault_place EntryTotal) ++ codes " is not that of the tables"
card_fault_text (EntryValue place) = codes "the entry at byte " ++ decimal place ++ codes " is neither within the limit nor never"
