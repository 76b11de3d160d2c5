-- The number and the place of each fault of a card.
use Rattle.std.specs.Prelude.{ℕ}
use Rattle.sources.specs.declared.fault.CardFault.{CardFault}
use Rattle.sources.specs.declared.fault.CardFault.TheVariants.{TooShort, HeaderField, WrongLength, RecordByte, DriverByte, TableStart, EntryTotal, EntryValue}

abbrev pub card_fault_number : CardFault → ℕ
card_fault_number (TooShort length) = 1
card_fault_number (HeaderField place) = 2
card_fault_number (WrongLength length) = 3
card_fault_number (RecordByte place) = 4
card_fault_number (DriverByte place) = 5
card_fault_number (TableStart place) = 6
card_fault_number EntryTotal = 6
card_fault_number (EntryValue place) = 7

-- the byte at which the field begins; of a wrong length, the length; of a wrong total, the header's field for it
abbrev pub card_fault_place : CardFault → ℕ
card_fault_place (TooShort length) = length
card_fault_place (HeaderField place) = place
card_fault_place (WrongLength length) = length
card_fault_place (RecordByte place) = place
card_fault_place (DriverByte place) = place
card_fault_place (TableStart place) = place
card_fault_place EntryTotal = 4
card_fault_place (EntryValue place) = place
