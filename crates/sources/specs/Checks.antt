-- The checks of a card, in their order: the header in rising place, the length, the records byte by byte, the total of the entries, the
-- entries.
use Rattle.std.specs.Prelude.{ℕ, ◌+◌, cond, not, ◌&&◌, ◌||◌, List, [], ◌∷◌, ◌++◌, length, take, Option, ◌==◌, nat_le, nat_lt}
use Rattle.plan.specs.Limits.{most_measures, most_classes, most_drivers, most_alteration, never}
use Rattle.plan.specs.Sums.{among}
use Rattle.sources.specs.First.{Check, check, first_failing, each_below}
use Rattle.sources.specs.Layout.{header_length, most_entries, no_driver_byte, byte, le16, le32, measures_of, entries_of, record_at, classes_of, driver_count_of, driver_byte, drivers_of, start_of, earlier_lengths, entry_at, entry_of, stated_length}
use Rattle.sources.specs.declared.fault.CardFault.{CardFault}
use Rattle.sources.specs.declared.fault.CardFault.TheVariants.{TooShort, HeaderField, WrongLength, RecordByte, DriverByte, TableStart, EntryTotal, EntryValue}

abbrev pub header_checks : List ℕ → List (Check CardFault)
header_checks bs =
    check (nat_le header_length (length bs)) (TooShort (length bs))
    ∷ check (nat_le (measures_of bs) most_measures) (HeaderField 0)
    ∷ check (le16 bs 2 == 0) (HeaderField 2)
    ∷ check (nat_le (entries_of bs) most_entries) (HeaderField 4)
    ∷ check (le32 bs 8 == header_length) (HeaderField 8)
    ∷ check (le32 bs 12 == record_at (measures_of bs)) (HeaderField 12)
    ∷ check (length bs == stated_length bs) (WrongLength (length bs))
    ∷ []

-- a byte that has to be zero
abbrev pub zero_check : List ℕ → ℕ → Check CardFault
zero_check bs place = check (byte bs place == 0) (RecordByte place)

-- a used driver has a lower number than m and is none of those before it; an unused one is marked so
abbrev pub driver_check : List ℕ → ℕ → ℕ → Check CardFault
driver_check bs m k =
    let d : ℕ = driver_byte bs m k in
    let place : ℕ = record_at m + 4 + k in
    cond (nat_lt k (driver_count_of bs m))
    (check (nat_lt d m && not (among (take k (drivers_of bs m)) d)) (DriverByte place))
    (check (d == no_driver_byte) (RecordByte place))

-- the three driver bytes, in rising place
abbrev pub driver_checks : List ℕ → ℕ → List (Check CardFault)
driver_checks bs m = each_below most_drivers (λ k. driver_check bs m k ∷ [])

-- the bytes of a record before its driver bytes
abbrev pub front_checks : List ℕ → ℕ → List (Check CardFault)
front_checks bs m =
    let place : ℕ = record_at m in
    check (nat_le 1 (classes_of bs m) && nat_le (classes_of bs m) most_classes) (RecordByte place)
    ∷ check (nat_le (byte bs (place + 1)) 1) (RecordByte (place + 1))
    ∷ check (nat_le (driver_count_of bs m) most_drivers) (RecordByte (place + 2))
    ∷ zero_check bs (place + 3)
    ∷ []

-- the bytes of a record after its driver bytes
abbrev pub back_checks : List ℕ → ℕ → List (Check CardFault)
back_checks bs m =
    let place : ℕ = record_at m in
    zero_check bs (place + 7)
    ∷ zero_check bs (place + 10)
    ∷ zero_check bs (place + 11)
    ∷ check (start_of bs m == earlier_lengths bs m) (TableStart (place + 12))
    ∷ []

-- a record, byte by byte in rising place
abbrev pub record_checks : List ℕ → ℕ → List (Check CardFault)
record_checks bs m =
    let place : ℕ = record_at m in
    check (nat_le 1 (classes_of bs m) && nat_le (classes_of bs m) most_classes) (RecordByte place)
    ∷ check (nat_le (byte bs (place + 1)) 1) (RecordByte (place + 1))
    ∷ check (nat_le (driver_count_of bs m) most_drivers) (RecordByte (place + 2))
    ∷ zero_check bs (place + 3)
    ∷ driver_check bs m 0
    ∷ driver_check bs m 1
    ∷ driver_check bs m 2
    ∷ zero_check bs (place + 7)
    ∷ zero_check bs (place + 10)
    ∷ zero_check bs (place + 11)
    ∷ check (start_of bs m == earlier_lengths bs m) (TableStart (place + 12))
    ∷ []

abbrev pub total_checks : List ℕ → List (Check CardFault)
total_checks bs = check (entries_of bs == earlier_lengths bs (measures_of bs)) EntryTotal ∷ []

abbrev pub entry_checks : List ℕ → ℕ → List (Check CardFault)
entry_checks bs j =
    check (nat_le (entry_of bs j) most_alteration || entry_of bs j == never) (EntryValue (entry_at bs j)) ∷ []

unfoldable pub card_checks : List ℕ → List (Check CardFault)
card_checks bs =
    header_checks bs
    ++ each_below (measures_of bs) (record_checks bs)
    ++ total_checks bs
    ++ each_below (entries_of bs) (entry_checks bs)

-- the first fault of a card, if it has one
abbrev pub card_fault : List ℕ → Option CardFault
card_fault bs = first_failing (card_checks bs)
