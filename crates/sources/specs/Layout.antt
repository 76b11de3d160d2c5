-- How a plan lies in the bytes of a card: a header of 16 bytes, a record of 16 bytes for each measure, an entry of 4 bytes for each place
-- of each table. Numbers are unsigned, low byte first.
use Rattle.std.specs.Prelude.{ℕ, ◌+◌, ◌*◌, Bool, List, [], ◌∷◌, ◌++◌, map, take, ◌==◌, slice_index}
use Rattle.plan.specs.Sums.{all, over, product}

abbrev pub header_length : ℕ
header_length = 16

abbrev pub record_length : ℕ
record_length = 16

abbrev pub entry_length : ℕ
entry_length = 4

-- the most entries of a card, of all its tables together
abbrev pub most_entries : ℕ
most_entries = 12288

-- what a driver byte holds where there is no driver
abbrev pub no_driver_byte : ℕ
no_driver_byte = 255

abbrev pub byte : List ℕ → ℕ → ℕ
byte bs place = slice_index bs place

abbrev pub le16 : List ℕ → ℕ → ℕ
le16 bs place = byte bs place + 256 * byte bs (place + 1)

abbrev pub le32 : List ℕ → ℕ → ℕ
le32 bs place = le16 bs place + 65536 * le16 bs (place + 2)

-- the header: the number of measures, and the number of entries
abbrev pub measures_of : List ℕ → ℕ
measures_of bs = le16 bs 0

abbrev pub entries_of : List ℕ → ℕ
entries_of bs = le32 bs 4

-- the record of the measure m: classes, barred, number of drivers, 0, three driver bytes, 0, weight, two zero bytes, start of its table
abbrev pub record_at : ℕ → ℕ
record_at m = header_length + record_length * m

abbrev pub classes_of : List ℕ → ℕ → ℕ
classes_of bs m = byte bs (record_at m)

abbrev pub barred_of : List ℕ → ℕ → Bool
barred_of bs m = byte bs (record_at m + 1) == 1

abbrev pub driver_count_of : List ℕ → ℕ → ℕ
driver_count_of bs m = byte bs (record_at m + 2)

abbrev pub driver_byte : List ℕ → ℕ → ℕ → ℕ
driver_byte bs m position = byte bs (record_at m + 4 + position)

abbrev pub drivers_of : List ℕ → ℕ → List ℕ
drivers_of bs m = take (driver_count_of bs m) (driver_byte bs m 0 ∷ driver_byte bs m 1 ∷ driver_byte bs m 2 ∷ [])

abbrev pub weight_of : List ℕ → ℕ → ℕ
weight_of bs m = le16 bs (record_at m + 8)

abbrev pub start_of : List ℕ → ℕ → ℕ
start_of bs m = le32 bs (record_at m + 12)

-- how many entries the table of m has
unfoldable pub length_of : List ℕ → ℕ → ℕ
length_of bs m = product (map (classes_of bs) (drivers_of bs m ++ (m ∷ [])))

-- how many entries the tables before that of m have together
unfoldable pub earlier_lengths : List ℕ → ℕ → ℕ
earlier_lengths bs m = over m all (length_of bs)

-- where the entry with the number j lies, of all the card's entries, and its value
abbrev pub entry_at : List ℕ → ℕ → ℕ
entry_at bs j = record_at (measures_of bs) + entry_length * j

abbrev pub entry_of : List ℕ → ℕ → ℕ
entry_of bs j = le32 bs (entry_at bs j)

-- the length that a card states of itself
abbrev pub stated_length : List ℕ → ℕ
stated_length bs = entry_at bs (entries_of bs)
