-- What is known of a card past each part of its checks.
use Rattle.std.specs.Prelude.{◌≡◌, ℕ, ◌+◌, ◌*◌, ◌<◌, ◌≤◌, false, List, length, take, None}
use Rattle.plan.specs.Limits.{most_measures, most_classes, most_drivers}
use Rattle.plan.specs.Plan.{Entry}
use Rattle.plan.specs.Sums.{among}
use Rattle.sources.specs.First.{first_failing}
use Rattle.sources.specs.Layout.{entry_length, most_entries, measures_of, entries_of, record_at, classes_of, driver_count_of, driver_byte, drivers_of, start_of, earlier_lengths, entry_of}
use Rattle.sources.specs.Checks.{header_checks}

-- past the header: its two numbers, within their limits, and the length that they state
pub record HeaderPassed (bs : List ℕ) (measures entries : ℕ) : Type 0 where
  pub none_fails : first_failing (header_checks bs) ≡ None
  pub measures_read : measures ≡ measures_of bs
  pub entries_read : entries ≡ entries_of bs
  pub few_measures : measures ≤ most_measures
  pub few_entries : entries ≤ most_entries
  pub as_long : length bs ≡ record_at measures + entry_length * entries

-- past the record of m: classes and drivers within their limits, and its table where the earlier ones end
pub record RecordPassed (bs : List ℕ) (m : ℕ) : Type 0 where
  pub some_class : 1 ≤ classes_of bs m
  pub few_classes : classes_of bs m ≤ most_classes
  pub few_drivers : driver_count_of bs m ≤ most_drivers
  pub lower_driver : (k : ℕ) → k < driver_count_of bs m → driver_byte bs m k < m
  pub new_driver : (k : ℕ) → k < driver_count_of bs m → among (take k (drivers_of bs m)) (driver_byte bs m k) ≡ false
  pub start_read : start_of bs m ≡ earlier_lengths bs m

-- the records below n have passed
abbrev pub RecordsPassed : List ℕ → ℕ → Type 0
RecordsPassed bs n = (m : ℕ) → m < n → RecordPassed bs m

-- past all checks
pub record CardPassed (bs : List ℕ) : Type 0 where
  pub header : HeaderPassed bs (measures_of bs) (entries_of bs)
  pub records : RecordsPassed bs (measures_of bs)
  pub total : entries_of bs ≡ earlier_lengths bs (measures_of bs)
  pub entries : (j : ℕ) → j < entries_of bs → Entry (entry_of bs j)
