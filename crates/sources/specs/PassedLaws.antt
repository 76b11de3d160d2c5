-- What is known past each part of a card's checks, from no check of it failing. These laws stand here and not among the proofs for the
-- same reason as FirstLaws.
use Rattle.std.specs.Prelude.{◌≡◌, ℕ, zero, suc, ◌+◌, ◌<◌, ◌≤◌, Bool, true, false, cond, not, ◌&&◌, ◌||◌, List, ◌++◌, take, None, ◌==◌, nat_le, nat_lt, refl}
use Rattle.std.proofs.Common.{inl, inr, sym, ap, ◌∙◌, arith, lt-ltb, ltb-true, leb-true, eqb-true}
use Rattle.std.proofs.lemmas.Bool.{and_parts, not-true}
use Rattle.plan.specs.Limits.{most_classes, most_drivers, most_alteration, never}
use Rattle.plan.specs.Plan.{Entry}
use Rattle.plan.specs.Sums.{among}
use Rattle.sources.specs.First.{Check, check, first_failing, each_below}
use Rattle.sources.specs.FirstLaws.{each_holds, none_fails_append, none_fails_below}
use Rattle.sources.specs.Layout.{no_driver_byte, measures_of, entries_of, record_at, classes_of, driver_count_of, driver_byte, drivers_of, entry_of}
use Rattle.sources.specs.Checks.{driver_check, header_checks, record_checks, total_checks, entry_checks, card_checks, card_fault}
use Rattle.sources.specs.Passed.{HeaderPassed, RecordPassed, RecordsPassed, CardPassed}
use Rattle.sources.specs.declared.fault.CardFault.{CardFault}
use Rattle.sources.specs.declared.fault.CardFault.TheVariants.{RecordByte, DriverByte}

pub header_passed : (bs : List ℕ) → first_failing (header_checks bs) ≡ None → HeaderPassed bs (measures_of bs) (entries_of bs)
header_passed bs none =
    let h = each_holds (header_checks bs) none in
    record {
      none_fails = none;
      measures_read = refl;
      entries_read = refl;
      few_measures = leb-true _ _ h.1.0;
      few_entries = leb-true _ _ h.1.1.1.0;
      as_long = eqb-true _ _ h.1.1.1.1.1.1.0;
    }

-- a used driver byte that passes names a measure below m that none before it names
used_driver : (bs : List ℕ) (m k : ℕ) → k < driver_count_of bs m → (driver_check bs m k).holds ≡ true → (driver_byte bs m k < m) × (among (take k (drivers_of bs m)) (driver_byte bs m k) ≡ false)
used_driver bs m k used h =
    let place : ℕ = record_at m + 4 + k in
    let test : Bool = nat_lt (driver_byte bs m k) m && not (among (take k (drivers_of bs m)) (driver_byte bs m k)) in
    let h' : test ≡ true =
    sym (ap (λ t. (cond t (check test (DriverByte place)) (check (driver_byte bs m k == no_driver_byte) (RecordByte place))).holds) (lt-ltb k (driver_count_of bs m) used)) ∙ h in
    let parts = and_parts (nat_lt (driver_byte bs m k) m) (not (among (take k (drivers_of bs m)) (driver_byte bs m k))) h' in
    (ltb-true _ _ parts.0, not-true _ parts.1)

-- each driver byte passes where the three do
by_position : (bs : List ℕ) (m : ℕ) → (driver_check bs m 0).holds ≡ true → (driver_check bs m 1).holds ≡ true → (driver_check bs m 2).holds ≡ true → (k : ℕ) → k < most_drivers → (driver_check bs m k).holds ≡ true
by_position bs m first second third zero h = first
by_position bs m first second third (suc zero) h = second
by_position bs m first second third (suc (suc zero)) h = third
by_position bs m first second third (suc (suc (suc k))) h = absurd (omega arith)

pub record_passed : (bs : List ℕ) (m : ℕ) → first_failing (record_checks bs m) ≡ None → RecordPassed bs m
record_passed bs m none =
    let h = each_holds (record_checks bs m) none in
    let classes = and_parts (nat_le 1 (classes_of bs m)) (nat_le (classes_of bs m) most_classes) h.0 in
    let few : driver_count_of bs m ≤ most_drivers = leb-true _ _ h.1.1.0 in
    let d = h.1.1.1.1 in
    let passes : (k : ℕ) → k < driver_count_of bs m → (driver_check bs m k).holds ≡ true =
    λ k used. by_position bs m d.0 d.1.0 d.1.1.0 k (omega arith) in
    record {
      some_class = leb-true _ _ classes.0;
      few_classes = leb-true _ _ classes.1;
      few_drivers = few;
      lower_driver = λ k used. (used_driver bs m k used (passes k used)).0;
      new_driver = λ k used. (used_driver bs m k used (passes k used)).1;
      start_read = eqb-true _ _ d.1.1.1.1.1.1.0;
    }

pub records_passed : (bs : List ℕ) (n : ℕ) → first_failing (each_below n (record_checks bs)) ≡ None → RecordsPassed bs n
records_passed bs n none m below = record_passed bs m (none_fails_below n (record_checks bs) none m below)

-- an entry that passes is one of a plan
entry_passed : (bs : List ℕ) (j : ℕ) → first_failing (entry_checks bs j) ≡ None → Entry (entry_of bs j)
entry_passed bs j none =
    by_test (nat_le (entry_of bs j) most_alteration) refl (each_holds (entry_checks bs j) none).0
  where
    by_test : (t : Bool) → nat_le (entry_of bs j) most_alteration ≡ t → (t || entry_of bs j == never) ≡ true → Entry (entry_of bs j)
    by_test true small h = inl (leb-true _ _ small)
    by_test false large h = inr (eqb-true _ _ h)

pub card_passed : (bs : List ℕ) → card_fault bs ≡ None → CardPassed bs
unfolding card_checks
card_passed bs none =
    let records : List (Check CardFault) = each_below (measures_of bs) (record_checks bs) in
    let entries : List (Check CardFault) = each_below (entries_of bs) (entry_checks bs) in
    let three = none_fails_append (header_checks bs ++ records ++ total_checks bs) entries none in
    let two = none_fails_append (header_checks bs ++ records) (total_checks bs) three.0 in
    let one = none_fails_append (header_checks bs) records two.0 in
    record {
      header = header_passed bs one.0;
      records = records_passed bs (measures_of bs) one.1;
      total = eqb-true _ _ (each_holds (total_checks bs) two.1).0;
      entries = λ j h. entry_passed bs j (none_fails_below (entries_of bs) (entry_checks bs) three.1 j h);
    }
