-- The plan of a card is lawful, whatever its bytes; that each of them is below 256 bounds the weights. A card owes this as a source, by a
-- ghost member, and that can cite only what stands in specs; so this theorem and the laws that it takes are here and not among the proofs.
use Rattle.std.specs.Prelude.{◌≡◌, ℕ, zero, suc, ◌+◌, ◌<◌, ◌≤◌, Bool, true, false, cond, ltb, ◌≢◌, List, [], ◌∷◌, ◌++◌, map, length, take, Some, None, Option, ◌==◌, nat_lt, slice_index, slice_index_or, refl}
use Rattle.std.proofs.Common.{inr, sym, subst, ◌∙◌, arith, length-take, get_or-take, ltb-true, ltb-false, lt-ltb, le-ltb}
use Rattle.std.proofs.Math.Path.{ap}
use Rattle.std.proofs.lemmas.Bool.{or_parts, eqb-false}
use Rattle.plan.specs.Limits.{most_classes, most_drivers, most_weight, never}
use Rattle.plan.specs.Plan.{Lawful, Entry, table_length, no_measures}
use Rattle.plan.specs.Sums.{among, product}
use Rattle.sources.specs.Layout.{byte, measures_of, record_at, classes_of, barred_of, driver_count_of, driver_byte, drivers_of, weight_of, length_of, start_of, entry_of}
use Rattle.sources.specs.LayoutLaws.{length_drivers, get_or_drivers, earlier_lengths_within}
use Rattle.sources.specs.Checks.{card_fault}
use Rattle.sources.specs.Card.{read_card, plan_unless, card_plan}
use Rattle.sources.specs.Passed.{CardPassed}
use Rattle.sources.specs.PassedLaws.{card_passed}
use Rattle.sources.specs.declared.fault.CardFault.{CardFault}

-- what holds of x below a limit and of y from it on holds of the choice between them
by_limit : {A : Type 0} (P : A → Type 0) (k limit : ℕ) (x y : A) → (k < limit → P x) → (limit ≤ k → P y) → P (cond (nat_lt k limit) x y)
by_limit P k limit x y below above = by_test (nat_lt k limit) refl
  where
    by_test : (t : Bool) → nat_lt k limit ≡ t → P (cond t x y)
    by_test true e = below (ltb-true k limit e)
    by_test false e = above (ltb-false k limit e)

-- what is not among the members of a list is none of them
among_none : (xs : List ℕ) (x : ℕ) → among xs x ≡ false → (k : ℕ) → k < length xs → slice_index xs k ≢ x
among_none [] x none k h = absurd (omega arith)
among_none (y ∷ ys) x none zero h = λ same. eqb-false x y (or_parts (x == y) (among ys x) none).0 (sym same)
among_none (y ∷ ys) x none (suc k) h = among_none ys x (or_parts (x == y) (among ys x) none).1 k (omega arith)

-- two functions that agree on the members of a list and on one more
map_same : (f g : ℕ → ℕ) (xs : List ℕ) (x : ℕ) → ((k : ℕ) → k < length xs → f (slice_index xs k) ≡ g (slice_index xs k)) → f x ≡ g x → map f (xs ++ x ∷ []) ≡ map g (xs ++ x ∷ [])
map_same f g [] x each last = ap (λ y. y ∷ []) last
map_same f g (y ∷ ys) x each last =
    ap (λ z. z ∷ map f (ys ++ x ∷ [])) (each 0 (omega arith))
    ∙ ap (λ zs. g y ∷ zs) (map_same f g ys x (λ k h. each (suc k) (omega arith)) last)

no_measures_lawful : Lawful no_measures
no_measures_lawful =
    record {
      few_measures = omega arith;
      some_class = λ m h. absurd (omega arith);
      few_classes = λ m. omega arith;
      bounded_weight = λ m. omega arith;
      few_drivers = λ m. omega arith;
      lower_drivers = λ m k h. absurd (omega arith);
      distinct_drivers = λ m j k below h. absurd (omega arith);
      bounded_entry = λ m place. inr refl;
      past_table = λ m place h. refl;
      outside = λ m h. record { no_class = refl; no_weight = refl; not_held = refl; no_driver = refl };
    }

module _ (bs : List ℕ) (octets : (k : ℕ) → byte bs k < 256) (passed : CardPassed bs) where
  -- the drivers of a record that has passed, by position
  position_used : (m k : ℕ) → m < measures_of bs → k < length (drivers_of bs m) → (k < driver_count_of bs m) × (k < most_drivers)
  position_used m k inside h = (omega (arith, length_drivers bs m), omega (arith, length_drivers bs m))

  driver_lower : (m k : ℕ) → m < measures_of bs → k < length (drivers_of bs m) → slice_index (drivers_of bs m) k < m
  driver_lower m k inside h =
      let used = position_used m k inside h in
      subst (λ (d : ℕ). d < m) (sym (get_or_drivers bs m k used.0 used.1)) ((passed.records m inside).lower_driver k used.0)

  driver_distinct : (m j k : ℕ) → m < measures_of bs → j < k → k < length (drivers_of bs m) → slice_index (drivers_of bs m) j ≢ slice_index (drivers_of bs m) k
  driver_distinct m j k inside below h same =
      let used = position_used m k inside h in
      among_none (take k (drivers_of bs m)) (driver_byte bs m k) ((passed.records m inside).new_driver k used.0) j
      (omega (arith, length-take k (drivers_of bs m)))
      (get_or-take k (drivers_of bs m) j 0 below ∙ same ∙ get_or_drivers bs m k used.0 used.1)

  -- inside the plan a table is as long as its record says
  table_length_read : (m : ℕ) → m < measures_of bs → table_length (read_card bs) m ≡ length_of bs m
  unfolding length_of
  table_length_read m inside =
      let n : ℕ = measures_of bs in
      let classes : ℕ → ℕ = (read_card bs).classes in
      let read : (d : ℕ) → d < n → classes d ≡ classes_of bs d = λ d h. ap (λ t. cond t (classes_of bs d) 0) (lt-ltb d n h) in
      ap (λ t. product (map classes (cond t (drivers_of bs m) [] ++ m ∷ []))) (lt-ltb m n inside)
      ∙ ap product
      (map_same classes (classes_of bs) (drivers_of bs m) m
      (λ k h. let lower : slice_index_or (drivers_of bs m) k 0 < m = driver_lower m k inside h in read (slice_index (drivers_of bs m) k) (omega arith))
      (read m inside))

  -- an entry of a table is one of the card's entries
  entry_read : (m place : ℕ) → m < measures_of bs → place < length_of bs m → Entry (entry_of bs (start_of bs m + place))
  entry_read m place inside below =
      passed.entries (start_of bs m + place)
      (omega (arith, (passed.records m inside).start_read, earlier_lengths_within bs (measures_of bs) m inside, passed.total))

  read_card_lawful : Lawful (read_card bs)
  read_card_lawful =
      let n : ℕ = measures_of bs in
      record {
        few_measures = passed.header.few_measures;
        some_class = λ m inside. by_limit (λ c. 1 ≤ c) m n (classes_of bs m) 0 (λ h. (passed.records m h).some_class) (λ h. absurd (omega arith));
        few_classes = λ m. by_limit (λ c. c ≤ most_classes) m n (classes_of bs m) 0 (λ h. (passed.records m h).few_classes) (λ h. omega arith);
        bounded_weight = λ m. by_limit (λ w. w ≤ most_weight) m n (weight_of bs m) 0
            (λ h. omega (arith, octets (record_at m + 8), octets (record_at m + 8 + 1))) (λ h. omega arith);
        few_drivers = λ m. by_limit (λ ds. length ds ≤ most_drivers) m n (drivers_of bs m) [] (λ h. omega (arith, length_drivers bs m)) (λ h. omega arith);
        lower_drivers = λ m. by_limit (λ ds. (k : ℕ) → k < length ds → slice_index ds k < m) m n (drivers_of bs m) []
            (λ inside k h. driver_lower m k inside h) (λ out k h. absurd (omega arith));
        distinct_drivers = λ m. by_limit (λ ds. (j k : ℕ) → j < k → k < length ds → slice_index ds j ≢ slice_index ds k) m n (drivers_of bs m) []
            (λ inside j k below h. driver_distinct m j k inside below h) (λ out j k below h. absurd (omega arith));
        bounded_entry = λ m place. by_limit Entry m n (cond (nat_lt place (length_of bs m)) (entry_of bs (start_of bs m + place)) never) never
            (λ inside. by_limit Entry place (length_of bs m) (entry_of bs (start_of bs m + place)) never (λ below. entry_read m place inside below) (λ past. inr refl))
            (λ out. inr refl);
        past_table = λ m place past. by_limit (λ e. e ≡ never) m n (cond (nat_lt place (length_of bs m)) (entry_of bs (start_of bs m + place)) never) never
            (λ inside. ap (λ t. cond t (entry_of bs (start_of bs m + place)) never) (le-ltb place (length_of bs m) (omega (arith, table_length_read m inside))))
            (λ out. refl);
        outside = λ m out.
            let test : ltb m n ≡ false = le-ltb m n out in
            record {
              no_class = ap (λ t. cond t (classes_of bs m) 0) test;
              no_weight = ap (λ t. cond t (weight_of bs m) 0) test;
              not_held = ap (λ t. cond t (barred_of bs m) true) test;
              no_driver = ap (λ t. cond t (drivers_of bs m) []) test;
            };
      }

pub card_lawful : (bs : List ℕ) → ((k : ℕ) → byte bs k < 256) → Lawful (card_plan bs)
unfolding card_plan
card_lawful bs octets = by_fault (card_fault bs) (λ none. read_card_lawful bs octets (card_passed bs none))
  where
    by_fault : (o : Option CardFault) → (o ≡ None → Lawful (read_card bs)) → Lawful (plan_unless o (read_card bs))
    by_fault None lawful = lawful refl
    by_fault (Some e) lawful = no_measures_lawful
