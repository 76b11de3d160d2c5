-- The plan of a card that is accepted, and of one that is refused.
use Rattle.std.proofs.Common.{◌≡◌, ℕ, ◌+◌, ◌<◌, ◌≤◌, true, cond, ltb, List, [], length, get_or, Some, None, sym, ap, ◌∙◌, subst, ⊎_elim, arith, le-ltb, lt-ltb}
use Rattle.std.proofs.lemmas.Bool.{cases_lt}
use Rattle.std.specs.List.{slice_get}
use Rattle.std.proofs.lemmas.Option.{slice_get-get_or}
use Rattle.plan.specs.Limits.{most_drivers, never}
use Rattle.plan.specs.Plan.{no_measures, driver_at}
use Rattle.sources.specs.FirstLaws.{none_or_some}
use Rattle.sources.specs.Layout.{measures_of, entries_of, record_at, byte, classes_of, barred_of, driver_count_of, driver_byte, drivers_of, weight_of, length_of, start_of, entry_of}
use Rattle.sources.specs.LayoutLaws.{length_drivers, get_or_drivers, earlier_lengths_within}
use Rattle.sources.specs.Checks.{card_fault}
use Rattle.sources.specs.Card.{read_card, plan_unless, card_plan}
use Rattle.sources.specs.CardLawful.{card_lawful}
use Rattle.sources.specs.Inside.{Inside}
use Rattle.sources.specs.PassedLaws.{card_passed}
use Rattle.sources.specs.declared.fault.CardFault.{CardFault}

-- the classes of a measure are the first byte of its record
pub classes_at : (bs : List ℕ) (m place : ℕ) → place ≡ record_at m → get_or bs (place + 0) 0 ≡ classes_of bs m
classes_at bs m place at = let same : place + 0 ≡ record_at m = omega arith in ap (λ p. get_or bs p 0) same

pub card_plan_accepted : (bs : List ℕ) → card_fault bs ≡ None → card_plan bs ≡ read_card bs
unfolding card_plan
card_plan_accepted bs none = ap (λ o. plan_unless o (read_card bs)) none

pub card_plan_refused : (bs : List ℕ) (e : CardFault) → card_fault bs ≡ Some e → card_plan bs ≡ no_measures
unfolding card_plan
card_plan_refused bs e some = ap (λ o. plan_unless o (read_card bs)) some

-- a card whose plan has a measure is accepted
pub inside_accepted : (bs : List ℕ) (m : ℕ) → m < (card_plan bs).count → card_fault bs ≡ None
inside_accepted bs m inside =
    ⊎_elim
    (λ none. none)
    (λ s. let empty : (card_plan bs).count ≡ 0 = ap (λ p. p.count) (card_plan_refused bs s.0 s.1) in absurd (omega arith))
    (none_or_some (card_fault bs))

pub inside : (bs : List ℕ) (m : ℕ) → m < (card_plan bs).count → Inside bs m
inside bs m h =
    let none = inside_accepted bs m h in
    let same = card_plan_accepted bs none in
    let passed = card_passed bs none in
    let below : m < measures_of bs = subst (λ p. m < p.count) same h in
    let test = lt-ltb m (measures_of bs) below in
    record {
      passed = passed;
      count = ap (λ p. p.count) same;
      below = below;
      within = omega (arith, passed.header.as_long);
      classes = sym (ap (λ p. p.classes m) same ∙ ap (λ t. cond t (classes_of bs m) 0) test);
      weight = sym (ap (λ p. p.weight m) same ∙ ap (λ t. cond t (weight_of bs m) 0) test);
      barred = sym (ap (λ p. p.barred m) same ∙ ap (λ t. cond t (barred_of bs m) true) test);
      drivers = sym (ap (λ p. p.drivers m) same ∙ ap (λ t. cond t (drivers_of bs m) []) test);
      entry = λ place.
          sym
          (ap (λ p. p.entry m place) same
          ∙ ap (λ t. cond t (cond (ltb place (length_of bs m)) (entry_of bs (start_of bs m + place)) never) never) test);
    }

-- outside the plan every entry is never
pub outside_entry : (bs : List ℕ) (m place : ℕ) → (card_plan bs).count ≤ m → never ≡ (card_plan bs).entry m place
outside_entry bs m place out =
    ⊎_elim
    (λ (none : card_fault bs ≡ None).
    let same = card_plan_accepted bs none in
    let past : measures_of bs ≤ m = subst (λ p. p.count ≤ m) same out in
    sym
    (ap (λ p. p.entry m place) same
    ∙ ap (λ t. cond t (cond (ltb place (length_of bs m)) (entry_of bs (start_of bs m + place)) never) never) (le-ltb m (measures_of bs) past)))
    (λ s. sym (ap (λ p. p.entry m place) (card_plan_refused bs s.0 s.1)))
    (none_or_some (card_fault bs))

-- a place of a table is one of the card's entries
pub entry_within : (bs : List ℕ) (m place : ℕ) → Inside bs m → place < length_of bs m → start_of bs m + place < entries_of bs
entry_within bs m place known below =
    omega (arith, (known.passed.records m known.below).start_read, earlier_lengths_within bs (measures_of bs) m known.below, known.passed.total)

-- what has a driver is a measure of the plan
pub driven_inside : (bs : List ℕ) → ((k : ℕ) → byte bs k < 256) → (m k : ℕ) → k < length ((card_plan bs).drivers m) → m < (card_plan bs).count
driven_inside bs octets m k used =
    ⊎_elim
    (λ within. within)
    (λ (out : (card_plan bs).count ≤ m).
    let none : length ((card_plan bs).drivers m) ≡ 0 = ap length ((card_lawful bs octets).outside m out).no_driver in
    absurd (omega arith))
    (cases_lt m (card_plan bs).count)

-- a position that has a driver is one of the three, and its driver is the byte there
pub driver_read : (bs : List ℕ) (m k : ℕ) → Inside bs m → k < length ((card_plan bs).drivers m) → (k < most_drivers) × (Some (driver_byte bs m k) ≡ driver_at (card_plan bs) m k)
driver_read bs m k known used =
    let used' : k < length (drivers_of bs m) = subst (λ ds. k < length ds) (sym known.drivers) used in
    let few : k < most_drivers = omega (arith, length_drivers bs m) in
    let count : k < driver_count_of bs m = omega (arith, length_drivers bs m) in (
      few,
      ap Some (sym (get_or_drivers bs m k count few)) ∙ sym (slice_get-get_or (drivers_of bs m) k 0 used') ∙ ap (λ ds. slice_get ds k) known.drivers,
    )
