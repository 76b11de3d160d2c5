-- What a plan is, and the limits that a lawful one keeps.
use Rattle.std.specs.Prelude.{◌≡◌, ℕ, ◌<◌, ◌≤◌, Bool, true, ◌≢◌, ◌⊎◌, List, [], ◌∷◌, ◌++◌, map, length, Option, slice_index}
use Rattle.std.specs.List.{slice_get}
use Rattle.plan.specs.Sums.{product}
use Rattle.plan.specs.Limits.{most_measures, most_classes, most_drivers, most_weight, most_alteration, never}

-- A plan of measures, numbered from 0. Each has classes, numbered from 0; a weight; a mark whether it may not be held (barred); the
-- measures that drive it, in order; and a table of alterations.
pub record Plan : Type 0 where
  pub count : ℕ
  pub classes : ℕ → ℕ
  pub weight : ℕ → ℕ
  pub barred : ℕ → Bool
  pub drivers : ℕ → List ℕ
  pub entry : ℕ → ℕ → ℕ

-- the measures that the table of m reads: its drivers, then m itself
abbrev pub scope : Plan → ℕ → List ℕ
scope p m = p.drivers m ++ (m ∷ [])

-- A table has one entry for each choice of classes of its measures; the first driver's class turns slowest, the own class fastest.
abbrev pub table_length : Plan → ℕ → ℕ
table_length p m = product (map p.classes (scope p m))

-- the driver of m at a position, if it has one there
abbrev pub driver_at : Plan → ℕ → ℕ → Option ℕ
driver_at p m position = slice_get (p.drivers m) position

-- an entry is an alteration within the limit, or never
abbrev pub Entry : ℕ → Type 0
Entry e = (e ≤ most_alteration) ⊎ (e ≡ never)

-- what is told of a number that is no measure
pub record Outside (p : Plan) (m : ℕ) : Type 0 where
  pub no_class : p.classes m ≡ 0
  pub no_weight : p.weight m ≡ 0
  pub not_held : p.barred m ≡ true
  pub no_driver : p.drivers m ≡ []

pub record Lawful (p : Plan) : Type 0 where
  pub few_measures : p.count ≤ most_measures
  pub some_class : (m : ℕ) → m < p.count → 1 ≤ p.classes m
  pub few_classes : (m : ℕ) → p.classes m ≤ most_classes
  pub bounded_weight : (m : ℕ) → p.weight m ≤ most_weight
  pub few_drivers : (m : ℕ) → length (p.drivers m) ≤ most_drivers
  -- a driver has a lower number than what it drives, so nothing drives itself, even by way of others
  pub lower_drivers : (m k : ℕ) → k < length (p.drivers m) → slice_index (p.drivers m) k < m
  pub distinct_drivers : (m j k : ℕ) → j < k → k < length (p.drivers m) → slice_index (p.drivers m) j ≢ slice_index (p.drivers m) k
  pub bounded_entry : (m place : ℕ) → Entry (p.entry m place)
  -- past the end of a table there is never; so there is outside the plan, where a table has no entry
  pub past_table : (m place : ℕ) → table_length p m ≤ place → p.entry m place ≡ never
  pub outside : (m : ℕ) → p.count ≤ m → Outside p m

-- the plan of no measures
abbrev pub no_measures : Plan
no_measures = record {
  count = 0;
  classes = λ m. 0;
  weight = λ m. 0;
  barred = λ m. true;
  drivers = λ m. [];
  entry = λ m place. never;
}
