-- A measure of a card's plan.
use Rattle.std.specs.Prelude.{◌≡◌, ℕ, ◌+◌, ◌<◌, ◌≤◌, cond, List, length, nat_lt}
use Rattle.plan.specs.Limits.{never}
use Rattle.sources.specs.Layout.{record_length, measures_of, record_at, classes_of, barred_of, drivers_of, weight_of, length_of, start_of, entry_of}
use Rattle.sources.specs.Card.{card_plan}
use Rattle.sources.specs.Passed.{CardPassed}

-- what is known of a measure of a card's plan: its record lies within the card, and the plan says what the record says
pub record Inside (bs : List ℕ) (m : ℕ) : Type 0 where
  pub passed : CardPassed bs
  pub count : (card_plan bs).count ≡ measures_of bs
  pub below : m < measures_of bs
  pub within : record_at m + record_length ≤ length bs
  pub classes : classes_of bs m ≡ (card_plan bs).classes m
  pub weight : weight_of bs m ≡ (card_plan bs).weight m
  pub barred : barred_of bs m ≡ (card_plan bs).barred m
  pub drivers : drivers_of bs m ≡ (card_plan bs).drivers m
  pub entry : (place : ℕ) → cond (nat_lt place (length_of bs m)) (entry_of bs (start_of bs m + place)) never ≡ (card_plan bs).entry m place
