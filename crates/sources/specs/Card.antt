-- The plan that a card stands for.
use Rattle.std.specs.Prelude.{ℕ, ◌+◌, true, cond, List, [], Some, None, Option, nat_lt}
use Rattle.plan.specs.Limits.{never}
use Rattle.plan.specs.Plan.{Plan, no_measures}
use Rattle.sources.specs.Layout.{measures_of, classes_of, barred_of, drivers_of, weight_of, length_of, start_of, entry_of}
use Rattle.sources.specs.Checks.{card_fault}
use Rattle.sources.specs.declared.fault.CardFault.{CardFault}

-- what the bytes say where no check fails
abbrev pub read_card : List ℕ → Plan
read_card bs = record {
  count = measures_of bs;
  classes = λ m. cond (nat_lt m (measures_of bs)) (classes_of bs m) 0;
  weight = λ m. cond (nat_lt m (measures_of bs)) (weight_of bs m) 0;
  barred = λ m. cond (nat_lt m (measures_of bs)) (barred_of bs m) true;
  drivers = λ m. cond (nat_lt m (measures_of bs)) (drivers_of bs m) [];
  entry = λ m place.
      cond (nat_lt m (measures_of bs)) (cond (nat_lt place (length_of bs m)) (entry_of bs (start_of bs m + place)) never) never;
}

abbrev pub plan_unless : Option CardFault → Plan → Plan
plan_unless None p = p
plan_unless (Some e) p = no_measures

-- the card's plan, or the plan of no measures where a check fails
unfoldable pub card_plan : List ℕ → Plan
card_plan bs = plan_unless (card_fault bs) (read_card bs)
