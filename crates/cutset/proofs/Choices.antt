-- Members, weight and settings, counted one by one.
use Rattle.std.proofs.Common.{◌≡◌, ℕ, suc, ◌+◌, ◌*◌, ◌<◌, ◌≤◌, true, false, List, [], ◌∷◌, ◌++◌, length, sym, refl, inl, inr, mul-zero, mul-one, arith, length-append}
use Rattle.std.proofs.lemmas.Nat.{mul-le}
use Rattle.std.proofs.lemmas.List.{append-nil}
use Rattle.std.proofs.lemmas.Bool.{cases_lt}
use Rattle.std.proofs.lemmas.Bool.Decides.{nat_tests}
use Rattle.plan.specs.Limits.{most_weight}
use Rattle.plan.specs.Plan.{Plan, Lawful}
use Rattle.plan.specs.Sums.{Set, over, times, rising}
use Rattle.plan.proofs.Sums.{over_more, over_none_yet, times_more, rising_more}
use Rattle.cutset.specs.Method.{Choice, choice_of, most_settings, capped}

pub capped_small : (a : ℕ) → a ≤ most_settings → capped a ≡ a
capped_small a l = grind (arith, nat_tests)

pub capped_large : (a : ℕ) → most_settings < a → capped a ≡ suc most_settings
capped_large a l = grind (arith, nat_tests)

pub capped_le : (a : ℕ) → capped a ≤ suc most_settings
capped_le a = grind (arith, nat_tests)

-- a product may be cut at the limit before the next factor
pub capped-times : (a b : ℕ) → capped (capped a * b) ≡ capped (a * b)
capped-times a b =
    elim (cases_lt most_settings a) [
      | inr small ↦ rw (capped_small a small)
      | inl large ↦
          rw (capped_large a large) (elim (cases_lt 0 b) [
            | inl some ↦
                grind (arith, nat_tests, mul-le (suc most_settings) 1 (suc most_settings) b (omega arith) some, mul-le (suc most_settings) 1 a b large some)
            | inr none ↦ let zero : b ≡ 0 = omega arith in rw (zero, mul-zero, mul-zero)
          ])
    ]

-- the members of H below m in rising order, with their weight and settings
pub record Counted (p : Plan) (H : Set) (m : ℕ) (members : List ℕ) (weight settings : ℕ) : Type 0 where
  pub few : length members ≤ m
  pub list : members ≡ rising m H
  pub sum : weight ≡ over m H p.weight
  pub bounded : weight ≤ most_weight * m
  pub product : settings ≡ capped (times m H p.classes)

module _ (p : Plan) (H : Set) where
  pub counted_none : Counted p H 0 [] 0 1
  unfolding rising times
  counted_none = record {
    few = omega arith;
    list = refl;
    sum = sym (over_none_yet H p.weight);
    bounded = omega arith;
    product = refl;
  }

  module _ (m : ℕ) (members : List ℕ) (weight settings : ℕ) (c : Counted p H m members weight settings) where
    -- the next measure is held
    pub counted_yes : Lawful p → H m ≡ true
        → Counted p H (m + 1) (members ++ (m ∷ [])) (weight + p.weight m) (capped (settings * p.classes m))
    counted_yes law here = record {
      few = omega (arith, c.few, length-append members (m ∷ []));
      list = rw (c.list, rising_more m H, here);
      sum = rw (c.sum, over_more m H p.weight, here);
      bounded = omega (arith, c.bounded, law.bounded_weight m);
      product = rw (c.product, times_more m H p.classes, here) (capped-times (times m H p.classes) (p.classes m));
    }

    -- the next measure is not held
    pub counted_no : H m ≡ false → Counted p H (m + 1) members weight settings
    counted_no gone = record {
      few = omega (arith, c.few);
      list = rw (rising_more m H, gone, append-nil) c.list;
      sum = rw (over_more m H p.weight, gone) (omega (arith, c.sum));
      bounded = omega (arith, c.bounded);
      product = rw (times_more m H p.classes, gone, mul-one) c.product;
    }

  pub counted_all : (members : List ℕ) (weight settings : ℕ) → Counted p H p.count members weight settings
      → ◌≡◌ {A = Choice} (record { members = members; weight = weight; settings = settings }) (choice_of p H)
  unfolding choice_of
  counted_all members weight settings c = let e = c.list in let f = c.sum in let g = c.product in cc
