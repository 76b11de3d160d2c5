-- Small plans, written out.
use Rattle.std.specs.Prelude.{ℕ, cond, not, ◌||◌, List, [], ◌∷◌, ◌++◌, map, length, nat_lt, slice_index, slice_index_or}
use Rattle.plan.specs.Limits.{never}
use Rattle.plan.specs.Plan.{Plan}
use Rattle.plan.specs.Sums.{among, product}

-- the plan whose measures have these drivers and these weights, two classes each, alteration 0 everywhere, and of which these are barred
abbrev pub two_classes : List (List ℕ) → List ℕ → List ℕ → Plan
two_classes drivers weights barred = record {
  count = length drivers;
  classes = λ m. cond (nat_lt m (length drivers)) 2 0;
  weight = λ m. slice_index weights m;
  barred = λ m. not (nat_lt m (length drivers)) || among barred m;
  drivers = λ m. slice_index_or drivers m [];
  entry = λ m place. cond (nat_lt place (product (map (λ a. cond (nat_lt a (length drivers)) 2 0) (slice_index_or drivers m [] ++ (m ∷ []))))) 0 never;
}

-- 0 drives 1 and 2, and both drive 3
abbrev pub diamond : List ℕ → Plan
diamond barred = two_classes ([] ∷ (0 ∷ []) ∷ (0 ∷ []) ∷ (1 ∷ 2 ∷ []) ∷ []) (5 ∷ 3 ∷ 4 ∷ 1 ∷ []) barred

-- two diamonds that share their top: 0 drives 1 to 4, of which 1 and 2 drive 5, and 3 and 4 drive 6
abbrev pub twin : Plan
twin =
    two_classes
    ([] ∷ (0 ∷ []) ∷ (0 ∷ []) ∷ (0 ∷ []) ∷ (0 ∷ []) ∷ (1 ∷ 2 ∷ []) ∷ (3 ∷ 4 ∷ []) ∷ [])
    (3 ∷ 1 ∷ 10 ∷ 10 ∷ 10 ∷ 10 ∷ 10 ∷ [])
    []
