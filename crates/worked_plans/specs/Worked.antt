-- What the method gives on the small plans: one table, and the sentence that covers it.
use Rattle.std.specs.Prelude.{◌≡◌, ℕ, List, [], ◌∷◌, map, Ok, Err, Result}
use Rattle.plan.specs.Plan.{Plan, no_measures}
use Rattle.plan.specs.Sums.{among}
use Rattle.graph.specs.Pruning.{prune}
use Rattle.graph.specs.Split.{nodes, split, remaining}
use Rattle.cutset.specs.Stages.{share}
use Rattle.cutset.specs.Method.{Choice, first_holding, picks, chosen}
use Rattle.cutset.specs.declared.pick.Pick.{Pick}
use Rattle.cutset.specs.declared.fault.ChoiceFault.{ChoiceFault}
use Rattle.cutset.specs.declared.fault.ChoiceFault.TheVariants.{LoopBarred}
use Rattle.worked_plans.specs.Plans.{diamond, twin}

-- a plan and the measures taken, some measures with their shares as the picking starts, the picks with theirs, and the choice
pub record Row : Type 0 where
  pub plan : Plan
  pub taken : List ℕ
  pub shares : List Pick
  pub picked : Result (List Pick) ChoiceFault
  pub choice : Result Choice ChoiceFault

abbrev pub at_share : ℕ → ℕ → Pick
at_share m s = record { measure = m; share = s }

abbrev pub holding : List ℕ → ℕ → ℕ → Choice
holding members weight settings = record { members = members; weight = weight; settings = settings }

abbrev pub worked : List Row
worked =
    record {
      plan = diamond [];
      taken = [];
      shares = at_share 0 640 ∷ at_share 1 384 ∷ at_share 2 512 ∷ [];
      picked = Ok (at_share 1 384 ∷ []);
      choice = Ok (holding (1 ∷ []) 3 2);
    }
    ∷ record {
      plan = diamond (1 ∷ []);
      taken = [];
      shares = [];
      picked = Ok (at_share 2 512 ∷ []);
      choice = Ok (holding (2 ∷ []) 4 2);
    }
    ∷ record {
      plan = diamond (0 ∷ 1 ∷ 2 ∷ []);
      taken = [];
      shares = [];
      picked = Err LoopBarred;
      choice = Err LoopBarred;
    }
    ∷ record {
      plan = diamond (0 ∷ 1 ∷ 2 ∷ []);
      taken = 1 ∷ [];
      shares = [];
      picked = Ok [];
      choice = Ok (holding [] 0 1);
    }
    ∷ record {
      plan = twin;
      taken = [];
      shares = at_share 1 128 ∷ [];
      picked = Ok (at_share 1 128 ∷ at_share 0 256 ∷ []);
      choice = Ok (holding (0 ∷ []) 3 2);
    }
    ∷ record {
      plan = no_measures;
      taken = [];
      shares = [];
      picked = Ok [];
      choice = Ok (holding [] 0 1);
    }
    ∷ []

-- the share of a measure as the picking starts
abbrev pub first_share : Plan → List ℕ → ℕ → ℕ
first_share p taken m =
    share (nodes p) (split p) (prune (nodes p) (split p) (remaining p.count (among taken))) (first_holding p) m

-- a row is right
pub record Right (r : Row) : Type 0 where
  pub shares : map (λ pick. first_share r.plan r.taken pick.measure) r.shares ≡ map (λ pick. pick.share) r.shares
  pub picked : picks r.plan (among r.taken) ≡ r.picked
  pub choice : chosen r.plan (among r.taken) ≡ r.choice

-- what holds of each row of a table
abbrev pub Each : (Row → Type 0) → List Row → Type 0
Each P [] = Unit {0}
Each P (r ∷ rs) = P r × Each P rs

-- every row of the table is right
abbrev pub WorkedPlansStand : Type 0
WorkedPlansStand = Each Right worked
