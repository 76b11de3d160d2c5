-- One test of a whole table, by computing, and what it says of each row.
use Rattle.std.proofs.Common.{◌≡◌, Bool, true, false, ◌&&◌, eqb, List, [], ◌∷◌, map, Ok, Err, Result, refl, ap, ◌∙◌, ap₂}
use Rattle.std.proofs.lemmas.Bool.{eqb-true, and_parts, both_ways}
use Rattle.plan.specs.Sums.{over, size, times, rising, minus, meet, union, with, among}
use Rattle.graph.specs.Graphs.{deg}
use Rattle.graph.specs.Pruning.{sweep, rounds, prune, forest}
use Rattle.graph.specs.Split.{value_table, split, remaining}
use Rattle.cutset.specs.Stages.{share, better, smallest, next_pick, due, taken_off, lacking, short, stage, stages}
use Rattle.cutset.specs.Method.{Choice, unbarred, first_holding, picks, no_cycle_without, thinned, held, choice_of, chosen}
use Rattle.cutset.specs.declared.pick.Pick.{Pick}
use Rattle.cutset.specs.declared.fault.ChoiceFault.{ChoiceFault}
use Rattle.cutset.specs.declared.fault.ChoiceFault.TheVariants.{LoopBarred, HoldsTooLittle}
use Rattle.worked_plans.specs.Worked.{Row, at_share, holding, worked, first_share, Right, Each, WorkedPlansStand}

-- a test that only equal values pass
pub record Tells {X : Type 0} (same : X → X → Bool) : Type 0 where
  pub equal : (x y : X) → same x y ≡ true → x ≡ y

same_list : {X : Type 0} → (X → X → Bool) → List X → List X → Bool
same_list same [] [] = true
same_list same [] (y ∷ ys) = false
same_list same (x ∷ xs) [] = false
same_list same (x ∷ xs) (y ∷ ys) = same x y && same_list same xs ys

list_equal : {X : Type 0} (same : X → X → Bool) → Tells same → (xs ys : List X) → same_list same xs ys ≡ true → xs ≡ ys
unfolding same_list
list_equal same t [] [] e = refl
list_equal same t [] (y ∷ ys) e = absurd (both_ways false refl e)
list_equal same t (x ∷ xs) [] e = absurd (both_ways false refl e)
list_equal same t (x ∷ xs) (y ∷ ys) e =
    let i = and_parts (same x y) (same_list same xs ys) e in
    let p : x ≡ y = t.equal x y i.0 in
    let q : xs ≡ ys = list_equal same t xs ys i.1 in
    cc

same_pick : Pick → Pick → Bool
same_pick p q = eqb p.measure q.measure && eqb p.share q.share

pick_tells : Tells same_pick
unfolding same_pick
pick_tells = record {
  equal = λ p q e.
      let i = and_parts (eqb p.measure q.measure) (eqb p.share q.share) e in
      ap₂ at_share (eqb-true p.measure q.measure i.0) (eqb-true p.share q.share i.1);
}

number_tells : Tells eqb
number_tells = record { equal = eqb-true }

same_fault : ChoiceFault → ChoiceFault → Bool
same_fault LoopBarred LoopBarred = true
same_fault LoopBarred HoldsTooLittle = false
same_fault HoldsTooLittle LoopBarred = false
same_fault HoldsTooLittle HoldsTooLittle = true

fault_equal : (a b : ChoiceFault) → same_fault a b ≡ true → a ≡ b
unfolding same_fault
fault_equal LoopBarred LoopBarred e = refl
fault_equal LoopBarred HoldsTooLittle e = absurd (both_ways false refl e)
fault_equal HoldsTooLittle LoopBarred e = absurd (both_ways false refl e)
fault_equal HoldsTooLittle HoldsTooLittle e = refl

same_result : {X : Type 0} → (X → X → Bool) → Result X ChoiceFault → Result X ChoiceFault → Bool
same_result same (Ok x) (Ok y) = same x y
same_result same (Ok x) (Err f) = false
same_result same (Err e) (Ok y) = false
same_result same (Err e) (Err f) = same_fault e f

result_equal : {X : Type 0} (same : X → X → Bool) → ((x y : X) → same x y ≡ true → x ≡ y)
    → (r s : Result X ChoiceFault) → same_result same r s ≡ true → r ≡ s
unfolding same_result
result_equal same t (Ok x) (Ok y) e = ap Ok (t x y e)
result_equal same t (Ok x) (Err f) e = absurd (both_ways false refl e)
result_equal same t (Err f) (Ok y) e = absurd (both_ways false refl e)
result_equal same t (Err f) (Err g) e = ap Err (fault_equal f g e)

same_choice : Choice → Choice → Bool
same_choice a b = same_list eqb a.members b.members && (eqb a.weight b.weight && eqb a.settings b.settings)

choice_equal : (a b : Choice) → same_choice a b ≡ true → a ≡ b
unfolding same_choice
choice_equal a b e =
    let i = and_parts (same_list eqb a.members b.members) (eqb a.weight b.weight && eqb a.settings b.settings) e in
    let j = and_parts (eqb a.weight b.weight) (eqb a.settings b.settings) i.1 in
    ap (λ members. holding members a.weight a.settings) (list_equal eqb number_tells a.members b.members i.0)
    ∙ ap₂ (holding b.members) (eqb-true a.weight b.weight j.0) (eqb-true a.settings b.settings j.1)

right : Row → Bool
right r =
    same_list eqb (map (λ pick. first_share r.plan r.taken pick.measure) r.shares) (map (λ pick. pick.share) r.shares)
    && (same_result (same_list same_pick) (picks r.plan (among r.taken)) r.picked
    && same_result same_choice (chosen r.plan (among r.taken)) r.choice)

right_row : (r : Row) → right r ≡ true → Right r
unfolding right
right_row r e =
    let i = and_parts (same_list eqb (map (λ pick. first_share r.plan r.taken pick.measure) r.shares) (map (λ pick. pick.share) r.shares)) (same_result (same_list same_pick) (picks r.plan (among r.taken)) r.picked && same_result same_choice (chosen r.plan (among r.taken)) r.choice) e in
    let j = and_parts (same_result (same_list same_pick) (picks r.plan (among r.taken)) r.picked) (same_result same_choice (chosen r.plan (among r.taken)) r.choice) i.1 in
    record {
      shares = list_equal eqb number_tells (map (λ pick. first_share r.plan r.taken pick.measure) r.shares) (map (λ pick. pick.share) r.shares) i.0;
      picked = result_equal (same_list same_pick) (list_equal same_pick pick_tells) (picks r.plan (among r.taken)) r.picked j.0;
      choice = result_equal same_choice choice_equal (chosen r.plan (among r.taken)) r.choice j.1;
    }

all_right : List Row → Bool
all_right [] = true
all_right (r ∷ rs) = right r && all_right rs

each_right : (rs : List Row) → all_right rs ≡ true → Each Right rs
unfolding all_right
each_right [] e = tt
each_right (r ∷ rs) e = let i = and_parts (right r) (all_right rs) e in (right_row r i.0, each_right rs i.1)

table_passes : all_right worked ≡ true
unfolding all_right right same_list same_pick same_fault same_result same_choice over size times rising minus meet union with deg sweep rounds prune forest value_table split remaining share better smallest next_pick due taken_off lacking short stage stages unbarred first_holding picks no_cycle_without thinned held choice_of chosen
table_passes = refl

pub worked_plans_stand : WorkedPlansStand
worked_plans_stand = each_right worked table_passes
