-- The two-stage choice of a held set for a plan p and a set T of taken measures.
use Rattle.std.specs.Prelude.{ℕ, suc, ◌*◌, Bool, cond, not, ◌&&◌, List, [], ◌∷◌, map, reverse, Ok, Err, Result, nat_le, nat_lt}
use Rattle.plan.specs.Plan.{Plan}
use Rattle.plan.specs.Sums.{Set, over, times, rising, union, among, without}
use Rattle.graph.specs.Pruning.{prune, forest}
use Rattle.graph.specs.Split.{nodes, split, remaining}
use Rattle.cutset.specs.Stages.{stages}
use Rattle.cutset.specs.declared.pick.Pick.{Pick}
use Rattle.cutset.specs.declared.fault.ChoiceFault.{ChoiceFault}

-- a weight is divided into so many parts, so that the shares of small weights differ
abbrev pub share_unit : ℕ
share_unit = 256

-- the most settings that are counted; one more stands for any larger number
abbrev pub most_settings : ℕ
most_settings = 65536

abbrev pub capped : ℕ → ℕ
capped k = cond (nat_le k most_settings) k (suc most_settings)

-- the value nodes that may be picked
unfoldable pub unbarred : Plan → Set
unbarred p v = nat_lt v p.count && not (p.barred v)

-- what they hold at first
unfoldable pub first_holding : Plan → ℕ → ℕ
first_holding p v = cond (unbarred p v) (share_unit * p.weight v) 0

-- first stage: the picks with their shares, in the order of picking, from the split graph without the value nodes of the taken measures
unfoldable pub picks : Plan → Set → Result (List Pick) ChoiceFault
picks p T =
    stages (suc p.count) (nodes p) (split p) (unbarred p) (prune (nodes p) (split p) (remaining p.count T)) (first_holding p)

-- whether the split graph without the value nodes of the measures in A has no cycle left
unfoldable pub no_cycle_without : Plan → Set → Bool
no_cycle_without p A = forest (nodes p) (split p) (remaining p.count A)

-- second stage: through the list vs, each is left out if the others still held, with the taken ones, leave no cycle
unfoldable pub thinned : Plan → Set → Set → List ℕ → Set
thinned p T H [] = H
thinned p T H (v ∷ vs) =
    let others : Set = without H v in
    let still : Set = cond (no_cycle_without p (union T others)) others H in
    thinned p T still vs

abbrev pub measures : List Pick → List ℕ
measures = map (λ pick. pick.measure)

-- the list is that of the picks, from the last back to the first
unfoldable pub held : Plan → Set → List Pick → Set
held p T ps = thinned p T (among (measures ps)) (reverse (measures ps))

-- what is told of a chosen set: its members in rising order, their weight, and how many settings they have together
pub record Choice : Type 0 where
  pub members : List ℕ
  pub weight : ℕ
  pub settings : ℕ

unfoldable pub choice_of : Plan → Set → Choice
choice_of p H = record {
  members = rising p.count H;
  weight = over p.count H p.weight;
  settings = capped (times p.count H p.classes);
}

abbrev pub chosen_from : Plan → Set → Result (List Pick) ChoiceFault → Result Choice ChoiceFault
chosen_from p T (Ok ps) = Ok (choice_of p (held p T ps))
chosen_from p T (Err e) = Err e

unfoldable pub chosen : Plan → Set → Result Choice ChoiceFault
chosen p T = chosen_from p T (picks p T)
