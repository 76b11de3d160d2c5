-- How the tables and stages of the code are read.
use Rattle.std.specs.Prelude.{◌≡◌, ℕ, true, false, cond, List, Some, None, Ok, Err, Option, Result, MatchResult, nat_le, slice_index}
use Rattle.plan.specs.Sums.{Set, without}
use Rattle.graph.specs.Graphs.{Adj}
use Rattle.graph.specs.Pruning.{prune}
use Rattle.graph.specs.Read.{set_of, node_count, edges}
use Rattle.cutset.specs.Stages.{share, next_pick, short, taken_off}
use Rattle.cutset.specs.Lists.{listed}
use Rattle.cutset.specs.Method.{Choice}
use Rattle.cutset.specs.declared.fault.ChoiceFault.{ChoiceFault}
use Rattle.cutset.specs.declared.fault.ChoiceFault.TheVariants.{HoldsTooLittle}
use Rattle.cutset.specs.declared.pick.Pick.{Pick}
use Rattle.cutset.specs.declared.picks.Picks.{Picks}
use Rattle.cutset.specs.declared.choice.Cutset.{Cutset}
use Rattle.cutset.specs.declared.stage.Stage.{Stage}

-- what a node holds
abbrev pub holds : List ℕ → ℕ → ℕ
holds amounts v = slice_index amounts v

-- a pick, as a measure together with its share
abbrev pub with_share : ℕ → Adj → Set → (ℕ → ℕ) → Option ℕ → Option (ℕ × ℕ)
with_share n adj C h None = None
with_share n adj C h (Some v) = Some (v, share n adj C h v)

-- the next pick of a stage, together with its share
abbrev pub next_share : Stage → Option (ℕ × ℕ)
next_share s =
    let n : ℕ = node_count s.graph.now in
    let adj : Adj = edges s.graph.now in
    let C : Set = set_of s.nodes in
    let h : ℕ → ℕ = holds s.holdings.amounts in
    with_share n adj C h (next_pick n adj (set_of s.free) C h)

-- the nodes of a stage that pruning leaves without one of them
abbrev pub pruned_without : Stage → ℕ → Set
pruned_without s v = prune (node_count s.graph.now) (edges s.graph.now) (without (set_of s.nodes) v)

-- what was found so far, or a later measure where its share is smaller
abbrev pub smaller_of : Option (ℕ × ℕ) → ℕ → ℕ → Option (ℕ × ℕ)
smaller_of None m s = Some (m, s)
smaller_of (Some found) m s = cond (nat_le found.1 s) (Some found) (Some (m, s))

-- the picks of a table, in the order of picking
abbrev pub picked : Picks → List Pick
picked ps = listed ps.list

-- what a cutset tells
abbrev pub told : Cutset → Choice
told c = record { members = listed c.members; weight = c.weight; settings = c.settings }

-- r is the outcome o, as `view` reads it
abbrev pub Reads : {X Y : Type 0} → (X → Y) → Result X ChoiceFault → Result Y ChoiceFault → Type 0
Reads view r o = MatchResult r (λ x. o ≡ Ok (view x)) (λ e. o ≡ Err e)

-- h' is h with the shares off, or some node held too little
abbrev pub TakesOff : {X : Type 0} → ℕ → Adj → Set → Set → Set → ℕ → (ℕ → ℕ) → (ℕ → ℕ) → Result X ChoiceFault → Type 0
TakesOff n adj free C D s h h' r =
    MatchResult r
    (λ _. (short n adj free C D h s ≡ false) × (h' ≡ taken_off n adj free C D h s))
    (λ e. (e ≡ HoldsTooLittle) × (short n adj free C D h s ≡ true))

-- the share s went off what the stage `old` holds as its nodes became D, and `new` holds the rest; or some node held too little
abbrev pub StagePays : {X : Type 0} → Stage → Set → ℕ → Stage → Result X ChoiceFault → Type 0
StagePays old D s new r =
    TakesOff (node_count old.graph.now) (edges old.graph.now) (set_of old.free) (set_of old.nodes) D s (holds old.holdings.amounts)
    (holds new.holdings.amounts) r
