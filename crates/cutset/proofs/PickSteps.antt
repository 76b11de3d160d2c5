-- The picking, stage by stage: what was picked so far, before what the remaining stages give, is all of it.
use Rattle.std.proofs.Common.{◌≡◌, ℕ, suc, ◌+◌, ◌-◌, ◌<◌, ◌≤◌, true, false, eqb, List, [], ◌∷◌, ◌++◌, length, Some, None, Ok, Err, Result, sym, refl, ap, ◌∙◌, inl, append_assoc, arith}
use Rattle.std.proofs.lemmas.List.{length-append, append-nil}
use Rattle.std.proofs.lemmas.Bool.Decides.{nat_tests}
use Rattle.plan.specs.Plan.{Plan}
use Rattle.plan.specs.Sums.{Set, size, meet, single, without, Within}
use Rattle.plan.proofs.Sets.{meet_in, meet_from, meet-not, minus_in, size_less}
use Rattle.graph.specs.Graphs.{Adj, Core}
use Rattle.graph.specs.Pruning.{prune}
use Rattle.graph.specs.Split.{split, remaining}
use Rattle.graph.proofs.Pruning.{prune_core}
use Rattle.cutset.specs.Stages.{share, next_pick, taken_off, short, prepend, stage, stages}
use Rattle.cutset.specs.Method.{picks, unbarred, first_holding}
use Rattle.cutset.specs.declared.pick.Pick.{Pick}
use Rattle.cutset.specs.declared.fault.ChoiceFault.{ChoiceFault}
use Rattle.cutset.specs.declared.fault.ChoiceFault.TheVariants.{LoopBarred, HoldsTooLittle}
use Rattle.cutset.proofs.Smallest.{next_pick_found}

abbrev pub Outcome : Type 0
Outcome = Result (List Pick) ChoiceFault

-- some picks, and then what the later stages give
abbrev pub after : List Pick → Outcome → Outcome
after ps (Ok qs) = Ok (ps ++ qs)
after ps (Err e) = Err e

after-prepend : (ps : List Pick) (q : Pick) (r : Outcome) → after ps (prepend q r) ≡ after (ps ++ (q ∷ [])) r
after-prepend ps q (Ok qs) = ap Ok (sym (append_assoc ps (q ∷ []) qs))
after-prepend ps q (Err e) = refl

after_none : (r : Outcome) → after [] r ≡ r
after_none (Ok qs) = refl
after_none (Err e) = refl

-- what is left after a pick has lost it
module _ (n : ℕ) (adj : Adj) (C D : Set) (v : ℕ) (pruned : D ≡ prune n adj (without C v)) where
  core : Core n adj (without C v) D
  core = rw pruned (prune_core n adj (without C v))

  pub pick_inside : Within n D C
  pick_inside x l e = (minus_in C (single v) x (core.inside x l e)).0

  pub pick_gone : v < n → D v ≡ false
  pick_gone lt = grind (arith, nat_tests, core.inside v lt, minus_in C (single v) v)

-- ps were picked, C and h are now present and held, and the stages that are left complete the whole
pub record Picking (whole : Outcome) (k n : ℕ) (adj : Adj) (free C : Set) (h : ℕ → ℕ) (ps : List Pick) : Type 0 where
  pub few : length ps + size n (meet C free) ≤ k
  pub rest : whole ≡ after ps (stages (suc k - length ps) n adj free C h)

pub picking_first : (k n : ℕ) (adj : Adj) (free C : Set) (h : ℕ → ℕ) (whole : Outcome) → whole ≡ stages (suc k) n adj free C h
    → size n (meet C free) ≤ k → Picking whole k n adj free C h []
picking_first k n adj free C h whole e few =
    let all : suc k - 0 ≡ suc k = omega arith in record { few = omega arith; rest = rw (after_none, all) e }

module _ (whole : Outcome) (k n : ℕ) (adj : Adj) (free C : Set) (h : ℕ → ℕ) (ps : List Pick) (s : Picking whole k n adj free C h ps) where
  -- the stage that comes next
  now_stage : whole ≡ after ps (stage n adj free C h (stages (k - length ps) n adj free) (next_pick n adj free C h))
  unfolding stages
  now_stage =
      let e : suc k - length ps ≡ suc (k - length ps) = omega (arith, s.few) in
      s.rest ∙ ap (λ m. after ps (stages m n adj free C h)) e

  pub picking_done : next_pick n adj free C h ≡ None → size n C ≡ 0 → whole ≡ Ok ps
  unfolding stage
  picking_done none empty = rw (now_stage, none, empty, append-nil)

  pub picking_barred : next_pick n adj free C h ≡ None → eqb (size n C) 0 ≡ false → whole ≡ Err LoopBarred
  unfolding stage
  picking_barred none some = rw (now_stage, none, some)

  module _ (v : ℕ) (pick : next_pick n adj free C h ≡ Some v) where
    pub pick_present : (v < n) × (C v ≡ true) × (free v ≡ true)
    pick_present =
        let w = next_pick_found n adj free C h v pick in
        let m = meet_in C free v w.1 in
        (w.0, m.0, m.1)

    module _ (D : Set) (pruned : D ≡ prune n adj (without C v)) where
      pub pick_fewer : size n D < size n C
      pick_fewer = size_less n D C v (pick_inside n adj C D v pruned) pick_present.0 pick_present.1 (pick_gone n adj C D v pruned pick_present.0)

      pub picking_short : short n adj free C D h (share n adj C h v) ≡ true → whole ≡ Err HoldsTooLittle
      unfolding stage
      picking_short lacks = rw (now_stage, pick, ← pruned, lacks)

      pub picking_more : (h' : ℕ → ℕ) → short n adj free C D h (share n adj C h v) ≡ false
          → h' ≡ taken_off n adj free C D h (share n adj C h v)
          → Picking whole k n adj free D h' (ps ++ (record { measure = v; share = share n adj C h v } ∷ []))
      unfolding stage
      picking_more h' enough paid =
          let q : Pick = record { measure = v; share = share n adj C h v } in
          let less : size n (meet D free) < size n (meet C free) =
          size_less n (meet D free) (meet C free) v
          (λ x l e. let m = meet_in D free x e in meet_from C free x (pick_inside n adj C D v pruned x l m.0) m.1)
          pick_present.0 (meet_from C free v pick_present.1 pick_present.2) (meet-not D free v (inl (pick_gone n adj C D v pruned pick_present.0))) in
          let longer : length (ps ++ (q ∷ [])) ≡ length ps + 1 = length-append ps (q ∷ []) in
          record {
            few = omega (arith, s.few, less, longer);
            rest = rw (now_stage, pick, ← pruned, enough, ← paid, after-prepend, fuel longer);
          }
        where
          fuel : {m : ℕ} → m ≡ length ps + 1 → k - length ps ≡ suc k - m
          fuel e = omega arith

-- the whole, where the parts are what the plan says
pub picks_start : (p : Plan) (T : Set) (k : ℕ) (adj : Adj) (free C : Set) (h : ℕ → ℕ) → k ≡ p.count → adj ≡ split p
    → free ≡ unbarred p → C ≡ prune (k + k) adj (remaining k T) → h ≡ first_holding p → picks p T ≡ stages (suc k) (k + k) adj free C h
unfolding picks
picks_start p T k adj free C h e₁ e₂ e₃ e₄ e₅ = cc
