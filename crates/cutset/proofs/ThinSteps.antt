-- Leaving picks out, one by one from the last.
use Rattle.std.proofs.Common.{◌≡◌, ℕ, ◌+◌, true, false, List, [], ◌∷◌, ◌++◌, reverse, refl, ap, ◌∙◌}
use Rattle.std.proofs.lemmas.List.{map-append, reverse-append}
use Rattle.plan.specs.Plan.{Plan}
use Rattle.plan.specs.Sums.{Set, union, without}
use Rattle.graph.specs.Graphs.{Adj}
use Rattle.graph.specs.Pruning.{forest}
use Rattle.graph.specs.Split.{split, remaining}
use Rattle.cutset.specs.Method.{measures, no_cycle_without, thinned}
use Rattle.cutset.specs.declared.pick.Pick.{Pick}

-- read from its end, a list of picks begins with the last
pub reverse-measures_more : (ps : List Pick) (q : Pick) → reverse (measures (ps ++ (q ∷ []))) ≡ q.measure ∷ reverse (measures ps)
reverse-measures_more ps q =
    ap reverse (map-append (λ (pick : Pick). pick.measure) ps (q ∷ [])) ∙ reverse-append (measures ps) (q.measure ∷ [])

-- the test of the second stage, on the tables of the code: U are the others still held, W these with the taken ones
pub test_is : (p : Plan) (T H U W C : Set) (v k : ℕ) (adj : Adj) → k ≡ p.count → adj ≡ split p → U ≡ without H v → W ≡ union T U
    → C ≡ remaining k W → forest (k + k) adj C ≡ no_cycle_without p (union T (without H v))
unfolding no_cycle_without
test_is p T H U W C v k adj e₁ e₂ e₃ e₄ e₅ = cc

-- v can be spared
pub thinned_out : (p : Plan) (T H : Set) (v : ℕ) (vs : List ℕ) → no_cycle_without p (union T (without H v)) ≡ true
    → thinned p T H (v ∷ vs) ≡ thinned p T (without H v) vs
unfolding thinned
thinned_out p T H v vs e = rw e

-- v cannot be spared
pub thinned_kept : (p : Plan) (T H : Set) (v : ℕ) (vs : List ℕ) → no_cycle_without p (union T (without H v)) ≡ false
    → thinned p T H (v ∷ vs) ≡ thinned p T H vs
unfolding thinned
thinned_kept p T H v vs e = rw e

-- what is to be gone through, one pick more from its end
pub thinned_next : (p : Plan) (T H : Set) (qs ps : List Pick) (q : Pick) → qs ≡ ps ++ (q ∷ [])
    → thinned p T H (reverse (measures qs)) ≡ thinned p T H (q.measure ∷ reverse (measures ps))
thinned_next p T H qs ps q e = ap (λ rs. thinned p T H (reverse (measures rs))) e ∙ ap (thinned p T H) (reverse-measures_more ps q)

pub thinned_none : (p : Plan) (T H : Set) → thinned p T H [] ≡ H
unfolding thinned
thinned_none p T H = refl
