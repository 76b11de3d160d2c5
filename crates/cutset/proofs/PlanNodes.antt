-- The value nodes that may be picked, and what they hold at first.
use Rattle.std.proofs.Common.{◌≡◌, ℕ, ◌*◌, ◌<◌, ◌≤◌, true, false, not, arith}
use Rattle.std.proofs.lemmas.Bool.Decides.{nat_tests}
use Rattle.plan.specs.Limits.{most_weight}
use Rattle.plan.specs.Plan.{Plan, Lawful}
use Rattle.cutset.specs.Method.{share_unit, unbarred, first_holding}

pub unbarred_within : (p : Plan) (v : ℕ) → v < p.count → unbarred p v ≡ not (p.barred v)
unfolding unbarred
unbarred_within p v lt = grind (arith, nat_tests)

pub unbarred_below : (p : Plan) (v : ℕ) → unbarred p v ≡ true → v < p.count
unfolding unbarred
unbarred_below p v e = grind (arith, nat_tests)

pub first_holding_free : (p : Plan) (v : ℕ) → unbarred p v ≡ true → first_holding p v ≡ share_unit * p.weight v
unfolding first_holding
first_holding_free p v e = grind (arith, nat_tests)

pub first_holding_barred : (p : Plan) (v : ℕ) → unbarred p v ≡ false → first_holding p v ≡ 0
unfolding first_holding
first_holding_barred p v e = grind (arith, nat_tests)

pub first_holding_past : (p : Plan) (v : ℕ) → p.count ≤ v → first_holding p v ≡ 0
first_holding_past p v far = grind (arith, nat_tests, first_holding_barred p v, unbarred_below p v)

pub first_holding_bounded : (p : Plan) → Lawful p → (v : ℕ) → first_holding p v ≤ share_unit * most_weight
unfolding first_holding
first_holding_bounded p law v = grind (arith, nat_tests, law.bounded_weight v)
