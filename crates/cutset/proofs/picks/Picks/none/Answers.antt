use Rattle.std.proofs.Common.{ℕ, ◌<◌, get_or, replicate, arith}
use Rattle.std.proofs.lemmas.List.{get_or_past}
use Rattle.std.proofs.lemmas.Grind.{elements}
use Rattle.plan.specs.Limits.{most_measures}
use Rattle.cutset.specs.Unused.{no_pick}
use Rattle.cutset.specs.declared.pick.Pick.{Pick}
use Rattle.cutset.proofs.picks.Picks.none.Goals as goal

-- where one pick stands in all places, each names its measure
in_all_places : (n : ℕ) (x : Pick) → x.measure < most_measures → (i : ℕ) → (get_or (replicate n x) i no_pick).measure < most_measures
in_all_places n x known i = grind (arith, elements, get_or_past (replicate n x) i no_pick)

pub invariant_of-result-clause-everywhere : goal.invariant_of-result-clause-everywhere
invariant_of-result-clause-everywhere c i = rw c.new.ensures.places (in_all_places most_measures _ (omega arith) i)
