-- A fault that `?` passes on is the one that was told.
use Rattle.std.proofs.Common.{◌≡◌, Some, Option, Result}
use Rattle.std.specs.Result.{IsErrAnd}
use Rattle.std.proofs.lemmas.Result.{err_from_is_err_and}
use Rattle.sources.specs.First.{Tells}

pub tells_passed_on : {A F : Type 0} {told : Option F} {e : F} (r : Result A F) → IsErrAnd r (λ y. y ≡ e) → told ≡ Some e → Tells r told
tells_passed_on r passed told = let p = err_from_is_err_and r passed in rw (p.1, p.2) told
