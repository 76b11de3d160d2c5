use Rattle.std.proofs.Common.{◌≡◌, ℕ, [], ◌∷◌, None, subst, arith}
use Rattle.plan.specs.Limits.{most_drivers}
use Rattle.sources.specs.First.{first_failing, each_below}
use Rattle.sources.specs.Checks.{driver_check}
use Rattle.sources.proofs.Firsts.{none_fails_more, first_failing_below}
use Rattle.sources.proofs.Told.{tells_passed_on}
use Rattle.sources.proofs.record.Record.check_drivers.Goals as goal

pub returns-in_err-check_driver : goal.returns-in_err-check_driver
returns-in_err-check_driver c =
    tells_passed_on c.from_residual.result c.from_residual.ensures.1
    (first_failing_below (λ k. driver_check c.args.self.now.bytes.now c.args.self.now.m k ∷ []) most_drivers c.loop-position.position _
    (omega arith) c.loop-position.invariant c.in_err-check_driver.ensures)

pub loop-position-preserved : goal.loop-position-preserved
loop-position-preserved c =
    none_fails_more (λ k. driver_check c.args.self.now.bytes.now c.args.self.now.m k ∷ []) c.loop-position.position
    c.loop-position.invariant c.in_ok-check_driver.ensures

pub returns : goal.returns
returns c =
    let all : c.loop-position.position ≡ most_drivers = omega arith in
    subst (λ (n : ℕ). first_failing (each_below n (λ k. driver_check c.args.self.now.bytes.now c.args.self.now.m k ∷ [])) ≡ None) all c.loop-position.invariant
