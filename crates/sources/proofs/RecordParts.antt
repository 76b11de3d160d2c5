-- A record's checks in three parts: those before the driver bytes, those of the driver bytes, those after. The first fault of a part is the
-- record's where the parts before it fail no check.
use Rattle.std.proofs.Common.{◌≡◌, ℕ, List, ◌++◌, Some, None, ◌∙◌}
use Rattle.sources.specs.First.{first_failing}
use Rattle.sources.specs.Checks.{front_checks, driver_checks, back_checks, record_checks}
use Rattle.sources.specs.FirstLaws.{first_failing_append_holding, first_failing_append_failing}
use Rattle.sources.specs.declared.fault.CardFault.{CardFault}

module _ (bs : List ℕ) (m : ℕ) where
  pub front_fails : (e : CardFault) → first_failing (front_checks bs m) ≡ Some e → first_failing (record_checks bs m) ≡ Some e
  front_fails e h =
      first_failing_append_failing (front_checks bs m ++ driver_checks bs m) (back_checks bs m) e
      (first_failing_append_failing (front_checks bs m) (driver_checks bs m) e h)

  pub driver_fails : (e : CardFault) → first_failing (front_checks bs m) ≡ None → first_failing (driver_checks bs m) ≡ Some e → first_failing (record_checks bs m) ≡ Some e
  driver_fails e front h =
      first_failing_append_failing (front_checks bs m ++ driver_checks bs m) (back_checks bs m) e
      (first_failing_append_holding (front_checks bs m) (driver_checks bs m) front ∙ h)

  -- where the driver bytes pass too, the record's fault is that of the bytes after them
  pub back_remains : first_failing (front_checks bs m) ≡ None → first_failing (driver_checks bs m) ≡ None → first_failing (record_checks bs m) ≡ first_failing (back_checks bs m)
  back_remains front drivers =
      first_failing_append_holding (front_checks bs m ++ driver_checks bs m) (back_checks bs m)
      (first_failing_append_holding (front_checks bs m) (driver_checks bs m) front ∙ drivers)
