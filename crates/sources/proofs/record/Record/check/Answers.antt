use Rattle.sources.proofs.RecordParts.{driver_fails}
use Rattle.sources.proofs.Told.{tells_passed_on}
use Rattle.sources.proofs.record.Record.check.Goals as goal

pub returns-in_err-check_drivers : goal.returns-in_err-check_drivers
returns-in_err-check_drivers c =
    tells_passed_on c.from_residual-in_err-check_drivers.result c.from_residual-in_err-check_drivers.ensures.1 (driver_fails c.args.self.now.bytes.now c.args.self.now.m _ c.in_ok-check_front.ensures c.in_err-check_drivers.ensures)
