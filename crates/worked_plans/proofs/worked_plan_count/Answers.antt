use Rattle.std.proofs.Common.{refl}
use Rattle.worked_plans.proofs.Tested.{worked_plans_stand}
use Rattle.worked_plans.proofs.worked_plan_count.Goals as goal

pub returns : goal.returns
returns c = record { rows = refl; stand = worked_plans_stand }
