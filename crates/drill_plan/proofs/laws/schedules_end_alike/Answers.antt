use Rattle.drill_plan.proofs.Schedules.{schedules_alike}
use Rattle.drill_plan.proofs.laws.schedules_end_alike.Goals as goal

pub returns : goal.returns
returns c = schedules_alike
