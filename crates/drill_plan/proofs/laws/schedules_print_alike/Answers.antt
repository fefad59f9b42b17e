use Rattle.drill_plan.proofs.Summed.{printed_alike}
use Rattle.drill_plan.proofs.laws.schedules_print_alike.Goals as goal

pub returns : goal.returns
returns c = printed_alike
