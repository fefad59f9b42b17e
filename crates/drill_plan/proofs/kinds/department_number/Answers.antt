use Rattle.std.specs.Prelude.{codes}
use Rattle.drill_plan.proofs.KnownTypes.{department_is, named_some, one_type}
use Rattle.drill_plan.proofs.kinds.department_number.Goals as goal

pub type_of-requires : goal.type_of-requires
type_of-requires c = named_some (codes "departmentNumber") 14 department_is

pub returns : goal.returns
returns c = one_type (codes "departmentNumber") 14 c.type_of.result department_is c.type_of.ensures
