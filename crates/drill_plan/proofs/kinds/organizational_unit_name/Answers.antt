use Rattle.std.specs.Prelude.{codes}
use Rattle.drill_plan.proofs.KnownTypes.{unit_name_is, named_some, one_type}
use Rattle.drill_plan.proofs.kinds.organizational_unit_name.Goals as goal

pub type_of-requires : goal.type_of-requires
type_of-requires c = named_some (codes "ou") 9 unit_name_is

pub returns : goal.returns
returns c = one_type (codes "ou") 9 c.type_of.result unit_name_is c.type_of.ensures
