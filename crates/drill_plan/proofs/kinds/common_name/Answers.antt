use Rattle.std.specs.Prelude.{codes}
use Rattle.drill_plan.proofs.KnownTypes.{common_name_is, named_some, one_type}
use Rattle.drill_plan.proofs.kinds.common_name.Goals as goal

pub type_of-requires : goal.type_of-requires
type_of-requires c = named_some (codes "cn") 1 common_name_is

pub returns : goal.returns
returns c = one_type (codes "cn") 1 c.type_of.result common_name_is c.type_of.ensures
