use Rattle.std.specs.Prelude.{codes}
use Rattle.drill_plan.proofs.KnownTypes.{organization_name_is, named_some, one_type}
use Rattle.drill_plan.proofs.kinds.organization_name.Goals as goal

pub type_of-requires : goal.type_of-requires
type_of-requires c = named_some (codes "o") 10 organization_name_is

pub returns : goal.returns
returns c = one_type (codes "o") 10 c.type_of.result organization_name_is c.type_of.ensures
