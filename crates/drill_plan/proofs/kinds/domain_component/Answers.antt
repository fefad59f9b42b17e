use Rattle.std.specs.Prelude.{codes}
use Rattle.drill_plan.proofs.KnownTypes.{component_is, named_some, one_type}
use Rattle.drill_plan.proofs.kinds.domain_component.Goals as goal

pub type_of-requires : goal.type_of-requires
type_of-requires c = named_some (codes "dc") 12 component_is

pub returns : goal.returns
returns c = one_type (codes "dc") 12 c.type_of.result component_is c.type_of.ensures
