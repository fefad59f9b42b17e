use Rattle.std.specs.Prelude.{codes}
use Rattle.drill_plan.proofs.KnownTypes.{object_class_is, named_some, one_type}
use Rattle.drill_plan.proofs.kinds.object_class.Goals as goal

pub type_of-requires : goal.type_of-requires
type_of-requires c = named_some (codes "objectClass") 0 object_class_is

pub returns : goal.returns
returns c = one_type (codes "objectClass") 0 c.type_of.result object_class_is c.type_of.ensures
