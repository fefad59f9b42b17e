use Rattle.std.specs.Prelude.{codes}
use Rattle.drill_plan.proofs.KnownTypes.{surname_is, named_some, one_type}
use Rattle.drill_plan.proofs.kinds.surname.Goals as goal

pub type_of-requires : goal.type_of-requires
type_of-requires c = named_some (codes "sn") 2 surname_is

pub returns : goal.returns
returns c = one_type (codes "sn") 2 c.type_of.result surname_is c.type_of.ensures
