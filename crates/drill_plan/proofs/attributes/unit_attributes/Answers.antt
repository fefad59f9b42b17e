use Rattle.drill_plan.specs.Names.{unit_attributes}
use Rattle.drill_plan.proofs.Listings.{listed_as, unit_list}
use Rattle.drill_plan.proofs.attributes.unit_attributes.Goals as goal

pub of-requires : goal.of-requires
of-requires c = listed_as _ (unit_attributes c.args.writer) c.in_ok-unit_items.ensures (unit_list c.args.writer)
