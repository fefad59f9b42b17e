use Rattle.drill_plan.specs.Names.{suffix_attributes}
use Rattle.drill_plan.proofs.Listings.{listed_as, suffix_list}
use Rattle.drill_plan.proofs.attributes.suffix_attributes.Goals as goal

pub of-requires : goal.of-requires
of-requires c = listed_as _ (suffix_attributes) c.in_ok-suffix_items.ensures suffix_list
