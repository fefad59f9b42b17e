use Rattle.drill_plan.specs.Names.{entry_attributes}
use Rattle.drill_plan.proofs.Listings.{listed_as, entry_list}
use Rattle.drill_plan.proofs.attributes.entry_attributes.Goals as goal

pub of-requires : goal.of-requires
of-requires c = listed_as _ (entry_attributes c.args.slot c.args.step c.args.kind) c.in_ok-entry_items.ensures (entry_list c.args.slot c.args.step c.args.kind)
