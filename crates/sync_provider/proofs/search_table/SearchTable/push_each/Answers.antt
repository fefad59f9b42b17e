-- The places that are free stay so.
use Rattle.sync_provider.proofs.Tables.{table_pushed}
use Rattle.sync_provider.proofs.search_table.SearchTable.push_each.Goals as goal

pub invariant_of-self : goal.invariant_of-self
invariant_of-self c = table_pushed c.args.limit c.self.inside.used c.push_places.new.places.items c.self.inside.places.items c.self.invariant c.push_places.ensures
