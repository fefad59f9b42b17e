-- The place is in use from now on.
use Rattle.sync_provider.proofs.Tables.{table_put}
use Rattle.sync_provider.proofs.search_table.SearchTable.put.Goals as goal

pub invariant_of-self : goal.invariant_of-self
invariant_of-self c =
    table_put c.self.inside.places.items c.self.inside.used c.args.number c.used_with-used.result c.args.search c.self.invariant c.requires c.used_with-used.ensures.before
    c.used_with-used.ensures.own (c.used_with-used.ensures.few c.self.invariant.few c.requires.last)
