-- What is taken out of its place is gone.
use Rattle.std.proofs.Common.{set, ap, sym, subst, Option, ◌∙◌}
use Rattle.sync_provider.specs.Placing.{IsTable, placed_from}
use Rattle.sync_provider.proofs.Tables.{emptied, gone_of, table_emptied}
use Rattle.sync_provider.specs.declared.open_search.OpenSearch.{OpenSearch}
use Rattle.sync_provider.proofs.search_table.SearchTable.remove.Goals as goal

pub returns-clause-gone : goal.returns-clause-gone
returns-clause-gone c =
    gone_of c.self.inside.places.items _ c.args.number
    (ap (λ x. placed_from 1 (set c.self.inside.places.items c.in-Some.place x)) c.replace.ensures.after
    ∙ emptied c.self.inside.places.items c.args.number c.in-Some.place c.in-Some.ensures.some)

pub invariant_of-self-2 : goal.invariant_of-self-2
invariant_of-self-2 c =
    subst (λ (x : Option OpenSearch). IsTable c.self.inside.used (set c.self.inside.places.items c.in-Some.place x)) (sym c.replace.ensures.after)
    (table_emptied c.self.inside.places.items c.self.inside.used c.in-Some.place c.self.invariant)
