-- What is dropped at each place is dropped of each search.
use Rattle.std.proofs.Common.{◌∙◌, ap}
use Rattle.sync_provider.specs.Placing.{placed_from}
use Rattle.sync_provider.specs.Staging.{each_unstaged, searches_of, without_groups}
use Rattle.sync_provider.proofs.Held.{unstaged_seen}
use Rattle.sync_provider.proofs.Tables.{placed_map, table_unstaged}
use Rattle.sync_provider.proofs.search_table.SearchTable.unstage_each.Goals as goal

pub returns-clause-searches : goal.returns-clause-searches
returns-clause-searches c =
    ap searches_of (ap (placed_from 1) c.unstage_places.ensures ∙ placed_map without_groups c.self.inside.places.items ∙ ap each_unstaged c.self.view_is)
    ∙ unstaged_seen c.args.self.now

pub returns-clause-unstaged : goal.returns-clause-unstaged
returns-clause-unstaged c =
    ap (placed_from 1) c.unstage_places.ensures ∙ placed_map without_groups c.self.inside.places.items ∙ ap each_unstaged c.self.view_is

pub invariant_of-self : goal.invariant_of-self
invariant_of-self c = table_unstaged c.self.inside.used c.unstage_places.new.places.items c.self.inside.places.items c.self.invariant c.unstage_places.ensures
