-- What is made at each place is made for each search.
use Rattle.std.proofs.Common.{◌≡◌, ◌∙◌, ap, map}
use Rattle.std.proofs.lemmas.Result.{IfOk-weaker}
use Rattle.csn_cookie.specs.Cookie.{cookie_text}
use Rattle.sync_provider.specs.Placing.{placed_from, staged_at}
use Rattle.sync_provider.specs.Staging.{each_staged, with_group}
use Rattle.sync_provider.proofs.Tables.{placed_map, table_same}
use Rattle.sync_provider.proofs.search_table.SearchTable.stage_each.Goals as goal

pub returns-clause-staged : goal.returns-clause-staged
returns-clause-staged c =
    let touched = c.args.touched.now in
    let cookie = cookie_text c.args.cookie in
    let old = c.self.inside.places.items in
    let new = c.stage_places.new.places.items in
    IfOk-weaker c.stage_places.result (λ _. new ≡ map (staged_at touched cookie) old) (λ _. placed_from 1 new ≡ each_staged touched cookie c.args.self.now)
    (λ _ made. ap (placed_from 1) made ∙ placed_map (with_group touched cookie) old ∙ ap (each_staged touched cookie) c.self.view_is)
    c.stage_places.ensures.staged

pub invariant_of-self : goal.invariant_of-self
invariant_of-self c = table_same c.self.inside.used c.stage_places.new.places.items c.self.inside.places.items c.self.invariant c.stage_places.ensures.searches
