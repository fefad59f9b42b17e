use Rattle.std.proofs.Common.{get_or, ◌∙◌, refl}
use Rattle.std.proofs.lemmas.List.{drop_all, get_or_default}
use Rattle.ldap_server.proofs.Exchanging.{dropping_all, dropping_none, dropping_one, left_is}
use Rattle.ldap_server.specs.declared.session_search.SessionSearch.{SessionSearch}
use Rattle.ldap_server.proofs.session.drop_each.Goals as goal

pub loop-search-init : goal.loop-search-init
loop-search-init g c = record { home = refl; dropping = dropping_none c.args.searches.now (g.P.Port.state c.args.port.now) }

pub loop-search-preserved : goal.loop-search-preserved
loop-search-preserved g c =
    let searches = c.args.searches.now in
    let i = c.loop-search.search-index in
    let d : SessionSearch = record { id = 0; number = 0 } in
    let search = get_or searches i d in
    let left = left_is searches i search c.loop-search-test.true (get_or_default searches i d search c.loop-search-test.true) in
    let before = rw left at c.loop-search.invariant.dropping in
    record {
      home = c.drop_search.ensures.home ∙ c.loop-search.invariant.home;
      dropping = dropping_one searches _ search c.drop_search.result (g.P.Port.state c.args.port.now) (g.P.Port.state c.loop-search.port) (g.P.Port.state c.drop_search.new.self)
          before c.drop_search.ensures.replies;
    }

pub returns-clause-drops : goal.returns-clause-drops
returns-clause-drops g c =
    let none = drop_all c.loop-search.search-index c.args.searches.now c.loop-search-test.false in
    dropping_all c.args.searches.now (g.P.Port.state c.args.port.now) (g.P.Port.state c.loop-search.port) (rw none at c.loop-search.invariant.dropping)
