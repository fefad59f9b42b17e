use Rattle.sync_provider.specs.declared.searches.SyncSearch.{SyncSearch}
use Rattle.ldap_server.specs.Seen.{point_in}
use Rattle.ldap_server.specs.Table.{Opens, value_or_empty}
use Rattle.ldap_server.proofs.Searched.{or_other, sends_only_other}
use Rattle.ldap_server.proofs.session.Session.answer_sync.Goals as goal

pub returns-in-Ok-clause-answer : goal.returns-in-Ok-clause-answer
returns-in-Ok-clause-answer g c =
    let state = g.P.Port.state in
    let ask : SyncSearch = record { id = c.args.id; spec = c.args.spec; control = value_or_empty c.args.control.now.value } in
    or_other (Opens ask) c.args.id (point_in state c.args.self.now) (point_in state c.open_search.new.self) c.open_search.result (rw c.in-Ok.ensures at c.open_search.ensures.answer)

pub returns-in-Err-clause-answer : goal.returns-in-Err-clause-answer
returns-in-Err-clause-answer g c =
    let state = g.P.Port.state in
    let ask : SyncSearch = record { id = c.args.id; spec = c.args.spec; control = value_or_empty c.args.control.now.value } in
    sends_only_other (Opens ask) c.args.id (point_in state c.args.self.now) (point_in state c.respond.new.self) c.respond.result c.respond.ensures.sends
