use Rattle.sync_provider.specs.declared.searching.SearchReply.TheVariants as found
use Rattle.ldap_server.specs.Seen.{point_in}
use Rattle.ldap_server.proofs.Searched.{found as answered}
use Rattle.ldap_server.proofs.session.Session.answer_plain.Goals as goal

pub returns-in-Found-clause-answer : goal.returns-in-Found-clause-answer
returns-in-Found-clause-answer g c =
    let state = g.P.Port.state in
    answered c.args.ask c.args.id c.args.selection.selectors.now c.args.selection.types_only (found.Found c.in-Found.entries)
    (point_in state c.args.self.now) (point_in state c.send_entries.new.self) (state c.search-reply.new.self) c.send_entries.result (rw c.in-Found.is at c.search-reply.ensures.replies) c.send_entries.ensures.sends

pub returns-in-Over-clause-answer : goal.returns-in-Over-clause-answer
returns-in-Over-clause-answer g c =
    let state = g.P.Port.state in
    answered c.args.ask c.args.id c.args.selection.selectors.now c.args.selection.types_only (found.Over c.in-Over.entries)
    (point_in state c.args.self.now) (point_in state c.send_entries-in-Over.new.self) (state c.search-reply.new.self) c.send_entries-in-Over.result (rw c.in-Over.is at c.search-reply.ensures.replies) c.send_entries-in-Over.ensures.sends

pub returns-in-NoSuchBase-clause-answer : goal.returns-in-NoSuchBase-clause-answer
returns-in-NoSuchBase-clause-answer g c =
    let state = g.P.Port.state in
    answered c.args.ask c.args.id c.args.selection.selectors.now c.args.selection.types_only found.NoSuchBase
    (point_in state c.args.self.now) (point_in state c.respond.new.self) (state c.search-reply.new.self) c.respond.result (rw c.in-NoSuchBase.is at c.search-reply.ensures.replies) c.respond.ensures.sends

pub returns-in-NoMemory-clause-answer : goal.returns-in-NoMemory-clause-answer
returns-in-NoMemory-clause-answer g c =
    let state = g.P.Port.state in
    answered c.args.ask c.args.id c.args.selection.selectors.now c.args.selection.types_only found.NoMemory
    (point_in state c.args.self.now) (point_in state c.respond-in-NoMemory.new.self) (state c.search-reply.new.self) c.respond-in-NoMemory.result (rw c.in-NoMemory.is at c.search-reply.ensures.replies) c.respond-in-NoMemory.ensures.sends
