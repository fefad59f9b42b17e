use Rattle.std.proofs.Common.{[], ◌∷◌, ◌++◌, ap, refl, sym, ◌∙◌}
use Rattle.std.proofs.lemmas.List.{append-nil}
use Rattle.sync_provider.specs.declared.searches.Accepted.TheVariants as accepted
use Rattle.ldap_server.specs.Seen.{point_in}
use Rattle.ldap_server.proofs.Performing.{begun_after, session_is}
use Rattle.ldap_server.proofs.Searched.{opened, unopened}
use Rattle.ldap_server.proofs.session.Session.open_search.Goals as goal

pub returns-in_default-clause-answer : goal.returns-in_default-clause-answer
returns-in_default-clause-answer g c = begun_after [] [] (point_in g.P.Port.state c.args.self.now) _ refl (sym (append-nil _))

pub returns-in-Opened-clause-answer : goal.returns-in-Opened-clause-answer
returns-in-Opened-clause-answer g c =
    opened c.args.ask c.in-Opened.number c.in-Opened.field-1 (point_in g.P.Port.state c.args.self.now) _ c.in-Opened.ensures.replies
    (session_is _ _ _ _ refl (c.push_reserved.ensures.items ∙ ap (λ xs. xs ++ (record { id = c.args.ask.id; number = c.in-Opened.number }) ∷ []) c.reserve.ensures.items)) refl

pub returns-in-Refused-clause-answer : goal.returns-in-Refused-clause-answer
returns-in-Refused-clause-answer g c =
    let state = g.P.Port.state in
    unopened c.args.ask (accepted.Refused c.in-Refused.code) (point_in state c.args.self.now) (point_in state c.respond.new.self) (state c.accept.new.self) c.respond.result
    refl c.in-Refused.ensures.replies (rw c.reserve.ensures.items at c.respond.ensures.sends)

pub returns-in-NoMemory-clause-answer : goal.returns-in-NoMemory-clause-answer
returns-in-NoMemory-clause-answer g c =
    let state = g.P.Port.state in
    unopened c.args.ask accepted.NoMemory (point_in state c.args.self.now) (point_in state c.respond-in-NoMemory.new.self) (state c.accept.new.self) c.respond-in-NoMemory.result
    refl c.in-NoMemory.ensures.replies (rw c.reserve.ensures.items at c.respond-in-NoMemory.ensures.sends)
