use Rattle.std.proofs.Common.{◌≡◌, ◌++◌, drop, sym, ap, ◌∙◌}
use Rattle.std.specs.List.{flat_map}
use Rattle.ldap_server.specs.Seen.{point_in}
use Rattle.ldap_server.specs.Selecting.{entry_octets}
use Rattle.ldap_server.proofs.Performing.{part_more}
use Rattle.ldap_server.proofs.Selections.{sent_then}
use Rattle.ldap_server.proofs.session.Session.send_entries.Goals as goal

pub returns-in-Err-clause-port : goal.returns-in-Err-clause-port
returns-in-Err-clause-port g c = c.in-Err.ensures.port ∙ c.make_room.ensures.port ∙ c.in-Ok.ensures.port

pub returns-in-Err-clause-sends : goal.returns-in-Err-clause-sends
returns-in-Err-clause-sends g c =
    let selection = c.args.selection in
    let state = g.P.Port.state in
    part_more (flat_map (entry_octets c.args.id selection.selectors.now selection.types_only) c.split_at.result.0.now)
    (point_in state c.args.self.now) (point_in state c.make_room.new.self) (point_in state c.send_from.new.self)
    (c.make_room.ensures.same ∙ c.in-Ok.ensures.sends) c.in-Err.ensures.sends

pub returns-in-Ok-send_from-clause-port : goal.returns-in-Ok-send_from-clause-port
returns-in-Ok-send_from-clause-port g c = c.respond.ensures.port ∙ c.in-Ok-send_from.ensures.port ∙ c.make_room.ensures.port ∙ c.in-Ok.ensures.port

pub returns-in-Ok-send_from-clause-sends : goal.returns-in-Ok-send_from-clause-sends
returns-in-Ok-send_from-clause-sends g c =
    let selection = c.args.selection in
    let state = g.P.Port.state in
    let entries = c.args.entries in
    let first = c.split_at.result.0.now in
    let rest = c.split_at.result.1.now in
    let left : rest ≡ drop c.min-count.result entries = c.split_at.ensures.back ∙ ap (drop c.min-count.result) c.list-held.ensures in
    let parts : entries ≡ first ++ drop c.min-count.result entries =
    sym c.list-held.ensures ∙ c.split_at.ensures.by_index.0 ∙ ap (λ xs. first ++ xs) left in
    sent_then (entry_octets c.args.id selection.selectors.now selection.types_only) first (drop c.min-count.result entries) entries _
    (point_in state c.args.self.now) (point_in state c.make_room.new.self) (point_in state c.send_from.new.self) (point_in state c.respond.new.self) c.respond.result
    parts (c.make_room.ensures.same ∙ c.in-Ok.ensures.sends) c.in-Ok-send_from.ensures.sends c.respond.ensures.sends
