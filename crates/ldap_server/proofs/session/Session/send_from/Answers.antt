use Rattle.std.proofs.Common.{ap, drop, ◌∙◌}
use Rattle.ldap_server.specs.Seen.{point_in}
use Rattle.ldap_server.specs.Selecting.{entry_octets}
use Rattle.ldap_server.proofs.InBatches.{entries_in, sends_batches}
use Rattle.ldap_server.proofs.Performing.{part_none}
use Rattle.ldap_server.proofs.session.Session.send_from.Goals as goal

pub returns-in-Ok-clause-sends : goal.returns-in-Ok-clause-sends
returns-in-Ok-clause-sends g c =
    let selection = c.args.selection in
    let state = g.P.Port.state in
    sends_batches entries_in (entry_octets c.args.id selection.selectors.now selection.types_only)
    c.in-Ok.batches.items (drop c.args.place c.args.entries) (point_in state c.args.self.now) (point_in state c.send_batches.new.self) c.send_batches.result
    (c.in-Ok.ensures ∙ ap (drop c.args.place) c.into_items.ensures) c.send_batches.ensures.sends

pub returns-in-Err-clause-sends : goal.returns-in-Err-clause-sends
returns-in-Err-clause-sends g c = part_none (point_in g.P.Port.state c.args.self.now)
