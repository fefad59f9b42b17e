use Rattle.std.proofs.Common.{refl, ◌∙◌}
use Rattle.ldap_server.specs.Seen.{point_in}
use Rattle.ldap_server.specs.Selecting.{entry_octets}
use Rattle.ldap_server.proofs.Selections.{sent_none, sent_one, sent_part, sent_whole}
use Rattle.ldap_server.proofs.session.Session.send_each_entry.Goals as goal

pub loop-entry-init : goal.loop-entry-init
loop-entry-init g c =
    let selection = c.args.selection in
    record {
      port = refl;
      sent = sent_none (entry_octets c.args.id selection.selectors.now selection.types_only) c.args.entries.now (point_in g.P.Port.state c.args.self.now);
    }

pub loop-entry-preserved : goal.loop-entry-preserved
loop-entry-preserved g c =
    let selection = c.args.selection in
    let state = g.P.Port.state in
    record {
      port = c.in-Ok.ensures.port ∙ c.loop-entry.invariant.port;
      sent = sent_one (entry_octets c.args.id selection.selectors.now selection.types_only) c.args.entries.now c.loop-entry.entry-index c.entry-item.result
          (point_in state c.args.self.now) (point_in state c.loop-entry.self) (point_in state c.send_entry.new.self)
          c.loop-entry-test.true c.entry-item.is c.loop-entry.invariant.sent c.in-Ok.ensures.sends;
    }

pub returns-in-Err-clause-port : goal.returns-in-Err-clause-port
returns-in-Err-clause-port g c = c.in-Err.ensures.port ∙ c.loop-entry.invariant.port

pub returns-in-Err-clause-sends : goal.returns-in-Err-clause-sends
returns-in-Err-clause-sends g c =
    let selection = c.args.selection in
    let state = g.P.Port.state in
    sent_part (entry_octets c.args.id selection.selectors.now selection.types_only) c.args.entries.now c.loop-entry.entry-index
    (point_in state c.args.self.now) (point_in state c.loop-entry.self) (point_in state c.send_entry.new.self) c.loop-entry.invariant.sent c.in-Err.ensures.sends

pub returns-clause-sends : goal.returns-clause-sends
returns-clause-sends g c =
    let selection = c.args.selection in
    let state = g.P.Port.state in
    sent_whole (entry_octets c.args.id selection.selectors.now selection.types_only) c.args.entries.now c.loop-entry.entry-index
    (point_in state c.args.self.now) (point_in state c.loop-entry.self) c.loop-entry-test.false c.loop-entry.invariant.sent
