use Rattle.std.proofs.Common.{◌≡◌, [], ◌∷◌, ◌++◌, ap, append-nil, append_assoc, refl, subst, sym, ◌∙◌}
use Rattle.std.proofs.lemmas.List.{nil_from_length}
use Rattle.std.specs.List.{flat_map}
use Rattle.ldap_server.specs.HandOuts.{AreOfGrammar, octets_of}
use Rattle.ldap_server.specs.Seen.{point_in}
use Rattle.ldap_server.proofs.Performing.{part_more, with_sent}
use Rattle.ldap_server.proofs.Together.{none_sent, one_sent, rest_of_grammar}
use Rattle.ldap_server.proofs.session.Session.send_each.Goals as goal

pub loop-message-init : goal.loop-message-init
loop-message-init g c = record {
  port = refl;
  sent = none_sent (point_in g.P.Port.state c.args.self.now);
  all = sym c.into_iter-message-iterator.ensures.into_iter_gives.0;
}

pub send-requires : goal.send-requires
send-requires g c =
    let inv = c.loop-message.invariant in
    let yielded = c.loop-message.yielded in
    let all = subst AreOfGrammar (inv.all ∙ ap (λ more. yielded ++ more) c.in-Some.ensures.steps.0) c.requires in
    (rest_of_grammar yielded (c.in-Some.message ∷ c.next.new.self.rest.items) all).0

pub loop-message-preserved : goal.loop-message-preserved
loop-message-preserved g c =
    let state = g.P.Port.state in
    let inv = c.loop-message.invariant in
    let yielded = c.loop-message.yielded in
    let message = c.in-Some.message in
    record {
      port = c.in-Ok.ensures.port ∙ inv.port;
      sent = one_sent yielded message (point_in state c.args.self.now) (point_in state c.loop-message.self) (point_in state c.send.new.self) inv.sent c.in-Ok.ensures.sends;
      all = inv.all
          ∙ ap (λ more. yielded ++ more) c.in-Some.ensures.steps.0
          ∙ sym (append_assoc yielded (message ∷ []) c.next.new.self.rest.items);
    }

pub returns-in-Err-clause-port : goal.returns-in-Err-clause-port
returns-in-Err-clause-port g c = c.in-Err.ensures.port ∙ c.loop-message.invariant.port

pub returns-in-Err-clause-sends : goal.returns-in-Err-clause-sends
returns-in-Err-clause-sends g c =
    let state = g.P.Port.state in
    part_more (flat_map octets_of c.loop-message.yielded) (point_in state c.args.self.now) (point_in state c.loop-message.self) (point_in state c.send.new.self)
    c.loop-message.invariant.sent c.in-Err.ensures.sends

pub returns-clause-port : goal.returns-clause-port
returns-clause-port g c = c.loop-message.invariant.port

pub returns-clause-sends : goal.returns-clause-sends
returns-clause-sends g c =
    let inv = c.loop-message.invariant in
    let old = point_in g.P.Port.state c.args.self.now in
    let left = c.loop-message.message-iterator.rest in
    let none : left.items ≡ [] = nil_from_length left.items (sym left.ok.0 ∙ c.in-None.ensures.steps.0) in
    let same : c.loop-message.yielded ≡ c.args.messages.items =
    sym (inv.all ∙ (ap (λ more. c.loop-message.yielded ++ more) none ∙ append-nil c.loop-message.yielded)) in
    inv.sent ∙ ap (λ ms. with_sent old (old.sent ++ flat_map octets_of ms)) same
