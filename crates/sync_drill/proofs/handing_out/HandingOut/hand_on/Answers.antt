use Rattle.std.proofs.Common.{◌∷◌, [], ◌++◌, ap, sym, subst}
use Rattle.ldap_messages.specs.Whole.{message_octets, message_value}
use Rattle.link_rings.specs.Ends.{offered}
use Rattle.sync_drill.specs.Going.{HasGoneOn}
use Rattle.sync_drill.proofs.Going.{goes-twice}
use Rattle.sync_drill.proofs.HandingSteps.{handing-as, may_open-as}
use Rattle.sync_drill.proofs.Turns.{done-waiting, end_spelled, handed_out-goes, handing-message, message_spelled, may_open-closed, never_unknown}
use Rattle.sync_drill.proofs.handing_out.HandingOut.hand_on.Goals as goal

-- ---- a message

pub offer-requires-clause-spelled : goal.offer-requires-clause-spelled
offer-requires-clause-spelled g c =
    let old = c.args.self.now in
    message_spelled old.consumer old.search (g.P.Port.state old.port) (g.P.Port.state c.hand_out.new.self) (offered old.producer)
    c.requires.handing c.in-Message.message c.in-Message.ensures.replies

pub returns-in_err-offer-in-Message-clause-goes_on : goal.returns-in_err-offer-in-Message-clause-goes_on
returns-in_err-offer-in-Message-clause-goes_on g c =
    let old = c.args.self.now in
    let state = g.P.Port.state in
    subst (HasGoneOn (state old.port)) (sym (ap state c.offer.ensures.same.0))
    (handed_out-goes old.search (state old.port) (state c.hand_out.new.self) c.hand_out.result c.hand_out.ensures.replies)

pub returns-in_ok-offer-in-Message-clause-goes_on : goal.returns-in_ok-offer-in-Message-clause-goes_on
returns-in_ok-offer-in-Message-clause-goes_on g c =
    let old = c.args.self.now in
    let state = g.P.Port.state in
    subst (HasGoneOn (state old.port)) (sym (ap state c.offer.ensures.same.0))
    (handed_out-goes old.search (state old.port) (state c.hand_out.new.self) c.hand_out.result c.hand_out.ensures.replies)

pub returns-in_ok-offer-in-Message-clause-handing : goal.returns-in_ok-offer-in-Message-clause-handing
returns-in_ok-offer-in-Message-clause-handing g c =
    let old = c.args.self.now in
    let new = c.offer.new.self in
    let state = g.P.Port.state in
    handing-as old.consumer new.consumer old.search new.search (state c.hand_out.new.self) (state new.port)
    (offered old.producer ++ message_octets (message_value c.in-Message.message) ∷ []) (offered new.producer)
    c.offer.ensures.same.2 c.offer.ensures.same.1 (ap state c.offer.ensures.same.0) c.in_ok-offer-in-Message.ensures.ok
    (handing-message old.consumer old.search (state old.port) (state c.hand_out.new.self) (offered old.producer) c.requires.handing
    c.in-Message.message c.in-Message.ensures.replies)

-- ---- the end of the search

pub offer-requires-in-Ended-clause-spelled : goal.offer-requires-in-Ended-clause-spelled
offer-requires-in-Ended-clause-spelled g c =
    let old = c.args.self.now in
    end_spelled old.consumer old.search (g.P.Port.state old.port) (g.P.Port.state c.hand_out.new.self) (offered old.producer)
    c.requires.handing _ c.in-Ended.message c.in-Ended.ensures.replies

pub returns-in_err-offer-in-Ended-clause-goes_on : goal.returns-in_err-offer-in-Ended-clause-goes_on
returns-in_err-offer-in-Ended-clause-goes_on g c =
    let old = c.args.self.now in
    let state = g.P.Port.state in
    subst (HasGoneOn (state old.port)) (sym (ap state c.offer-in-Ended.ensures.same.0))
    (handed_out-goes old.search (state old.port) (state c.hand_out.new.self) c.hand_out.result c.hand_out.ensures.replies)

pub open-requires : goal.open-requires
open-requires g c =
    let old = c.args.self.now in
    let new = c.offer-in-Ended.new.self in
    let state = g.P.Port.state in
    may_open-as old.consumer new.consumer (state c.hand_out.new.self) (state new.port)
    (offered old.producer ++ message_octets (message_value c.in-Ended.message) ∷ []) (offered new.producer)
    c.offer-in-Ended.ensures.same.2 (ap state c.offer-in-Ended.ensures.same.0) c.in_ok-offer-in-Ended.ensures.ok
    (may_open-closed old.consumer old.search (state old.port) (state c.hand_out.new.self) (offered old.producer) c.requires.handing
    _ c.in-Ended.message c.in-Ended.ensures.replies)

pub returns-in_err-open-in-Ended-clause-goes_on : goal.returns-in_err-open-in-Ended-clause-goes_on
returns-in_err-open-in-Ended-clause-goes_on g c =
    let old = c.args.self.now in
    let state = g.P.Port.state in
    goes-twice (state old.port) (state c.offer-in-Ended.new.self.port) (state c.open.new.self.port)
    (subst (HasGoneOn (state old.port)) (sym (ap state c.offer-in-Ended.ensures.same.0))
    (handed_out-goes old.search (state old.port) (state c.hand_out.new.self) c.hand_out.result c.hand_out.ensures.replies))
    c.open.ensures.goes_on

pub returns-in_ok-open-in-Ended-clause-goes_on : goal.returns-in_ok-open-in-Ended-clause-goes_on
returns-in_ok-open-in-Ended-clause-goes_on g c =
    let old = c.args.self.now in
    let state = g.P.Port.state in
    goes-twice (state old.port) (state c.offer-in-Ended.new.self.port) (state c.open.new.self.port)
    (subst (HasGoneOn (state old.port)) (sym (ap state c.offer-in-Ended.ensures.same.0))
    (handed_out-goes old.search (state old.port) (state c.hand_out.new.self) c.hand_out.result c.hand_out.ensures.replies))
    c.open.ensures.goes_on

-- ---- nothing is handed out

pub returns-in-Nothing-clause-goes_on : goal.returns-in-Nothing-clause-goes_on
returns-in-Nothing-clause-goes_on g c =
    let state = g.P.Port.state in
    handed_out-goes c.args.self.now.search (state c.args.self.now.port) (state c.hand_out.new.self) c.hand_out.result c.hand_out.ensures.replies

pub returns-in-Nothing-clause-handing : goal.returns-in-Nothing-clause-handing
returns-in-Nothing-clause-handing g c =
    let old = c.args.self.now in
    (done-waiting old.consumer old.search (g.P.Port.state old.port) (g.P.Port.state c.hand_out.new.self) (offered old.producer)
    c.requires.handing c.in-Nothing.ensures.replies).handing

pub returns-in-Nothing-clause-nothing : goal.returns-in-Nothing-clause-nothing
returns-in-Nothing-clause-nothing g c =
    let old = c.args.self.now in
    λ none. done-waiting old.consumer old.search (g.P.Port.state old.port) (g.P.Port.state c.hand_out.new.self) (offered old.producer)
    c.requires.handing c.in-Nothing.ensures.replies

-- its search is open
pub unreachable-requires : goal.unreachable-requires
unreachable-requires g c =
    let old = c.args.self.now in
    let state = g.P.Port.state in
    never_unknown old.consumer old.search (state old.port) (state c.hand_out.new.self) (offered old.producer) c.requires.handing c.in-NoSuchSearch.ensures.replies

pub returns-in-NoMemory-clause-goes_on : goal.returns-in-NoMemory-clause-goes_on
returns-in-NoMemory-clause-goes_on g c =
    let state = g.P.Port.state in
    handed_out-goes c.args.self.now.search (state c.args.self.now.port) (state c.hand_out.new.self) c.hand_out.result c.hand_out.ensures.replies
