-- What a write of a client leaves of the numbers.
use Rattle.ldap_constants.specs.declared.result_codes.TheConstants.{OTHER}
use Rattle.sync_provider.specs.Ports.{WriteReplies}
use Rattle.shared_directory.specs.Desks.{NumberedState}
use Rattle.shared_directory.proofs.Answered.{write_unmade}
use Rattle.shared_directory.proofs.Seen.{unmade_seen, write_seen}
use Rattle.shared_directory.proofs.numbered.NumberedProvider.write.Goals as goal

pub invariant_of-self : goal.invariant_of-self
invariant_of-self c =
    let d : NumberedState = record { provider = c.self.inside.provider; first = c.self.inside.first; numbers = c.self.inside.numbers.items; openers = c.self.inside.openers } in
    (unmade_seen c.args.number d c.args.self.now c.self.view_is c.self.invariant
    (λ p q. WriteReplies p c.args.op c.args.now (record { code = OTHER; number = c.writes-before.result }) q) c.reserve.new.self.items c.reserve.ensures.items
    (write_unmade c.args.number d c.args.op c.args.now c.writes-before.result c.writes-before.ensures.value)).numbered

pub returns-in_default : goal.returns-in_default
returns-in_default c =
    let d : NumberedState = record { provider = c.self.inside.provider; first = c.self.inside.first; numbers = c.self.inside.numbers.items; openers = c.self.inside.openers } in
    (unmade_seen c.args.number d c.args.self.now c.self.view_is c.self.invariant
    (λ p q. WriteReplies p c.args.op c.args.now (record { code = OTHER; number = c.writes-before.result }) q) c.reserve.new.self.items c.reserve.ensures.items
    (write_unmade c.args.number d c.args.op c.args.now c.writes-before.result c.writes-before.ensures.value)).answered

pub invariant_of-self-2 : goal.invariant_of-self-2
invariant_of-self-2 c =
    (write_seen c.args.number _ c.args.self.now c.self.view_is c.self.invariant c.write-reply.new.self c.reserve.new.self.items c.keep.new.numbers.items c.reserve.ensures.items
    c.writes-before.result c.writes.result c.writes-before.ensures.value c.writes.ensures.value c.keep.ensures.same c.keep.ensures.more
    c.args.op c.args.now c.write-reply.result c.write-reply.ensures.journal).numbered

pub returns : goal.returns
returns c =
    (write_seen c.args.number _ c.args.self.now c.self.view_is c.self.invariant c.write-reply.new.self c.reserve.new.self.items c.keep.new.numbers.items c.reserve.ensures.items
    c.writes-before.result c.writes.result c.writes-before.ensures.value c.writes.ensures.value c.keep.ensures.same c.keep.ensures.more
    c.args.op c.args.now c.write-reply.result c.write-reply.ensures.journal).answered
