use Rattle.std.proofs.Common.{◌≡◌, ap, refl}
use Rattle.ldap_messages.specs.Frame.{long, message, partial, read_of, refused}
use Rattle.ldap_messages.specs.Whole.{message_value}
use Rattle.ldap_server.specs.Following.{first_of}
use Rattle.ldap_server.specs.Seen.{point_in}
use Rattle.ldap_server.proofs.FirstAnswers.{follows_message, follows_wrong}
use Rattle.ldap_server.proofs.Performing.{begun_none}
use Rattle.ldap_server.proofs.session.Session.answer_first.Goals as goal

pub returns-in-Ok-None-clause-follows : goal.returns-in-Ok-None-clause-follows
returns-in-Ok-None-clause-follows g c =
    let read : read_of c.args.bytes.now ≡ partial = rw c.in-Ok-None.field-0-is at c.in-Ok-None.ensures.exact in
    (read, refl)

pub returns-in-Ok-Some-clause-follows : goal.returns-in-Ok-Some-clause-follows
returns-in-Ok-Some-clause-follows g c =
    let state = g.P.Port.state in
    let whole = message_value c.in-Ok-Some.message in
    let read : read_of c.args.bytes.now ≡ message whole c.in-Ok-Some.count = rw c.in-Ok-Some.field-0-is at c.in-Ok-Some.ensures.exact in
    follows_message c.args.access.now c.args.now c.args.bytes.now whole c.in-Ok-Some.count (point_in state c.args.self.now) (point_in state c.answer_message.new.self)
    c.answer_message.result read c.answer_message.ensures.next c.answer_message.ensures.answer

pub returns-in-Err-BadMessage-clause-home : goal.returns-in-Err-BadMessage-clause-home
returns-in-Err-BadMessage-clause-home g c = ap g.P.Port.home c.refuse_bytes.ensures.port

pub returns-in-Err-BadMessage-clause-follows : goal.returns-in-Err-BadMessage-clause-follows
returns-in-Err-BadMessage-clause-follows g c =
    let state = g.P.Port.state in
    let read : read_of c.args.bytes.now ≡ refused c.in-Err-BadMessage.place = rw c.in-Err-BadMessage.field-0-is at c.in-Err-BadMessage.ensures.exact in
    follows_wrong c.args.access.now c.args.now c.args.bytes.now c.in-Err-BadMessage.place (point_in state c.args.self.now) (point_in state c.refuse_bytes.new.self)
    c.refuse_bytes.result (ap first_of read) c.refuse_bytes.ensures.over c.refuse_bytes.ensures.sends

pub returns-in-Err-TooLong-clause-home : goal.returns-in-Err-TooLong-clause-home
returns-in-Err-TooLong-clause-home g c = ap g.P.Port.home c.refuse_bytes-in-Err-TooLong.ensures.port

pub returns-in-Err-TooLong-clause-follows : goal.returns-in-Err-TooLong-clause-follows
returns-in-Err-TooLong-clause-follows g c =
    let state = g.P.Port.state in
    let read : read_of c.args.bytes.now ≡ long = rw c.in-Err-TooLong.field-0-is at c.in-Err-TooLong.ensures.exact in
    follows_wrong c.args.access.now c.args.now c.args.bytes.now 0 (point_in state c.args.self.now) (point_in state c.refuse_bytes-in-Err-TooLong.new.self)
    c.refuse_bytes-in-Err-TooLong.result (ap first_of read) c.refuse_bytes-in-Err-TooLong.ensures.over c.refuse_bytes-in-Err-TooLong.ensures.sends

pub returns-in-Err-NoMemory-clause-follows : goal.returns-in-Err-NoMemory-clause-follows
returns-in-Err-NoMemory-clause-follows g c = begun_none (point_in g.P.Port.state c.args.self.now)
