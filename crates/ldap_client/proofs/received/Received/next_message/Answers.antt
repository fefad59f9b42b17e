use Rattle.std.proofs.Common.{◌≡◌, refl}
use Rattle.ldap_messages.specs.Frame.{message, partial, read_of}
use Rattle.ldap_messages.specs.Whole.{message_value}
use Rattle.ldap_client.specs.Receiving.{kept_in}
use Rattle.ldap_client.proofs.Taking.{takes_fault, takes_message}
use Rattle.ldap_client.proofs.received.Received.next_message.Goals as goal

pub returns-in-Ok-None : goal.returns-in-Ok-None
returns-in-Ok-None c =
    let read : read_of (kept_in c.args.self.now) ≡ partial = rw (c.in-Ok-None.field-0-is, c.split_at.ensures.back, c.as_slice.ensures.value) at c.in-Ok-None.ensures.exact in
    (read, refl)

pub returns-in-Ok-Some : goal.returns-in-Ok-Some
returns-in-Ok-Some c =
    let read : read_of (kept_in c.args.self.now) ≡ message (message_value c.in-Ok-Some.message) c.in-Ok-Some.count =
    rw (c.in-Ok-Some.field-0-is, c.split_at.ensures.back, c.as_slice.ensures.value) at c.in-Ok-Some.ensures.exact in
    takes_message c.args.self.now.came.items c.args.self.now.given c.in-Ok-Some.count c.in-Ok-Some.message read

pub returns-in-Err : goal.returns-in-Err
returns-in-Err c = takes_fault (kept_in c.args.self.now) c.in-Err.fault (rw (c.split_at.ensures.back, c.as_slice.ensures.value) at c.in-Err.ensures.exact)
