use Rattle.std.proofs.Common.{refl, ap, ◌∙◌}
use Rattle.ldap_client.specs.Links.{link_by}
use Rattle.ldap_client.specs.Receiving.{kept_in}
use Rattle.ldap_client.proofs.RoundSteps.{round_fault, round_memory, round_message, round_read, round_wrong}
use Rattle.ldap_client.proofs.client.Client.go_round.Goals as goal

pub returns-in-Ok-Some : goal.returns-in-Ok-Some
returns-in-Ok-Some g c = round_message _ _ c.in-Ok-Some.message refl refl (rw c.in-Ok-Some.field-0-is at c.in-Ok-Some.ensures)

-- no message is whole yet
pub returns-in-Ok : goal.returns-in-Ok
returns-in-Ok g c =
    let taken = rw c.in-Ok-None.field-0-is at c.in-Ok-None.ensures in
    round_read _ _ _ refl taken.1 refl taken.0 c.in-Ok.ensures

pub returns-in-Err : goal.returns-in-Err
returns-in-Err g c =
    let taken = rw c.in-Ok-None.field-0-is at c.in-Ok-None.ensures in
    round_fault _ _ _ c.in-Err.fault refl taken.1 refl taken.0 c.in-Err.ensures

-- what came is refused
pub returns-in-Err-BadMessage : goal.returns-in-Err-BadMessage
returns-in-Err-BadMessage g c =
    let taken = rw c.in-Err-BadMessage.field-0-is at c.in-Err-BadMessage.ensures in
    rw c.fail.ensures.fault
    (round_wrong _ _ c.in-Err-BadMessage.place (ap (link_by g.L.Source.bytes_left g.L.Source.bytes_read g.L.Sink.bytes_held g.L.Source.read_fault_count g.L.Sink.write_fault_count) c.fail.ensures.link)
    taken.0 (ap kept_in c.fail.ensures.received ∙ taken.1) c.fail.ensures.answers)

pub returns-in-Err-TooLong : goal.returns-in-Err-TooLong
returns-in-Err-TooLong g c =
    let taken = rw c.in-Err-TooLong.field-0-is at c.in-Err-TooLong.ensures in
    rw c.fail-in-Err-TooLong.ensures.fault
    (round_wrong _ _ 0 (ap (link_by g.L.Source.bytes_left g.L.Source.bytes_read g.L.Sink.bytes_held g.L.Source.read_fault_count g.L.Sink.write_fault_count) c.fail-in-Err-TooLong.ensures.link)
    taken.0 (ap kept_in c.fail-in-Err-TooLong.ensures.received ∙ taken.1) c.fail-in-Err-TooLong.ensures.answers)

pub returns-in-Err-NoMemory : goal.returns-in-Err-NoMemory
returns-in-Err-NoMemory g c = round_memory _ _ refl (rw c.in-Err-NoMemory.field-0-is at c.in-Err-NoMemory.ensures) refl
