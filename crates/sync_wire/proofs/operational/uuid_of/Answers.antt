use Rattle.std.proofs.Common.{nat_eq, length, sym, true≢false}
use Rattle.uuid.specs.Text.{parsed}
use Rattle.sync_wire.proofs.Texts.{spells_none}
use Rattle.sync_wire.proofs.operational.uuid_of.Goals as goal

pub returns-in-Err : goal.returns-in-Err
returns-in-Err c =
    let text = c.args.text.now in
    spells_none (nat_eq (length text) 36) (parsed text) (λ x spelled. true≢false (sym (c.in-Err.ensures.ok.1 (x, spelled))))
