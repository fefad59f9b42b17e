use Rattle.std.proofs.Common.{◌∙◌}
use Rattle.sync_wire.proofs.UuidTexts.{spelled}
use Rattle.sync_wire.proofs.sending.uuid_attribute.Goals as goal

pub returns : goal.returns
returns c =
    let text = c.as_bytes.ensures.value ∙ c.encode_lower-uuid.ensures.text in
    rw (spelled c.args.uuid _ _ (c.hyphenated.ensures ∙ c.from_u128.ensures) text) at c.single.ensures
