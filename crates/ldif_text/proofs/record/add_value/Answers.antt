use Rattle.std.proofs.Common.{◌≡◌, length, ap, arith}
use Rattle.std.proofs.lemmas.Grind.{common_steps}
use Rattle.std.specs.List.{position_or_len}
use Rattle.schema_rules.specs.declared.raw.RawAttribute.{RawAttribute}
use Rattle.ldif_text.specs.Record.{is_of_type}
use Rattle.ldif_text.proofs.Places.{with_value-there, with_value-new}
use Rattle.ldif_text.proofs.record.add_value.Goals as goal

pub returns-then-place-len : goal.returns-then-place-len
returns-then-place-len c = grind (arith, common_steps, with_value-there)

pub returns : goal.returns
returns c =
    let items = c.args.attributes.now.items in
    let past : length items ≡ position_or_len (is_of_type c.args.name) items = omega (arith, c.args.attributes.now.ok.0, ap (position_or_len (is_of_type c.args.name)) c.deref.ensures.value, ap (length {A = RawAttribute}) c.deref.ensures.value) in
    rw (c.in_ok-push.ensures.items, c.of_one-values.ensures) (with_value-new items c.args.name c.args.value past)
