-- An attribute of the name has its values, and another none.
use Rattle.std.proofs.Common.{◌≡◌, true, false, codes, sym, ap, ◌∙◌}
use Rattle.std.specs.Str.{str_eq_ignore_ascii_case}
use Rattle.sync_wire.specs.WireEntry.{uuids_read}
use Rattle.sync_wire.proofs.Identified.{named_alone, other_alone}
use Rattle.sync_wire.proofs.operational.uuids_in.Goals as goal

pub returns-then-is_named : goal.returns-then-is_named
returns-then-is_named c =
    let raw = c.args.raw.now in
    let named : str_eq_ignore_ascii_case raw.name (codes "entryUUID") ≡ true = sym c.is_named.ensures ∙ c.if-is_named.true in
    c.uuids_of.ensures ∙ ap (uuids_read c.args.uuid) (c.list.ensures ∙ sym (named_alone (codes "entryUUID") raw named))

pub returns : goal.returns
returns c =
    let raw = c.args.raw.now in
    let other : str_eq_ignore_ascii_case raw.name (codes "entryUUID") ≡ false = sym c.is_named.ensures ∙ c.if-is_named.false in
    ap (uuids_read c.args.uuid) (sym (other_alone (codes "entryUUID") raw other))
