-- One more value keeps the list of attributes one.
use Rattle.entry_writes.proofs.AttributeLists.{IsAttributeList-with_value}
use Rattle.entry_writes.proofs.changing.with_pair.Goals as goal

pub of-requires : goal.of-requires
of-requires c =
    rw (c.in_ok-add_values.ensures.ok, c.in_ok-items.ensures, c.list-2.ensures.value, c.in_ok-values.ensures)
    (IsAttributeList-with_value c.args.attrs.now c.pair.inside.kind c.pair.inside.value c.list-2.ensures.sound)
