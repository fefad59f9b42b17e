-- An edit that a client may ask for keeps the list of attributes one.
use Rattle.entry_writes.proofs.AttributeLists.{IsAttributeList-after_edit}
use Rattle.entry_writes.proofs.changing.after_edit.Goals as goal

pub of-requires : goal.of-requires
of-requires c =
    rw (c.in_ok-items.ensures, c.list.ensures.value) (IsAttributeList-after_edit c.args.attrs.now c.args.edit.now c.requires c.list.ensures.sound)
