-- Fewer values keep the list of attributes one.
use Rattle.entry_writes.proofs.AttributeLists.{IsAttributeList-without_values}
use Rattle.entry_writes.proofs.changing.without_pair.Goals as goal

pub of-requires : goal.of-requires
of-requires c =
    rw (c.in_ok-items.ensures, c.list.ensures.value) (IsAttributeList-without_values c.args.attrs.now c.pair.inside.kind c.from_ref.result.now c.list.ensures.sound)
