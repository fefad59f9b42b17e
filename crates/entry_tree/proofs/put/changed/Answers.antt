-- The entries go before the others come.
use Rattle.std.specs.Map.{values_of}
use Rattle.entry_tree.proofs.ByIdentity.{changed_by_steps}
use Rattle.entry_tree.proofs.put.changed.Goals as goal

pub returns : goal.returns
returns c =
    changed_by_steps (values_of c.args.entries) c.args.entries c.remove_each.new.entries c.put_each.new.entries c.args.changes.now c.requires.ascends
    c.requires.keyed c.in_ok-remove_each.ensures c.in_ok-put_each.ensures
