-- One more name that is free.
use Rattle.std.proofs.Common.{Bor, refl}
use Rattle.entry_writes.specs.declared.entry.Entry.{Entry}
use Rattle.entry_tree.specs.Judging.{has_free_name}
use Rattle.entry_tree.proofs.Clear.{all_more}
use Rattle.entry_tree.proofs.tree.Tree.have_free_names.Goals as goal

pub loop-entry-preserved : goal.loop-entry-preserved
loop-entry-preserved c =
    all_more (has_free_name c.args.self.now c.args.changes.now) (λ (e : Bor Entry). e.now) c.args.put.now c.loop-entry.entry-index c.entry-item.result
    c.loop-entry-test.true c.entry-item.is (c.if-not-has_free_name.ensures refl) c.loop-entry.invariant
