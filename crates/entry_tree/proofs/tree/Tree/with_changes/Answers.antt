-- The copy is changed.
use Rattle.std.proofs.Common.{◌≡◌, List, sym, subst}
use Rattle.std.specs.Prelude.{IfOk}
use Rattle.entry_writes.specs.declared.entry.Entry.{Entry}
use Rattle.entry_writes.specs.Touched.{with_changes, CanBeMade}
use Rattle.entry_tree.proofs.tree.Tree.with_changes.Goals as goal

pub changed_by-requires : goal.changed_by-requires
changed_by-requires c = subst (λ (es : List Entry). CanBeMade es c.args.entry_changes.now) (sym c.in_ok-copy.ensures) c.requires

pub returns : goal.returns
returns c =
    subst (λ (es : List Entry). IfOk c.changed_by.result (λ (after : List Entry). after ≡ with_changes es c.args.entry_changes.now)) c.in_ok-copy.ensures c.changed_by.ensures
