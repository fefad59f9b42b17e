-- The entries after the changes are those of a directory, and their index is that of their names.
use Rattle.std.proofs.Common.{◌∙◌, ap, sym, subst, arith}
use Rattle.std.specs.Map.{values_of}
use Rattle.entry_writes.specs.State.{IsDirectory}
use Rattle.entry_writes.specs.Touched.{CanBeMade, with_changes}
use Rattle.entry_tree.specs.NameIndex.{by_identity, IsIndex}
use Rattle.entry_tree.specs.Pinned.{CountsStrays}
use Rattle.entry_tree.proofs.ByIdentity.{keyed_as}
use Rattle.entry_tree.proofs.Counting.{counted_made, strays_after_few, strays_few, strays_made}
use Rattle.entry_tree.proofs.NameChanges.{index_made}
use Rattle.entry_tree.proofs.Weighing.{directory_made, weighs_made}
use Rattle.entry_tree.proofs.tree.Tree.changed_as.Goals as goal

pub weight_with-weight-requires-clause-before : goal.weight_with-weight-requires-clause-before
weight_with-weight-requires-clause-before c =
    let es = values_of c.self.inside.entries in
    let changes = c.list-changes.result.now in
    let can = subst (CanBeMade es) (sym c.list-changes.ensures) (subst (λ xs. CanBeMade xs c.args.entry_changes.now) (sym c.self.view_is) c.requires) in
    omega (arith, c.self.invariant.directory.weighed, (weighs_made es changes c.self.invariant.directory.ascends can).before)

pub weight_with-weight-requires-clause-after : goal.weight_with-weight-requires-clause-after
weight_with-weight-requires-clause-after c =
    let es = values_of c.self.inside.entries in
    let changes = c.list-changes.result.now in
    let can = subst (CanBeMade es) (sym c.list-changes.ensures) (subst (λ xs. CanBeMade xs c.args.entry_changes.now) (sym c.self.view_is) c.requires) in
    omega (arith, can.directory.light, (weighs_made es changes c.self.invariant.directory.ascends can).after)

pub strays_with-strays-requires-clause-held : goal.strays_with-strays-requires-clause-held
strays_with-strays-requires-clause-held c = λ kind low.
    omega (arith, c.self.invariant.counted kind low, strays_few kind (values_of c.self.inside.entries), c.self.invariant.directory.few)

pub strays_with-strays-requires-clause-before : goal.strays_with-strays-requires-clause-before
strays_with-strays-requires-clause-before c = λ kind low.
    let es = values_of c.self.inside.entries in
    let can = subst (CanBeMade es) (sym c.list-changes.ensures) (subst (λ xs. CanBeMade xs c.args.entry_changes.now) (sym c.self.view_is) c.requires) in
    omega (arith, c.self.invariant.counted kind low, (strays_made kind es c.list-changes.result.now c.self.invariant.directory.ascends can).before)

pub strays_with-strays-requires-clause-after : goal.strays_with-strays-requires-clause-after
strays_with-strays-requires-clause-after c = λ kind low.
    let es = values_of c.self.inside.entries in
    let can = subst (CanBeMade es) (sym c.list-changes.ensures) (subst (λ xs. CanBeMade xs c.args.entry_changes.now) (sym c.self.view_is) c.requires) in
    strays_after_few kind es c.list-changes.result.now c.self.invariant.directory.ascends can

pub reindexed-requires : goal.reindexed-requires
reindexed-requires c = c.self.invariant.index.some

pub changed-requires-clause-keyed : goal.changed-requires-clause-keyed
changed-requires-clause-keyed c = c.self.invariant.keyed

pub changed-requires-clause-ascends : goal.changed-requires-clause-ascends
changed-requires-clause-ascends c = c.self.invariant.directory.ascends

pub invariant_of-result : goal.invariant_of-result
invariant_of-result c =
    let es = values_of c.self.inside.entries in
    let changes = c.list-changes.result.now in
    let can = subst (CanBeMade es) (sym c.list-changes.ensures) (subst (λ xs. CanBeMade xs c.args.entry_changes.now) (sym c.self.view_is) c.requires) in
    let made = c.in_ok-entries.ensures in
    let values = keyed_as c.in_ok-entries.entries (with_changes es changes) made in
    record {
      keyed = made ∙ ap by_identity (sym values);
      directory = subst (λ xs. IsDirectory xs c.weight_with-weight.result) (sym values)
          (directory_made es changes c.self.inside.weight c.weight_with-weight.result c.self.invariant.directory can c.weight_with-weight.ensures);
      index = subst (IsIndex c.in_ok-names.names) (sym values)
          (index_made es changes c.self.inside.names c.in_ok-names.names c.self.invariant.index can c.in_ok-names.ensures.some c.in_ok-names.ensures.placed c.in_ok-names.ensures.exact);
      counted = subst (CountsStrays c.strays_with-strays.result) (sym values)
          (counted_made es changes c.self.inside.strays c.strays_with-strays.result c.self.invariant.counted c.self.invariant.directory.ascends can c.strays_with-strays.ensures);
    }

pub returns : goal.returns
returns c =
    let es = values_of c.self.inside.entries in
    let changes = c.list-changes.result.now in
    keyed_as c.in_ok-entries.entries (with_changes es changes) c.in_ok-entries.ensures ∙ (λ i. with_changes (c.self.view_is i) (c.list-changes.ensures i))
