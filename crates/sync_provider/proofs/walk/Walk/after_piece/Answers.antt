-- What is left after a piece.
use Rattle.std.proofs.Common.{rules, ◌≡◌, ◌+◌, ◌≤◌, drop, length, take, ap, subst, sym, ◌∙◌}
use Rattle.std.specs.List.Sorted.{IsStrictlySortedBy}
use Rattle.std.specs.Ordering.{nat_cmp}
use Rattle.entry_tree.specs.IdentityOrder.{above}
use Rattle.entry_tree.specs.Touched.{identities}
use Rattle.sync_slices.specs.Slices.{most_decided}
use Rattle.sync_provider.specs.Walks.{left_at, IsInOrder}
use Rattle.sync_provider.proofs.WalkedOver.{entries_left, touched_left, touched_within}
use Rattle.sync_provider.proofs.walk.Walk.after_piece.Goals as goal

pub invariant_of-result-in-Touched : goal.invariant_of-result-in-Touched
invariant_of-result-in-Touched c =
    let next = c.in-Touched.next in
    let piece = c.args.piece.now in
    let us = c.in-Touched.uuids.value.items in
    let same : c.in_ok-clone-in-Touched.field-0.value.items ≡ us = search rules in
    let held = subst IsInOrder c.in-Touched.is c.self.invariant in
    let left : c.args.self.now ≡ drop next us = sym c.self.view_is ∙ ap left_at c.in-Touched.is in
    let taken : piece ≡ take most_decided (drop next us) = c.requires ∙ ap (take most_decided) left in (
      subst (IsStrictlySortedBy nat_cmp) (sym same) held.0,
      subst (λ items. next + length piece ≤ length items) (sym same) (touched_within most_decided next us piece held.1 taken),
    )

pub returns-in_ok-copy-in-Entries : goal.returns-in_ok-copy-in-Entries
returns-in_ok-copy-in-Entries c =
    let entries = c.in-Entries.entries in
    let after = c.in-Entries.after in
    let piece = c.args.piece.now in
    let left : c.args.self.now ≡ above after (identities entries) = sym c.self.view_is ∙ ap left_at c.in-Entries.is in
    ap (λ es. above c.last_of.result (identities es)) c.in_ok-copy-in-Entries.ensures
    ∙ entries_left most_decided after c.last_of.result entries piece (subst IsInOrder c.in-Entries.is c.self.invariant) (c.requires ∙ ap (take most_decided) left) c.last_of.ensures
    ∙ ap (drop most_decided) (sym left)

pub returns-in_ok-clone-in-Touched : goal.returns-in_ok-clone-in-Touched
returns-in_ok-clone-in-Touched c =
    let next = c.in-Touched.next in
    let piece = c.args.piece.now in
    let us = c.in-Touched.uuids.value.items in
    let same : c.in_ok-clone-in-Touched.field-0.value.items ≡ us = search rules in
    let left : c.args.self.now ≡ drop next us = sym c.self.view_is ∙ ap left_at c.in-Touched.is in
    ap (drop (next + length piece)) same
    ∙ touched_left most_decided next us piece (c.requires ∙ ap (take most_decided) left)
    ∙ ap (drop most_decided) (sym left)
