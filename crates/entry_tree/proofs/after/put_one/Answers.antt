-- The place that is found by the identity.
use Rattle.std.proofs.Common.{rules, ◌∙◌, ap, map, Bor}
use Rattle.std.proofs.lemmas.Fn.{always_returns_same}
use Rattle.entry_writes.specs.declared.entry.Entry.{Entry}
use Rattle.entry_tree.proofs.References.{set_found_of, insert_found_of}
use Rattle.entry_tree.proofs.after.put_one.Goals as goal

pub returns-in-Ok : goal.returns-in-Ok
returns-in-Ok c =
    let at = c.in-Ok.ensures.position (λ (e : Bor Entry). e.now.uuid) (always_returns_same _ _ _ (λ a r f' k. search rules)) in
    set_found_of (λ (e : Bor Entry). e.now) c.args.entry c.args.entries.now.items c.in-Ok.place c.requires (rw c.deref.ensures.value at c.in-Ok.ensures.bound) (rw c.deref.ensures.value at at)

pub returns-in_ok-insert-in-Err : goal.returns-in_ok-insert-in-Err
returns-in_ok-insert-in-Err c =
    let at = c.in-Err.ensures.position (λ (e : Bor Entry). e.now.uuid) (always_returns_same _ _ _ (λ a r f' k. search rules)) in
    ap (map (λ (e : Bor Entry). e.now)) c.in_ok-insert-in-Err.ensures.items
    ∙ insert_found_of (λ (e : Bor Entry). e.now) c.args.entry c.args.entries.now.items c.in-Err.place c.requires (rw c.deref.ensures.value at c.in-Err.ensures.bound) (rw c.deref.ensures.value at at)
