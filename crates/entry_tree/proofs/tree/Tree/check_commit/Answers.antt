-- What is judged are the entries after the commit.
use Rattle.std.proofs.Common.{◌≡◌, ◌∙◌, Bor, map, ap, sym}
use Rattle.entry_writes.specs.declared.entry.Entry.{Entry}
use Rattle.entry_writes.specs.Effects.{committed}
use Rattle.entry_writes.specs.State.{ascends}
use Rattle.entry_tree.proofs.tree.Tree.check_commit.Goals as goal

pub entries_after-requires : goal.entries_after-requires
entries_after-requires c =
    ap ascends (ap (map (λ (e : Bor Entry). e.now)) c.deref.ensures.value ∙ c.in_ok-entries.ensures ∙ sym c.self.view_is) ∙ c.self.invariant.directory.ascends

pub returns-clause-ok : goal.returns-clause-ok
returns-clause-ok c =
    let read = ap (map (λ (e : Bor Entry). e.now)) c.deref.ensures.value ∙ c.in_ok-entries.ensures in
    let after : map (λ (e : Bor Entry). e.now) c.deref-2.result.now ≡ committed c.args.self.now c.args.puts.now c.args.drops.now =
    ap (map (λ (e : Bor Entry). e.now)) c.deref-2.ensures.value ∙ c.in_ok-after.ensures ∙ ap (λ xs. committed xs c.args.puts.now c.args.drops.now) read in
    rw after at c.check_content.ensures.ok

pub returns-clause-refused : goal.returns-clause-refused
returns-clause-refused c =
    let read = ap (map (λ (e : Bor Entry). e.now)) c.deref.ensures.value ∙ c.in_ok-entries.ensures in
    let after : map (λ (e : Bor Entry). e.now) c.deref-2.result.now ≡ committed c.args.self.now c.args.puts.now c.args.drops.now =
    ap (map (λ (e : Bor Entry). e.now)) c.deref-2.ensures.value ∙ c.in_ok-after.ensures ∙ ap (λ xs. committed xs c.args.puts.now c.args.drops.now) read in
    rw after at c.check_content.ensures.refused
