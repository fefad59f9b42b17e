-- The entries at or below the one are all that change.
use Rattle.std.proofs.Common.{◌≡◌, Bor, None, Some, map, ap, subst, ◌∙◌}
use Rattle.std.specs.Prelude.{IfErr, OnOk}
use Rattle.std.specs.List.{filter}
use Rattle.std.proofs.lemmas.Result.{IfOk-weaker}
use Rattle.entry_writes.specs.declared.entry.Entry.{Entry}
use Rattle.entry_writes.specs.Codes.{length_code}
use Rattle.entry_writes.specs.Effects.{moved}
use Rattle.entry_writes.specs.Fault.{HasOpCode}
use Rattle.entry_writes.specs.Touched.{is_change}
use Rattle.entry_writes.proofs.Identities.{stepped}
use Rattle.entry_tree.proofs.Narrow.{long_within, moved_within}
use Rattle.entry_tree.proofs.Within.{is_below}
use Rattle.entry_tree.proofs.rename.moved.Goals as goal

pub returns-clause-entry_changes : goal.returns-clause-entry_changes
returns-clause-entry_changes c =
    let top = c.args.top.now in
    let new = c.args.renamed.now in
    let es = c.args.tree.now in
    let step = stepped (λ e. Some (moved top new.name new.attrs c.args.csn e)) in
    let read : map (λ (e : Bor Entry). e.now) c.deref.result.now ≡ filter (is_below top.dn) es = ap (map (λ (e : Bor Entry). e.now)) c.deref.ensures.value ∙ c.in_ok-entries.ensures in
    IfOk-weaker c.moved_entries.result (λ changes. changes ≡ filter is_change (map step (map (λ (e : Bor Entry). e.now) c.deref.result.now))) (λ changes. changes ≡ filter is_change (map step es))
    (λ changes is. is ∙ ap (λ xs. filter is_change (map step xs)) read ∙ moved_within top new.name new.attrs c.args.csn es) c.moved_entries.ensures.entry_changes

pub returns-clause-accepted : goal.returns-clause-accepted
returns-clause-accepted c =
    let top = c.args.top.now in
    let name = c.args.renamed.now.name in
    let es = c.args.tree.now in
    let read : map (λ (e : Bor Entry). e.now) c.deref.result.now ≡ filter (is_below top.dn) es = ap (map (λ (e : Bor Entry). e.now)) c.deref.ensures.value ∙ c.in_ok-entries.ensures in
    let same = ap (λ xs. length_code xs top name) read ∙ long_within top name es in
    subst (λ code. OnOk c.moved_entries.result (code ≡ None)) same c.moved_entries.ensures.accepted

pub returns-clause-refused : goal.returns-clause-refused
returns-clause-refused c =
    let top = c.args.top.now in
    let name = c.args.renamed.now.name in
    let es = c.args.tree.now in
    let read : map (λ (e : Bor Entry). e.now) c.deref.result.now ≡ filter (is_below top.dn) es = ap (map (λ (e : Bor Entry). e.now)) c.deref.ensures.value ∙ c.in_ok-entries.ensures in
    let same = ap (λ xs. length_code xs top name) read ∙ long_within top name es in
    subst (λ code. IfErr c.moved_entries.result (HasOpCode code)) same c.moved_entries.ensures.refused
