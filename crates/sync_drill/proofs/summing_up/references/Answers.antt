use Rattle.std.proofs.Common.{◌++◌, ◌∷◌, [], Bor, List, map, take, take_all, ap, sym, ◌∙◌, arith}
use Rattle.std.proofs.lemmas.List.{map-append, take_more}
use Rattle.entry_tree.specs.declared.entry.Entry.{Entry}
use Rattle.sync_drill.proofs.summing_up.references.Goals as goal

pub loop-entry-init : goal.loop-entry-init
loop-entry-init c = ap (map (λ (e : Bor Entry). e.now)) c.in_ok-list.ensures.items

pub loop-entry-preserved : goal.loop-entry-preserved
loop-entry-preserved c =
    let i = c.loop-entry.entry-index in
    let entry = c.entry-item.result in
    ap (map (λ (e : Bor Entry). e.now)) c.in_ok-push.ensures.items
    ∙ map-append (λ (e : Bor Entry). e.now) c.loop-entry.list.items _
    ∙ ap (λ (entries : List Entry). entries ++ entry ∷ []) c.loop-entry.invariant
    ∙ ap (λ (e : Entry). take i c.args.entries.now ++ e ∷ []) c.entry-item.is
    ∙ sym (take_more c.args.entries.now i entry c.loop-entry-test.true)

pub returns : goal.returns
returns c =
    c.loop-entry.invariant
    ∙ take_all c.loop-entry.entry-index c.args.entries.now (omega (arith, c.loop-entry-test.false))
