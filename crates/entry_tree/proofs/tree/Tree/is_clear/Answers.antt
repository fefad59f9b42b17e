-- There is room, the names are free, and no two of them are one.
use Rattle.std.proofs.Common.{◌≡◌, ◌≤◌, ◌+◌, ◌∙◌, Bor, List, None, length, map, true, ap, sym, refl, arith}
use Rattle.std.specs.List.{list_all}
use Rattle.std.proofs.lemmas.List.{length-map}
use Rattle.entry_writes.specs.declared.entry.Entry.{Entry}
use Rattle.entry_writes.specs.State.{most_entries, most_weight, same_named, total_weight}
use Rattle.entry_tree.specs.Judging.{has_free_name}
use Rattle.entry_tree.proofs.Clear.{clear_by, none_by}
use Rattle.entry_tree.proofs.tree.Tree.is_clear.Goals as goal

pub returns-clause-clear : goal.returns-clause-clear
returns-clause-clear c = λ holds.
    let es = c.args.self.now in
    let changes = c.args.changes.now in
    let own = λ (e : Bor Entry). e.now in
    let taken_at = c.in_ok-taken.taken.items in
    let put_at = c.in_ok-put.put.items in
    let taken : List Entry = map own taken_at in
    let put : List Entry = map own put_at in
    let few_at = c.if-not-has_room.ensures.few refl in
    let light_at = c.if-not-has_room.ensures.light refl in
    let lost = ap (λ (xs : List (Bor Entry)). length xs) c.deref.ensures.value in
    let got = ap (λ (xs : List (Bor Entry)). length xs) c.deref-2.ensures.value in
    let lost_weight = ap (λ (xs : List (Bor Entry)). total_weight (map own xs)) c.deref.ensures.value in
    let got_weight = ap (λ (xs : List (Bor Entry)). total_weight (map own xs)) c.deref-2.ensures.value in
    let few : length es + length put ≤ most_entries + length taken = omega (arith, few_at, lost, got, length-map taken_at own, length-map put_at own) in
    let light : total_weight es + total_weight put ≤ most_weight + total_weight taken = omega (arith, light_at, lost_weight, got_weight) in
    let free : list_all (has_free_name es changes) put ≡ true =
    ap (λ (xs : List (Bor Entry)). list_all (has_free_name es changes) (map own xs)) (sym c.deref-3.ensures.value) ∙ c.if-not-have_free_names.ensures refl
    in
    let apart : same_named put ≡ None =
    ap (λ (xs : List (Bor Entry)). same_named (map own xs)) (sym c.deref-4.ensures.value) ∙ sym c.in_ok-same_named.ensures ∙ none_by c.in_ok-same_named.field-0 c.is_none.result c.is_none.ensures holds
    in
    clear_by es changes taken put c.in_ok-taken.ensures c.in_ok-put.ensures few light free apart
