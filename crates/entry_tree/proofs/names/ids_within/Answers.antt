-- What stands at the pairs that are found.
use Rattle.std.proofs.Common.{◌≡◌, ◌∙◌, Bor, Vec, Global, ℕ, [], sym, ap}
use Rattle.std.specs.List.{flat_map}
use Rattle.std.proofs.lemmas.List.Folds.{flat_map-map}
use Rattle.std.proofs.lemmas.Result.{IfOk-weaker}
use Rattle.entry_writes.specs.Touched.{joined}
use Rattle.entry_tree.specs.NameIndex.{ids_within, within}
use Rattle.entry_tree.proofs.names.ids_within.Goals as goal

pub returns : goal.returns
returns c =
    let names = c.args.names.now in
    let path = c.args.path.now in
    let ids = λ (list : Vec ℕ Global). list.items in
    let lists = c.in_ok-lists.lists.items in
    let found : flat_map (λ (list : Bor (Vec ℕ Global)). list.now.items) c.deref.result.now ≡ ids_within names path =
    ap (flat_map (λ (list : Bor (Vec ℕ Global)). list.now.items)) c.deref.ensures.value
    ∙ sym (flat_map-map ids (λ (list : Bor (Vec ℕ Global)). list.now) lists)
    ∙ ap (flat_map ids) c.in_ok-lists.ensures
    ∙ flat_map-map ids (λ (pair : Vec ℕ Global × Vec ℕ Global). pair.1) (within names path) in
    IfOk-weaker c.ids_of_each.result _ _ (λ uuids is. is ∙ ap (joined []) found) c.ids_of_each.ensures
