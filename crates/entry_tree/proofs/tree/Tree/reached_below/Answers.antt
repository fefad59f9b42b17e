-- The entries of the name that is pinned, or those at or below the base.
use Rattle.std.proofs.Common.{◌≡◌, Bor, Vec, Global, map, ap, sym, subst, ◌∙◌}
use Rattle.std.specs.List.{filter}
use Rattle.std.proofs.lemmas.Result.{IfOk-weaker}
use Rattle.entry_writes.specs.declared.entry.Entry.{Entry}
use Rattle.entry_tree.specs.NameIndex.{has_path_key}
use Rattle.entry_tree.specs.Pinned.{Pins}
use Rattle.entry_tree.specs.Selection.{search_of, select}
use Rattle.entry_tree.proofs.Narrow.{select_within}
use Rattle.entry_tree.proofs.Pinning.{found_here, select_pinned}
use Rattle.entry_tree.proofs.Within.{is_below}
use Rattle.entry_tree.proofs.tree.Tree.reached_below.Goals as goal

pub returns-in-Some : goal.returns-in-Some
returns-in-Some c =
    let all = c.args.self.now in
    let search = search_of c.args.spec.now in
    let path = c.deref.result.now in
    let pins = subst (Pins search.base search.filter all) (sym c.deref.ensures.value)
    (found_here search.base search.filter all c.in_ok-path.field-0 c.in-Some.path c.in-Some.is c.in_ok-path.ensures) in
    IfOk-weaker c.at_path.result (λ (list : Vec (Bor Entry) Global). map (λ (e : Bor Entry). e.now) list.items ≡ filter (has_path_key path) all)
    (λ list. select search (map (λ (e : Bor Entry). e.now) list.items) ≡ select search all)
    (λ list is. ap (select search) is ∙ select_pinned search all path c.requires pins) c.at_path.ensures

pub returns-in-None : goal.returns-in-None
returns-in-None c =
    let all = c.args.self.now in
    let search = search_of c.args.spec.now in
    IfOk-weaker c.near.result (λ (list : Vec (Bor Entry) Global). filter (is_below search.base) (map (λ (e : Bor Entry). e.now) list.items) ≡ filter (is_below search.base) all)
    (λ list. select search (map (λ (e : Bor Entry). e.now) list.items) ≡ select search all)
    (λ list is. select_within search (map (λ (e : Bor Entry). e.now) list.items) all is) c.near.ensures
