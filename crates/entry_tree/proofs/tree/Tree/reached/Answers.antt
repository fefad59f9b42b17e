-- The entries of the base's name, or those at or below it.
use Rattle.std.proofs.Common.{◌≡◌, Bor, Vec, Global, map, ap, ◌∙◌}
use Rattle.std.specs.List.{filter}
use Rattle.std.proofs.lemmas.Result.{IfOk-weaker}
use Rattle.entry_writes.specs.declared.entry.Entry.{Entry}
use Rattle.entry_writes.specs.State.{is_named}
use Rattle.entry_tree.specs.Selection.{search_of, select}
use Rattle.entry_tree.proofs.Narrow.{select_named, select_within}
use Rattle.entry_tree.proofs.Within.{is_below}
use Rattle.entry_tree.proofs.tree.Tree.reached.Goals as goal

pub returns-in-Base : goal.returns-in-Base
returns-in-Base c =
    let all = c.args.self.now in
    let search = search_of c.args.spec.now in
    IfOk-weaker c.at_name.result (λ (list : Vec (Bor Entry) Global). map (λ (e : Bor Entry). e.now) list.items ≡ filter (is_named search.base) all)
    (λ list. select search (map (λ (e : Bor Entry). e.now) list.items) ≡ select search all)
    (λ list is. ap (select search) is ∙ select_named search all c.in-Base.is) c.at_name.ensures

pub returns-in-Sub : goal.returns-in-Sub
returns-in-Sub c =
    let all = c.args.self.now in
    let search = search_of c.args.spec.now in
    IfOk-weaker c.near.result (λ (list : Vec (Bor Entry) Global). filter (is_below search.base) (map (λ (e : Bor Entry). e.now) list.items) ≡ filter (is_below search.base) all)
    (λ list. select search (map (λ (e : Bor Entry). e.now) list.items) ≡ select search all)
    (λ list is. select_within search (map (λ (e : Bor Entry). e.now) list.items) all is) c.near.ensures
