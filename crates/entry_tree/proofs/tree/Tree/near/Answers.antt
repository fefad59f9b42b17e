-- All entries, or those at or below the name.
use Rattle.std.proofs.Common.{◌≡◌, Bor, Vec, Global, map, ap, ◌∙◌}
use Rattle.std.specs.List.{filter}
use Rattle.std.proofs.lemmas.Result.{IfOk-weaker}
use Rattle.entry_writes.specs.declared.entry.Entry.{Entry}
use Rattle.entry_tree.proofs.Narrow.{below_again}
use Rattle.entry_tree.proofs.Within.{is_below}
use Rattle.entry_tree.proofs.tree.Tree.near.Goals as goal

pub returns-then-all_begin : goal.returns-then-all_begin
returns-then-all_begin c =
    let all = c.args.self.now in
    let own = is_below c.args.dn.now in
    IfOk-weaker c.entries.result (λ (list : Vec (Bor Entry) Global). map (λ (e : Bor Entry). e.now) list.items ≡ all) (λ list. filter own (map (λ (e : Bor Entry). e.now) list.items) ≡ filter own all)
    (λ list is. ap (filter own) is) c.entries.ensures

pub returns : goal.returns
returns c =
    let all = c.args.self.now in
    let own = is_below c.args.dn.now in
    IfOk-weaker c.at_or_below.result (λ (list : Vec (Bor Entry) Global). map (λ (e : Bor Entry). e.now) list.items ≡ filter own all) (λ list. filter own (map (λ (e : Bor Entry). e.now) list.items) ≡ filter own all)
    (λ list is. ap (filter own) is ∙ below_again c.args.dn.now all) c.at_or_below.ensures
