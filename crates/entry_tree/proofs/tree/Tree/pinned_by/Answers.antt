-- What the equality pins that the filter is.
use Rattle.std.proofs.Common.{Option, Vec, Global, ℕ}
use Rattle.std.specs.Prelude.{IfSome}
use Rattle.std.proofs.lemmas.Result.{IfOk-weaker}
use Rattle.ldap_filter.specs.FilterTree.{equal, tree_of}
use Rattle.entry_tree.specs.Pinned.{Pins}
use Rattle.entry_tree.proofs.Pinning.{found_as}
use Rattle.entry_tree.proofs.tree.Tree.pinned_by.Goals as goal

pub returns-in-Some : goal.returns-in-Some
returns-in-Some c =
    let base = c.args.base.now in
    let filter = c.args.filter.now in
    let own = equal c.in-Some.name.now c.in-Some.value.now in
    IfOk-weaker c.pinned_by_value.result (λ (found : Option (Vec ℕ Global)). IfSome found (λ (path : Vec ℕ Global). Pins base own c.args.self.now path.items))
    (λ found. IfSome found (λ (path : Vec ℕ Global). Pins base (tree_of filter) c.args.self.now path.items))
    (λ found pins. found_as base (tree_of filter) own c.args.self.now found c.in-Some.ensures pins)
    c.pinned_by_value.ensures
