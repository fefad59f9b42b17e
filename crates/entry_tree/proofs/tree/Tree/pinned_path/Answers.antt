-- What the parts of an `and` pin, or the filter itself.
use Rattle.std.proofs.Common.{Option, Vec, Global, ℕ, map}
use Rattle.std.specs.Prelude.{IfSome}
use Rattle.std.proofs.lemmas.Result.{IfOk-weaker}
use Rattle.ldap_filter.specs.FilterTree.{all_of, tree_of, trees}
use Rattle.entry_tree.specs.Pinned.{Pins}
use Rattle.entry_tree.proofs.Pinning.{found_as}
use Rattle.entry_tree.proofs.tree.Tree.pinned_path.Goals as goal

pub returns-in-Some : goal.returns-in-Some
returns-in-Some c =
    let spec = c.args.spec.now in
    let both = all_of (trees (map tree_of c.in-Some.parts.now)) in
    IfOk-weaker c.pinned_by_one.result (λ (found : Option (Vec ℕ Global)). IfSome found (λ (path : Vec ℕ Global). Pins spec.base both c.args.self.now path.items))
    (λ found. IfSome found (λ (path : Vec ℕ Global). Pins spec.base (tree_of spec.filter) c.args.self.now path.items))
    (λ found pins. found_as spec.base (tree_of spec.filter) both c.args.self.now found c.in-Some.ensures pins)
    c.pinned_by_one.ensures
