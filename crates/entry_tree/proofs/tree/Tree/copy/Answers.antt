-- The same parts.
use Rattle.std.proofs.Common.{◌∙◌, ap}
use Rattle.std.specs.Map.{values_of}
use Rattle.entry_tree.proofs.Parts.{tree_same}
use Rattle.entry_tree.proofs.tree.Tree.copy.Goals as goal

pub invariant_of-result : goal.invariant_of-result
invariant_of-result c =
    tree_same c.self.inside.entries c.in_ok-copy.field-0 c.self.inside.names c.in_ok-copy-2.field-0 c.self.inside.weight c.self.inside.strays c.in_ok-copy.ensures c.in_ok-copy-2.ensures c.self.invariant

pub returns : goal.returns
returns c = ap values_of c.in_ok-copy.ensures ∙ c.self.view_is
