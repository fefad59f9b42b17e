-- As many as the map has pairs.
use Rattle.std.proofs.Common.{◌∙◌, length, ap, sym, arith}
use Rattle.std.proofs.lemmas.Map.Entries.{length-values_of}
use Rattle.entry_tree.proofs.tree.Tree.len.Goals as goal

pub returns-clause-value : goal.returns-clause-value
returns-clause-value c = c.len.ensures.value ∙ sym (length-values_of c.self.inside.entries) ∙ ap length c.self.view_is

pub returns-clause-bound : goal.returns-clause-bound
returns-clause-bound c =
    let few = c.self.invariant.directory.few in
    omega (arith, few, c.len.ensures.value, length-values_of c.self.inside.entries)
