-- The weight that is kept.
use Rattle.std.proofs.Common.{◌∙◌, ap}
use Rattle.entry_writes.specs.State.{total_weight}
use Rattle.entry_tree.proofs.tree.Tree.weight.Goals as goal

pub returns-clause-value : goal.returns-clause-value
returns-clause-value c = c.self.invariant.directory.weighed ∙ ap total_weight c.self.view_is

pub returns-clause-bound : goal.returns-clause-bound
returns-clause-bound c = c.self.invariant.directory.light
