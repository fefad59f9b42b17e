-- What was judged is put in place.
use Rattle.std.proofs.Common.{◌∙◌, ap, sym}
use Rattle.entry_writes.specs.Touched.{touched}
use Rattle.entry_tree.proofs.tree.Tree.apply.Goals as goal

pub returns-clause-effect : goal.returns-clause-effect
returns-clause-effect c = c.in_ok-put.ensures.ok ∙ c.in_ok-entry_changes.ensures.effect

pub returns-clause-touched : goal.returns-clause-touched
returns-clause-touched c =
    c.in_ok-entry_changes.ensures.touched
    ∙ ap (touched c.args.self.now) (sym (c.in_ok-put.ensures.ok ∙ c.in_ok-entry_changes.ensures.effect))
