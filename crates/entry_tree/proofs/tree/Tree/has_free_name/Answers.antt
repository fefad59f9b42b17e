-- The holder of the name changes, or there is none.
use Rattle.std.proofs.Common.{◌∙◌, ap, sym}
use Rattle.entry_tree.specs.Judging.{is_free}
use Rattle.entry_tree.proofs.Clear.{kept_free}
use Rattle.entry_tree.proofs.tree.Tree.has_free_name.Goals as goal

pub returns-then-keeps_name : goal.returns-then-keeps_name
returns-then-keeps_name c = λ holds.
    kept_free c.args.self.now c.args.changes.now c.args.entry.now c.keeps_name.ensures.ascends c.requires (sym c.keeps_name.ensures.kept ∙ c.if-keeps_name.true) (c.is_changed.ensures holds)

pub returns-in-None : goal.returns-in-None
returns-in-None c = λ holds. ap (is_free c.args.changes.now) (sym c.in-None.ensures)

pub returns-in-Some : goal.returns-in-Some
returns-in-Some c = λ holds. ap (is_free c.args.changes.now) (sym c.in-Some.ensures) ∙ c.is_changed-in-Some.ensures holds
