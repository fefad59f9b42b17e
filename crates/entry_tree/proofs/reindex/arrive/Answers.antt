-- The name is noted, or the other had it, or there is none.
use Rattle.std.proofs.Common.{sym, subst, ◌∙◌}
use Rattle.std.proofs.lemmas.Result.{on_ok_weaker}
use Rattle.entry_tree.specs.NameIndex.{HasPathKey}
use Rattle.entry_tree.proofs.NameChanges.{came_kept, came_none, sets_came}
use Rattle.entry_tree.proofs.reindex.arrive.Goals as goal

pub returns-then-has_path-clause-noted : goal.returns-then-has_path-clause-noted
returns-then-has_path-clause-noted c =
    came_kept c.args.names.now c.path-path.result.now c.args.uuid c.args.come.now c.in-Some.entry c.args.had.now c.in-Some.is c.path-path.ensures.value (sym c.has_path.ensures ∙ c.if-has_path.true)

pub returns-then-has_path-clause-placed : goal.returns-then-has_path-clause-placed
returns-then-has_path-clause-placed c = subst HasPathKey (sym c.in-Some.is) c.path-path.ensures.sound

pub returns-else-has_path-clause-noted : goal.returns-else-has_path-clause-noted
returns-else-has_path-clause-noted c =
    on_ok_weaker c.note.result
    (λ sets. sets_came c.args.names.now c.path-path.result.now c.args.uuid c.args.come.now c.in-Some.entry c.args.had.now c.in-Some.is c.path-path.ensures.value c.note.new.names (sym c.has_path.ensures ∙ c.if-has_path.false) sets)
    c.note.ensures.noted

pub returns-else-has_path-clause-placed : goal.returns-else-has_path-clause-placed
returns-else-has_path-clause-placed c = subst HasPathKey (sym c.in-Some.is) c.path-path.ensures.sound

pub returns-in-None-clause-noted : goal.returns-in-None-clause-noted
returns-in-None-clause-noted c = came_none c.args.names.now c.args.uuid c.args.come.now c.args.had.now c.in-None.is
