-- The name goes, or the other has it, or there is none.
use Rattle.std.proofs.Common.{sym, ◌∙◌}
use Rattle.std.proofs.lemmas.Result.{on_ok_weaker}
use Rattle.entry_tree.proofs.NameChanges.{left_kept, left_none, sets_left}
use Rattle.entry_tree.proofs.reindex.leave.Goals as goal

pub returns-then-has_path-clause-forgotten : goal.returns-then-has_path-clause-forgotten
returns-then-has_path-clause-forgotten c =
    left_kept c.args.names.now c.path-path.result.now c.args.uuid c.args.gone.now c.in-Some.entry c.args.kept.now c.in-Some.is c.path-path.ensures.value (sym c.has_path.ensures ∙ c.if-has_path.true)

pub returns-else-has_path-clause-forgotten : goal.returns-else-has_path-clause-forgotten
returns-else-has_path-clause-forgotten c =
    on_ok_weaker c.forget.result
    (λ sets. sets_left c.args.names.now c.path-path.result.now c.args.uuid c.args.gone.now c.in-Some.entry c.args.kept.now c.in-Some.is c.path-path.ensures.value c.forget.new.names (sym c.has_path.ensures ∙ c.if-has_path.false) sets)
    c.forget.ensures.forgotten

pub returns-in-None-clause-forgotten : goal.returns-in-None-clause-forgotten
returns-in-None-clause-forgotten c = left_none c.args.names.now c.args.uuid c.args.gone.now c.args.kept.now c.in-None.is
