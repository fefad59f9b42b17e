-- A number is kept of what a commit left, and no other.
use Rattle.std.proofs.Common.{sym, ◌∙◌}
use Rattle.directory_writes.proofs.Pushed.{kept_now, dropped_now}
use Rattle.directory_writes.proofs.touches.renew.Goals as goal

pub returns-then-is_number_kept : goal.returns-then-is_number_kept
returns-then-is_number_kept c =
    kept_now c.insert.result c.args.commits c.args.number c.args.numbers.now c.args.entry_change.now c.insert.new.self
    (sym c.is_number_kept.ensures ∙ c.if-is_number_kept.true) c.insert.ensures.ok

pub returns : goal.returns
returns c =
    dropped_now c.remove.result c.args.commits c.args.number c.args.numbers.now c.args.entry_change.now c.remove.new.self
    (sym c.is_number_kept.ensures ∙ c.if-is_number_kept.false) c.len.ensures.ordered c.remove.ensures.ok
