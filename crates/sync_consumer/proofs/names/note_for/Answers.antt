-- The name is noted, unless it stays.
use Rattle.std.proofs.Common.{sym, ◌∙◌}
use Rattle.sync_consumer.specs.Staging.{change_of}
use Rattle.sync_consumer.proofs.Noting.{notes_kept}
use Rattle.sync_consumer.proofs.names.note_for.Goals as goal

pub returns-then-keeps_name-clause-noted : goal.returns-then-keeps_name-clause-noted
returns-then-keeps_name-clause-noted c =
    notes_kept c.args.held.now c.args.names.now (change_of c.args.change.now) (sym c.keeps_name.ensures.value ∙ c.if-keeps_name.true)

pub returns-clause-noted : goal.returns-clause-noted
returns-clause-noted c = c.note_change.ensures.noted c.args.held.now (sym c.keeps_name.ensures.value ∙ c.if-keeps_name.false)
