use Rattle.sync_model.proofs.Examples.{empty_is_ended, added_is_sent, deleted_is_named, deleted_is_walked, kept_is_named, messages_are_answered}
use Rattle.sync_model.proofs.worked_examples.Goals as goal

pub returns-clause-empty : goal.returns-clause-empty
returns-clause-empty c = empty_is_ended

pub returns-clause-added : goal.returns-clause-added
returns-clause-added c = added_is_sent

pub returns-clause-deleted : goal.returns-clause-deleted
returns-clause-deleted c = deleted_is_named

pub returns-clause-walked : goal.returns-clause-walked
returns-clause-walked c = deleted_is_walked

pub returns-clause-kept : goal.returns-clause-kept
returns-clause-kept c = kept_is_named

pub returns-clause-answered : goal.returns-clause-answered
returns-clause-answered c = messages_are_answered
