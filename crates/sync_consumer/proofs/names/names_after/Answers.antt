-- The names are those of what the stage leaves.
use Rattle.sync_consumer.specs.Staging.{changes_in}
use Rattle.sync_consumer.proofs.Effecting.{keyed_in}
use Rattle.sync_consumer.proofs.Indexing.{index_after, none_named_twice}
use Rattle.sync_consumer.proofs.names.names_after.Goals as goal

pub returns-clause-unique_names : goal.returns-clause-unique_names
returns-clause-unique_names c = λ unique.
    none_named_twice c.args.held.now (changes_in c.args.changes.now) c.requires.ascends (keyed_in c.args.changes.now) c.forget_each.new.names c.note_each.new.names
    c.in_ok-has_unique_names.has_unique_names c.in_ok-forget_each.ensures c.in_ok-has_unique_names.ensures.noted unique

pub returns-clause-index : goal.returns-clause-index
returns-clause-index c = λ none.
    index_after c.args.held.now (changes_in c.args.changes.now) c.requires.ascends (keyed_in c.args.changes.now) c.args.names.now c.forget_each.new.names c.note_each.new.names
    c.in_ok-has_unique_names.has_unique_names c.requires.index c.in_ok-has_unique_names.ensures.pathed c.in_ok-forget_each.ensures c.in_ok-has_unique_names.ensures.noted none
