-- The writes and the events are all of the journal, and its writes are those of the directory.
use Rattle.std.proofs.Common.{◌+◌, length, ap, ◌∙◌}
use Rattle.sync_provider.specs.Journal.{journal_of}
use Rattle.sync_provider.proofs.Journals.{journal_counts, writes_kept}
use Rattle.sync_provider.proofs.provider.Provider.journal_len.Goals as goal

pub returns-clause-value : goal.returns-clause-value
returns-clause-value c =
    (λ i. c.writes.ensures.value i + length (c.events.ensures i))
    ∙ journal_counts c.self.inside.directory.directory.writes c.self.inside.journal.events
    ∙ ap (λ v. length (journal_of v.state.directory.writes v.events)) c.self.view_is

pub returns-clause-writes : goal.returns-clause-writes
returns-clause-writes c = writes_kept c.args.self.now.events 0 c.args.self.now.state.directory.writes
