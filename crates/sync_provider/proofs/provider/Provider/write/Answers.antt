-- What a write leaves of the journal.
use Rattle.sync_provider.proofs.JournalReplies.{write_seen}
use Rattle.sync_provider.proofs.provider.Provider.write.Goals as goal

pub invariant_of-self : goal.invariant_of-self
invariant_of-self c =
    (write_seen c.args.self.now c.self.inside.directory c.self.inside.journal c.self.view_is c.self.invariant _ _ _ _ c.write.ensures.leaves).kept

pub returns-clause-journal : goal.returns-clause-journal
returns-clause-journal c =
    (write_seen c.args.self.now c.self.inside.directory c.self.inside.journal c.self.view_is c.self.invariant _ _ _ _ c.write.ensures.leaves).replies
