-- What a commit leaves of the journal.
use Rattle.sync_provider.proofs.JournalReplies.{commit_seen}
use Rattle.sync_provider.proofs.provider.Provider.commit.Goals as goal

pub invariant_of-self : goal.invariant_of-self
invariant_of-self c =
    (commit_seen c.args.self.now c.self.inside.directory c.self.inside.journal c.self.view_is c.self.invariant _ _ _ _ _ c.commit.ensures.leaves).kept

pub returns-clause-journal : goal.returns-clause-journal
returns-clause-journal c =
    (commit_seen c.args.self.now c.self.inside.directory c.self.inside.journal c.self.view_is c.self.invariant _ _ _ _ _ c.commit.ensures.leaves).replies
