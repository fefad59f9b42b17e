-- Another limit of the log leaves the journal in order.
use Rattle.std.proofs.Common.{sym, subst}
use Rattle.sync_provider.specs.Journal.{HasJournal}
use Rattle.sync_provider.proofs.JournalReplies.{log_limited_kept}
use Rattle.sync_provider.proofs.provider.Provider.set_log_limit.Goals as goal

pub invariant_of-self : goal.invariant_of-self
invariant_of-self c =
    subst (λ p. HasJournal p c.self.inside.journal) (sym c.set_log_limit.ensures) (log_limited_kept c.self.inside.directory c.self.inside.journal c.self.invariant c.args.limit)
