-- Of the search with the number.
use Rattle.std.proofs.Common.{◌≡◌, sym, subst}
use Rattle.sync_provider.specs.HandingOut.{has_message, turn_at}
use Rattle.sync_provider.specs.Machine.{ProviderState}
use Rattle.sync_provider.proofs.Leaving.{message_at}
use Rattle.sync_provider.proofs.sync_directory.SyncDirectory.has_message.Goals as goal

pub returns-in-Some : goal.returns-in-Some
returns-in-Some c =
    let was = c.self.inside in
    subst (λ (p : ProviderState). c.has_message.result ≡ has_message (turn_at p.directory p.searches c.args.number)) c.self.view_is
    (message_at was.kind was.queue_limit was.directory.state was.searches c.args.number c.in-Some.search.now (sym c.in-Some.ensures.value) c.has_message.result c.has_message.ensures)
