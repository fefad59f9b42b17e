use Rattle.std.proofs.Common.{Bool, ap, subst, ◌∙◌}
use Rattle.std.proofs.lemmas.Result.{on_ok_weaker}
use Rattle.directory_writes.specs.Directory.{DirectoryState, entries_of}
use Rattle.sync_provider.specs.Gathering.{Gathers}
use Rattle.sync_provider.specs.Refreshing.{said_all}
use Rattle.sync_provider.proofs.refreshing.gather_piece.Goals as goal

pub returns : goal.returns
returns c =
    let d : DirectoryState = c.args.directory.now.state in
    let first = c.args.gathering.now in
    let last = c.gather.new.gathering in
    on_ok_weaker c.gather.result
    (λ (gathers : Gathers (said_all (entries_of d) c.as_slice.result.now) first last) (persists : Bool).
    subst (λ decisions. Gathers decisions first last) (ap (said_all (entries_of d)) c.as_slice.ensures.value ∙ c.in_ok-decisions.ensures persists) gathers)
    c.gather.ensures
