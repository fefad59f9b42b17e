-- A commit that nothing rejects can be the next write.
use Rattle.std.proofs.Common.{subst, List, ℕ}
use Rattle.entry_tree.specs.declared.entry.Entry.{Entry}
use Rattle.directory_writes.specs.Commits.{IsCommitPreview}
use Rattle.directory_writes.specs.Standing.{StandingState}
use Rattle.directory_writes.specs.declared.preview.Preview.{Preview}
use Rattle.directory_writes.proofs.Commits.{next_of_plan}
use Rattle.provider_tests.proofs.directory_writes_tests.ready.Goals as goal

pub ready-ready-requires : goal.ready-ready-requires
ready-ready-requires c =
    let s : StandingState = c.args.standing.now in
    let puts : List Entry = c.in_ok-puts.puts in
    let drops : List ℕ = c.in_ok-drops.drops in
    let preview : Preview = c.in-Ok.preview in
    next_of_plan s puts drops 0 preview
    (subst (λ (found : List ℕ). IsCommitPreview s puts found 0 preview) c.list-identities.ensures
    (subst (λ (found : List Entry). IsCommitPreview s found c.list-identities.result.now 0 preview) c.list-entries.ensures c.in-Ok.ensures.planned))
