use Rattle.std.proofs.Common.{◌≡◌, take}
use Rattle.std.specs.Prelude.{sum_by}
use Rattle.sync_provider.specs.ReadyCommits.{note_count}
use Rattle.sync_provider.proofs.ready_commit.notes_of_each.Given as goal

-- these are the notes of the commits so far
abbrev pub invariant-loop-commit : goal.invariant-loop-commit
invariant-loop-commit l = l.notes ≡ sum_by note_count (take l.commit-index l.each)
