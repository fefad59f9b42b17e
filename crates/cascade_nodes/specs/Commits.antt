-- What a replica commits to its own directory: each stage that takes effect, as one write (RFC
-- 4533, section 3.3).
use Rattle.std.specs.Prelude.{◌≡◌, ⊤, ℕ, true, fold, map, Option, Some, None, Result, Ok, Err, List, [], ◌∷◌, ◌++◌}
use Rattle.std.specs.Option.{option_or}
use Rattle.directory_writes.specs.Commits.{commit_refusal}
use Rattle.directory_writes.specs.Directory.{entries_of, judged}
use Rattle.directory_writes.specs.declared.commit.DirectoryCommitFault.{DirectoryCommitFault}
use Rattle.directory_writes.specs.declared.commit.DirectoryCommitFault.TheVariants as cause
use Rattle.entry_tree.specs.Effects.{committed}
use Rattle.entry_tree.specs.Fitting.{is_directory_content}
use Rattle.entry_tree.specs.Selection.{Search}
use Rattle.entry_tree.specs.declared.entry.Entry.{Entry}
use Rattle.entry_tree.specs.declared.op.Op.TheVariants.{Commit}
use Rattle.sync_provider.specs.Machine.{ProviderState, after_judged}
use Rattle.sync_provider.specs.declared.committing.StagedCommit.{StagedCommit}
use Rattle.sync_provider.specs.declared.provider.Kind.TheVariants.{Replica}
use Rattle.sync_provider.specs.declared.writing.CommitFault.{CommitFault}
use Rattle.sync_provider.specs.declared.writing.CommitFault.TheVariants as fault
use Rattle.cascade_script.specs.declared.fault.Cause.{Cause}
use Rattle.cascade_script.specs.declared.fault.Cause.TheVariants.{LimitReached, NoMemory}
use Rattle.cascade_nodes.specs.declared.node.ProviderNode.{ProviderNode}
use Rattle.cascade_report.specs.Origins.{CommitOrigin}
use Rattle.cascade_report.specs.ReportLines.{StoredStage}

abbrev pub note_of : Search → StoredStage → CommitOrigin
note_of search stage = record { search = search; origin = stage.origin }

abbrev pub commit_of : StoredStage → StagedCommit
commit_of stage = record { puts = stage.puts; drops = stage.drops }

-- ---- one write for each stage

-- a provider after one write more, which puts and drops what the stage does
abbrev pub with_stage : ℕ → ProviderState → StoredStage → ProviderState
with_stage now p stage = after_judged p (judged p.directory (Commit stage.puts stage.drops) now)

abbrev pub limit_in : Option DirectoryCommitFault → Option ℕ
limit_in None = None
limit_in (Some (cause.LimitReached limit)) = Some limit
limit_in (Some (cause.DuplicateName one other)) = None
limit_in (Some cause.NoMemory) = None

-- the limit that rejects such a write, if one is
abbrev pub limit_with : ℕ → ProviderState → StoredStage → Option ℕ
limit_with now p stage = limit_in (commit_refusal p.directory stage.puts stage.drops now)

-- the first that rejects the writes for some stages, one after another
abbrev pub limit_of : ℕ → ProviderState → List StoredStage → Option ℕ
limit_of now p [] = None
limit_of now p (stage ∷ stages) =
    option_or (limit_with now p stage) (limit_of now (with_stage now p stage) stages)

-- the replica after them, of each of which it keeps a note
abbrev pub with_commits : ℕ → Search → ProviderNode → List StoredStage → ProviderNode
with_commits now search provider_node stages = record provider_node {
  provider = fold (with_stage now) provider_node.provider stages;
  notes = provider_node.notes ++ map (note_of search) stages;
}

abbrev pub commits_by :
    ℕ → Search → ProviderNode → List StoredStage → Option ℕ → Result ProviderNode Cause
commits_by now search provider_node stages None =
    Ok (with_commits now search provider_node stages)
commits_by now search provider_node stages (Some limit) = Err (LimitReached limit)

-- a replica that wants this commits the stages of an event, one after another, where the clock
-- shows `now`: all, or none where a limit rejects one of them
abbrev pub commits_all : ℕ → Search → ProviderNode → List StoredStage → Result ProviderNode Cause
commits_all now search provider_node stages =
    commits_by now search provider_node stages (limit_of now provider_node.provider stages)

-- ---- what nothing but a limit rejects

-- the entries with these stages in effect
abbrev pub with_stages : List Entry → List StoredStage → List Entry
with_stages entries [] = entries
with_stages entries (stage ∷ stages) =
    with_stages (committed entries stage.puts stage.drops) stages

-- each stage in turn leaves entries that a directory may have
abbrev pub AreHeldAfter : List Entry → List StoredStage → Type 0
AreHeldAfter entries [] = ⊤
AreHeldAfter entries (stage ∷ stages) =
    (is_directory_content (committed entries stage.puts stage.drops) ≡ true)
    × AreHeldAfter (committed entries stage.puts stage.drops) stages

-- a replica that can commit these stages, up to the limits of its writes
pub record CanCommit (provider_node : ProviderNode) (stages : List StoredStage) : Type 0 where
  pub kind : provider_node.provider.kind ≡ Replica
  pub held : AreHeldAfter (entries_of provider_node.provider.directory) stages

-- ---- what the code answers

-- a fault that such commits can have: a limit, or out of memory
abbrev pub IsLimit : CommitFault → Type 0
IsLimit (fault.LimitReached limit) = ⊤
IsLimit (fault.DuplicateName one other) = ⊥
IsLimit fault.NotAReplica = ⊥
IsLimit fault.NoMemory = ⊤

-- what such a fault comes to in an event
abbrev pub IsCauseOf : CommitFault → Cause → Type 0
IsCauseOf (fault.LimitReached limit) cause = cause ≡ LimitReached limit
IsCauseOf (fault.DuplicateName one other) cause = ⊥
IsCauseOf fault.NotAReplica cause = ⊥
IsCauseOf fault.NoMemory cause = cause ≡ NoMemory

-- what committing answers and leaves; out of memory says nothing
abbrev pub Leaves : {X : Type 0} → Result X Cause → X → Result (Unit {0}) Cause → Type 0
Leaves outcome new (Ok done) = outcome ≡ Ok new
Leaves outcome new (Err NoMemory) = Unit {0}
Leaves outcome new (Err cause) = outcome ≡ Err cause
