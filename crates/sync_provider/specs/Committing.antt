-- Commits: the writes of a replica (RFC 4533, section 3.3).
use Rattle.std.specs.Prelude.{◌≡◌, ℕ, List, [], ◌∷◌, Option, Some, None, option_map}
use Rattle.std.specs.Option.{option_or}
use Rattle.entry_tree.specs.declared.entry.Entry.{Entry}
use Rattle.entry_tree.specs.declared.op.Op.TheVariants.{Commit}
use Rattle.directory_writes.specs.Commits as directory
use Rattle.directory_writes.specs.Directory.{DirectoryState, written}
use Rattle.directory_writes.specs.declared.commit.DirectoryCommitFault.{DirectoryCommitFault}
use Rattle.directory_writes.specs.declared.commit.DirectoryCommitFault.TheVariants as cause
use Rattle.sync_provider.specs.declared.committing.StagedCommit.{StagedCommit}
use Rattle.sync_provider.specs.declared.provider.Kind.{Kind}
use Rattle.sync_provider.specs.declared.provider.Kind.TheVariants.{Root, Replica}
use Rattle.sync_provider.specs.declared.writing.CommitFault.{CommitFault}
use Rattle.sync_provider.specs.declared.writing.CommitFault.TheVariants.{DuplicateName, LimitReached, NoMemory, NotAReplica}

abbrev pub fault_of : DirectoryCommitFault → CommitFault
fault_of (cause.DuplicateName one other) = DuplicateName one other
fault_of (cause.LimitReached limit) = LimitReached limit
fault_of cause.NoMemory = NoMemory

-- what rejects a commit of these entries and dropped identities: at a root that it is none, else
-- what the directory has against it
abbrev pub commit_refusal : Kind → DirectoryState → List Entry → List ℕ → ℕ → Option CommitFault
commit_refusal Root d puts drops now = Some NotAReplica
commit_refusal Replica d puts drops now =
    option_map fault_of (directory.commit_refusal d puts drops now)

-- what a directory has first against one of these commits, each judged on what the ones before it
-- left
abbrev pub first_refusal : DirectoryState → List StagedCommit → ℕ → Option DirectoryCommitFault
first_refusal d [] now = None
first_refusal d (commit ∷ commits) now =
    option_or (directory.commit_refusal d commit.puts commit.drops now)
    (first_refusal (written d (Commit commit.puts commit.drops) now) commits now)

-- a fault reports what rejects a commit; out of memory reports nothing
abbrev pub RejectsCommit : Option CommitFault → CommitFault → Type 0
RejectsCommit refusal (DuplicateName one other) = refusal ≡ Some (DuplicateName one other)
RejectsCommit refusal (LimitReached limit) = refusal ≡ Some (LimitReached limit)
RejectsCommit refusal NoMemory = Unit {0}
RejectsCommit refusal NotAReplica = refusal ≡ Some NotAReplica
