-- A root takes no commits.
use Rattle.std.proofs.Common.{◌≡◌, ◌<◌, ℕ, List, [], ◌∷◌, Option, Some, None, length, refl, ap, sym, ◌∙◌, arith}
use Rattle.std.specs.Prelude.{option_map}
use Rattle.std.specs.Option.{option_or}
use Rattle.entry_tree.specs.declared.entry.Entry.{Entry}
use Rattle.entry_tree.specs.declared.op.Op.TheVariants.{Commit}
use Rattle.directory_writes.specs.Commits as directory
use Rattle.directory_writes.specs.Directory.{DirectoryState}
use Rattle.directory_writes.specs.declared.commit.DirectoryCommitFault.{DirectoryCommitFault}
use Rattle.directory_writes.specs.declared.commit.DirectoryCommitFault.TheVariants as cause
use Rattle.sync_provider.specs.Committing.{fault_of, commit_refusal}
use Rattle.sync_provider.specs.Machine.{ProviderState, after_commit, committed, committed_each, refusal_of_each}
use Rattle.sync_provider.specs.declared.committing.StagedCommit.{StagedCommit}
use Rattle.sync_provider.specs.declared.provider.Kind.{Kind}
use Rattle.sync_provider.specs.declared.provider.Kind.TheVariants.{Root, Replica}
use Rattle.sync_provider.specs.declared.writing.CommitFault.{CommitFault}
use Rattle.sync_provider.specs.declared.writing.CommitFault.TheVariants.{NotAReplica}

-- that it is none rejects each commit of a root
pub root_refuses : (p : ProviderState) (commits : List StagedCommit) (now : ℕ) → p.kind ≡ Root → 0 < length commits → refusal_of_each p commits now ≡ Some NotAReplica
root_refuses p [] now is some = let never : ⊥ = omega (arith, some) in absurd never
root_refuses p (commit ∷ commits) now is some =
    ap (λ kind. option_or (commit_refusal kind p.directory commit.puts commit.drops now) (refusal_of_each (committed p commit.puts commit.drops now) commits now)) is

-- a directory has other causes
no_cause : (found : Option DirectoryCommitFault) → option_map fault_of found ≡ Some NotAReplica → ⊥
no_cause None is = cc
no_cause (Some (cause.DuplicateName one other)) is = cc
no_cause (Some (cause.LimitReached limit)) is = cc
no_cause (Some cause.NoMemory) is = cc

one_root : (kind : Kind) (d : DirectoryState) (puts : List Entry) (drops : List ℕ) (now : ℕ) → commit_refusal kind d puts drops now ≡ Some NotAReplica → kind ≡ Root
one_root Root d puts drops now is = refl
one_root Replica d puts drops now is = absurd (no_cause (directory.commit_refusal d puts drops now) is)

-- a commit leaves the kind
committed_kind : (p : ProviderState) (commit : StagedCommit) (now : ℕ) → (committed p commit.puts commit.drops now).kind ≡ p.kind
committed_kind p commit now = by (commit_refusal p.kind p.directory commit.puts commit.drops now)
  where
    by : (refusal : Option CommitFault) → (after_commit p (Commit commit.puts commit.drops) now refusal).kind ≡ p.kind
    by None = refl
    by (Some fault) = refl

-- what is first against a commit or those after it
first_root : (p after : ProviderState) (puts : List Entry) (drops : List ℕ) (now : ℕ) (found later : Option CommitFault) → after.kind ≡ p.kind
    → commit_refusal p.kind p.directory puts drops now ≡ found → (later ≡ Some NotAReplica → after.kind ≡ Root) → option_or found later ≡ Some NotAReplica → p.kind ≡ Root
first_root p after puts drops now None later kind none rest some = sym kind ∙ rest some
first_root p after puts drops now (Some fault) later kind one rest some = one_root p.kind p.directory puts drops now (one ∙ some)

-- and against none of a replica
each_root : (p : ProviderState) (commits : List StagedCommit) (now : ℕ) → refusal_of_each p commits now ≡ Some NotAReplica → p.kind ≡ Root
each_root p [] now is = let never : ⊥ = cc in absurd never
each_root p (commit ∷ commits) now is =
    let after : ProviderState = committed p commit.puts commit.drops now in
    first_root p after commit.puts commit.drops now (commit_refusal p.kind p.directory commit.puts commit.drops now) (refusal_of_each after commits now)
    (committed_kind p commit now) refl (λ some. each_root after commits now some) is

some_left : (p : ProviderState) (commits : List StagedCommit) (now : ℕ) → refusal_of_each p commits now ≡ Some NotAReplica → 0 < length commits
some_left p [] now is = let never : ⊥ = cc in absurd never
some_left p (commit ∷ commits) now is = omega arith

-- where commits are refused for it, the provider is a root
pub only_root : (p : ProviderState) (commits : List StagedCommit) (now : ℕ) → refusal_of_each p commits now ≡ Some NotAReplica → (p.kind ≡ Root) × (0 < length commits)
only_root p commits now is = (each_root p commits now is, some_left p commits now is)

-- without commits nothing is rejected, and nothing changes
pub none_refused : (p : ProviderState) (commits : List StagedCommit) (now : ℕ) → length commits ≡ 0 → refusal_of_each p commits now ≡ None
none_refused p [] now none = refl
none_refused p (commit ∷ commits) now none = absurd (omega (arith, none))

-- no commits leave it as it is
pub none_committed : (p : ProviderState) (commits : List StagedCommit) (now : ℕ) → length commits ≡ 0 → p ≡ committed_each p commits now
none_committed p [] now none = refl
none_committed p (commit ∷ commits) now none = absurd (omega (arith, none))
