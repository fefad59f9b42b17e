-- Commits that only have to be put in place, one after another (RFC 4533, section 3.3).
use Rattle.std.specs.Prelude.{◌≡◌, ⊤, ℕ, List, [], ◌∷◌, length, None, Ok}
use Rattle.csn_cookie.specs.Cookie.{cookie_text}
use Rattle.entry_tree.specs.declared.op.Op.TheVariants.{Commit}
use Rattle.entry_tree.specs.declared.op.Write.{Write}
use Rattle.directory_writes.specs.Commits.{commit_refusal}
use Rattle.directory_writes.specs.Directory.{DirectoryState, cookie_at, judged, with_write}
use Rattle.directory_writes.specs.Ready.{IsReadyWrite}
use Rattle.sync_provider.specs.Staging.{HeldSearch, each_staged}
use Rattle.sync_provider.specs.declared.committing.StagedCommit.{StagedCommit}
use Rattle.sync_provider.specs.declared.ready_commit.ReadyCommit.{ReadyCommit}

-- the write that it is
abbrev pub write_of : ReadyCommit → Write
write_of commit = record { csn = commit.ready.preview.csn; op = commit.op }

-- how many notes it gets
abbrev pub note_count : ReadyCommit → ℕ
note_count commit = length commit.ready.preview.touched

-- the directory after some of them
abbrev pub after_each : DirectoryState → List ReadyCommit → DirectoryState
after_each d [] = d
after_each d (commit ∷ commits) = after_each (with_write d (write_of commit)) commits

-- each is ready on the directory that those before it leave
abbrev pub AreReady : DirectoryState → List ReadyCommit → Type 0
AreReady d [] = ⊤
AreReady d (commit ∷ commits) =
    IsReadyWrite d commit.op commit.ready × AreReady (with_write d (write_of commit)) commits

-- a commit that is staged is ready: nothing rejects it, and this is the write that it becomes
pub record IsReadyCommit
    (d : DirectoryState) (now : ℕ) (commit : ReadyCommit) (staged : StagedCommit) : Type 0 where
  pub op : commit.op ≡ Commit staged.puts staged.drops
  pub ready : IsReadyWrite d commit.op commit.ready
  pub unopposed : commit_refusal d staged.puts staged.drops now ≡ None
  pub judged : judged d (Commit staged.puts staged.drops) now ≡ Ok (write_of commit)

-- each of these is, on the directory that those before it leave
abbrev pub AreReadyCommits : ℕ → DirectoryState → List ReadyCommit → List StagedCommit → Type 0
AreReadyCommits now d [] [] = ⊤
AreReadyCommits now d (commit ∷ commits) (staged ∷ others) =
    IsReadyCommit d now commit staged
    × AreReadyCommits now (with_write d (write_of commit)) commits others
AreReadyCommits now d [] (staged ∷ others) = ⊥
AreReadyCommits now d (commit ∷ commits) [] = ⊥

-- the messages of these writes are made for each search of a directory with this number and
-- history
abbrev pub all_staged :
    (sid history : ℕ) → List ReadyCommit → List (ℕ × HeldSearch) → List (ℕ × HeldSearch)
all_staged sid history [] held = held
all_staged sid history (commit ∷ commits) held =
    all_staged sid history commits
    (each_staged commit.ready.preview.touched
    (cookie_text (cookie_at sid history commit.ready.preview.csn)) held)
