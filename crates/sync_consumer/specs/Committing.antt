-- Stages that take effect, as commits to a directory (RFC 4533, sections 3.3 and 3.4).
use Rattle.std.specs.Prelude.{◌≡◌, ⊤, ℕ, Bool, true, ◌==◌, List, [], Option, Some, None}
use Rattle.std.specs.List.{All, list_all}
use Rattle.std.specs.Map.{keys_of}
use Rattle.dn_names.specs.Names.{same_name}
use Rattle.entry_tree.specs.Effects.{committed}
use Rattle.entry_tree.specs.Fitting.{fits}
use Rattle.entry_tree.specs.declared.entry.Entry.{Entry}
use Rattle.entry_tree.specs.declared.op.Op.TheVariants as write
use Rattle.sync_model.specs.Copy as model
use Rattle.sync_consumer.specs.Holding.{IsConsumerContent}
use Rattle.entry_tree.specs.Touched.{rises}
use Rattle.sync_consumer.specs.Taking.{AreFit}
use Rattle.sync_consumer.specs.declared.commit.Commit.{Commit}
use Rattle.sync_consumer.specs.declared.consumer.Taken.{Taken}
use Rattle.sync_consumer.specs.declared.consumer.Taken.TheVariants.{Staged, Stored, Copied, Over, Fault, NoMemory}

-- no two of the entries have one name (RFC 4512, section 2.3): where the names of two are the same,
-- they are one entry
abbrev pub HaveUniqueNames : List Entry → Type 0
HaveUniqueNames entries =
    All
    (λ (one : Entry).
    All (λ (other : Entry). same_name one.dn other.dn ≡ true → one ≡ other) entries) entries

-- ---- what a stage puts and drops, as a commit

-- a directory of the entries before has room for the commit, with no name twice, and the commit
-- leaves it the entries after, in the same order; each keeps its own CSN, whatever CSN the
-- write of the commit has
pub record IsCommit (before after : List Entry) (commit : Commit) : Type 0 where
  pub fits : fits before (write.Commit commit.puts commit.drops) ≡ true
  pub leaves : committed before commit.puts commit.drops ≡ after

-- a stage that took effect is a commit to a directory of the entries before
abbrev pub CanBeCommitted : model.Copy → model.Copy → Taken → Type 0
CanBeCommitted before after Staged = ⊤
CanBeCommitted before after (Stored commit) = IsCommit before.held after.held commit
CanBeCommitted before after (Copied commit) = IsCommit before.held after.held commit
CanBeCommitted before after (Over code) = ⊤
CanBeCommitted before after (Fault found) = ⊤
CanBeCommitted before after NoMemory = ⊤

-- ---- what holds of what is held and what is staged

-- what is staged by a search, if one runs
abbrev pub stage_in : Option model.SyncSession → model.Stage
stage_in None = []
stage_in (Some session) = session.stage

-- an entry of this identity, or that it has none
abbrev pub is_of : ℕ → Option Entry → Bool
is_of uuid None = true
is_of uuid (Some entry) = entry.uuid == uuid

-- the changes are in ascending order of identity, each is of its own, and what they put is fit for
-- a commit of a replica
pub record IsReady (stage : model.Stage) : Type 0 where
  pub ordered : rises (keys_of stage) ≡ true
  pub own : list_all (λ (change : ℕ × Option Entry). is_of change.0 change.1) stage ≡ true
  pub fit : AreFit (model.puts_of stage)

-- the entries may be held, and what is staged is ready to take effect
pub record IsReadyOn (entries : List Entry) (stage : model.Stage) : Type 0 where
  pub held : IsConsumerContent entries
  pub staged : IsReady stage
