-- The prefix of a root's writes that entries are of, from provider to provider.
use Rattle.std.specs.Prelude.{ℕ, zero, suc, Option, Some, None, List, slice_get, if◌then◌else◌}
use Rattle.entry_tree.specs.Selection.{Search, is_same_search}
use Rattle.sync_provider.specs.declared.provider.Kind.{Kind}
use Rattle.sync_provider.specs.declared.provider.Kind.TheVariants.{Root, Replica}
use Rattle.cascade_report.specs.declared.notes.Origin.{Origin}

-- what is kept of a commit of a replica: what the replica wanted then, and the origin that its
-- `stored` line reported
pub record CommitOrigin : Type 0 where
  pub search : Search
  pub origin : Option Origin

-- of a provider: the root at the top of its providers, which is itself at a root, and a note for
-- each commit of a replica
pub record Lineage : Type 0 where
  pub top : List ℕ
  pub notes : List CommitOrigin

abbrev pub prefix_of : List ℕ → ℕ → Option Origin
prefix_of root number = Some (record { root = root; number = number })

-- the origin of a commit, for whoever wants the same as the replica did then
abbrev pub passed_on : Search → Option CommitOrigin → Option Origin
passed_on search None = None
passed_on search (Some note) = if is_same_search note.search search then note.origin else None

-- the origin of n commits of a replica
abbrev pub replica_origin : Lineage → Search → ℕ → Option Origin
replica_origin lineage search zero = prefix_of lineage.top 0
replica_origin lineage search (suc before) = passed_on search (slice_get lineage.notes before)

-- the origin of a prefix of a provider's writes, for whoever wants this
abbrev pub origin_of : Kind → Lineage → Search → ℕ → Option Origin
origin_of Root lineage search number = prefix_of lineage.top number
origin_of Replica lineage search number = replica_origin lineage search number
