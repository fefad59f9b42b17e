-- A commit by what rejects it.
use Rattle.std.proofs.Common.{◌≡◌, ℕ, List, Option, Some, None, refl}
use Rattle.std.specs.Option.{option_or}
use Rattle.entry_tree.specs.declared.entry.Entry.{Entry}
use Rattle.entry_tree.specs.declared.op.Op.{Op}
use Rattle.directory_writes.specs.Commits as directory
use Rattle.directory_writes.specs.Directory.{DirectoryState, judged}
use Rattle.sync_provider.specs.Committing.{fault_of, commit_refusal}
use Rattle.sync_provider.specs.Machine.{ProviderState, after_judged, after_commit}
use Rattle.sync_provider.specs.declared.provider.Kind.{Kind}
use Rattle.sync_provider.specs.declared.provider.Kind.TheVariants.{Root, Replica}
use Rattle.sync_provider.specs.declared.writing.CommitFault.{CommitFault}
use Rattle.sync_model.proofs.Limits.{option_map-none}

-- what holds of a provider, and of it after a write, holds after a commit
pub commit_case : (P : ProviderState → Type 0) (p : ProviderState) (op : Op) (now : ℕ) (refusal : Option CommitFault)
    → P p → P (after_judged p (judged p.directory op now)) → P (after_commit p op now refusal)
commit_case P p op now None before after = after
commit_case P p op now (Some fault) before after = before

-- where nothing rejects a commit, its directory has nothing against it
pub unopposed : (kind : Kind) (d : DirectoryState) (puts : List Entry) (drops : List ℕ) (now : ℕ) → commit_refusal kind d puts drops now ≡ None
    → directory.commit_refusal d puts drops now ≡ None
unopposed Root d puts drops now is = let never : ⊥ = cc in absurd never
unopposed Replica d puts drops now is = option_map-none fault_of (directory.commit_refusal d puts drops now) is

-- nothing in place of something missing changes nothing
pub or_none : {X : Type 0} (found : Option X) → option_or found None ≡ found
or_none None = refl
or_none (Some x) = refl
