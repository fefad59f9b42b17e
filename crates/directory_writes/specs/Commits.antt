-- What rejects a commit of a replica (RFC 4533, section 3.3).
use Rattle.std.specs.Prelude.{◌≡◌, ℕ, ◌+◌, nat_lt, nat_le, length, List, Option, Some, None, option_map, is_none, if◌then◌else◌}
use Rattle.std.specs.Option.{option_or}
use Rattle.csn_cookie.specs.Csn.{CsnValue}
use Rattle.csn_cookie.specs.CsnMaker.{greatest_count, next_csn}
use Rattle.entry_tree.specs.Effects.{committed}
use Rattle.entry_tree.specs.State.{most_entries, most_weight, total_weight, same_named}
use Rattle.entry_tree.specs.Touched.{IsPlan}
use Rattle.entry_tree.specs.declared.entry.Entry.{Entry}
use Rattle.entry_tree.specs.declared.op.Op.TheVariants.{Commit}
use Rattle.directory_writes.specs.Directory.{DirectoryState, entries_of, last_csn_of, most_writes, most_writes_weight}
use Rattle.directory_writes.specs.Standing.{StandingState}
use Rattle.directory_writes.specs.Weights.{op_weight, kept_weight}
use Rattle.directory_writes.specs.declared.commit.DirectoryCommitFault.{DirectoryCommitFault}
use Rattle.directory_writes.specs.declared.commit.DirectoryCommitFault.TheVariants.{LimitReached, DuplicateName, NoMemory}
use Rattle.directory_writes.specs.declared.preview.Preview.{Preview}

-- what rejects the entries that a commit would leave: more than 200,000, then heavier than 256
-- MiB, then two of one name
abbrev pub held_refusal : List Entry → Option DirectoryCommitFault
held_refusal entries =
    if nat_lt most_entries (length entries) then Some (LimitReached most_entries)
    else if nat_lt most_weight (total_weight entries) then Some (LimitReached most_weight)
    else option_map (λ pair. DuplicateName pair.0 pair.1) (same_named entries)

-- what rejects one more write of this weight where the clock shows `now`, after n writes that weigh
-- so much and have a last CSN: as many writes are kept as may be, then the kept writes would be too
-- heavy, then no CSN is left
abbrev pub refusal_after :
    (count kept : ℕ) → CsnValue → (weight now : ℕ) → Option DirectoryCommitFault
refusal_after count kept last weight now =
    if nat_le most_writes count then Some (LimitReached most_writes)
    else if nat_lt most_writes_weight (kept + weight) then Some (LimitReached most_writes_weight)
    else if is_none (next_csn now last) then Some (LimitReached greatest_count)
    else None

abbrev pub log_refusal : DirectoryState → ℕ → ℕ → Option DirectoryCommitFault
log_refusal d weight now =
    refusal_after (length d.writes) (kept_weight d.writes) (last_csn_of d) weight now

-- what rejects a commit to the directory: first what rejects one more write, then what
-- rejects the entries after it
abbrev pub commit_refusal : DirectoryState → List Entry → List ℕ → ℕ → Option DirectoryCommitFault
commit_refusal d puts drops now =
    option_or (log_refusal d (op_weight (Commit puts drops)) now)
    (held_refusal (committed (entries_of d) puts drops))

-- the same by what is kept beside the writes
abbrev pub standing_refusal : StandingState → ℕ → ℕ → Option DirectoryCommitFault
standing_refusal s weight now = refusal_after s.count s.weight s.last weight now

abbrev pub refusal_beside : StandingState → List Entry → List ℕ → ℕ → Option DirectoryCommitFault
refusal_beside s puts drops now =
    option_or (standing_refusal s (op_weight (Commit puts drops)) now)
    (held_refusal (committed s.entries puts drops))

-- a commit that nothing rejects is previewed so, by what is kept beside the writes
pub record IsCommitPreview
    (s : StandingState) (puts : List Entry) (drops : List ℕ) (now : ℕ)
    (preview : Preview) : Type 0 where
  pub unopposed : refusal_beside s puts drops now ≡ None
  pub next : next_csn now s.last ≡ Some preview.csn
  pub drawn : preview.csn_maker ≡ preview.csn
  pub weighed : preview.weight ≡ s.weight + op_weight (Commit puts drops)
  pub plan : IsPlan s.entries (committed s.entries puts drops) preview.touched

-- a fault reports what rejects a commit; out of memory reports nothing
abbrev pub Rejects : Option DirectoryCommitFault → DirectoryCommitFault → Type 0
Rejects refusal (LimitReached limit) = refusal ≡ Some (LimitReached limit)
Rejects refusal (DuplicateName one other) = refusal ≡ Some (DuplicateName one other)
Rejects refusal NoMemory = Unit {0}
