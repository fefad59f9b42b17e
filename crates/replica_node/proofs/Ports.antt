-- What commits do at a port whose directory has no writes of others.
use Rattle.std.proofs.Common.{◌≡◌, ℕ, ◌≤◌, true, List, [], ◌∷◌, ◌++◌, length, Option, Some, None, Ok, Err, refl, sym, ap, subst, ◌∙◌}
use Rattle.std.specs.List.{AllByRecursion}
use Rattle.std.specs.Prelude.{◌≢◌, ◌+◌, option_map}
use Rattle.std.proofs.lemmas.List.Elements.{recursion_from_All}
use Rattle.directory_writes.proofs.Commits.{OnlyLimits, commit_open, only_limits}
use Rattle.directory_writes.proofs.Judged.{judged_is}
use Rattle.directory_writes.proofs.Writes.{entries_after-push}
use Rattle.directory_writes.specs.Commits as directory
use Rattle.directory_writes.specs.Directory.{DirectoryState, entries_of}
use Rattle.directory_writes.specs.declared.commit.DirectoryCommitFault.{DirectoryCommitFault}
use Rattle.directory_writes.specs.declared.commit.DirectoryCommitFault.TheVariants as cause
use Rattle.entry_tree.specs.Effects.{committed, effect}
use Rattle.entry_tree.specs.Fitting.{is_directory_content}
use Rattle.entry_tree.specs.History.{identity}
use Rattle.entry_tree.specs.declared.entry.Entry.{Entry}
use Rattle.entry_tree.specs.declared.op.Op.{Op}
use Rattle.entry_tree.specs.declared.op.Op.TheVariants as op
use Rattle.entry_tree.specs.declared.op.Write.{Write}
use Rattle.sync_consumer.specs.declared.commit.Commit.{Commit}
use Rattle.sync_provider.proofs.Commits.{unopposed}
use Rattle.sync_provider.proofs.Journals.{noted_journal}
use Rattle.sync_provider.specs.Committing.{commit_refusal, fault_of}
use Rattle.sync_provider.specs.Ports.{CommitReplies, IsLater, Journal, PortState, committed_by, noted, noted_all, wrote_in}
use Rattle.sync_provider.specs.declared.journal_note.JournalNote.{JournalNote}
use Rattle.sync_provider.specs.declared.journal_note.JournalNote.TheVariants.{Wrote, Opened, Closed}
use Rattle.sync_provider.specs.declared.provider.Kind.{Kind}
use Rattle.sync_provider.specs.declared.provider.Kind.TheVariants.{Root, Replica}
use Rattle.sync_provider.specs.declared.writing.CommitFault.{CommitFault}
use Rattle.sync_provider.specs.declared.writing.CommitFault.TheVariants as fault
use Rattle.replica_node.specs.Following.{outcome_of_fault}
use Rattle.replica_node.specs.Prefixes.{IsOwn}
use Rattle.replica_node.specs.Steps.{Commits}
use Rattle.replica_node.specs.declared.end.RoundOutcome.TheVariants.{LimitReached, NoMemory, Over}

-- ---- journals without writes of others

-- no entry of a journal is a write of another port than this one
abbrev pub AllOwn : ℕ → Journal → Type 0
AllOwn n journal = AllByRecursion (IsOwn n) journal

own_front : (n : ℕ) (front rest : Journal) → AllOwn n (front ++ rest) → AllOwn n front
own_front n [] rest all = tt
own_front n (e ∷ front) rest all = (all.0, own_front n front rest all.1)

own_last : (n : ℕ) (front : Journal) (e : JournalNote × ℕ) → AllOwn n (front ++ e ∷ []) → IsOwn n e
own_last n [] e all = all.0
own_last n (first ∷ front) e all = own_last n front e all.1

all_own : (n : ℕ) (p : PortState) (entries : Journal) → AllOwn n (noted_all p entries).journal → AllOwn n p.journal
all_own n p [] own = own
all_own n p (e ∷ entries) own =
    own_front n p.journal ((e.0, e.1) ∷ []) (subst (λ (j : Journal). AllOwn n j) (noted_journal p e.0 e.1) (all_own n (noted p e.0 e.1) entries own))

later_own : (n : ℕ) (old new : PortState) → IsLater old new → AllOwn n new.journal → AllOwn n old.journal
later_own n old new later own = all_own n old later.entries (subst (λ (p : PortState). AllOwn n p.journal) later.is own)

-- ---- the same directory

pub record IsSamePort (old new : PortState) : Type 0 where
  pub directory : new.directory ≡ old.directory
  pub kind : new.kind ≡ old.kind
  pub number : new.number ≡ old.number

noted_same : (n : ℕ) (p : PortState) (note : JournalNote) (by : ℕ) → by ≢ n → AllOwn n (noted p note by).journal → IsSamePort p (noted p note by)
noted_same n p (Wrote write) by other own = absurd (other (own_last n p.journal (Wrote write, by) own refl))
noted_same n p (Opened opening) by other own = record { directory = refl; kind = refl; number = refl }
noted_same n p (Closed end) by other own = record { directory = refl; kind = refl; number = refl }

-- an entry of another port, whose numbers are these
abbrev IsOthers : (n ports : ℕ) → JournalNote × ℕ → Type 0
IsOthers n ports e = (e.1 ≢ n) × (1 ≤ e.1) × (e.1 ≤ ports)

others_same : (n ports : ℕ) (p : PortState) (entries : Journal) → AllByRecursion (IsOthers n ports) entries → AllOwn n (noted_all p entries).journal → IsSamePort p (noted_all p entries)
others_same n ports p [] others own = record { directory = refl; kind = refl; number = refl }
others_same n ports p (e ∷ entries) others own =
    let one = noted_same n p e.0 e.1 others.0.0 (all_own n (noted p e.0 e.1) entries own) in
    let rest = others_same n ports (noted p e.0 e.1) entries others.1 own in
    record { directory = rest.directory ∙ one.directory; kind = rest.kind ∙ one.kind; number = rest.number ∙ one.number }

-- entries of other ports are no writes
later_same : (n : ℕ) (old new : PortState) → IsLater old new → old.number ≡ n → AllOwn n new.journal → IsSamePort old new
later_same n old new later number own =
    let others = subst (λ (k : ℕ). AllByRecursion (IsOthers k old.ports) later.entries) number (recursion_from_All (IsOthers old.number old.ports) later.entries later.others) in
    let same = others_same n old.ports old later.entries others (subst (λ (p : PortState). AllOwn n p.journal) later.is own) in
    record {
      directory = ap (λ (p : PortState). p.directory) later.is ∙ same.directory;
      kind = ap (λ (p : PortState). p.kind) later.is ∙ same.kind;
      number = ap (λ (p : PortState). p.number) later.is ∙ same.number;
    }

-- the kind stays, whatever comes in
noted_kind : (p : PortState) (note : JournalNote) (by : ℕ) → (noted p note by).kind ≡ p.kind
noted_kind p (Wrote write) by = refl
noted_kind p (Opened opening) by = refl
noted_kind p (Closed end) by = refl

all_kind : (p : PortState) (entries : Journal) → (noted_all p entries).kind ≡ p.kind
all_kind p [] = refl
all_kind p (e ∷ entries) = all_kind (noted p e.0 e.1) entries ∙ noted_kind p e.0 e.1

-- it is of the same kind
pub later_kind : (old new : PortState) → IsLater old new → new.kind ≡ old.kind
later_kind old new later = ap (λ (p : PortState). p.kind) later.is ∙ all_kind old later.entries

-- ---- a commit that is made

-- the write that it is
record IsWrite (p : PortState) (commit : Commit) (new : PortState) : Type 0 where
  write : Write
  is : new ≡ noted p (Wrote write) p.number
  same : write.op ≡ op.Commit commit.puts commit.drops
  kind : p.kind ≡ Replica

replica_of : (kind : Kind) (d : DirectoryState) (puts : List Entry) (drops : List ℕ) (now : ℕ) → commit_refusal kind d puts drops now ≡ None → kind ≡ Replica
replica_of Root d puts drops now is = let never : ⊥ = cc in absurd never
replica_of Replica d puts drops now is = refl

write_of : (p : PortState) (commit : Commit) (now number : ℕ) (new : PortState) → CommitReplies p commit.puts commit.drops now (Ok number) new → IsWrite p commit new
write_of p commit now number new replies =
    let d = p.directory in
    let asked : Op = op.Commit commit.puts commit.drops in
    let open' = commit_open d commit.puts commit.drops now (unopposed p.kind d commit.puts commit.drops now replies.accepted) in
    record {
      write = open'.write;
      is = replies.state ∙ ap (committed_by p asked now) replies.accepted ∙ ap (wrote_in p) open'.judged;
      same = (judged_is d asked now open'.write open'.judged).same;
      kind = replica_of p.kind d commit.puts commit.drops now replies.accepted;
    }

-- it leaves the entries with the stage in effect
pub record CommitMade (old new : PortState) (commit : Commit) : Type 0 where
  pub entries : entries_of new.directory ≡ committed (entries_of old.directory) commit.puts commit.drops
  pub kind : new.kind ≡ old.kind
  pub number : new.number ≡ old.number

-- its writes are those before, with the commit as the last one
pub commit_made : (n : ℕ) (old new : PortState) (commit : Commit) (number : ℕ) → Commits old commit (Ok number) new → old.number ≡ n → AllOwn n new.journal → CommitMade old new commit
commit_made n old new commit number commits mine own =
    let place = commits.replied.place in
    let d = place.directory in
    let made = write_of place commit commits.now number new commits.replied.replies in
    let own' : AllOwn n place.journal = own_front n place.journal ((Wrote made.write, place.number) ∷ []) (subst (λ (p : PortState). AllOwn n p.journal) made.is own) in
    let same = later_same n old place commits.replied.later mine own' in
    record {
      entries =
          ap (λ (p : PortState). entries_of p.directory) made.is
          ∙ entries_after-push d.history d.writes made.write
          ∙ ap (λ (o : Op). effect (entries_of d) o (identity d.history (length d.writes + 1)) made.write.csn) made.same
          ∙ ap (λ (e : DirectoryState). committed (entries_of e) commit.puts commit.drops) same.directory;
      kind = ap (λ (p : PortState). p.kind) made.is ∙ same.kind;
      number = ap (λ (p : PortState). p.number) made.is ∙ same.number;
    }

-- at a root none is
pub never_made : (old new : PortState) (commit : Commit) (number : ℕ) → Commits old commit (Ok number) new → old.kind ≡ Root → ⊥
never_made old new commit number commits root =
    let made = write_of commits.replied.place commit commits.now number new commits.replied.replies in
    let both : Replica ≡ Root = sym made.kind ∙ later_kind old commits.replied.place commits.replied.later ∙ root in
    cc

-- what the journal had before
pub made_own : (n : ℕ) (old new : PortState) (commit : Commit) (number : ℕ) → Commits old commit (Ok number) new → AllOwn n new.journal → AllOwn n old.journal
made_own n old new commit number commits own =
    let place = commits.replied.place in
    let made = write_of place commit commits.now number new commits.replied.replies in
    later_own n old place commits.replied.later (own_front n place.journal ((Wrote made.write, place.number) ∷ []) (subst (λ (p : PortState). AllOwn n p.journal) made.is own))

-- ---- a commit that is refused

-- the directory has no writes of others before it either
pub refused_own : (n : ℕ) (old new : PortState) (commit : Commit) (found : CommitFault) → Commits old commit (Err found) new → AllOwn n new.journal → AllOwn n old.journal
refused_own n old new commit found commits own =
    later_own n old commits.replied.place commits.replied.later (subst (λ (p : PortState). AllOwn n p.journal) commits.replied.replies.err own)

-- which is the same after it
pub refused_same : (n : ℕ) (old new : PortState) (commit : Commit) (found : CommitFault) → Commits old commit (Err found) new → old.number ≡ n → AllOwn n new.journal → IsSamePort old new
refused_same n old new commit found commits mine own =
    let err = commits.replied.replies.err in
    subst (λ (p : PortState). IsSamePort old p) (sym err)
    (later_same n old commits.replied.place commits.replied.later mine (subst (λ (p : PortState). AllOwn n p.journal) err own))

-- and is of the same kind after it
pub refused_kind : (old new : PortState) (commit : Commit) (found : CommitFault) → Commits old commit (Err found) new → new.kind ≡ old.kind
refused_kind old new commit found commits = ap (λ (p : PortState). p.kind) commits.replied.replies.err ∙ later_kind old commits.replied.place commits.replied.later

no_double : (r : Option DirectoryCommitFault) (one other : ℕ) → OnlyLimits r → option_map fault_of r ≡ Some (fault.DuplicateName one other) → ⊥
no_double None one other only is = cc
no_double (Some (cause.LimitReached limit)) one other only is = cc
no_double (Some (cause.DuplicateName a b)) one other only is = absurd only
no_double (Some cause.NoMemory) one other only is = absurd only

no_root : (r : Option DirectoryCommitFault) → OnlyLimits r → option_map fault_of r ≡ Some fault.NotAReplica → ⊥
no_root None only is = cc
no_root (Some (cause.LimitReached limit)) only is = cc
no_root (Some (cause.DuplicateName a b)) only is = absurd only
no_root (Some cause.NoMemory) only is = absurd only

-- so a replica that ends a round with a commit that is refused ends with it, or is out of memory
pub never_refused : (n : ℕ) (old new : PortState) (commit : Commit) (found : CommitFault) → Commits old commit (Err found) new → old.kind ≡ Replica → old.number ≡ n → AllOwn n new.journal
    → is_directory_content (committed (entries_of old.directory) commit.puts commit.drops) ≡ true → outcome_of_fault found ≡ Over → ⊥
never_refused n old new commit found commits kind mine own held over = by found commits.replied.replies over
  where
    place : PortState
    place = commits.replied.place

    same : IsSamePort old place
    same = later_same n old place commits.replied.later mine (subst (λ (p : PortState). AllOwn n p.journal) commits.replied.replies.err own)

    limits : OnlyLimits (directory.commit_refusal place.directory commit.puts commit.drops commits.now)
    limits =
        only_limits place.directory commit.puts commit.drops commits.now
        (subst (λ (d : DirectoryState). is_directory_content (committed (entries_of d) commit.puts commit.drops) ≡ true) (sym same.directory) held)

    at_replica : commit_refusal place.kind place.directory commit.puts commit.drops commits.now ≡ option_map fault_of (directory.commit_refusal place.directory commit.puts commit.drops commits.now)
    at_replica = ap (λ (k : Kind). commit_refusal k place.directory commit.puts commit.drops commits.now) (same.kind ∙ kind)

    by : (given : CommitFault) → CommitReplies place commit.puts commit.drops commits.now (Err given) new → outcome_of_fault given ≡ Over → ⊥
    by (fault.DuplicateName one other) replies is = no_double (directory.commit_refusal place.directory commit.puts commit.drops commits.now) one other limits (sym at_replica ∙ replies.refused)
    by fault.NotAReplica replies is = no_root (directory.commit_refusal place.directory commit.puts commit.drops commits.now) limits (sym at_replica ∙ replies.refused)
    by (fault.LimitReached limit) replies is = let wrong : LimitReached limit ≡ Over = is in cc
    by fault.NoMemory replies is = let wrong : NoMemory ≡ Over = is in cc
