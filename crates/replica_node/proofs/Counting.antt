-- The commits that are counted are among the writes of the port's directory.
use Rattle.std.proofs.Common.{◌≡◌, ◌≤◌, ◌<◌, ◌+◌, ◌-◌, ◌^◌, ℕ, List, [], ◌∷◌, length, min, Ok, Err, sym, subst, arith}
use Rattle.std.specs.Prelude.{nat_le, nat_lt}
use Rattle.std.proofs.lemmas.Bool.{and_parts, ltb-true}
use Rattle.std.proofs.lemmas.List.{length-append}
use Rattle.directory_writes.proofs.Commits.{commit_open}
use Rattle.directory_writes.specs.Directory.{most_writes, most_writes_weight}
use Rattle.directory_writes.specs.Weights.{kept_weight, op_weight}
use Rattle.entry_tree.specs.declared.entry.Entry.{Entry}
use Rattle.entry_tree.specs.declared.op.Op.TheVariants.{Commit}
use Rattle.sync_provider.proofs.Commits.{unopposed}
use Rattle.sync_provider.specs.Ports.{CommitReplies, IsLater, IsReplied, Journal, PortState, noted, noted_all}
use Rattle.sync_provider.specs.declared.journal_note.JournalNote.{JournalNote}
use Rattle.sync_provider.specs.declared.journal_note.JournalNote.TheVariants.{Wrote, Opened, Closed}
use Rattle.sync_provider.specs.declared.writing.CommitFault.{CommitFault}
use Rattle.replica_node.specs.Following.{IsCounted}

-- ---- entries of other ports take no write away

noted_grows : (p : PortState) (note : JournalNote) (by : ℕ) → length p.directory.writes ≤ length (noted p note by).directory.writes
noted_grows p (Wrote write) by = omega (arith, length-append p.directory.writes (write ∷ []))
noted_grows p (Opened opening) by = omega arith
noted_grows p (Closed end) by = omega arith

all_grow : (p : PortState) (entries : Journal) → length p.directory.writes ≤ length (noted_all p entries).directory.writes
all_grow p [] = omega arith
all_grow p (e ∷ entries) = omega (arith, noted_grows p e.0 e.1, all_grow (noted p e.0 e.1) entries)

later_grows : (old new : PortState) → IsLater old new → length old.directory.writes ≤ length new.directory.writes
later_grows old new later =
    subst (λ (p : PortState). length old.directory.writes ≤ length p.directory.writes) (sym later.is) (all_grow old later.entries)

-- they still are among them
pub counted_later : (old new : PortState) (stored : ℕ) → IsLater old new → IsCounted old stored → IsCounted new stored
counted_later old new stored later counted = omega (arith, counted, later_grows old new later)

-- ---- a commit

-- a directory that takes a commit has fewer writes than it may keep
few_writes : (p : PortState) (puts : List Entry) (drops : List ℕ) (now number : ℕ) (new : PortState) → CommitReplies p puts drops now (Ok number) new → length p.directory.writes < 1000000
few_writes p puts drops now number new replies =
    let d = p.directory in
    let room = (commit_open d puts drops now (unopposed p.kind d puts drops now replies.accepted)).room in
    ltb-true (length d.writes) most_writes (and_parts (nat_lt (length d.writes) most_writes) (nat_le (kept_weight d.writes + op_weight (Commit puts drops)) most_writes_weight) room).0

-- after a commit one more is counted, and the count does not reach the greatest number
pub committed_count : (old new : PortState) (puts : List Entry) (drops : List ℕ) (now number stored : ℕ)
    → IsReplied old (λ p. CommitReplies p puts drops now (Ok number) new) → IsCounted old stored → (min (stored + 1) (2 ^ 64 - 1) ≡ stored + 1) × IsCounted new (stored + 1)
committed_count old new puts drops now number stored replied counted =
    let at : number ≡ length new.directory.writes = replied.replies.number in
    let one : number ≡ length replied.place.directory.writes + 1 = replied.replies.one in
    let grown = later_grows old replied.place replied.later in
    let few = few_writes replied.place puts drops now number new replied.replies in
    (omega (arith, grown, counted, few), omega (arith, at, one, grown, counted))

-- a commit that is refused leaves the count
pub refused_count : (old new : PortState) (puts : List Entry) (drops : List ℕ) (now stored : ℕ) (fault : CommitFault)
    → IsReplied old (λ p. CommitReplies p puts drops now (Err fault) new) → IsCounted old stored → IsCounted new stored
refused_count old new puts drops now stored fault replied counted =
    subst (λ (p : PortState). IsCounted p stored) (sym replied.replies.err) (counted_later old replied.place stored replied.later counted)
