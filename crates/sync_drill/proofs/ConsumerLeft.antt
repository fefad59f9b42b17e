-- What is left of one consumer: all that its searches handed out was taken, and its copy is whole.
use Rattle.std.proofs.Common.{◌≡◌, ◌≤◌, ◌<◌, ℕ, suc, List, [], ◌∷◌, ◌++◌, length, map, fold, refl, sym, ap, ◌∙◌, subst, arith, append_assoc, append-nil}
use Rattle.std.specs.List.{All}
use Rattle.std.proofs.lemmas.List.Sums.{fold-append}
use Rattle.entry_tree.specs.Selection.{select}
use Rattle.entry_tree.specs.declared.op.Write.{Write}
use Rattle.directory_laws.specs.Accepted.{WereAccepted}
use Rattle.directory_laws.specs.Law.{most_identities}
use Rattle.directory_writes.specs.Directory.{DirectoryState, entries_of, fresh_directory, with_write}
use Rattle.link_rings.specs.Ends.{offered}
use Rattle.link_rings.specs.declared.ends.RingConsumer.{RingConsumer}
use Rattle.link_rings.specs.declared.ends.RingProducer.{RingProducer}
use Rattle.sync_consumer.specs.Taking.{ConsumerState}
use Rattle.sync_provider.proofs.Journals.{writes_append}
use Rattle.sync_provider.specs.Ports.{HasMet, HasSeenAllOf, Journal, PortState, writes_in}
use Rattle.drill_plan.specs.Ending.{entries_after, followed_by, history, server}
use Rattle.drill_plan.specs.Names.{suffix}
use Rattle.sync_drill.specs.Delivered.{EndedSearch, delivered, encoded, search_id, IsMadeOf}
use Rattle.sync_drill.specs.Followed.{HasFollowed}
use Rattle.sync_drill.specs.Following.{IsSettled}
use Rattle.sync_drill.specs.Going.{IsDrillPort}
use Rattle.sync_drill.specs.Handing.{AreEnded, IsDone, IsResting}
use Rattle.sync_drill.specs.Journals.{notes_of, operations_in}
use Rattle.sync_drill.proofs.CopyMade.{made_whole}
use Rattle.sync_drill.proofs.Handings.{resting-later}
use Rattle.sync_drill.proofs.JournalLeft.{folded-history, folded-suffix, port_writes}
use Rattle.sync_drill.proofs.NoMore.{no_more_writes}
use Rattle.sync_drill.proofs.Notes.{between, noted_all-number}
use Rattle.sync_drill.proofs.Streams.{delivered_same, still_ended}

-- what holds of each holds of those that come later
pub second_all : {X : Type 0} (Q : X → Type 0) (xs ys : List X) → All Q (xs ++ ys) → All Q ys
second_all Q [] ys all = all
second_all Q (x ∷ xs) ys all = second_all Q xs ys (λ k d low. all (suc k) d (omega (arith, low)))

-- ---- a directory after more writes

-- searches that are over are so still
ended_on : (writes : List Write) (d : DirectoryState) (searches : List EndedSearch) → AreEnded d searches
    → AreEnded (fold with_write d writes) searches
ended_on [] d searches ended = ended
ended_on (w ∷ writes) d searches ended = ended_on writes (with_write d w) searches (still_ended d w searches ended)

-- and what they handed out stays the same
delivered_on : (writes : List Write) (d : DirectoryState) (searches : List EndedSearch) → AreEnded d searches
    → delivered (fold with_write d writes) searches ≡ delivered d searches
delivered_on [] d searches ended = refl
delivered_on (w ∷ writes) d searches ended =
    delivered_on writes (with_write d w) searches (still_ended d w searches ended) ∙ delivered_same d w searches ended

module _ (number many : ℕ) (p seen : PortState) (its : IsDrillPort number many p) (first : IsDrillPort 1 many seen) (more : Journal)
    (begins : seen.journal ≡ p.journal ++ more) where
  directory_on : seen.directory ≡ fold with_write p.directory (writes_in more)
  directory_on =
      first.directory
      ∙ ap (fold with_write (fresh_directory suffix server history)) (ap writes_in begins ∙ writes_append p.journal more)
      ∙ fold-append with_write (fresh_directory suffix server history) (writes_in p.journal) (writes_in more)
      ∙ ap (λ d. fold with_write d (writes_in more)) (sym its.directory)

  module _ (items : List (List ℕ)) (resting : IsResting p items) where
    -- the searches at a port that are over are so by the whole journal
    pub ended_then : AreEnded seen.directory resting.searches
    ended_then =
        subst (λ d. AreEnded d resting.searches) (sym directory_on)
        (ended_on (writes_in more) p.directory resting.searches resting.are_ended)

    -- and what was handed out there is that by the whole journal
    pub offered_on : items ≡ map encoded (delivered seen.directory resting.searches)
    offered_on =
        resting.offered_is
        ∙ ap (map encoded)
        (sym (delivered_on (writes_in more) p.directory resting.searches resting.are_ended)
        ∙ ap (λ d. delivered d resting.searches) (sym directory_on))

-- ---- a copy that had seen all writes

module _ (number many consumer : ℕ) (upto : PortState) (writes : List Write) (its : IsDrillPort number many upto) (same : writes_in upto.journal ≡ writes)
    (accepted : WereAccepted suffix history writes) (few : length writes ≤ most_identities) where
  its_writes : upto.directory.writes ≡ writes
  its_writes = port_writes number many upto its ∙ same

  its_suffix : upto.directory.suffix ≡ suffix
  its_suffix =
      ap (λ (d : DirectoryState). d.suffix) its.directory ∙ folded-suffix (fresh_directory suffix server history) (writes_in upto.journal)

  its_history : upto.directory.history ≡ history
  its_history =
      ap (λ (d : DirectoryState). d.history) its.directory ∙ folded-history (fresh_directory suffix server history) (writes_in upto.journal)

  its_accepted : WereAccepted upto.directory.suffix upto.directory.history upto.directory.writes
  its_accepted =
      subst (λ s. WereAccepted s upto.directory.history upto.directory.writes) (sym its_suffix)
      (subst (λ h. WereAccepted suffix h upto.directory.writes) (sym its_history)
      (subst (WereAccepted suffix history) (sym its_writes) accepted))

  its_entries : entries_of upto.directory ≡ entries_after writes
  its_entries = λ i. entries_of (record upto.directory { history = its_history i; writes = its_writes i })

  -- it has what the consumer follows after these writes
  pub copy_whole : (search : ℕ) (items : List (List ℕ)) (copy : ConsumerState) → IsDone consumer search upto items → (made : IsMadeOf items copy.copy)
      → copy.copy.held ≡ select (followed_by consumer) (entries_after writes)
  copy_whole search items copy done made =
      made_whole upto.directory its_accepted (subst (λ ws. length ws ≤ most_identities) (sym its_writes) few) consumer
      done.handing.ended done.handing.busy done.handing.opening done.handing.asked done.handing.marks done.handing.handed done.handing.far items
      (done.handing.offered_is
      ∙ ap (λ messages. map encoded (delivered upto.directory done.handing.ended ++ map (λ m. (search_id, m)) messages)) done.whole)
      copy.copy made
      ∙ ap (select (followed_by consumer)) its_entries

-- ---- a consumer in the end

-- By what the first port had seen before the consumer was brought up, and what it has seen in the
-- end: the writers added nothing in between, and the consumers wrote nothing.
module _ (writers many : ℕ) (met seen : PortState) (first : IsDrillPort 1 many seen) (accepted : WereAccepted suffix history (writes_in seen.journal))
    (few : length (writes_in seen.journal) ≤ most_identities)
    (still : (k : ℕ) → 1 ≤ k → k ≤ writers → notes_of k seen.journal ≡ notes_of k met.journal)
    (silent : (k : ℕ) → writers < k → k ≤ many → operations_in (notes_of k seen.journal) ≡ []) where
  -- a port that has seen what the first one had has seen all writes
  all_writes : (number : ℕ) (upto : PortState) (rest : Journal) → HasSeenAllOf upto met → seen.journal ≡ upto.journal ++ rest
      → writes_in upto.journal ≡ writes_in seen.journal
  all_writes number upto rest begins goes =
      sym
      (ap writes_in goes ∙ writes_append upto.journal rest
      ∙ ap (λ ws. writes_in upto.journal ++ ws) (no_more_writes writers many upto.journal rest whose same none)
      ∙ append-nil (writes_in upto.journal))
    where
      whose : All (λ e. (1 ≤ e.1) × (e.1 ≤ many)) rest
      whose = second_all (λ e. (1 ≤ e.1) × (e.1 ≤ many)) upto.journal rest (subst (All (λ e. (1 ≤ e.1) × (e.1 ≤ many))) goes first.by)

      same : (k : ℕ) → 1 ≤ k → k ≤ writers → notes_of k (upto.journal ++ rest) ≡ notes_of k upto.journal
      same k some low =
          let now : notes_of k (upto.journal ++ rest) ≡ notes_of k met.journal = ap (notes_of k) (sym goes) ∙ still k some low in
          let whole : notes_of k ((met.journal ++ begins.more) ++ rest) ≡ notes_of k met.journal =
          ap (λ journal. notes_of k (journal ++ rest)) (sym begins.begins) ∙ now in
          now ∙ sym (ap (notes_of k) begins.begins ∙ between k met.journal begins.more rest whole)

      none : (k : ℕ) → writers < k → k ≤ many → operations_in (notes_of k (upto.journal ++ rest)) ≡ []
      none k low high = ap (λ journal. operations_in (notes_of k journal)) (sym goes) ∙ silent k low high

  module _ (number consumer : ℕ) (port new : PortState) (copy : ConsumerState) (producer : RingProducer) (end : RingConsumer)
      (settled : IsSettled consumer met port copy producer end) (its : IsDrillPort number many port) (before : IsDrillPort number many settled.upto)
      (shown : HasSeenAllOf seen port) (own : notes_of port.number seen.journal ≡ notes_of port.number port.journal) (meets : HasMet port seen new) where
    rest_is : seen.journal ≡ settled.upto.journal ++ (settled.goes_on.entries ++ shown.more)
    rest_is =
        shown.begins
        ∙ ap (λ journal. journal ++ shown.more) settled.goes_on.journal
        ∙ append_assoc settled.upto.journal settled.goes_on.entries shown.more

    same_number : new.number ≡ port.number
    same_number = ap (λ (p : PortState). p.number) meets.later.is ∙ noted_all-number port meets.later.entries

    -- so the consumer followed all
    pub has_followed : HasFollowed seen.directory seen.journal consumer new copy (record { producer = producer; consumer = end })
    has_followed = record {
      ring = settled.ring;
      searches = settled.resting.searches;
      own = ap (λ n. notes_of n seen.journal) same_number ∙ own ∙ settled.resting.own;
      are_ended = ended_then number many port seen its first shown.more shown.begins (offered producer) settled.resting;
      offered_is = offered_on number many port seen its first shown.more shown.begins (offered producer) settled.resting;
      taken_is = settled.taken_is;
      made = settled.copied.made;
      entries =
          copy_whole number many consumer settled.upto (writes_in seen.journal) before
          (all_writes number settled.upto (settled.goes_on.entries ++ shown.more) settled.begins rest_is) accepted few
          settled.search (offered producer) copy settled.done (subst (λ items. IsMadeOf items copy.copy) settled.taken_is settled.copied.made);
      no_search = (resting-later port new (offered producer) meets.later settled.resting).alone;
    }
