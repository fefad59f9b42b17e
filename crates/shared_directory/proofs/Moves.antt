-- What a call of one port does to a provider with the numbers of ports: at that port, and at any other one.
use Rattle.std.proofs.Common.{◌≡◌, ◌≢◌, ◌≤◌, ℕ, ◌+◌, Bool, true, false, cond, nat_eq, List, [], ◌∷◌, ◌++◌, take, drop, length, Option, Some, None, refl, ap, sym, ◌∙◌, subst, arith, eqb-true, eq-eqb, append_assoc, append-nil, length-append}
use Rattle.std.specs.Prelude.{is_some, option_map, slice_index}
use Rattle.std.proofs.lemmas.Bool.{false≢true, eqb-false, ne_eqb}
use Rattle.std.proofs.lemmas.List.{take-append-le, drop-append-le}
use Rattle.entry_tree.specs.declared.op.Write.{Write}
use Rattle.sync_provider.specs.Journal.{JournalledProvider, port_state}
use Rattle.sync_provider.specs.Opened.{SearchOpening}
use Rattle.sync_provider.specs.Ports.{Journal, FollowedSearch, PortState, is_open, followed_after, noted, opened_in, followed_on, handed_in, ended_in}
use Rattle.sync_provider.specs.declared.journal_note.ClosedSearch.{ClosedSearch}
use Rattle.sync_provider.specs.declared.journal_note.JournalNote.{JournalNote}
use Rattle.sync_provider.specs.declared.journal_note.JournalNote.TheVariants.{Wrote, Opened, Closed}
use Rattle.sync_provider.proofs.Journals.{open_more, some_map}
use Rattle.sync_provider.proofs.JournalSteps.{at_one}
use Rattle.shared_directory.specs.Numbers.{Openers, no_openers, first_number, port_of_note, openers_after, numbered_with, openers_of, kept_of, kept_count}
use Rattle.shared_directory.specs.Desks.{NumberedState, later_in, port_journal, port_in, IsNumbered, IsCalled}
use Rattle.shared_directory.proofs.Numbering.{numbered-entry, openers-entry, count-entry, numbered-kept, openers-kept}

-- ---- what is changed under one number

cond_none : {X : Type 0} (b : Bool) → ◌≡◌ {A = Option X} (cond b None None) None
cond_none true = refl
cond_none false = refl

cond_map : {X Y : Type 0} (f : X → Y) (b : Bool) (x : Option X) → cond b (option_map f x) None ≡ option_map f (cond b x None)
cond_map f true x = refl
cond_map f false x = refl

some_cond : {X : Type 0} (b : Bool) (y x : Option X) → is_some (cond b y x) ≡ cond b (is_some y) (is_some x)
some_cond true y x = refl
some_cond false y x = refl

-- The port with this number opened the search under k, as the openers are now. What is known of that search is changed.
module _ {X : Type 0} (k number : ℕ) (was now : List ℕ) (own : slice_index now k ≡ number)
    (others : (n : ℕ) → n ≢ k → slice_index now n ≡ slice_index was n) (fresh : Option X) (old : ℕ → Option X) where
  -- at this port
  changed_own : (n : ℕ) → cond (nat_eq (slice_index now n) number) (cond (nat_eq n k) fresh (old n)) None
      ≡ cond (nat_eq n k) fresh (cond (nat_eq (slice_index was n) number) (old n) None)
  changed_own n = by (nat_eq n k) refl
    where
      by : (b : Bool) → nat_eq n k ≡ b → cond (nat_eq (slice_index now n) number) (cond b fresh (old n)) None
          ≡ cond b fresh (cond (nat_eq (slice_index was n) number) (old n) None)
      by true here =
          ap (λ m. cond (nat_eq m number) fresh None) (ap (slice_index now) (eqb-true n k here) ∙ own)
          ∙ ap (λ b. cond b fresh None) (eq-eqb number number refl)
      by false far = ap (λ m. cond (nat_eq m number) (old n) None) (others n (eqb-false n k far))

  -- at another one, which does not follow it before
  changed_other : (m : ℕ) → m ≢ number → cond (nat_eq (slice_index was k) m) (old k) None ≡ None
      → (n : ℕ) → cond (nat_eq (slice_index now n) m) (cond (nat_eq n k) fresh (old n)) None
      ≡ cond (nat_eq (slice_index was n) m) (old n) None
  changed_other m differs none n = by (nat_eq n k) refl
    where
      by : (b : Bool) → nat_eq n k ≡ b → cond (nat_eq (slice_index now n) m) (cond b fresh (old n)) None
          ≡ cond (nat_eq (slice_index was n) m) (old n) None
      by true here =
          ap (λ o. cond (nat_eq o m) fresh None) (ap (slice_index now) (eqb-true n k here) ∙ own)
          ∙ ap (λ b. cond b fresh None) (ne_eqb number m (λ same. differs (sym same)))
          ∙ sym (ap (λ o. cond (nat_eq (slice_index was o) m) (old o) None) (eqb-true n k here) ∙ none)
      by false far = ap (λ o. cond (nat_eq o m) (old n) None) (others n (eqb-false n k far))

-- ---- calls

-- The numbers are kept, and this is what the call does at its port.
pub record Moves (number : ℕ) (old new : NumberedState) (Next : PortState → PortState) : Type 0 where
  pub numbered : IsNumbered new
  pub called : IsCalled number old new
  pub own : (ports : ℕ) → port_in number ports new ≡ Next (port_in number ports old)

-- what a port knows, by what the provider knows as a port
abbrev port_with : (number ports first : ℕ) → PortState → (numbers openers : List ℕ) → PortState
port_with number ports first p numbers openers = record {
  number = number;
  ports = ports;
  kind = p.kind;
  directory = p.directory;
  queue_limit = p.queue_limit;
  journal = take first p.journal ++ numbered_with no_openers (drop first p.journal) numbers;
  followed = λ n. cond (nat_eq (slice_index openers n) number) (p.followed n) None;
}

module _ (number : ℕ) (d : NumberedState) (is : IsNumbered d) (v : JournalledProvider) (numbers openers : List ℕ) where
  abbrev after : NumberedState
  after = record { provider = v; first = d.first; numbers = numbers; openers = openers }

  abbrev old : PortState
  old = port_state d.provider

  abbrev new : PortState
  new = port_state v

  -- ---- the journal is as before

  module _ (journal : new.journal ≡ old.journal) (nums : numbers ≡ d.numbers) (ops : openers ≡ d.openers) where
    same_journal : port_journal after ≡ port_journal d
    same_journal = λ i. take d.first (journal i) ++ numbered_with no_openers (drop d.first (journal i)) (nums i)

    same_numbered : ((n : ℕ) → is_some (new.followed n) ≡ is_some (old.followed n)) → IsNumbered after
    same_numbered followed = record {
      first = subst (λ j. d.first ≤ length j) (sym journal) is.first;
      kept = (λ i. kept_count (drop d.first (journal i))) ∙ is.kept ∙ sym (ap length nums);
      places = ap length ops ∙ is.places;
      openers = λ n.
          ap (λ os. slice_index os n) ops ∙ is.openers n
          ∙ sym (λ i. openers_of no_openers (drop d.first (journal i)) (nums i) n);
      followed = λ n. followed n ∙ is.followed n ∙ sym (ap (λ j. is_open j n) journal);
    }

  -- where nothing changes, the port that called knows what it knew
  pub same_moves : new ≡ old → numbers ≡ d.numbers → openers ≡ d.openers → Moves number d after (λ p. p)
  same_moves same nums ops = record {
    numbered = same_numbered (ap (λ p. p.journal) same) nums ops (λ n. ap (λ p. is_some (p.followed n)) same);
    called = record {
      added = [];
      own = tt;
      journal = same_journal (ap (λ p. p.journal) same) nums ops ∙ sym (append-nil (port_journal d));
      others = λ other differs ports. all other ports;
    };
    own = all number;
  }
    where
      all : (m ports : ℕ) → port_in m ports after ≡ port_in m ports d
      all m ports = λ i. port_with m ports d.first (same i) (nums i) (ops i)

  -- ---- an entry with a number that is kept comes in

  module _ (note : JournalNote) (takes : (os : Openers) (ns : List ℕ) → port_of_note os note ns ≡ first_number ns)
      (one : kept_of note ≡ 1) (journal : new.journal ≡ old.journal ++ (note, 0) ∷ [])
      (nums : numbers ≡ d.numbers ++ number ∷ []) where
    later_kept : drop d.first new.journal ≡ later_in d ++ (note, 0) ∷ []
    later_kept = ap (drop d.first) journal ∙ drop-append-le d.first old.journal ((note, 0) ∷ []) is.first

    journal_kept : port_journal after ≡ port_journal d ++ (note, number) ∷ []
    journal_kept =
        (λ i. take d.first (journal i) ++ numbered_with no_openers (later_kept i) (nums i))
        ∙ (λ i. take-append-le d.first old.journal ((note, 0) ∷ []) is.first i
        ++ numbered-kept note 0 number no_openers (later_in d) d.numbers is.kept takes i)
        ∙ sym (append_assoc (take d.first old.journal) (numbered_with no_openers (later_in d) d.numbers) ((note, number) ∷ []))

    first_kept : d.first ≤ length new.journal
    first_kept = omega (arith, ap length journal, length-append old.journal ((note, 0) ∷ []), is.first)

    count_kept : kept_count (later_in after) ≡ length numbers
    count_kept = omega (arith, ap kept_count later_kept, count-entry (later_in d) (note, 0), one, is.kept, ap length nums, length-append d.numbers (number ∷ []))

    openers_kept : openers_of no_openers (later_in after) numbers ≡ openers_after (openers_of no_openers (later_in d) d.numbers) note number
    openers_kept =
        (λ i. openers_of no_openers (later_kept i) (nums i))
        ∙ openers-kept note 0 number no_openers (later_in d) d.numbers is.kept takes

  -- ---- what a port knows, by its journal and by the searches that it follows

  port_is : (changed : PortState) → new ≡ changed → (entries : Journal) → port_journal after ≡ entries
      → (m ports : ℕ) (followed : ℕ → Option FollowedSearch)
      → ((n : ℕ) → cond (nat_eq (slice_index openers n) m) (changed.followed n) None ≡ followed n)
      → port_in m ports after ≡ record {
        number = m;
        ports = ports;
        kind = changed.kind;
        directory = changed.directory;
        queue_limit = changed.queue_limit;
        journal = entries;
        followed = followed;
      }
  port_is changed is_new entries journal m ports followed follows = λ i. record {
    number = m;
    ports = ports;
    kind = (is_new i).kind;
    directory = (is_new i).directory;
    queue_limit = (is_new i).queue_limit;
    journal = journal i;
    followed = followed_now i;
  }
    where
      followed_now : ◌≡◌ {A = ℕ → Option FollowedSearch} (λ n. cond (nat_eq (slice_index openers n) m) (new.followed n) None) followed
      followed_now = (λ i n. cond (nat_eq (slice_index openers n) m) ((is_new i).followed n) None) ∙ (λ i n. follows n i)

  -- The search under k is changed, which this port opened, as the openers are now.
  module _ (k : ℕ) (fresh : Option FollowedSearch) (entries port_entries : Journal)
      (is_new : new ≡ record old { journal = entries; followed = λ n. cond (nat_eq n k) fresh (old.followed n) })
      (journal : port_journal after ≡ port_entries) (opener : slice_index openers k ≡ number)
      (others : (n : ℕ) → n ≢ k → slice_index openers n ≡ slice_index d.openers n) where
    abbrev changed : PortState
    changed = record old { journal = entries; followed = λ n. cond (nat_eq n k) fresh (old.followed n) }

    -- at this port
    changed_here : (ports : ℕ) → port_in number ports after
        ≡ record (port_in number ports d) {
          journal = port_entries;
          followed = λ n. cond (nat_eq n k) fresh (cond (nat_eq (slice_index d.openers n) number) (old.followed n) None);
        }
    changed_here ports =
        port_is changed is_new port_entries journal number ports
        (λ n. cond (nat_eq n k) fresh (cond (nat_eq (slice_index d.openers n) number) (old.followed n) None))
        (λ n. changed_own k number d.openers openers opener others fresh old.followed n)

    -- at another one, which does not follow it
    changed_elsewhere : (m : ℕ) → m ≢ number → cond (nat_eq (slice_index d.openers k) m) (old.followed k) None ≡ None
        → (ports : ℕ) → port_in m ports after ≡ record (port_in m ports d) { journal = port_entries }
    changed_elsewhere m differs none ports =
        port_is changed is_new port_entries journal m ports
        (λ n. cond (nat_eq (slice_index d.openers n) m) (old.followed n) None)
        (λ n. changed_other k number d.openers openers opener others fresh old.followed m differs none n)

  -- A search that this port opened is followed by no other one.
  followed_here : (k : ℕ) → slice_index d.openers k ≡ number
      → (m : ℕ) → m ≢ number → cond (nat_eq (slice_index d.openers k) m) (old.followed k) None ≡ None
  followed_here k opener m differs =
      ap (λ o. cond (nat_eq o m) (old.followed k) None) opener
      ∙ ap (λ b. cond b (old.followed k) None) (ne_eqb number m (λ same. differs (sym same)))

  -- ---- a write

  module _ (w : Write) (is_new : new ≡ noted old (Wrote w) 0) (nums : numbers ≡ d.numbers ++ number ∷ []) (ops : openers ≡ d.openers) where
    wrote_journal : new.journal ≡ old.journal ++ (Wrote w, 0) ∷ []
    wrote_journal = ap (λ p. p.journal) is_new

    abbrev after_write : FollowedSearch → FollowedSearch
    after_write = followed_after old.queue_limit old.directory w

    wrote_port : (m ports : ℕ) → port_in m ports after ≡ noted (port_in m ports d) (Wrote w) number
    wrote_port m ports =
        port_is (noted old (Wrote w) 0) is_new (port_journal d ++ (Wrote w, number) ∷ [])
        (journal_kept (Wrote w) (λ os ns. refl) refl wrote_journal nums) m ports
        (λ n. option_map after_write (cond (nat_eq (slice_index d.openers n) m) (old.followed n) None))
        (λ n. ap (λ os. cond (nat_eq (slice_index os n) m) (option_map after_write (old.followed n)) None) ops
        ∙ cond_map after_write (nat_eq (slice_index d.openers n) m) (old.followed n))

    -- an accepted write is noted at the port that called
    pub wrote_moves : Moves number d after (λ p. noted p (Wrote w) p.number)
    wrote_moves = record {
      numbered = record {
        first = first_kept (Wrote w) (λ os ns. refl) refl wrote_journal nums;
        kept = count_kept (Wrote w) (λ os ns. refl) refl wrote_journal nums;
        places = ap length ops ∙ is.places;
        openers = λ n.
            ap (λ os. slice_index os n) ops ∙ is.openers n
            ∙ sym (ap (λ os. os n) (openers_kept (Wrote w) (λ os ns. refl) refl wrote_journal nums));
        followed = λ n.
            ap (λ p. is_some (p.followed n)) is_new ∙ some_map after_write (old.followed n) ∙ is.followed n
            ∙ sym (ap (λ j. is_open j n) wrote_journal ∙ open_more old.journal (Wrote w) n);
      };
      called = record {
        added = (Wrote w, number) ∷ [];
        own = (refl, tt);
        journal = journal_kept (Wrote w) (λ os ns. refl) refl wrote_journal nums;
        others = λ other differs ports. wrote_port other ports;
      };
      own = wrote_port number;
    }

  -- ---- a search is opened, where none is open

  module _ (o : SearchOpening) (is_new : new ≡ opened_in old o) (free : is_open old.journal o.number ≡ false)
      (nums : numbers ≡ d.numbers ++ number ∷ []) (places : length openers ≡ 65) (opener : slice_index openers o.number ≡ number)
      (others : (n : ℕ) → n ≢ o.number → slice_index openers n ≡ slice_index d.openers n) where
    opened_journal : new.journal ≡ old.journal ++ (Opened o, 0) ∷ []
    opened_journal = ap (λ p. p.journal) is_new

    abbrev fresh : Option FollowedSearch
    fresh = Some (record { opened = o; handed = 0; marks = o.accepted ∷ []; over = false })

    not_followed : old.followed o.number ≡ None
    not_followed = by (old.followed o.number) (is.followed o.number ∙ free)
      where
        by : (x : Option FollowedSearch) → is_some x ≡ false → x ≡ None
        by None none = refl
        by (Some x) none = absurd (false≢true (sym none))

    opened_port : port_journal after ≡ port_journal d ++ (Opened o, number) ∷ []
    opened_port = journal_kept (Opened o) (λ os ns. refl) refl opened_journal nums

    opened_own : (ports : ℕ) → port_in number ports after ≡ opened_in (port_in number ports d) o
    opened_own =
        changed_here o.number fresh (old.journal ++ (Opened o, 0) ∷ []) (port_journal d ++ (Opened o, number) ∷ []) is_new opened_port opener others

    opened_other : (m : ℕ) → m ≢ number → (ports : ℕ) → port_in m ports after ≡ noted (port_in m ports d) (Opened o) number
    opened_other m differs =
        changed_elsewhere o.number fresh (old.journal ++ (Opened o, 0) ∷ []) (port_journal d ++ (Opened o, number) ∷ []) is_new opened_port opener others
        m differs none
      where
        none : cond (nat_eq (slice_index d.openers o.number) m) (old.followed o.number) None ≡ None
        none =
            ap (λ x. cond (nat_eq (slice_index d.openers o.number) m) x None) not_followed
            ∙ cond_none (nat_eq (slice_index d.openers o.number) m)

    -- a search that was opened is followed by the port that called
    pub opened_moves : Moves number d after (λ p. opened_in p o)
    opened_moves = record {
      numbered = record {
        first = first_kept (Opened o) (λ os ns. refl) refl opened_journal nums;
        kept = count_kept (Opened o) (λ os ns. refl) refl opened_journal nums;
        places = places;
        openers = λ n.
            at_one (slice_index openers) (slice_index d.openers) o.number number opener others n
            ∙ ap (cond (nat_eq n o.number) number) (is.openers n)
            ∙ sym (ap (λ os. os n) (openers_kept (Opened o) (λ os ns. refl) refl opened_journal nums));
        followed = λ n.
            ap (λ p. is_some (p.followed n)) is_new
            ∙ some_cond (nat_eq n o.number) fresh (old.followed n)
            ∙ ap (cond (nat_eq n o.number) true) (is.followed n)
            ∙ sym (ap (λ j. is_open j n) opened_journal ∙ open_more old.journal (Opened o) n);
      };
      called = record {
        added = (Opened o, number) ∷ [];
        own = (refl, tt);
        journal = opened_port;
        others = opened_other;
      };
      own = opened_own;
    }

  -- ---- a message of a search that this port opened is handed out

  module _ (k : ℕ) (f : FollowedSearch) (is_new : new ≡ handed_in old k f) (found : old.followed k ≡ Some f)
      (opener : slice_index d.openers k ≡ number) (nums : numbers ≡ d.numbers) (ops : openers ≡ d.openers) where
    abbrev handed : Option FollowedSearch
    handed = Some (followed_on old.directory f)

    handed_journal : new.journal ≡ old.journal
    handed_journal = ap (λ p. p.journal) is_new

    handed_port : port_journal after ≡ port_journal d
    handed_port = same_journal handed_journal nums ops

    handed_own : (ports : ℕ) → port_in number ports after ≡ handed_in (port_in number ports d) k f
    handed_own =
        changed_here k handed old.journal (port_journal d) is_new handed_port (ap (λ os. slice_index os k) ops ∙ opener)
        (λ n apart. ap (λ os. slice_index os n) ops)

    handed_other : (m : ℕ) → m ≢ number → (ports : ℕ) → port_in m ports after ≡ port_in m ports d
    handed_other m differs =
        changed_elsewhere k handed old.journal (port_journal d) is_new handed_port (ap (λ os. slice_index os k) ops ∙ opener)
        (λ n apart. ap (λ os. slice_index os n) ops) m differs (followed_here k opener m differs)

    handed_some : (n : ℕ) → is_some (new.followed n) ≡ is_some (old.followed n)
    handed_some n =
        ap (λ p. is_some (p.followed n)) is_new ∙ some_cond (nat_eq n k) handed (old.followed n) ∙ by (nat_eq n k) refl
      where
        by : (b : Bool) → nat_eq n k ≡ b → cond b true (is_some (old.followed n)) ≡ is_some (old.followed n)
        by true here = sym (ap (λ m. is_some (old.followed m)) (eqb-true n k here) ∙ ap is_some found)
        by false far = refl

    -- a message that was handed out counts at the port that called
    pub handed_moves : Moves number d after (λ p. handed_in p k f)
    handed_moves = record {
      numbered = same_numbered handed_journal nums ops handed_some;
      called = record {
        added = [];
        own = tt;
        journal = handed_port ∙ sym (append-nil (port_journal d));
        others = handed_other;
      };
      own = handed_own;
    }

  -- ---- a search that this port opened ends

  module _ (k : ℕ) (end : ClosedSearch) (is_new : new ≡ ended_in old k end) (ends : end.number ≡ k)
      (opener : slice_index d.openers k ≡ number) (nums : numbers ≡ d.numbers) (ops : openers ≡ d.openers) where
    ended_journal : new.journal ≡ old.journal ++ (Closed end, 0) ∷ []
    ended_journal = ap (λ p. p.journal) is_new

    later_ended : drop d.first new.journal ≡ later_in d ++ (Closed end, 0) ∷ []
    later_ended = ap (drop d.first) ended_journal ∙ drop-append-le d.first old.journal ((Closed end, 0) ∷ []) is.first

    by_opener : openers_of no_openers (later_in d) d.numbers end.number ≡ number
    by_opener = sym (is.openers end.number) ∙ ap (slice_index d.openers) ends ∙ opener

    port_ended : port_journal after ≡ port_journal d ++ (Closed end, number) ∷ []
    port_ended =
        (λ i. take d.first (ended_journal i) ++ numbered_with no_openers (later_ended i) (nums i))
        ∙ (λ i. take-append-le d.first old.journal ((Closed end, 0) ∷ []) is.first i
        ++ numbered-entry no_openers (later_in d) (Closed end, 0) d.numbers i)
        ∙ sym (append_assoc (take d.first old.journal) (numbered_with no_openers (later_in d) d.numbers)
        ((Closed end, openers_of no_openers (later_in d) d.numbers end.number) ∷ []))
        ∙ ap (λ m. port_journal d ++ (Closed end, m) ∷ []) by_opener

    ended_own : (ports : ℕ) → port_in number ports after ≡ ended_in (port_in number ports d) k end
    ended_own =
        changed_here k None (old.journal ++ (Closed end, 0) ∷ []) (port_journal d ++ (Closed end, number) ∷ []) is_new port_ended
        (ap (λ os. slice_index os k) ops ∙ opener) (λ n apart. ap (λ os. slice_index os n) ops)

    ended_other : (m : ℕ) → m ≢ number → (ports : ℕ) → port_in m ports after ≡ noted (port_in m ports d) (Closed end) number
    ended_other m differs =
        changed_elsewhere k None (old.journal ++ (Closed end, 0) ∷ []) (port_journal d ++ (Closed end, number) ∷ []) is_new port_ended
        (ap (λ os. slice_index os k) ops ∙ opener) (λ n apart. ap (λ os. slice_index os n) ops) m differs (followed_here k opener m differs)

    -- a search that ended is followed no more
    pub ended_moves : Moves number d after (λ p. ended_in p k end)
    ended_moves = record {
      numbered = record {
        first = omega (arith, ap length ended_journal, length-append old.journal ((Closed end, 0) ∷ []), is.first);
        kept = omega (arith, ap kept_count later_ended, count-entry (later_in d) (Closed end, 0), is.kept, ap length nums);
        places = ap length ops ∙ is.places;
        openers = λ n.
            ap (λ os. slice_index os n) ops ∙ is.openers n
            ∙ sym ((λ i. openers_of no_openers (later_ended i) (nums i) n)
            ∙ ap (λ os. os n) (openers-entry no_openers (later_in d) (Closed end, 0) d.numbers));
        followed = λ n.
            ap (λ p. is_some (p.followed n)) is_new
            ∙ some_cond (nat_eq n k) None (old.followed n)
            ∙ ap (cond (nat_eq n k) false) (is.followed n)
            ∙ ap (λ m. cond (nat_eq n m) false (is_open old.journal n)) (sym ends)
            ∙ sym (ap (λ j. is_open j n) ended_journal ∙ open_more old.journal (Closed end) n);
      };
      called = record {
        added = (Closed end, number) ∷ [];
        own = (refl, tt);
        journal = port_ended;
        others = ended_other;
      };
      own = ended_own;
    }
