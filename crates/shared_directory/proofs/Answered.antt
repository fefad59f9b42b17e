-- Each reply of the provider is the one that is due at the port that called, and other ports know of what it adds.
use Rattle.std.proofs.Common.{◌≡◌, ◌≢◌, ◌≤◌, ◌<◌, ℕ, zero, suc, ◌+◌, Bool, true, false, cond, nat_eq, List, [], ◌∷◌, ◌++◌, take, set, length, Option, Some, None, refl, ap, sym, ◌∙◌, subst, arith, eqb-true, eq-eqb, append-nil, length-append}
use Rattle.std.specs.Prelude.{Result, Ok, Err, IfSome, find, not, slice_index, is_some, if◌then◌else◌}
use Rattle.std.proofs.lemmas.Bool.{false≢true, eqb-false, ne_eqb}
use Rattle.std.proofs.lemmas.List.{map-append, length-map, length-set, take-append-drop, get_or-set_same, get_or-set_other}
use Rattle.std.proofs.lemmas.Option.{none-some, same_Some}
use Rattle.dn_names.specs.Names.{is_at_or_below}
use Rattle.entry_tree.proofs.Finding.{found_passes}
use Rattle.entry_tree.specs.declared.entry.Entry.{Entry}
use Rattle.entry_tree.specs.declared.op.Op.{Op}
use Rattle.entry_tree.specs.declared.op.Op.TheVariants.{Commit}
use Rattle.entry_tree.specs.declared.op.Write.{Write}
use Rattle.ldap_constants.specs.declared.result_codes.TheConstants.{OTHER, NO_SUCH_OBJECT}
use Rattle.directory_writes.specs.Directory.{DirectoryState, judged}
use Rattle.sync_messages.specs.Request.{request_of}
use Rattle.sync_messages.specs.declared.fault.SyncFault.{SyncFault}
use Rattle.sync_messages.specs.declared.request.SyncRequest.{SyncRequest}
use Rattle.sync_provider.specs.Accepting.{numbers_from, numbered, request_code, refused_or_opened}
use Rattle.sync_provider.specs.Committing.{commit_refusal}
use Rattle.sync_provider.specs.HandingOut.{HandOut, turn_of, has_message}
use Rattle.sync_provider.specs.HandingOut.HandOut.{Hands, Closes, Waits, Unknown}
use Rattle.sync_provider.specs.Journal.{JournalledProvider, journal_in, followed_in, port_state}
use Rattle.sync_provider.specs.Machine.{judged_by}
use Rattle.sync_provider.specs.Opened.{opening_of_ask}
use Rattle.sync_provider.specs.Ports.{FollowedSearch, PortState, is_open, free_in, noted, wrote_in, committed_by, committed_in, answer_by, answer_in, opened_in, end_of, closing_of, turn_in, after_turn_in, dropped_in, WriteReplies, CommitReplies, AcceptReplies, HandOutReplies, DropReplies}
use Rattle.sync_provider.specs.declared.handed.Handed.{Handed}
use Rattle.sync_provider.specs.declared.handed.Handed.TheVariants as handed
use Rattle.sync_provider.specs.declared.journal_note.JournalNote.{JournalNote}
use Rattle.sync_provider.specs.declared.journal_note.JournalNote.TheVariants.{Wrote}
use Rattle.sync_provider.specs.declared.searches.Accepted.{Accepted}
use Rattle.sync_provider.specs.declared.searches.Accepted.TheVariants as accepted
use Rattle.sync_provider.specs.declared.searches.SyncSearch.{SyncSearch}
use Rattle.sync_provider.specs.declared.provider.Kind.{Kind}
use Rattle.sync_provider.specs.declared.provider.Kind.TheVariants.{Root, Replica}
use Rattle.sync_provider.specs.declared.writing.CommitFault.{CommitFault}
use Rattle.sync_provider.specs.declared.writing.CommitFault.TheVariants.{NoMemory, NotAReplica}
use Rattle.sync_provider.specs.declared.writing.Reply.{Reply}
use Rattle.sync_provider.proofs.Journals.{find_same}
use Rattle.shared_directory.specs.Numbers.{no_openers, numbered_with}
use Rattle.shared_directory.specs.Desks.{NumberedState, later_in, port_journal, port_in, IsNumbered, IsAnswered, unmade_fault}
use Rattle.shared_directory.proofs.Numbering.{notes_in, notes-numbered, open_by, open_by_notes}
use Rattle.shared_directory.proofs.Moves.{Moves, same_moves, wrote_moves, opened_moves, handed_moves, ended_moves}

-- The numbers are kept, and the port that called is replied to so.
pub record KeepsNumbers (number : ℕ) (old new : NumberedState) (Replies : PortState → PortState → Type 0) : Type 0 where
  pub numbered : IsNumbered new
  pub answered : IsAnswered number old new Replies

-- ---- the number of a search that is opened

find_low : (p : ℕ → Bool) (first count n : ℕ) → find p (numbers_from first count) ≡ Some n → n < first + count
find_low p first zero n found = absurd (none-some n found)
find_low p first (suc count) n found = by (p first) found (find_low p (first + 1) count n)
  where
    by : (b : Bool) → cond b (Some first) (find p (numbers_from (first + 1) count)) ≡ Some n
        → (find p (numbers_from (first + 1) count) ≡ Some n → n < first + 1 + count) → n < first + suc count
    by true is rest = let same : first ≡ n = same_Some first n is in omega (arith, same)
    by false is rest = let low : n < first + 1 + count = rest is in omega (arith, low)

-- the number of the search that an answer opens
abbrev pub opened_number : Accepted → Option ℕ
opened_number (accepted.Opened number writes) = Some number
opened_number (accepted.Refused code) = None
opened_number accepted.NoMemory = None

module _ (d : DirectoryState) (number : ℕ) where
  opened_by_code : (n : ℕ) (code : Option ℕ) → opened_number (refused_or_opened d n code) ≡ Some number → Some n ≡ Some number
  opened_by_code n None is = is
  opened_by_code n (Some code) is = absurd (none-some number is)

  opened_free : (request : SyncRequest) (free : Option ℕ) → opened_number (numbered d request free) ≡ Some number → free ≡ Some number
  opened_free request None is = absurd (none-some number is)
  opened_free request (Some n) is = opened_by_code n (request_code d request) is

  opened_in_suffix : (request : SyncRequest) (free : Option ℕ) (b : Bool)
      → opened_number (if b then numbered d request free else accepted.Refused NO_SUCH_OBJECT) ≡ Some number → free ≡ Some number
  opened_in_suffix request free true is = opened_free request free is
  opened_in_suffix request free false is = absurd (none-some number is)

  -- it was free
  was_free : (ask : SyncSearch) (free : Option ℕ) (read : Result SyncRequest SyncFault)
      → opened_number (answer_by d free ask read) ≡ Some number → free ≡ Some number
  was_free ask free (Err fault) is = absurd (none-some number is)
  was_free ask free (Ok request) is = opened_in_suffix request free (is_at_or_below ask.spec.base d.suffix) is

-- the numbered journal has the entries of the provider's
notes_same : (d : NumberedState) → notes_in (port_journal d) ≡ notes_in (journal_in d.provider)
notes_same d =
    map-append (λ (e : JournalNote × ℕ). e.0) (take d.first (journal_in d.provider)) (numbered_with no_openers (later_in d) d.numbers)
    ∙ ap (λ rest. notes_in (take d.first (journal_in d.provider)) ++ rest) (notes-numbered no_openers (later_in d) d.numbers)
    ∙ sym (map-append (λ (e : JournalNote × ℕ). e.0) (take d.first (journal_in d.provider)) (later_in d))
    ∙ ap notes_in (take-append-drop d.first (journal_in d.provider))

-- it is as long
pub same_length : (d : NumberedState) → length (port_journal d) ≡ length (journal_in d.provider)
same_length d =
    sym (length-map (port_journal d) (λ (e : JournalNote × ℕ). e.0))
    ∙ ap length (notes_same d)
    ∙ length-map (journal_in d.provider) (λ (e : JournalNote × ℕ). e.0)

-- ---- calls

module _ (number : ℕ) (d : NumberedState) (is : IsNumbered d) (v : JournalledProvider) (numbers openers : List ℕ) where
  abbrev after : NumberedState
  after = record { provider = v; first = d.first; numbers = numbers; openers = openers }

  abbrev old : PortState
  old = port_state d.provider

  abbrev new : PortState
  new = port_state v

  -- what a call does at its port gives its reply
  answered : (Next : PortState → PortState) (Replies : PortState → PortState → Type 0) → Moves number d after Next
      → ((ports : ℕ) → port_in number ports after ≡ Next (port_in number ports d) → Replies (port_in number ports d) (port_in number ports after))
      → KeepsNumbers number d after Replies
  answered Next Replies moves replies = record {
    numbered = moves.numbered;
    answered = record { called = moves.called; replies = λ ports. replies ports (moves.own ports) };
  }

  -- ---- writes, where a number more is kept exactly for a write more

  module _ (same : length v.state.directory.writes ≤ length d.provider.state.directory.writes → numbers ≡ d.numbers)
      (more : length d.provider.state.directory.writes < length v.state.directory.writes → numbers ≡ d.numbers ++ number ∷ [])
      (ops : openers ≡ d.openers) where
    none_more : new ≡ old → numbers ≡ d.numbers
    none_more none = same (let equal : length v.state.directory.writes ≡ length d.provider.state.directory.writes = ap (λ p. length p.directory.writes) none in omega (arith, equal))

    one_more : (w : Write) → new ≡ noted old (Wrote w) 0 → numbers ≡ d.numbers ++ number ∷ []
    one_more w is_new =
        let equal : length v.state.directory.writes ≡ length (d.provider.state.directory.writes ++ w ∷ []) = ap (λ p. length p.directory.writes) is_new in
        more (omega (arith, equal, length-append d.provider.state.directory.writes (w ∷ [])))

    wrote_or_same : (r : Result Write ℕ) → new ≡ wrote_in old r → Moves number d after (λ p. wrote_in p r)
    wrote_or_same (Ok w) is_new = wrote_moves number d is v numbers openers w is_new (one_more w is_new) ops
    wrote_or_same (Err code) is_new = same_moves number d is v numbers openers is_new (none_more is_new) ops

    -- a write is answered as is due at the port that called, and a number more is kept exactly
    -- where it was accepted
    pub write_answered : (op : Op) (now : ℕ) (reply : Reply) → WriteReplies old op now reply new
        → KeepsNumbers number d after (λ p q. WriteReplies p op now reply q)
    write_answered op now reply clause = by (nat_eq reply.code OTHER) refl
      where
        by : (b : Bool) → nat_eq reply.code OTHER ≡ b → KeepsNumbers number d after (λ p q. WriteReplies p op now reply q)
        by true is_other =
            let none : new ≡ old = clause.err (eqb-true reply.code OTHER is_other) in
            answered (λ p. p) (λ p q. WriteReplies p op now reply q)
            (same_moves number d is v numbers openers none (none_more none) ops)
            (λ ports own. record {
              code = clause.code;
              state = λ other. absurd (other (eqb-true reply.code OTHER is_other));
              err = λ other. own;
              number = clause.number;
            })
        by false isnt_other =
            let other : reply.code ≢ OTHER = eqb-false reply.code OTHER isnt_other in
            answered (λ p. wrote_in p (judged_by d.provider.state.kind d.provider.state.directory op now)) (λ p q. WriteReplies p op now reply q)
            (wrote_or_same (judged_by d.provider.state.kind d.provider.state.directory op now) (clause.state other))
            (λ ports own. record {
              code = clause.code;
              state = λ differs. own;
              err = λ is_other. absurd (other is_other);
              number = clause.number;
            })

    committed_or_same : (op : Op) (now : ℕ) (refusal : Option CommitFault) → new ≡ committed_by old op now refusal
        → Moves number d after (λ p. committed_by p op now refusal)
    committed_or_same op now (Some fault) is_new = same_moves number d is v numbers openers is_new (none_more is_new) ops
    committed_or_same op now None is_new = by (judged d.provider.state.directory op now) refl is_new
      where
        by : (r : Result Write ℕ) → judged d.provider.state.directory op now ≡ r → new ≡ wrote_in old r
            → Moves number d after (λ p. committed_by p op now None)
        by r is_r is_new =
            let moves = wrote_or_same r is_new in
            record {
              numbered = moves.numbered;
              called = moves.called;
              own = λ ports. moves.own ports ∙ sym (ap (wrote_in (port_in number ports d)) is_r);
            }

    -- the same of a commit
    pub commit_answered : (puts : List Entry) (drops : List ℕ) (now : ℕ) (result : Result ℕ CommitFault) → CommitReplies old puts drops now result new
        → KeepsNumbers number d after (λ p q. CommitReplies p puts drops now result q)
    commit_answered puts drops now (Ok count) clause =
        answered (λ p. committed_in p puts drops now) (λ p q. CommitReplies p puts drops now (Ok count) q)
        (by (commit_refusal d.provider.state.kind d.provider.state.directory puts drops now) refl clause.state)
        (λ ports own. record { accepted = clause.accepted; refused = clause.refused; root = clause.root; state = own; err = tt; number = clause.number; one = clause.one })
      where
        by : (refusal : Option CommitFault) → commit_refusal d.provider.state.kind d.provider.state.directory puts drops now ≡ refusal
            → new ≡ committed_by old (Commit puts drops) now refusal → Moves number d after (λ p. committed_in p puts drops now)
        by refusal is_refusal is_new =
            let moves = committed_or_same (Commit puts drops) now refusal is_new in
            record {
              numbered = moves.numbered;
              called = moves.called;
              own = λ ports. moves.own ports ∙ sym (ap (committed_by (port_in number ports d) (Commit puts drops) now) is_refusal);
            }
    commit_answered puts drops now (Err fault) clause =
        answered (λ p. p) (λ p q. CommitReplies p puts drops now (Err fault) q)
        (same_moves number d is v numbers openers clause.err (none_more clause.err) ops)
        (λ ports own. record { accepted = clause.accepted; refused = clause.refused; root = clause.root; state = tt; err = own; number = clause.number; one = clause.one })

  -- ---- searches with content synchronisation

  -- the same searches are open by it
  open_same : (n : ℕ) → is_open (port_journal d) n ≡ is_open old.journal n
  open_same n = open_by_notes n false (port_journal d) ∙ ap (open_by n false) (notes_same d) ∙ sym (open_by_notes n false old.journal)

  free_same : free_in (port_journal d) ≡ free_in old.journal
  free_same =
      find_same (λ n. not (is_open (port_journal d) n)) (λ n. not (is_open old.journal n)) (λ n. ap not (open_same n)) (numbers_from 1 64)

  answer_same : (ports : ℕ) (ask : SyncSearch) → answer_in (port_in number ports d) ask ≡ answer_in old ask
  answer_same ports ask = ap (λ free. answer_by old.directory free ask (request_of ask.control)) free_same

  -- an answer that opens none
  pub accept_same : (ask : SyncSearch) (result : Accepted) → opened_number result ≡ None → numbers ≡ d.numbers → openers ≡ d.openers
      → AcceptReplies old ask result new → KeepsNumbers number d after (λ p q. AcceptReplies p ask result q)
  accept_same ask (accepted.Opened n writes) none nums ops clause = absurd (none-some n (sym none))
  accept_same ask (accepted.Refused code) none nums ops clause =
      answered (λ p. p) (λ p q. AcceptReplies p ask (accepted.Refused code) q)
      (same_moves number d is v numbers openers clause.state nums ops)
      (λ ports own. record { answer = answer_same ports ask ∙ clause.answer; state = own })
  accept_same ask accepted.NoMemory none nums ops clause =
      answered (λ p. p) (λ p q. AcceptReplies p ask accepted.NoMemory q)
      (same_moves number d is v numbers openers clause.state nums ops)
      (λ ports own. record { answer = tt; state = own })

  -- the number of a search that is opened
  module _ (ask : SyncSearch) (n writes : ℕ) (clause : AcceptReplies old ask (accepted.Opened n writes) new) where
    free : free_in old.journal ≡ Some n
    free = was_free old.directory n ask (free_in old.journal) (request_of ask.control) (ap opened_number clause.answer)

    -- the number of a search that was opened is less than 65
    pub opened_low : n < 65
    opened_low = find_low (λ m. not (is_open old.journal m)) 1 64 n free

    not_open : is_open old.journal n ≡ false
    not_open = by (is_open old.journal n) (found_passes (λ m. not (is_open old.journal m)) (numbers_from 1 64) n free)
      where
        by : (b : Bool) → not b ≡ true → b ≡ false
        by true h = absurd (false≢true h)
        by false h = refl

    -- an opened search is answered as is due, and has the number of this port at its place among
    -- those who opened the last search under each number
    pub accept_opened : numbers ≡ d.numbers ++ number ∷ [] → openers ≡ set d.openers n number
        → KeepsNumbers number d after (λ p q. AcceptReplies p ask (accepted.Opened n writes) q)
    accept_opened nums ops =
        answered (λ p. opened_in p (opening_of_ask old.directory ask n)) (λ p q. AcceptReplies p ask (accepted.Opened n writes) q)
        (opened_moves number d is v numbers openers (opening_of_ask old.directory ask n) clause.state not_open nums
        (ap length ops ∙ length-set d.openers n number ∙ is.places)
        (ap (λ os. slice_index os n) ops ∙ get_or-set_same d.openers n number 0 (rw is.places opened_low))
        (λ m differs. ap (λ os. slice_index os m) ops ∙ get_or-set_other d.openers n m number 0 differs))
        (λ ports own. record { answer = answer_same ports ask ∙ clause.answer; state = own })

  -- a search that this port opened
  module _ (k : ℕ) (opener : slice_index d.openers k ≡ number) (nums : numbers ≡ d.numbers) (ops : openers ≡ d.openers) where
    own_followed : (ports : ℕ) → (port_in number ports d).followed k ≡ old.followed k
    own_followed ports = ap (λ b. cond b (old.followed k) None) (eq-eqb (slice_index d.openers k) number opener)

    turned : (f : Option FollowedSearch) (t : Option HandOut) → old.followed k ≡ f → new ≡ after_turn_in old k f t
        → Moves number d after (λ p. after_turn_in p k f t)
    turned None None found is_new = same_moves number d is v numbers openers is_new nums ops
    turned (Some f) None found is_new = same_moves number d is v numbers openers is_new nums ops
    turned None (Some t) found is_new = same_moves number d is v numbers openers is_new nums ops
    turned (Some f) (Some (Hands message)) found is_new = handed_moves number d is v numbers openers k f is_new found opener nums ops
    turned (Some f) (Some (Closes code message)) found is_new =
        ended_moves number d is v numbers openers k (closing_of k f) is_new refl opener nums ops
    turned (Some f) (Some Waits) found is_new = same_moves number d is v numbers openers is_new nums ops
    turned (Some f) (Some Unknown) found is_new = same_moves number d is v numbers openers is_new nums ops

    -- a hand-out to this port of a search that it opened is the reply that is due there
    pub hand_out_answered : (result : Handed) → HandOutReplies old k result new
        → KeepsNumbers number d after (λ p q. HandOutReplies p k result q)
    hand_out_answered result clause =
        answered (λ p. after_turn_in p k (old.followed k) (turn_of result)) (λ p q. HandOutReplies p k result q)
        (turned (old.followed k) (turn_of result) refl clause.state)
        (λ ports own. record {
          turn = subst (λ f. IfSome (turn_of result) (λ turn. turn ≡ turn_in old.directory f)) (sym (own_followed ports)) clause.turn;
          memory = subst (λ f. result ≡ handed.NoMemory → has_message (turn_in old.directory f) ≡ true) (sym (own_followed ports)) clause.memory;
          state = own ∙ ap (λ f. after_turn_in (port_in number ports d) k f (turn_of result)) (sym (own_followed ports));
        })

    dropped : (f : Option FollowedSearch) → old.followed k ≡ f → new ≡ dropped_in old k f → Moves number d after (λ p. dropped_in p k f)
    dropped None found is_new = same_moves number d is v numbers openers is_new nums ops
    dropped (Some f) found is_new = ended_moves number d is v numbers openers k (end_of k f) is_new refl opener nums ops

    -- so is the dropping of a search that this port opened
    pub drop_answered : (result : Bool) → DropReplies old k result new → KeepsNumbers number d after (λ p q. DropReplies p k result q)
    drop_answered result clause =
        answered (λ p. dropped_in p k (old.followed k)) (λ p q. DropReplies p k result q)
        (dropped (old.followed k) refl clause.state)
        (λ ports own. record {
          was_open = clause.was_open ∙ ap is_some (sym (own_followed ports));
          state = own ∙ ap (λ f. dropped_in (port_in number ports d) k f) (sym (own_followed ports));
        })

-- ---- calls that change nothing

module _ (number : ℕ) (d : NumberedState) where
  -- what a port that knows the same is replied to
  pub unchanged : (Replies : PortState → PortState → Type 0) → ((ports : ℕ) → Replies (port_in number ports d) (port_in number ports d))
      → IsAnswered number d d Replies
  unchanged Replies replies = record {
    called = record {
      added = [];
      own = tt;
      journal = sym (append-nil (port_journal d));
      others = λ other differs ports. refl;
    };
    replies = replies;
  }

  -- where room was made for numbers alone
  pub unmade : (Replies : PortState → PortState → Type 0) → IsNumbered d → (numbers : List ℕ) → numbers ≡ d.numbers
      → ((ports : ℕ) → Replies (port_in number ports d) (port_in number ports d))
      → KeepsNumbers number d (record { provider = d.provider; first = d.first; numbers = numbers; openers = d.openers }) Replies
  unmade Replies is numbers nums replies = record {
    numbered = subst (λ ns. IsNumbered (record { provider = d.provider; first = d.first; numbers = ns; openers = d.openers })) (sym nums) is;
    answered = subst (λ ns. IsAnswered number d (record { provider = d.provider; first = d.first; numbers = ns; openers = d.openers }) Replies)
        (sym nums) (unchanged Replies replies);
  }

  -- a write for which memory runs out
  pub write_unmade : (op : Op) (now before : ℕ) → before ≡ length d.provider.state.directory.writes → (ports : ℕ)
      → WriteReplies (port_in number ports d) op now (record { code = OTHER; number = before }) (port_in number ports d)
  write_unmade op now before counted ports = record {
    code = λ other. absurd (other refl);
    state = λ other. absurd (other refl);
    err = λ same. refl;
    number = counted;
  }

  commit_unmade_at : (kind : Kind) → d.provider.state.kind ≡ kind → (puts : List Entry) (drops : List ℕ) (now ports : ℕ)
      → CommitReplies (port_in number ports d) puts drops now (Err (unmade_fault kind)) (port_in number ports d)
  commit_unmade_at Root is_root puts drops now ports = record {
    accepted = tt;
    refused = ap (λ kind. commit_refusal kind d.provider.state.directory puts drops now) is_root;
    root = ((λ same. is_root), (λ same. refl));
    state = tt;
    err = refl;
    number = tt;
    one = tt;
  }
  commit_unmade_at Replica is_replica puts drops now ports = record {
    accepted = tt;
    refused = tt;
    root = ((λ same. absurd (faults-differ same)), (λ is_root. absurd (kinds-differ (sym is_root ∙ is_replica))));
    state = tt;
    err = refl;
    number = tt;
    one = tt;
  }
    where
      faults-differ : ◌≡◌ {A = Result ℕ CommitFault} (Err NoMemory) (Err NotAReplica) → ⊥
      faults-differ e = cc

      kinds-differ : Root ≡ Replica → ⊥
      kinds-differ e = cc

  -- a commit for which memory runs out
  pub commit_unmade : (puts : List Entry) (drops : List ℕ) (now ports : ℕ)
      → CommitReplies (port_in number ports d) puts drops now (Err (unmade_fault d.provider.state.kind)) (port_in number ports d)
  commit_unmade puts drops now ports = commit_unmade_at d.provider.state.kind refl puts drops now ports

  -- a search for which memory runs out
  pub accept_unmade : (ask : SyncSearch) (ports : ℕ)
      → AcceptReplies (port_in number ports d) ask accepted.NoMemory (port_in number ports d)
  accept_unmade ask ports = record { answer = tt; state = refl }

  module _ (k : ℕ) (other : slice_index d.openers k ≢ number) where
    -- a search that this port did not open is none of its own
    not_followed : (ports : ℕ) → (port_in number ports d).followed k ≡ None
    not_followed ports = ap (λ b. cond b (followed_in d.provider k) None) (ne_eqb (slice_index d.openers k) number other)

    -- a search that is not this port's is none for it: nothing is handed out, and nothing changes
    pub hand_out_unknown : IsAnswered number d d (λ p q. HandOutReplies p k handed.NoSuchSearch q)
    hand_out_unknown = unchanged (λ p q. HandOutReplies p k handed.NoSuchSearch q) (λ ports. record {
      turn = sym (ap (turn_in d.provider.state.directory) (not_followed ports));
      memory = λ same. absurd (none-some Unknown (sym (ap turn_of same)));
      state = sym (ap (λ f. after_turn_in (port_in number ports d) k f (Some Unknown)) (not_followed ports));
    })

    -- the same where such a search is to be dropped
    pub drop_unknown : IsAnswered number d d (λ p q. DropReplies p k false q)
    drop_unknown = unchanged (λ p q. DropReplies p k false q) (λ ports. record {
      was_open = sym (ap is_some (not_followed ports));
      state = sym (ap (λ f. dropped_in (port_in number ports d) k f) (not_followed ports));
    })
