-- The journal of a provider as a list: the order of its events, its length, and what an entry adds to it.
use Rattle.std.proofs.Common.{◌≡◌, ◌≤◌, ℕ, inl, inr, zero, suc, ◌+◌, ◌-◌, Bool, false, cond, List, [], ◌∷◌, ◌++◌, length, map, take, drop, Some, None, refl, ap, sym, ◌∙◌, subst, arith, append_assoc, length-append, Option}
use Rattle.std.specs.Prelude.{is_some, not, find, slice_get, Result, Ok, Err, option_map}
use Rattle.std.proofs.lemmas.List.{length-map, map-append, length-drop, take-append-drop, take-append-le, drop-append-le, take_all, drop_all}
use Rattle.entry_tree.specs.declared.op.Write.{Write}
use Rattle.sync_messages.specs.Request.{request_of}
use Rattle.sync_messages.specs.declared.fault.SyncFault.{SyncFault}
use Rattle.sync_messages.specs.declared.request.SyncRequest.{SyncRequest}
use Rattle.directory_writes.specs.Directory.{DirectoryState}
use Rattle.sync_provider.specs.Accepting.{free_number, numbers_from, answer_to_request, answer_to}
use Rattle.sync_provider.specs.HandingOut.{has_message, search_at, turn_of_pending}
use Rattle.sync_provider.specs.Journal.{port_state, note_of, journal_from, journal_of, AreInOrder, JournalledProvider, numbered, journal_in, IsJournalled}
use Rattle.sync_provider.specs.Ports.{Journal, PortState, noted, write_in, writes_in, open_after, open_from, is_open, free_in, answer_by, IsReplied, CanMeet, HasMet}
use Rattle.sync_provider.specs.Search.{SearchState, pending}
use Rattle.sync_provider.specs.declared.journal_note.JournalNote.{JournalNote}
use Rattle.sync_provider.specs.declared.journal_note.JournalNote.TheVariants as notes
use Rattle.sync_provider.specs.declared.journal_note.SearchChange.{SearchChange}
use Rattle.sync_provider.specs.declared.journal_note.SearchChange.TheVariants.{Opened, Closed}
use Rattle.sync_provider.specs.declared.journal_note.SearchEvent.{SearchEvent}
use Rattle.sync_provider.specs.declared.searches.SyncSearch.{SyncSearch}
use Rattle.sync_provider.proofs.Turns.{none_turn}

-- ---- what is pending of a search

-- where nothing is pending there is no message
pub none_has_message : (d : DirectoryState) (s : SearchState) → s.over ≡ false → s.progress.left ≡ [] → s.progress.rest ≡ [] → slice_get s.progress.due 0 ≡ None → has_message (turn_of_pending s.id (pending d s)) ≡ false
none_has_message d s off settled none first = ap has_message (none_turn d s off settled none first)

-- ---- a provider by itself sees no entries of other ports

-- so its reply is one with nothing before it
pub replied_alone : (p : PortState) (Replies : PortState → Type 0) → Replies p → IsReplied p Replies
replied_alone p Replies replies = record { place = p; later = record { entries = []; others = λ k d low. absurd (omega (arith, low)); is = refl }; replies = replies }

-- and it learns nothing where it meets another one
pub met_alone : (v other : JournalledProvider) → CanMeet (port_state v) (port_state other)
    → HasMet (port_state v) (port_state other) (port_state v)
met_alone v other (inl shared) = absurd (omega (arith, shared))
met_alone v other (inr seen) = record {
  later = record { entries = []; others = λ k d low. absurd (omega (arith, low)); is = refl };
  seen = seen;
}

-- ---- the events in their order

in_order_low : (low high : ℕ) (events : List SearchEvent) → AreInOrder low high events → low ≤ high
in_order_low low high [] h = h
in_order_low low high (e ∷ events) h = let rest : e.writes ≤ high = in_order_low e.writes high events h.1 in omega (arith, h.0, rest)

-- events up to some writes are so up to more
pub in_order_more : (low high more : ℕ) (events : List SearchEvent) → high ≤ more → AreInOrder low high events → AreInOrder low more events
in_order_more low high more [] least h = omega (arith, h, least)
in_order_more low high more (e ∷ events) least h = (h.0, in_order_more e.writes high more events least h.1)

-- one more at the end
pub in_order_snoc : (low high : ℕ) (events : List SearchEvent) (e : SearchEvent) → AreInOrder low high events → e.writes ≡ high → AreInOrder low high (events ++ e ∷ [])
in_order_snoc low high [] e h at = (omega (arith, h, at), omega (arith, at))
in_order_snoc low high (f ∷ events) e h at = (h.0, in_order_snoc f.writes high events e h.1 at)

-- ---- one entry more in the journal

-- what is after an event, where it is within the writes
module _ (k : ℕ) (ws : List Write) (e : SearchEvent) (events : List SearchEvent) (h : AreInOrder k (k + length ws) (e ∷ events)) where
  abbrev before : ℕ
  before = e.writes - k

  within : before ≤ length ws
  within = let rest : e.writes ≤ k + length ws = in_order_low e.writes (k + length ws) events h.1 in omega (arith, h.0, rest)

  left : AreInOrder e.writes (e.writes + length (drop before ws)) events
  left =
      let rest : e.writes ≤ k + length ws = in_order_low e.writes (k + length ws) events h.1 in
      let few : length (drop before ws) ≡ length ws - before = length-drop before ws in
      let high : k + length ws ≡ e.writes + length (drop before ws) = omega (arith, few, h.0, rest) in
      subst (λ n. AreInOrder e.writes n events) high h.1

  whole : e.writes + length (drop before ws) ≡ k + length ws
  whole =
      let rest : e.writes ≤ k + length ws = in_order_low e.writes (k + length ws) events h.1 in
      let few : length (drop before ws) ≡ length ws - before = length-drop before ws in
      omega (arith, few, h.0, rest)

-- a write comes last
pub journal_write : (events : List SearchEvent) (k : ℕ) (ws : List Write) (w : Write) → AreInOrder k (k + length ws) events
    → journal_from k (ws ++ w ∷ []) events ≡ journal_from k ws events ++ notes.Wrote w ∷ []
journal_write [] k ws w h = map-append notes.Wrote ws (w ∷ [])
journal_write (e ∷ events) k ws w h =
    (λ i. map notes.Wrote (take-append-le n ws (w ∷ []) low i) ++ note_of e.change ∷ journal_from e.writes (drop-append-le n ws (w ∷ []) low i) events)
    ∙ ap (λ rest. map notes.Wrote (take n ws) ++ note_of e.change ∷ rest) (journal_write events e.writes (drop n ws) w (left k ws e events h))
    ∙ sym (append_assoc (map notes.Wrote (take n ws)) (note_of e.change ∷ journal_from e.writes (drop n ws) events) (notes.Wrote w ∷ []))
  where
    n : ℕ
    n = e.writes - k

    low : n ≤ length ws
    low = within k ws e events h

-- an event comes last
pub journal_event : (events : List SearchEvent) (k : ℕ) (ws : List Write) (e : SearchEvent) → AreInOrder k (k + length ws) events → e.writes ≡ k + length ws
    → journal_from k ws (events ++ e ∷ []) ≡ journal_from k ws events ++ note_of e.change ∷ []
journal_event [] k ws e h at =
    let all : length ws ≤ e.writes - k = omega (arith, at) in
    λ i. map notes.Wrote (take_all (e.writes - k) ws all i) ++ note_of e.change ∷ map notes.Wrote (drop_all (e.writes - k) ws all i)
journal_event (f ∷ events) k ws e h at =
    ap (λ rest. map notes.Wrote (take n ws) ++ note_of f.change ∷ rest) (journal_event events f.writes (drop n ws) e (left k ws f events h) (at ∙ sym (whole k ws f events h)))
    ∙ sym (append_assoc (map notes.Wrote (take n ws)) (note_of f.change ∷ journal_from f.writes (drop n ws) events) (note_of e.change ∷ []))
  where
    n : ℕ
    n = f.writes - k

-- the first of some writes and the others are all of them
parts_length : (n : ℕ) (ws : List Write) → length (take n ws) + length (drop n ws) ≡ length ws
parts_length zero ws = omega arith
parts_length (suc n) [] = refl
parts_length (suc n) (w ∷ ws) = let rest : length (take n ws) + length (drop n ws) ≡ length ws = parts_length n ws in omega (arith, rest)

-- there are as many entries as writes and events
pub journal_length : (events : List SearchEvent) (k : ℕ) (ws : List Write) → length (journal_from k ws events) ≡ length ws + length events
journal_length [] k ws = let all : length (map notes.Wrote ws) ≡ length ws = length-map ws notes.Wrote in omega (arith, all)
journal_length (e ∷ events) k ws =
    let n : ℕ = e.writes - k in
    let rest : length (journal_from e.writes (drop n ws) events) ≡ length (drop n ws) + length events = journal_length events e.writes (drop n ws) in
    let front : length (map notes.Wrote (take n ws)) ≡ length (take n ws) = length-map (take n ws) notes.Wrote in
    omega (arith, front, rest, parts_length n ws, length-append (map notes.Wrote (take n ws)) (note_of e.change ∷ journal_from e.writes (drop n ws) events))

-- ---- the writes of the journal

-- the writes of two journals in a row
pub writes_append : (one other : Journal) → writes_in (one ++ other) ≡ writes_in one ++ writes_in other
writes_append [] other = refl
writes_append (e ∷ one) other = ap (λ rest. write_in e.0 ++ rest) (writes_append one other) ∙ sym (append_assoc (write_in e.0) (writes_in one) (writes_in other))

only_wrote : (ws : List Write) → writes_in (numbered (map notes.Wrote ws)) ≡ ws
only_wrote [] = refl
only_wrote (w ∷ ws) = ap (λ rest. w ∷ rest) (only_wrote ws)

no_write : (change : SearchChange) → write_in (note_of change) ≡ []
no_write (Opened opened) = refl
no_write (Closed end) = refl

-- they are those that it was made of, wherever the events stand
pub writes_kept : (events : List SearchEvent) (k : ℕ) (ws : List Write) → writes_in (numbered (journal_from k ws events)) ≡ ws
writes_kept [] k ws = only_wrote ws
writes_kept (e ∷ events) k ws =
    let n : ℕ = e.writes - k in
    let later : List JournalNote = journal_from e.writes (drop n ws) events in
    ap writes_in (map-append (λ note. (note, 0)) (map notes.Wrote (take n ws)) (note_of e.change ∷ later))
    ∙ writes_append (numbered (map notes.Wrote (take n ws))) (numbered (note_of e.change ∷ later))
    ∙ (λ i. only_wrote (take n ws) i ++ (no_write e.change i ++ writes_kept events e.writes (drop n ws) i))
    ∙ take-append-drop n ws

-- ---- an entry more of the journal

-- the entry that a port notes comes last in its journal
pub noted_journal : (p : PortState) (note : JournalNote) (by : ℕ) → (noted p note by).journal ≡ p.journal ++ (note, by) ∷ []
noted_journal p (notes.Wrote write) by = refl
noted_journal p (notes.Opened opening) by = refl
noted_journal p (notes.Closed end) by = refl

from_none : (v : JournalledProvider) → length v.state.directory.writes ≡ 0 + length v.state.directory.writes
from_none v = omega arith

ordered_from : (v : JournalledProvider) → IsJournalled v → AreInOrder 0 (0 + length v.state.directory.writes) v.events
ordered_from v is = subst (λ high. AreInOrder 0 high v.events) (from_none v) is.ordered

-- a write that was accepted
pub noted_write : (v : JournalledProvider) → IsJournalled v → (w : Write)
    → numbered (journal_of (v.state.directory.writes ++ w ∷ []) v.events) ≡ journal_in v ++ (notes.Wrote w, 0) ∷ []
noted_write v is w =
    ap numbered (journal_write v.events 0 v.state.directory.writes w (ordered_from v is))
    ∙ map-append (λ note. (note, 0)) (journal_of v.state.directory.writes v.events) (notes.Wrote w ∷ [])

-- an event after all writes so far
pub noted_event : (v : JournalledProvider) → IsJournalled v → (e : SearchEvent) → e.writes ≡ length v.state.directory.writes
    → numbered (journal_of v.state.directory.writes (v.events ++ e ∷ [])) ≡ journal_in v ++ (note_of e.change, 0) ∷ []
noted_event v is e at =
    ap numbered (journal_event v.events 0 v.state.directory.writes e (ordered_from v is) (at ∙ from_none v))
    ∙ map-append (λ note. (note, 0)) (journal_of v.state.directory.writes v.events) (note_of e.change ∷ [])

-- so the journal is as long as both
pub journal_counts : (writes : List Write) (events : List SearchEvent) → length writes + length events ≡ length (journal_of writes events)
journal_counts writes events = sym (journal_length events 0 writes)

-- ---- the open searches of the journal

-- what is made of something is there where that is
pub some_map : {X Y : Type 0} (f : X → Y) (x : Option X) → is_some (option_map f x) ≡ is_some x
some_map f None = refl
some_map f (Some x) = refl

open_append : (n : ℕ) (b : Bool) (xs ys : Journal) → open_from n b (xs ++ ys) ≡ open_from n (open_from n b xs) ys
open_append n b [] ys = refl
open_append n b (x ∷ xs) ys = open_append n (open_after n b x.0) xs ys

-- whether a search is open after one more entry of the journal
pub open_more : (journal : Journal) (note : JournalNote) (n : ℕ) → is_open (journal ++ (note, 0) ∷ []) n ≡ open_after n (is_open journal n) note
open_more journal note n = open_append n false journal ((note, 0) ∷ [])

-- tests that agree find the same
pub find_same : (p q : ℕ → Bool) → ((n : ℕ) → p n ≡ q n) → (xs : List ℕ) → find p xs ≡ find q xs
find_same p q same [] = refl
find_same p q same (x ∷ xs) = λ i. cond (same x i) (Some x) (find_same p q same xs i)

-- a number is free by the journal where it is by the open searches
free_is : (v : JournalledProvider) → IsJournalled v → free_number v.state.searches ≡ free_in (journal_in v)
free_is v is =
    find_same (λ n. not (is_some (search_at v.state.searches n))) (λ n. not (is_open (journal_in v) n)) (λ n. ap not (is.only n)) (numbers_from 1 64)

-- the answer to a search by its request, where the free number of the searches is free
pub answer_by_is : (d : DirectoryState) (es : List (ℕ × SearchState)) (ask : SyncSearch) (read : Result SyncRequest SyncFault)
    → answer_to_request d es ask read ≡ answer_by d (free_number es) ask read
answer_by_is d es ask (Err fault) = refl
answer_by_is d es ask (Ok request) = refl

-- so a search gets the same answer
pub answer_is : (v : JournalledProvider) (ask : SyncSearch) → IsJournalled v
    → answer_to v.state.directory v.state.searches ask ≡ answer_by v.state.directory (free_in (journal_in v)) ask (request_of ask.control)
answer_is v ask is =
    answer_by_is v.state.directory v.state.searches ask (request_of ask.control)
    ∙ ap (λ free. answer_by v.state.directory free ask (request_of ask.control)) (free_is v is)
