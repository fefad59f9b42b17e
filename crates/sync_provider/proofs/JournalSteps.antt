-- What a write, an opened search, a message that is handed out, and the end of a search make of a provider's journal,
-- and of what it knows as a port.
use Rattle.std.proofs.Common.{◌≡◌, ◌≢◌, ℕ, ◌+◌, Bool, true, false, cond, nat_eq, List, [], ◌∷◌, ◌++◌, length, Option, Some, None, refl, ap, sym, ◌∙◌, subst, arith, eqb-true, length-append}
use Rattle.std.specs.Prelude.{Ok, is_some, option_map, ◌||◌}
use Rattle.std.specs.BTreeMap.{insert_entry, is_at}
use Rattle.std.specs.Ordering.{nat_cmp}
use Rattle.std.proofs.lemmas.Bool.{eqb-false}
use Rattle.std.proofs.lemmas.Map.Made.{lookup-map_values}
use Rattle.std.proofs.lemmas.Option.{none-some, same_Some}
use Rattle.entry_tree.specs.declared.op.Write.{Write}
use Rattle.sync_model.specs.Message.{SyncMessage}
use Rattle.sync_slices.proofs.HandingOut.{marks_handed}
use Rattle.directory_writes.specs.Directory.{DirectoryState, with_write}
use Rattle.directory_writes.proofs.Keyed.{opened-same, opened-other, closed-other, put_on, put_on-same, put_on-other}
use Rattle.sync_provider.specs.Accepting.{answer_to}
use Rattle.sync_provider.specs.HandingOut.{search_at, closed}
use Rattle.sync_provider.specs.Journal.{handed_at, JournalledProvider, followed_as, followed_in, journal_in, port_state, IsJournalled}
use Rattle.sync_provider.specs.Law.{HasHandedOut, asked, is_too_much}
use Rattle.sync_provider.specs.Machine.{each_search_notified, after_judged}
use Rattle.sync_provider.specs.Opened.{SearchOpening, opening_of_ask, opening_of_search}
use Rattle.sync_provider.specs.Ports.{FollowedSearch, PortState, is_open, followed_after, noted, opened_in, marks_in, followed_on, handed_in, ended_in}
use Rattle.sync_provider.specs.Queueing.{search_notified}
use Rattle.sync_provider.specs.Search.{SearchState, sliced, pending, advanced, is_end}
use Rattle.sync_provider.specs.declared.journal_note.ClosedSearch.{ClosedSearch}
use Rattle.sync_provider.specs.declared.journal_note.JournalNote.TheVariants as notes
use Rattle.sync_provider.specs.declared.journal_note.SearchChange.TheVariants.{Opened, Closed}
use Rattle.sync_provider.specs.declared.journal_note.SearchEvent.{SearchEvent}
use Rattle.sync_provider.specs.declared.searches.Accepted.TheVariants as accepted
use Rattle.sync_provider.specs.declared.searches.SyncSearch.{SyncSearch}
use Rattle.sync_provider.proofs.SearchNotified.{IsSame, same_search, pending_open}
use Rattle.sync_provider.proofs.Journals.{in_order_more, in_order_snoc, noted_write, noted_event, open_more, some_map}
use Rattle.sync_provider.proofs.Kept.{opened_free}
use Rattle.sync_provider.proofs.Overflows.{Matches, search_notified_match, asked_matches}
use Rattle.sync_provider.proofs.Places.{begins_with_own, IsNext, next_place, next_counted}
use Rattle.sync_provider.proofs.Streams.{not_over}

-- the journal is kept, and this is what the port knows
pub record IsPort (v : JournalledProvider) (p : PortState) : Type 0 where
  pub journalled : IsJournalled v
  pub port : port_state v ≡ p

-- the same search was opened so
same_opening : (number : ℕ) (s after : SearchState) → IsSame s after → opening_of_search number after ≡ opening_of_search number s
same_opening number s after same = λ i. record {
  number = number;
  id = same.id i;
  spec = same.spec i;
  start = same.start i;
  accepted = same.accepted i;
  persists = same.persists i;
}

-- ---- a write

module _ (v : JournalledProvider) (is : IsJournalled v) (w : Write) where
  abbrev d : DirectoryState
  d = v.state.directory

  abbrev limit : ℕ
  limit = v.state.queue_limit

  abbrev after_write : JournalledProvider
  after_write = record v { state = after_judged v.state (Ok w) }

  abbrev over_then : ℕ → SearchState → Bool
  over_then n s = s.over || is_too_much limit d s w s.progress.marks (handed_at v.handed n)

  matched : (n : ℕ) (s : SearchState) → search_at v.state.searches n ≡ Some s
      → Matches s (with_write d w) (search_notified limit d w s) (record { handed = handed_at v.handed n; marks = s.progress.marks; over = over_then n s })
  matched n s found =
      search_notified_match s limit d w s (record { handed = handed_at v.handed n; marks = s.progress.marks; over = s.over })
      (record { same = same_search s s.progress s.over; over = refl; marks = refl; counted = is.counted n s found })

  seen : (n : ℕ) → search_at (each_search_notified limit d w v.state.searches) n ≡ option_map (search_notified limit d w) (search_at v.state.searches n)
  seen n = lookup-map_values (search_notified limit d w) (is_at (nat_cmp n)) v.state.searches

  followed_write : (n : ℕ) → followed_in after_write n ≡ option_map (followed_after limit d w) (followed_in v n)
  followed_write n = ap (option_map (followed_as n (handed_at v.handed n))) (seen n) ∙ by (search_at v.state.searches n) refl
    where
      by : (found : Option SearchState) → search_at v.state.searches n ≡ found
          → option_map (followed_as n (handed_at v.handed n)) (option_map (search_notified limit d w) found)
          ≡ option_map (followed_after limit d w) (option_map (followed_as n (handed_at v.handed n)) found)
      by None none = refl
      by (Some s) found =
          let opened : opening_of_search n (search_notified limit d w s) ≡ opening_of_search n s = same_opening n s (search_notified limit d w s) (matched n s found).same in
          let over : over_then n s ≡ (search_notified limit d w s).over = (matched n s found).over in
          let marks : s.progress.marks ≡ (search_notified limit d w s).progress.marks = (matched n s found).marks in
          λ i. Some (record { opened = opened i; handed = handed_at v.handed n; marks = sym marks i; over = sym over i })

  counted_write : (n : ℕ) (s : SearchState) → search_at (each_search_notified limit d w v.state.searches) n ≡ Some s → s.over ≡ false → HasHandedOut (with_write d w) s (handed_at v.handed n)
  counted_write n s there = by (search_at v.state.searches n) refl (sym (seen n) ∙ there)
    where
      by : (found : Option SearchState) → search_at v.state.searches n ≡ found → option_map (search_notified limit d w) found ≡ Some s
          → s.over ≡ false → HasHandedOut (with_write d w) s (handed_at v.handed n)
      by None none is_there = absurd (none-some s is_there)
      by (Some was) found is_there =
          subst (λ x. x.over ≡ false → HasHandedOut (with_write d w) x (handed_at v.handed n)) (same_Some (search_notified limit d w was) s is_there) (matched n was found).counted

  -- what the provider knows as a port has the write noted
  pub write_goes : IsPort after_write (noted (port_state v) (notes.Wrote w) 0)
  write_goes = record {
    journalled = record {
      ordered = in_order_more 0 (length d.writes) (length (d.writes ++ w ∷ [])) v.events (omega (arith, length-append d.writes (w ∷ []))) is.ordered;
      counted = counted_write;
      only = λ n.
          ap is_some (seen n) ∙ some_map (search_notified limit d w) (search_at v.state.searches n) ∙ is.only n
          ∙ sym (ap (λ j. is_open j n) (noted_write v is w) ∙ open_more (journal_in v) (notes.Wrote w) n);
    };
    port = λ i. record {
      number = 0;
      ports = 0;
      kind = v.state.kind;
      directory = with_write d w;
      queue_limit = limit;
      journal = noted_write v is w i;
      followed = λ n. followed_write n i;
    };
  }

-- ---- a change under one number

-- a function that takes one value at a number, and another function's values elsewhere
pub at_one : {X : Type 0} (f g : ℕ → X) (k : ℕ) (x : X) → f k ≡ x → ((n : ℕ) → n ≢ k → f n ≡ g n) → (n : ℕ) → f n ≡ cond (nat_eq n k) x (g n)
at_one f g k x own others n = by (nat_eq n k) refl
  where
    by : (b : Bool) → nat_eq n k ≡ b → f n ≡ cond b x (g n)
    by true here = ap f (eqb-true n k here) ∙ own
    by false far = others n (eqb-false n k far)

-- the search of a number is another one, or none, of which n messages were handed out
module _ (v : JournalledProvider) (is : IsJournalled v) (number : ℕ) (found : Option SearchState) (count : ℕ) (searches : List (ℕ × SearchState)) (handed : List ℕ)
    (here : search_at searches number ≡ found) (there : (n : ℕ) → n ≢ number → search_at searches n ≡ search_at v.state.searches n)
    (own : handed_at handed number ≡ count) (others : (n : ℕ) → n ≢ number → handed_at handed n ≡ handed_at v.handed n) where
  abbrev changed : List SearchEvent → JournalledProvider
  changed events = record { state = record v.state { searches = searches }; events = events; handed = handed }

  followed_changed : (events : List SearchEvent) (n : ℕ) → followed_in (changed events) n ≡ cond (nat_eq n number) (option_map (followed_as number count) found) (followed_in v n)
  followed_changed events =
      at_one (followed_in (changed events)) (followed_in v) number (option_map (followed_as number count) found)
      (λ i. option_map (followed_as number (own i)) (here i)) (λ n far i. option_map (followed_as n (others n far i)) (there n far i))

  counted_changed : ((s : SearchState) → found ≡ Some s → s.over ≡ false → HasHandedOut v.state.directory s count)
      → (n : ℕ) (s : SearchState) → search_at searches n ≡ Some s → s.over ≡ false → HasHandedOut v.state.directory s (handed_at handed n)
  counted_changed new n = by (nat_eq n number) refl
    where
      by : (b : Bool) → nat_eq n number ≡ b → (s : SearchState) → search_at searches n ≡ Some s → s.over ≡ false → HasHandedOut v.state.directory s (handed_at handed n)
      by true hit s is_there off =
          let same : n ≡ number = eqb-true n number hit in
          subst (HasHandedOut v.state.directory s) (sym (ap (handed_at handed) same ∙ own)) (new s (sym here ∙ ap (search_at searches) (sym same) ∙ is_there) off)
      by false far s is_there off =
          subst (HasHandedOut v.state.directory s) (sym (others n (eqb-false n number far))) (is.counted n s (sym (there n (eqb-false n number far)) ∙ is_there) off)

  open_changed : (n : ℕ) → is_some (search_at searches n) ≡ cond (nat_eq n number) (is_some found) (is_open (journal_in v) n)
  open_changed n =
      at_one (λ k. is_some (search_at searches k)) (λ k. is_some (search_at v.state.searches k)) number (is_some found) (ap is_some here) (λ k far. ap is_some (there k far)) n
      ∙ ap (cond (nat_eq n number) (is_some found)) (is.only n)

-- ---- a search is opened

module _ (v : JournalledProvider) (is : IsJournalled v) (ask : SyncSearch) (number count : ℕ) (handed : List ℕ)
    (answered : answer_to v.state.directory v.state.searches ask ≡ accepted.Opened number count)
    (own : handed_at handed number ≡ 0) (others : (n : ℕ) → n ≢ number → handed_at handed n ≡ handed_at v.handed n) where
  abbrev search : SearchState
  search = asked v.state ask

  abbrev opening : SearchOpening
  opening = opening_of_ask v.state.directory ask number

  abbrev searches : List (ℕ × SearchState)
  searches = insert_entry nat_cmp v.state.searches number search

  abbrev event : SearchEvent
  event = record { writes = count; change = Opened opening }

  abbrev after_open : JournalledProvider
  after_open = record { state = record v.state { searches = searches }; events = v.events ++ event ∷ []; handed = handed }

  here : search_at searches number ≡ Some search
  here = opened-same v.state.searches number search

  there : (n : ℕ) → n ≢ number → search_at searches n ≡ search_at v.state.searches n
  there n far = opened-other v.state.searches number n search far

  counted : count ≡ length v.state.directory.writes
  counted = (opened_free v.state.directory v.state.searches ask number count answered).counted

  journal : journal_in after_open ≡ journal_in v ++ (notes.Opened opening, 0) ∷ []
  journal = noted_event v is event counted

  begun : (s : SearchState) → Some search ≡ Some s → s.over ≡ false → HasHandedOut v.state.directory s 0
  begun s same = subst (λ x. x.over ≡ false → HasHandedOut v.state.directory x 0) (same_Some search s same) (asked_matches v.state ask).counted

  first_followed : followed_as number 0 search ≡ record { opened = opening; handed = 0; marks = opening.accepted ∷ []; over = false }
  first_followed = λ i. record { opened = opening; handed = 0; marks = sym (asked_matches v.state ask).marks i; over = false }

  -- it follows the search
  pub open_goes : IsPort after_open (opened_in (port_state v) opening)
  open_goes = record {
    journalled = record {
      ordered = in_order_snoc 0 (length v.state.directory.writes) v.events event is.ordered counted;
      counted = counted_changed v is number (Some search) 0 searches handed here there own others begun;
      only = λ n.
          open_changed v is number (Some search) 0 searches handed here there own others n
          ∙ sym (ap (λ j. is_open j n) journal ∙ open_more (journal_in v) (notes.Opened opening) n);
    };
    port = λ i. record {
      number = 0;
      ports = 0;
      kind = v.state.kind;
      directory = v.state.directory;
      queue_limit = v.state.queue_limit;
      journal = journal i;
      followed = λ n.
          (followed_changed v is number (Some search) 0 searches handed here there own others after_open.events n
          ∙ ap (λ x. cond (nat_eq n number) (Some x) (followed_in v n)) first_followed) i;
    };
  }

-- ---- a message is handed out

module _ (v : JournalledProvider) (is : IsJournalled v) (number : ℕ) (s : SearchState) (found : search_at v.state.searches number ≡ Some s)
    (m : SyncMessage) (ms : List SyncMessage) (first : pending v.state.directory s ≡ m ∷ ms) (goes : is_end m ≡ false) (handed : List ℕ)
    (own : handed_at handed number ≡ handed_at v.handed number + 1) (others : (n : ℕ) → n ≢ number → handed_at handed n ≡ handed_at v.handed n) where
  abbrev left : SearchState
  left = advanced v.state.directory s

  abbrev moved : List (ℕ × SearchState)
  moved = put_on v.state.searches number left

  abbrev after_message : JournalledProvider
  after_message = record { state = record v.state { searches = moved }; events = v.events; handed = handed }

  abbrev f : FollowedSearch
  f = followed_as number (handed_at v.handed number) s

  moved_here : search_at moved number ≡ Some left
  moved_here = put_on-same v.state.searches number left s found

  moved_there : (n : ℕ) → n ≢ number → search_at moved n ≡ search_at v.state.searches n
  moved_there n far = put_on-other v.state.searches number n left far

  open_now : s.over ≡ false
  open_now = not_over v.state.directory s m ms first goes

  was : HasHandedOut v.state.directory s (handed_at v.handed number)
  was = is.counted number s found open_now

  one_more : (after : SearchState) → Some left ≡ Some after → after.over ≡ false → HasHandedOut v.state.directory after (handed_at v.handed number + 1)
  one_more after same off =
      let next : IsNext v.state.directory left (was.now.handed ++ was.now.handed_later) m =
      next_place v.state.directory s was.now m ms (sym (pending_open v.state.directory s open_now) ∙ first) in
      subst (λ x. HasHandedOut v.state.directory x (handed_at v.handed number + 1)) (same_Some left after same)
      (record { now = next.now; counted = ap (λ n. n + 1) was.counted ∙ sym (next_counted v.state.directory left was.now.handed was.now.handed_later m next) })

  still_open : (n : ℕ) → cond (nat_eq n number) true (is_open (journal_in v) n) ≡ is_open (journal_in v) n
  still_open n = by (nat_eq n number) refl
    where
      by : (b : Bool) → nat_eq n number ≡ b → cond b true (is_open (journal_in v) n) ≡ is_open (journal_in v) n
      by true hit = ap is_some (sym found) ∙ is.only number ∙ ap (is_open (journal_in v)) (sym (eqb-true n number hit))
      by false far = refl

  marks_then : left.progress.marks ≡ marks_in v.state.directory f
  marks_then =
      marks_handed (sliced v.state.directory s) (length v.state.directory.writes) s.progress was.now.handed was.now.handed_later (handed_at v.handed number)
      (was.now.place v.state.directory.writes (begins_with_own v.state.directory)) was.counted

  handed_over : followed_as number (handed_at v.handed number + 1) left ≡ followed_on v.state.directory f
  handed_over = λ i. record { opened = opening_of_search number s; handed = handed_at v.handed number + 1; marks = marks_then i; over = s.over }

  -- it counts the message
  pub message_goes : IsPort after_message (handed_in (port_state v) number f)
  message_goes = record {
    journalled = record {
      ordered = is.ordered;
      counted = counted_changed v is number (Some left) (handed_at v.handed number + 1) moved handed moved_here moved_there own others one_more;
      only = λ n. open_changed v is number (Some left) (handed_at v.handed number + 1) moved handed moved_here moved_there own others n ∙ still_open n;
    };
    port = λ i. record {
      number = 0;
      ports = 0;
      kind = v.state.kind;
      directory = v.state.directory;
      queue_limit = v.state.queue_limit;
      journal = journal_in v;
      followed = λ n.
          (followed_changed v is number (Some left) (handed_at v.handed number + 1) moved handed moved_here moved_there own others v.events n
          ∙ ap (λ x. cond (nat_eq n number) (Some x) (followed_in v n)) handed_over) i;
    };
  }

-- ---- a search ends

module _ (v : JournalledProvider) (is : IsJournalled v) (number handed count : ℕ) (over : Option ℕ) (counted : count ≡ length v.state.directory.writes)
    (none : search_at (closed v.state.searches number) number ≡ None) where
  abbrev end : ClosedSearch
  end = record { number = number; handed = handed; over = over }

  abbrev ended : SearchEvent
  ended = record { writes = count; change = Closed end }

  abbrev after_end : JournalledProvider
  after_end = record { state = record v.state { searches = closed v.state.searches number }; events = v.events ++ ended ∷ []; handed = v.handed }

  other : (n : ℕ) → n ≢ number → search_at (closed v.state.searches number) n ≡ search_at v.state.searches n
  other n far = closed-other v.state.searches number n far

  journal_then : journal_in after_end ≡ journal_in v ++ (notes.Closed end, 0) ∷ []
  journal_then = noted_event v is ended counted

  abbrev now : ℕ
  now = handed_at v.handed number

  none_begun : (s : SearchState) → None ≡ Some s → s.over ≡ false → HasHandedOut v.state.directory s now
  none_begun s e = absurd (none-some s e)

  -- it follows the search no more
  pub end_goes : IsPort after_end (ended_in (port_state v) number end)
  end_goes = record {
    journalled = record {
      ordered = in_order_snoc 0 (length v.state.directory.writes) v.events ended is.ordered counted;
      counted = counted_changed v is number None now (closed v.state.searches number) v.handed none other refl (λ n far. refl) none_begun;
      only = λ n.
          open_changed v is number None now (closed v.state.searches number) v.handed none other refl (λ k far. refl) n
          ∙ sym (ap (λ j. is_open j n) journal_then ∙ open_more (journal_in v) (notes.Closed end) n);
    };
    port = λ i. record {
      number = 0;
      ports = 0;
      kind = v.state.kind;
      directory = v.state.directory;
      queue_limit = v.state.queue_limit;
      journal = journal_then i;
      followed = λ n. followed_changed v is number None now (closed v.state.searches number) v.handed none other refl (λ k far. refl) after_end.events n i;
    };
  }
