-- What a hand-out and a drop answer, at the place of a provider's journal, and what they keep of it.
use Rattle.std.proofs.Common.{◌≡◌, ℕ, ◌+◌, Bool, true, false, cond, List, [], ◌∷◌, ◌++◌, length, Option, Some, None, refl, ap, sym, ◌∙◌, subst, arith}
use Rattle.std.specs.Prelude.{ℤ, is_some, option_map, IfSome}
use Rattle.std.specs.BTreeMap.{is_at}
use Rattle.std.specs.Ordering.{nat_cmp}
use Rattle.std.proofs.lemmas.Bool.{false≢true, true≢false}
use Rattle.std.proofs.lemmas.Map.{length-set_value}
use Rattle.ldap_messages.specs.Whole.{MessageValue}
use Rattle.sync_model.specs.Message.{SyncMessage}
use Rattle.sync_model.specs.Message.SyncMessage.{AddOrModify, Delete, Present, IdSet, NewCookie, RefreshDelete, RefreshPresent, Done, Ignored}
use Rattle.sync_model.proofs.Refresh.{none_from_false}
use Rattle.directory_writes.specs.Directory.{DirectoryState}
use Rattle.directory_writes.proofs.Keyed.{put_on}
use Rattle.sync_provider.specs.Answering.{HandOutLeaves, DropLeaves}
use Rattle.sync_provider.specs.HandingOut.{HandOut, search_at, turn_of, turn_of_message, turn_of_pending, turn_of_found, turn_at, has_message, is_closing, closed, handed_on, after_a_turn}
use Rattle.sync_provider.specs.HandingOut.HandOut.{Hands, Closes, Waits, Unknown}
use Rattle.sync_provider.specs.Journal.{handed_at, JournalState, IsCounted, IsEnded, JournalledProvider, with_journal, followed_as, followed_in, port_state, HasJournal}
use Rattle.sync_provider.specs.Law.{over_of}
use Rattle.sync_provider.specs.Machine.{ProviderState, dropped}
use Rattle.sync_provider.specs.Ports.{FollowedSearch, PortState, turn_in, after_turn_in, ended_in, dropped_in, HandOutReplies, DropReplies}
use Rattle.sync_provider.specs.Search.{SearchState, pending, advanced, is_end}
use Rattle.sync_provider.specs.declared.handed.Handed.{Handed}
use Rattle.sync_provider.specs.declared.handed.Handed.TheVariants as turns
use Rattle.sync_provider.specs.declared.journal_note.ClosedSearch.{ClosedSearch}
use Rattle.sync_provider.specs.declared.journal_note.SearchChange.TheVariants.{Closed}
use Rattle.sync_provider.proofs.JournalReplies.{IsAnswered}
use Rattle.sync_provider.proofs.JournalSteps.{IsPort, message_goes, end_goes}
use Rattle.sync_provider.proofs.JournalTurns.{turn_is}
use Rattle.sync_provider.proofs.Tables.{closed_none}
use Rattle.sync_provider.proofs.Journals.{some_map}

-- ---- how many searches are open

closed_length : (es : List (ℕ × SearchState)) (k : ℕ) → is_some (search_at es k) ≡ true → length (closed es k) + 1 ≡ length es
closed_length [] k there = absurd (false≢true there)
closed_length (e ∷ es) k there = by (closed_length es k) (is_at (nat_cmp k) e.0) refl
  where
    by : (is_some (search_at es k) ≡ true → length (closed es k) + 1 ≡ length es) → (b : Bool) → is_at (nat_cmp k) e.0 ≡ b
        → length (cond b es (e ∷ closed es k)) + 1 ≡ length (e ∷ es)
    by rest true hit = omega arith
    by rest false miss =
        let more : length (closed es k) + 1 ≡ length es = rest (sym (ap (λ b. is_some (cond b (Some e.1) (search_at es k))) miss) ∙ there) in
        omega (arith, more)

moved_length : (d : DirectoryState) (es : List (ℕ × SearchState)) (k : ℕ) (found : Option SearchState) → length (handed_on d es k found) ≡ length es
moved_length d es k None = refl
moved_length d es k (Some s) = length-set_value (is_at (nat_cmp k)) es (advanced d s)

-- ---- turns

-- a message is pending first, after which the search goes on
record HandsFirst (ms : List SyncMessage) : Type 0 where
  first : SyncMessage
  rest : List SyncMessage
  is : ms ≡ first ∷ rest
  goes : is_end first ≡ false

hands_first : (id : ℕ) (ms : List SyncMessage) (whole : MessageValue) → Hands whole ≡ turn_of_pending id ms → HandsFirst ms
hands_first id [] whole turn = absurd (never turn)
  where
    never : Hands whole ≡ Waits → ⊥
    never e = cc
hands_first id (m ∷ rest) whole turn = record { first = m; rest = rest; is = refl; goes = by m turn }
  where
    by : (x : SyncMessage) → Hands whole ≡ turn_of_message id x → is_end x ≡ false
    by (AddOrModify adds entry cookie) h = refl
    by (Delete uuid name cookie) h = refl
    by (Present uuid cookie) h = refl
    by (IdSet deletes uuids cookie) h = refl
    by (NewCookie cookie) h = refl
    by (RefreshDelete done cookie) h = refl
    by (RefreshPresent done cookie) h = refl
    by (Done code control) h = let never : ⊥ = cc in absurd never
    by Ignored h = refl

-- nothing is handed out
abbrev pub is_quiet : Option HandOut → Bool
is_quiet None = true
is_quiet (Some (Hands message)) = false
is_quiet (Some (Closes code message)) = false
is_quiet (Some Waits) = true
is_quiet (Some Unknown) = true

quiet_searches : (d : DirectoryState) (es : List (ℕ × SearchState)) (k : ℕ) (t : Option HandOut) → is_quiet t ≡ true → after_a_turn d es k t ≡ es
quiet_searches d es k None quiet = refl
quiet_searches d es k (Some (Hands message)) quiet = absurd (false≢true quiet)
quiet_searches d es k (Some (Closes code message)) quiet = absurd (false≢true quiet)
quiet_searches d es k (Some Waits) quiet = refl
quiet_searches d es k (Some Unknown) quiet = refl

quiet_port : (p : PortState) (k : ℕ) (found : Option FollowedSearch) (t : Option HandOut) → is_quiet t ≡ true → after_turn_in p k found t ≡ p
quiet_port p k found None quiet = refl
quiet_port p k found (Some (Hands message)) quiet = absurd (false≢true quiet)
quiet_port p k found (Some (Closes code message)) quiet = absurd (false≢true quiet)
quiet_port p k None (Some Waits) quiet = refl
quiet_port p k (Some f) (Some Waits) quiet = refl
quiet_port p k None (Some Unknown) quiet = refl
quiet_port p k (Some f) (Some Unknown) quiet = refl

-- ---- the end of a search

module _ (p : ProviderState) (j : JournalState) (has : HasJournal p j) (number count : ℕ) (new : ProviderState) (after : JournalState)
    (left : new ≡ dropped p number) (gone : search_at new.searches number ≡ None) (counted : count ≡ length new.directory.writes) where
  -- with n messages handed out, of which there were h when a write was too much for it
  module _ (s : SearchState) (found : search_at p.searches number ≡ Some s) (given total : ℕ) (all : given ≡ total) (h : ℕ) (over : Option ℕ)
      (same : h ≡ handed_at j.handed number) (is : over ≡ cond s.over (Some h) None) (noted : IsEnded j count (record { number = number; handed = given; over = over }) after) where
    abbrev end : ClosedSearch
    end = record { number = number; handed = total; over = cond s.over (Some (handed_at j.handed number)) None }

    end_is : record { number = number; handed = given; over = over } ≡ end
    end_is = λ i. record { number = number; handed = all i; over = (is ∙ ap (λ n. cond s.over (Some n) None) same) i }

    ended : with_journal new after ≡ record { state = dropped p number; events = j.events ++ record { writes = count; change = Closed end } ∷ []; handed = j.handed }
    ended = λ i. record {
      state = left i;
      events = (noted.events ∙ ap (λ e. j.events ++ record { writes = count; change = Closed e } ∷ []) end_is) i;
      handed = noted.handed i;
    }

    ended_port : IsPort (with_journal new after) (ended_in (port_state (with_journal p j)) number end)
    ended_port =
        subst (λ v. IsPort v (ended_in (port_state (with_journal p j)) number end)) (sym ended)
        (end_goes (with_journal p j) has.journalled number total count (cond s.over (Some (handed_at j.handed number)) None)
        (counted ∙ ap (λ q. length q.directory.writes) left) (sym (ap (λ q. search_at q.searches number) left) ∙ gone))

    ended_kept : HasJournal new after
    ended_kept = record {
      journalled = ended_port.journalled;
      room =
          let one : length (closed p.searches number) + 1 ≡ length p.searches = closed_length p.searches number (ap is_some found) in
          let fewer : length new.searches ≡ length (closed p.searches number) = ap (λ q. length q.searches) left in
          omega (arith, one, fewer, has.room, noted.spare);
    }

-- ---- a hand-out

-- where no more messages can be counted
pub full_leaves : (p : ProviderState) (number : ℕ) → has_message (turn_at p.directory p.searches number) ≡ true → HandOutLeaves p number turns.NoMemory p
full_leaves p number there = record { turn = tt; memory = λ full. there; state = refl }

module _ (old : JournalledProvider) (p : ProviderState) (j : JournalState) (seen : with_journal p j ≡ old) (has : HasJournal p j) (number : ℕ) (result : Handed) (new : ProviderState)
    (leaves : HandOutLeaves p number result new) where
  abbrev was : JournalledProvider
  was = with_journal p j

  reported : (t : Option HandOut) → IfSome t (λ x. x ≡ turn_at p.directory p.searches number) → IfSome t (λ x. x ≡ turn_in p.directory (followed_in was number))
  reported None h = tt
  reported (Some x) h = h ∙ turn_is was has.journalled number

  answered : (after : JournalState) → HasJournal new after → port_state (with_journal new after) ≡ after_turn_in (port_state was) number (followed_in was number) (turn_of result)
      → IsAnswered new after (HandOutReplies (port_state old) number result)
  answered after kept state =
      subst (λ v. IsAnswered new after (HandOutReplies (port_state v) number result)) seen
      (record {
        kept = kept;
        replies = record {
          turn = reported (turn_of result) leaves.turn;
          memory = λ full. ap has_message (sym (turn_is was has.journalled number)) ∙ leaves.memory full;
          state = state;
        };
      })

  turn_now : (turn : HandOut) → turn_of result ≡ Some turn → turn ≡ turn_at p.directory p.searches number
  turn_now turn is = subst (λ t. IfSome t (λ x. x ≡ turn_at p.directory p.searches number)) is leaves.turn

  left_by : (t : Option HandOut) → turn_of result ≡ t → new ≡ record p { searches = after_a_turn p.directory p.searches number t }
  left_by t is = leaves.state ∙ ap (λ x. record p { searches = after_a_turn p.directory p.searches number x }) is

  -- nothing
  pub quiet_seen : is_quiet (turn_of result) ≡ true → IsAnswered new j (HandOutReplies (port_state old) number result)
  quiet_seen quiet =
      answered j (subst (λ s. HasJournal s j) (sym same) has)
      (ap (λ s. port_state (with_journal s j)) same ∙ sym (quiet_port (port_state was) number (followed_in was number) (turn_of result) quiet))
    where
      same : new ≡ p
      same = leaves.state ∙ ap (λ es. record p { searches = es }) (quiet_searches p.directory p.searches number (turn_of result) quiet)

  -- a message after which the search goes on
  module _ (whole : MessageValue) (is : turn_of result ≡ Some (Hands whole)) (after : JournalState) (noted : IsCounted j number after) where
    message_by : (found : Option SearchState) → search_at p.searches number ≡ found → Hands whole ≡ turn_of_found p.directory found → new ≡ record p { searches = handed_on p.directory p.searches number found }
        → IsPort (with_journal new after) (after_turn_in (port_state was) number (option_map (followed_as number (handed_at j.handed number)) found) (Some (Hands whole)))
    message_by None found turn left = absurd (never turn)
      where
        never : Hands whole ≡ Unknown → ⊥
        never e = cc
    message_by (Some s) found turn left =
        let first : HandsFirst (pending p.directory s) = hands_first s.id (pending p.directory s) whole turn in
        let made : with_journal new after ≡ record { state = record p { searches = put_on p.searches number (advanced p.directory s) }; events = j.events; handed = after.handed } =
        (λ i. record { state = left i; events = noted.events i; handed = after.handed }) in
        subst (λ v. IsPort v (after_turn_in (port_state was) number (Some (followed_as number (handed_at j.handed number) s)) (Some (Hands whole)))) (sym made)
        (message_goes was has.journalled number s found first.first first.rest first.is first.goes after.handed noted.own noted.others)

    on : new ≡ record p { searches = handed_on p.directory p.searches number (search_at p.searches number) }
    on = left_by (Some (Hands whole)) is

    -- a message is the reply that is due there
    pub message_seen : IsAnswered new after (HandOutReplies (port_state old) number result)
    message_seen =
        let goes : IsPort (with_journal new after) (after_turn_in (port_state was) number (followed_in was number) (Some (Hands whole))) =
        message_by (search_at p.searches number) refl (turn_now (Hands whole) is) on in
        let many : length new.searches ≡ length p.searches = ap (λ s. length s.searches) on ∙ moved_length p.directory p.searches number (search_at p.searches number) in
        answered after (record { journalled = goes.journalled; room = omega (arith, many, has.room, noted.spare) })
        (goes.port ∙ ap (after_turn_in (port_state was) number (followed_in was number)) (sym is))

  -- the end
  module _ (code : ℤ) (whole : MessageValue) (is : turn_of result ≡ Some (Closes code whole)) (gone : is_closing (turn_of result) ≡ true → search_at new.searches number ≡ None)
      (count h : ℕ) (over : Option ℕ) (same : h ≡ handed_at j.handed number) (overflow : over ≡ cond (over_of (search_at p.searches number)) (Some h) None)
      (counted : count ≡ length new.directory.writes) (after : JournalState) (noted : IsEnded j count (record { number = number; handed = h + 1; over = over }) after) where
    end_by : (found : Option SearchState) → search_at p.searches number ≡ found → Closes code whole ≡ turn_of_found p.directory found → over ≡ cond (over_of found) (Some h) None
        → HasJournal new after
        × (port_state (with_journal new after) ≡ after_turn_in (port_state was) number (option_map (followed_as number (handed_at j.handed number)) found) (Some (Closes code whole)))
    end_by None found turn over_is = absurd (never turn)
      where
        never : Closes code whole ≡ Unknown → ⊥
        never e = cc
    end_by (Some s) found turn over_is =
        let all : h + 1 ≡ handed_at j.handed number + 1 = ap (λ n. n + 1) same in
        let left : new ≡ dropped p number = left_by (Some (Closes code whole)) is in
        let nothing : search_at new.searches number ≡ None = gone (ap is_closing is) in (
          ended_kept p j has number count new after left nothing counted s found (h + 1) (handed_at j.handed number + 1) all h over same over_is noted,
          (ended_port p j has number count new after left nothing counted s found (h + 1) (handed_at j.handed number + 1) all h over same over_is noted).port,
        )

    -- so is the end of a search
    pub end_seen : IsAnswered new after (HandOutReplies (port_state old) number result)
    end_seen =
        let both = end_by (search_at p.searches number) refl (turn_now (Closes code whole) is) overflow in
        answered after both.0 (both.1 ∙ ap (after_turn_in (port_state was) number (followed_in was number)) (sym is))

-- ---- a drop

module _ (old : JournalledProvider) (p : ProviderState) (j : JournalState) (seen : with_journal p j ≡ old) (has : HasJournal p j) (number : ℕ) (new : ProviderState) where
  abbrev before : JournalledProvider
  before = with_journal p j

  -- where no search was open
  pub undropped_seen : DropLeaves p number false new → IsAnswered new j (DropReplies (port_state old) number false)
  undropped_seen leaves =
      subst (λ v. IsAnswered new j (DropReplies (port_state v) number false)) seen
      (record {
        kept = subst (λ s. HasJournal s j) (sym same) has;
        replies = record {
          was_open = leaves.was_open ∙ sym (some_map (followed_as number (handed_at j.handed number)) (search_at p.searches number));
          state = ap (λ s. port_state (with_journal s j)) same ∙ port_by (search_at p.searches number) (sym leaves.was_open);
        };
      })
    where
      same : new ≡ p
      same = leaves.state ∙ ap (λ es. record p { searches = es }) (closed_none p.searches number (none_from_false (search_at p.searches number) (sym leaves.was_open)))

      port_by : (found : Option SearchState) → is_some found ≡ false
          → port_state before ≡ dropped_in (port_state before) number (option_map (followed_as number (handed_at j.handed number)) found)
      port_by None none = refl
      port_by (Some s) none = absurd (true≢false none)

  -- where one was
  pub dropped_seen : DropLeaves p number true new → search_at new.searches number ≡ None → (count h : ℕ) (over : Option ℕ) → h ≡ handed_at j.handed number
      → over ≡ cond (over_of (search_at p.searches number)) (Some h) None → count ≡ length new.directory.writes
      → (after : JournalState) → IsEnded j count (record { number = number; handed = h; over = over }) after → IsAnswered new after (DropReplies (port_state old) number true)
  dropped_seen leaves gone count h over same overflow counted after noted =
      subst (λ v. IsAnswered new after (DropReplies (port_state v) number true)) seen
      (record {
        kept = both.0;
        replies = record {
          was_open = leaves.was_open ∙ sym (some_map (followed_as number (handed_at j.handed number)) (search_at p.searches number));
          state = both.1;
        };
      })
    where
      by : (found : Option SearchState) → search_at p.searches number ≡ found → true ≡ is_some found → over ≡ cond (over_of found) (Some h) None
          → HasJournal new after
          × (port_state (with_journal new after) ≡ dropped_in (port_state before) number (option_map (followed_as number (handed_at j.handed number)) found))
      by None found there over_is = absurd (true≢false there)
      by (Some s) found there over_is = (
        ended_kept p j has number count new after leaves.state gone counted s found h (handed_at j.handed number) same h over same over_is noted,
        (ended_port p j has number count new after leaves.state gone counted s found h (handed_at j.handed number) same h over same over_is noted).port,
      )

      both : HasJournal new after × (port_state (with_journal new after) ≡ dropped_in (port_state before) number (followed_in before number))
      both = by (search_at p.searches number) refl leaves.was_open overflow
