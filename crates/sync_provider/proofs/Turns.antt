-- What is pending of a search, and the open searches after a turn.
use Rattle.std.proofs.Common.{◌≡◌, ℕ, Bool, true, false, cond, List, [], ◌∷◌, ◌++◌, length, drop, Option, Some, None, refl, ap, sym, ◌∙◌}
use Rattle.std.specs.Prelude.{pos, slice_get, not, ◌&&◌}
use Rattle.std.specs.BTreeMap.{insert_entry, is_at}
use Rattle.std.specs.Ordering.{nat_cmp}
use Rattle.std.proofs.lemmas.Bool.{false≢true, true≢false}
use Rattle.std.proofs.lemmas.Map.Steps.{set_value_same}
use Rattle.ldap_constants.specs.declared.result_codes.TheConstants.{BUSY, SUCCESS}
use Rattle.sync_model.specs.Law.{is_nil}
use Rattle.sync_model.specs.Message.{CookieText, SyncMessage}
use Rattle.sync_model.specs.Message.SyncMessage.{AddOrModify, Delete, Present, IdSet, NewCookie, RefreshDelete, RefreshPresent, Done, Ignored}
use Rattle.sync_model.specs.Stream.{end_of}
use Rattle.ldap_messages.specs.Whole.{MessageValue}
use Rattle.sync_wire.specs.Sending.{sent}
use Rattle.sync_slices.specs.Slices.{SliceProgress, coming_by, ready_from, made_ready, without_first}
use Rattle.sync_slices.proofs.Deciding.{ready_pending}
use Rattle.directory_writes.specs.Directory.{DirectoryState}
use Rattle.directory_writes.proofs.Keyed.{kept_at, closed_at, put_on}
use Rattle.sync_provider.specs.HandingOut.{HandOut, ended_or_on, turn_of_message, turn_of_pending, turn_at, has_message, search_at, is_closing, is_going_on, after_own_turn, handed_on, after_a_turn}
use Rattle.sync_provider.specs.HandingOut.HandOut.{Hands, Closes, Waits, Unknown}
use Rattle.sync_provider.specs.RefreshEnds.{IsEndOf}
use Rattle.sync_provider.specs.Search.{SearchState, sliced, busy_end, pending, advanced, is_end}
use Rattle.sync_provider.specs.Staging.{HeldSearch, searches_of}
use Rattle.sync_provider.proofs.Kept.{hands}
use Rattle.sync_provider.proofs.Pieces.{made_due, made_some, made_there, ready_by}
use Rattle.sync_provider.proofs.Places.{positive}
use Rattle.sync_provider.proofs.SearchNotified.{pending_open, pending_over}
use Rattle.sync_provider.proofs.Held.{search_found, turn_found, held_closed, held_put}

-- ---- the turn of a message

-- the end of a refresh ends its search, or is a message after which it goes on
end_turns : (persists deletes : Bool) (cookie : CookieText) (id : ℕ) → turn_of_message id (end_of persists deletes cookie) ≡ ended_or_on (not persists) id (end_of persists deletes cookie)
end_turns true true cookie id = refl
end_turns true false cookie id = refl
end_turns false deletes cookie id = refl

-- the end of a refresh closes its search exactly where that does not go on
pub end_closes : (closes : Bool) (message : SyncMessage) (id : ℕ) → IsEndOf (not closes) message → turn_of_message id message ≡ ended_or_on closes id message
end_closes closes message id is =
    ap (turn_of_message id) is.is
    ∙ end_turns (not closes) is.deletes is.cookie id
    ∙ ap (λ b. ended_or_on b id (end_of (not closes) is.deletes is.cookie)) (twice closes)
    ∙ ap (ended_or_on closes id) (sym is.is)
  where
    twice : (b : Bool) → not (not b) ≡ b
    twice true = refl
    twice false = refl

-- ---- the turn of the first message

-- there is none
pub first_waits : (id : ℕ) (ms : List SyncMessage) → None ≡ slice_get ms 0 → Waits ≡ turn_of_pending id ms
first_waits id [] is = refl
first_waits id (m ∷ ms) is = absurd (cc)

-- there is one
pub first_some : (ms : List SyncMessage) (m : SyncMessage) → Some m ≡ slice_get ms 0 → is_nil ms ≡ false
first_some [] m is = absurd (cc)
first_some (x ∷ ms) m is = refl

first_turn : (id : ℕ) (ms : List SyncMessage) (m : SyncMessage) → Some m ≡ slice_get ms 0 → turn_of_message id m ≡ turn_of_pending id ms
first_turn id [] m is = absurd (cc)
first_turn id (x ∷ ms) m is = ap (turn_of_message id) same
  where
    same : m ≡ x
    same = cc

-- it ends its search, or not
pub first_ends : (id : ℕ) (ms : List SyncMessage) (m : SyncMessage) (closes : Bool) (value : MessageValue) → Some m ≡ slice_get ms 0 → turn_of_message id m ≡ ended_or_on closes id m → value ≡ sent id m → closes ≡ true
    → Closes (pos SUCCESS) value ≡ turn_of_pending id ms
first_ends id ms m closes value is turn made on =
    ap (Closes (pos SUCCESS)) made ∙ ap (λ b. ended_or_on b id m) (sym on) ∙ sym turn ∙ first_turn id ms m is

-- a first message that closes nothing is handed out, and the search goes on
pub first_goes : (id : ℕ) (ms : List SyncMessage) (m : SyncMessage) (closes : Bool) (value : MessageValue) → Some m ≡ slice_get ms 0 → turn_of_message id m ≡ ended_or_on closes id m → value ≡ sent id m → closes ≡ false
    → Hands value ≡ turn_of_pending id ms
first_goes id ms m closes value is turn made off =
    ap Hands made ∙ ap (λ b. ended_or_on b id m) (sym off) ∙ sym turn ∙ first_turn id ms m is

-- ---- what is pending

-- what is pending of a search whose pieces are all decided, by what is left of its refresh
pub pending_settled : (d : DirectoryState) (s : SearchState) (rest : List SyncMessage) → s.over ≡ false → s.progress.left ≡ [] → s.progress.rest ≡ rest → pending d s ≡ rest ++ s.progress.due
pending_settled d s rest off none is = λ i. cond (off i) (busy_end ∷ []) (is i ++ (coming_by (none i) (sliced d s) (length d.writes) s.progress ++ s.progress.due))

-- the same search without its first message
pub advanced_settled : (d : DirectoryState) (s : SearchState) → s.progress.left ≡ [] → advanced d s ≡ record s { progress = without_first s.progress s.progress.rest s.progress.due }
advanced_settled d s none =
    ap (λ (now : SliceProgress). record s { progress = without_first now now.rest now.due })
    (ap (λ us. ready_from (length us) (sliced d s) (length d.writes) s.progress) none)

abbrev turn_now : DirectoryState → SearchState → HandOut
turn_now d s = turn_of_pending s.id (pending d s)

-- one that is over hands out the end with busy
pub over_turn : (d : DirectoryState) (s : SearchState) → s.over ≡ true → turn_of_pending s.id (pending d s) ≡ Closes (pos BUSY) (sent s.id (Done (pos BUSY) None))
over_turn d s on = ap (turn_of_pending s.id) (pending_over d s on)

turn_of_rest : (d : DirectoryState) (s : SearchState) (rest : List SyncMessage) → s.over ≡ false → s.progress.left ≡ [] → s.progress.rest ≡ rest → turn_now d s ≡ turn_of_pending s.id (rest ++ s.progress.due)
turn_of_rest d s rest off settled is = ap (turn_of_pending s.id) (pending_settled d s rest off settled is)

-- ---- in a refresh

-- where a message of it is there, that one is the first
pub rest_turn : (d : DirectoryState) (s : SearchState) → s.over ≡ false → is_nil s.progress.rest ≡ false → turn_of_pending s.id (pending d s) ≡ turn_of_pending s.id s.progress.rest
rest_turn d s off some = ap (turn_of_pending s.id) (pending_open d s off) ∙ by s.progress.rest some
  where
    beyond : List SyncMessage
    beyond = coming_by s.progress.left (sliced d s) (length d.writes) s.progress ++ s.progress.due

    by : (rest : List SyncMessage) → is_nil rest ≡ false → turn_of_pending s.id (rest ++ beyond) ≡ turn_of_pending s.id rest
    by [] some = absurd (true≢false some)
    by (m ∷ rest) some = refl

-- which is not left then
pub rest_state : (d : DirectoryState) (s : SearchState) → is_nil s.progress.rest ≡ false → advanced d s ≡ record s { progress = record s.progress { rest = drop 1 s.progress.rest } }
rest_state d s some =
    ap (λ (now : SliceProgress). record s { progress = without_first now now.rest now.due }) (made_there (sliced d s) (length d.writes) s.progress (ready_by s.progress here))
    ∙ by s.progress.rest some
  where
    here : (is_nil s.progress.rest && not (is_nil s.progress.left)) ≡ false
    here = ap (λ b. b && not (is_nil s.progress.left)) some

    by : (rest : List SyncMessage) → is_nil rest ≡ false → record s { progress = without_first s.progress rest s.progress.due } ≡ record s { progress = record s.progress { rest = drop 1 rest } }
    by [] some = absurd (true≢false some)
    by (m ∷ rest) some = refl

-- ---- where pieces have to be decided

-- the search with these decided
abbrev pub readied : DirectoryState → SearchState → SearchState
readied d s = record s { progress = made_ready (sliced d s) (length d.writes) s.progress }

-- what is due stays beside it
pub made_beside : (d : DirectoryState) (s : SearchState) (was ready : SliceProgress) (due : List SyncMessage) → s.progress ≡ record was { due = due } → ready ≡ made_ready (sliced d s) (length d.writes) was
    → record ready { due = due } ≡ (readied d s).progress
made_beside d s was ready due is made =
    ap (λ (p : SliceProgress). record p { due = due }) made
    ∙ sym (made_due (sliced d s) (length d.writes) was due)
    ∙ ap (made_ready (sliced d s) (length d.writes)) (sym is)

-- it has a message of its refresh
pub readied_some : (d : DirectoryState) (s : SearchState) → is_nil s.progress.left ≡ false → is_nil (readied d s).progress.rest ≡ false
readied_some d s waits = made_some (sliced d s) (length d.writes) (positive d s) s.progress waits

-- and the same pending
readied_pending : (d : DirectoryState) (s : SearchState) → s.over ≡ false → pending d (readied d s) ≡ pending d s
readied_pending d s off =
    pending_open d (readied d s) off ∙ ready_pending (sliced d s) (length s.progress.left) (length d.writes) s.progress ∙ sym (pending_open d s off)

-- its first message is that of what it has
pub readied_turn : (d : DirectoryState) (s : SearchState) → s.over ≡ false → is_nil s.progress.left ≡ false → turn_of_pending s.id (readied d s).progress.rest ≡ turn_of_pending s.id (pending d s)
readied_turn d s off waits = sym (rest_turn d (readied d s) off (readied_some d s waits)) ∙ ap (turn_of_pending s.id) (readied_pending d s off)

-- without which it is as it is after its turn
pub readied_state : (d : DirectoryState) (s : SearchState) → is_nil s.progress.left ≡ false
    → record s { progress = record (readied d s).progress { rest = drop 1 (readied d s).progress.rest } } ≡ advanced d s
readied_state d s waits = by (readied d s).progress.rest refl (readied_some d s waits)
  where
    ready : SliceProgress
    ready = (readied d s).progress

    by : (rest : List SyncMessage) → ready.rest ≡ rest → is_nil rest ≡ false → record s { progress = record ready { rest = drop 1 rest } } ≡ record s { progress = without_first ready rest ready.due }
    by [] is some = absurd (true≢false some)
    by (m ∷ rest) is some = refl

-- the first message of the pieces that are decided aside is the one that is pending first
pub next_turn : (d : DirectoryState) (s : SearchState) (ready : SliceProgress) (due : List SyncMessage) → s.over ≡ false → is_nil s.progress.left ≡ false
    → record ready { due = due } ≡ (readied d s).progress → turn_of_pending s.id ready.rest ≡ turn_of_pending s.id (pending d s)
next_turn d s ready due off waits made = ap (λ (p : SliceProgress). turn_of_pending s.id p.rest) made ∙ readied_turn d s off waits

-- ---- the search after its turn

-- it stays where nothing is handed out after which it goes on
pub stays_after : (d : DirectoryState) (s : SearchState) (turn : Option HandOut) → is_going_on turn ≡ false → s ≡ after_own_turn d s turn
stays_after d s None off = refl
stays_after d s (Some (Hands message)) off = absurd (true≢false off)
stays_after d s (Some (Closes code message)) off = refl
stays_after d s (Some Waits) off = refl
stays_after d s (Some Unknown) off = refl

goes_after : (d : DirectoryState) (s : SearchState) (turn : Option HandOut) → is_going_on turn ≡ true → advanced d s ≡ after_own_turn d s turn
goes_after d s None on = absurd (false≢true on)
goes_after d s (Some (Hands message)) on = refl
goes_after d s (Some (Closes code message)) on = absurd (false≢true on)
goes_after d s (Some Waits) on = absurd (false≢true on)
goes_after d s (Some Unknown) on = absurd (false≢true on)

-- where a message of its refresh was there
pub handed_after : (d : DirectoryState) (s : SearchState) (was now : SliceProgress) (due : List SyncMessage) (turn : Option HandOut) → s.progress ≡ record was { due = due } → is_nil s.progress.rest ≡ false
    → now ≡ cond (is_going_on turn) (record was { rest = drop 1 was.rest }) was → record s { progress = record now { due = due } } ≡ after_own_turn d s turn
handed_after d s was now due turn is some then = by (is_going_on turn) refl
  where
    progress : Bool → SliceProgress
    progress b = cond b (record was { rest = drop 1 was.rest }) was

    by : (b : Bool) → is_going_on turn ≡ b → record s { progress = record now { due = due } } ≡ after_own_turn d s turn
    by true on =
        ap (λ (p : SliceProgress). record s { progress = record p { due = due } }) (then ∙ ap progress on)
        ∙ ap (λ (p : SliceProgress). record s { progress = record p { rest = drop 1 p.rest } }) (sym is)
        ∙ sym (rest_state d s some)
        ∙ goes_after d s turn on
    by false off =
        ap (λ (p : SliceProgress). record s { progress = record p { due = due } }) (then ∙ ap progress off)
        ∙ ap (λ (p : SliceProgress). record s { progress = p }) (sym is)
        ∙ stays_after d s turn off

-- where pieces were decided for it
pub next_after : (d : DirectoryState) (s : SearchState) (ready now : SliceProgress) (due : List SyncMessage) (turn : Option HandOut) → is_nil s.progress.left ≡ false
    → record ready { due = due } ≡ (readied d s).progress → now ≡ cond (is_going_on turn) (record ready { rest = drop 1 ready.rest }) ready → is_going_on turn ≡ true
    → record s { progress = record now { due = due } } ≡ after_own_turn d s turn
next_after d s ready now due turn waits made then on =
    ap (λ (p : SliceProgress). record s { progress = record p { due = due } }) (then ∙ ap (λ b. cond b (record ready { rest = drop 1 ready.rest }) ready) on)
    ∙ ap (λ (p : SliceProgress). record s { progress = record p { rest = drop 1 p.rest } }) made
    ∙ readied_state d s waits
    ∙ goes_after d s turn on

-- ---- after a refresh

-- the first message of later writes, once the refresh is handed out
pub later_turn : (d : DirectoryState) (s : SearchState) (m : SyncMessage) → s.over ≡ false → s.progress.left ≡ [] → s.progress.rest ≡ [] → slice_get s.progress.due 0 ≡ Some m → is_end m ≡ false → turn_of_pending s.id (pending d s) ≡ Hands (sent s.id m)
later_turn d s m off settled none first goes = turn_of_rest d s [] off settled none ∙ by s.progress.due refl
  where
    same : (x : SyncMessage) → Some x ≡ Some m → x ≡ m
    same x e = cc

    never : None ≡ Some m → ⊥
    never e = cc

    by : (due : List SyncMessage) → s.progress.due ≡ due → turn_of_pending s.id due ≡ Hands (sent s.id m)
    by [] is = absurd (never (sym (ap (λ l. slice_get l 0) is) ∙ first))
    by (x ∷ due) is = ap (turn_of_message s.id) (same x (sym (ap (λ l. slice_get l 0) is) ∙ first)) ∙ hands s.id m goes

-- after the refresh the first message of the later writes
pub later_state : (d : DirectoryState) (s : SearchState) (m : SyncMessage) (due : List SyncMessage) → s.progress.left ≡ [] → s.progress.rest ≡ [] → s.progress.due ≡ m ∷ due → advanced d s ≡ record s { progress = record s.progress { due = due } }
later_state d s m due settled none is = advanced_settled d s settled ∙ (λ i. record s { progress = without_first s.progress (none i) (is i) })

-- and nothing, where none is pending
pub none_turn : (d : DirectoryState) (s : SearchState) → s.over ≡ false → s.progress.left ≡ [] → s.progress.rest ≡ [] → slice_get s.progress.due 0 ≡ None → turn_of_pending s.id (pending d s) ≡ Waits
none_turn d s off settled none first = turn_of_rest d s [] off settled none ∙ by s.progress.due refl
  where
    never : (x : SyncMessage) → Some x ≡ None → ⊥
    never x e = cc

    by : (due : List SyncMessage) → s.progress.due ≡ due → turn_of_pending s.id due ≡ Waits
    by [] is = refl
    by (x ∷ due) is = absurd (never x (sym (ap (λ l. slice_get l 0) is) ∙ first))

-- ---- where a message is pending there is one to write

-- of each message
pub message_there : (id : ℕ) (m : SyncMessage) → has_message (turn_of_message id m) ≡ true
message_there id (AddOrModify adds entry cookie) = refl
message_there id (Delete uuid name cookie) = refl
message_there id (Present uuid cookie) = refl
message_there id (IdSet deletes uuids cookie) = refl
message_there id (NewCookie cookie) = refl
message_there id (RefreshDelete done cookie) = refl
message_there id (RefreshPresent done cookie) = refl
message_there id (Done code control) = refl
message_there id Ignored = refl

-- of a search that is over
pub over_has_message : (d : DirectoryState) (s : SearchState) → s.over ≡ true → has_message (turn_of_pending s.id (pending d s)) ≡ true
over_has_message d s on = ap has_message (over_turn d s on)

-- of what is pending where something is
pub some_has_message : (id : ℕ) (ms : List SyncMessage) → is_nil ms ≡ false → has_message (turn_of_pending id ms) ≡ true
some_has_message id [] some = absurd (true≢false some)
some_has_message id (m ∷ ms) some = message_there id m

-- of a search in its refresh
pub left_has_message : (d : DirectoryState) (s : SearchState) → s.over ≡ false → is_nil s.progress.left ≡ false → has_message (turn_of_pending s.id (pending d s)) ≡ true
left_has_message d s off left = ap has_message (sym (readied_turn d s off left)) ∙ some_has_message s.id (readied d s).progress.rest (readied_some d s left)

-- and of one of whose refresh a message is decided
pub rest_has_message : (d : DirectoryState) (s : SearchState) → s.over ≡ false → is_nil s.progress.rest ≡ false → has_message (turn_of_pending s.id (pending d s)) ≡ true
rest_has_message d s off some = ap has_message (rest_turn d s off some) ∙ some_has_message s.id s.progress.rest some

-- a turn without a message is one of nothing pending
pub nothing_there : (id : ℕ) (ms : List SyncMessage) → Waits ≡ turn_of_pending id ms → ms ≡ []
nothing_there id [] waits = refl
nothing_there id (m ∷ ms) waits = absurd (false≢true (ap has_message waits ∙ message_there id m))

-- of later writes
pub due_has_message : (d : DirectoryState) (s : SearchState) (m : SyncMessage) → s.over ≡ false → s.progress.left ≡ [] → s.progress.rest ≡ [] → slice_get s.progress.due 0 ≡ Some m → has_message (turn_of_pending s.id (pending d s)) ≡ true
due_has_message d s m off settled none first = ap has_message (turn_of_rest d s [] off settled none) ∙ by s.progress.due refl
  where
    never : None ≡ Some m → ⊥
    never e = cc

    by : (due : List SyncMessage) → s.progress.due ≡ due → has_message (turn_of_pending s.id due) ≡ true
    by [] is = absurd (never (sym (ap (λ l. slice_get l 0) is) ∙ first))
    by (x ∷ due) is = message_there s.id x

-- of the search of a number
pub found_has_message : (d : DirectoryState) (es : List (ℕ × HeldSearch)) (k : ℕ) (held : HeldSearch) → kept_at es k ≡ Some held → has_message (turn_of_pending held.search.id (pending d held.search)) ≡ true
    → has_message (turn_at d (searches_of es) k) ≡ true
found_has_message d es k held found there = ap has_message (turn_found d es k held found) ∙ there

-- ---- the open searches after a turn

open_by : (d : DirectoryState) (es : List (ℕ × SearchState)) (k : ℕ) (s : SearchState) (turn : Option HandOut) → search_at es k ≡ Some s → is_closing turn ≡ false
    → put_on es k (after_own_turn d s turn) ≡ after_a_turn d es k turn
open_by d es k s None found h = set_value_same (is_at (nat_cmp k)) es s found
open_by d es k s (Some (Hands message)) found h = sym (ap (handed_on d es k) found)
open_by d es k s (Some (Closes code message)) found h = absurd (true≢false h)
open_by d es k s (Some Waits) found h = set_value_same (is_at (nat_cmp k)) es s found
open_by d es k s (Some Unknown) found h = set_value_same (is_at (nat_cmp k)) es s found

-- a turn that closes a search leaves the others
pub closed_after : (d : DirectoryState) (es : List (ℕ × HeldSearch)) (k : ℕ) (turn : Option HandOut) → is_closing turn ≡ true → searches_of (closed_at es k) ≡ after_a_turn d (searches_of es) k turn
closed_after d es k (Some (Closes code message)) h = held_closed es k
closed_after d es k None h = absurd (false≢true h)
closed_after d es k (Some (Hands message)) h = absurd (false≢true h)
closed_after d es k (Some Waits) h = absurd (false≢true h)
closed_after d es k (Some Unknown) h = absurd (false≢true h)

-- a search that is taken out for its turn and put back
pub open_after : (d : DirectoryState) (es : List (ℕ × HeldSearch)) (k : ℕ) (old new : HeldSearch) (turn : Option HandOut) → kept_at es k ≡ Some old → ((held : HeldSearch) → insert_entry nat_cmp (closed_at es k) k held ≡ put_on es k held)
    → new.search ≡ after_own_turn d old.search turn → is_closing turn ≡ false → searches_of (insert_entry nat_cmp (closed_at es k) k new) ≡ after_a_turn d (searches_of es) k turn
open_after d es k old new turn found again same h =
    ap searches_of (again new) ∙ held_put es k new ∙ ap (put_on (searches_of es) k) same ∙ open_by d (searches_of es) k old.search turn (search_found es k old found) h
