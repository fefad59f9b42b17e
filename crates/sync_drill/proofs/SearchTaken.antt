-- What a copy is that took what one search of a directory sent: all of it, or some of it and the end with busy.
use Rattle.std.proofs.Common.{◌≡◌, ◌≤◌, ◌+◌, ◌-◌, ℕ, true, cond, List, [], ◌∷◌, ◌++◌, length, take, None, refl, ap, sym, ◌∙◌, subst, arith, append-nil}
use Rattle.std.specs.List.{AllZip}
use Rattle.std.specs.Prelude.{All}
use Rattle.csn_cookie.specs.Cookie.{cookie_text}
use Rattle.csn_cookie.specs.Csn.{start}
use Rattle.csn_cookie.specs.declared.cookie.Cookie as csns
use Rattle.entry_tree.specs.Selection.{select}
use Rattle.ldap_messages.specs.declared.message.Message.{Message}
use Rattle.sync_model.specs.Copy.{Copy, asked}
use Rattle.sync_model.specs.Law.{Ascending, IsCut, IsWithinLimits, MayBegin}
use Rattle.sync_model.specs.Message.{SyncMessage}
use Rattle.sync_model.specs.Stream.{SyncOperation, RefreshPiece, content_after, last_mark, refresh, later}
use Rattle.sync_model.specs.Stream.Start.{InitialContent}
use Rattle.sync_model.proofs.Histories.{ascends-state_of}
use Rattle.sync_model.proofs.NextMessages.{HasNext}
use Rattle.sync_slices.specs.Slices.{all_pieces}
use Rattle.directory_laws.specs.Accepted.{WereAccepted}
use Rattle.directory_laws.specs.Law.{most_identities}
use Rattle.directory_laws.proofs.Histories.{sent-state_of}
use Rattle.directory_laws.proofs.States.{IsWithinLimits-state_of}
use Rattle.directory_writes.specs.Directory.{DirectoryState, entries_of, cookie_at, last_csn}
use Rattle.directory_writes.proofs.Writes.{state_now}
use Rattle.sync_wire.specs.CanBeSent.{CanBeSent}
use Rattle.sync_consumer.specs.Taking.{taken_of}
use Rattle.sync_provider.specs.Opened.{SearchOpening, sliced_of}
use Rattle.sync_provider.specs.Search.{busy_end}
use Rattle.sync_provider.proofs.RefreshTaken.{refresh_some}
use Rattle.sync_drill.specs.Delivered.{opened_operation, stream_at, WasTaken, WereTaken, with_search, after_message, copy_after}
use Rattle.sync_drill.specs.Handing.{IsSoFar}
use Rattle.sync_drill.proofs.Parted.{IsParted, parted}
use Rattle.sync_drill.proofs.StreamTaken.{IsReadOf, IsAtRest, Reaches, begins, some_taken, all_held, busy_taken}
use Rattle.sync_drill.proofs.Streams.{far_cut, far_last}

-- ---- some messages and more

-- what a copy is after some messages and more
pub after-append : (first second : List Message) (copy : Copy) → copy_after copy (first ++ second) ≡ copy_after (copy_after copy first) second
after-append [] second copy = refl
after-append (message ∷ first) second copy = after-append first second (after_message copy message)

-- where all were taken, so were the first and the second
pub fit-split : (first second : List Message) (copy : Copy) → WereTaken copy (first ++ second) → WereTaken copy first × WereTaken (copy_after copy first) second
fit-split [] second copy fit = (tt, fit)
fit-split (message ∷ first) second copy fit = let rest = fit-split first second (after_message copy message) fit.1 in ((fit.0, rest.0), rest.1)

-- ---- the first message

-- a copy without a search asks for one before it takes the first message
asks : (copy : Copy) → copy.session ≡ None → with_search copy.session copy ≡ asked 1 true copy
asks copy none = ap (λ session. with_search session copy) none

begun : (copy : Copy) (m : SyncMessage) (more : List SyncMessage) (messages : List Message) → copy.session ≡ None → AllZip IsReadOf (m ∷ more) messages
    → copy_after copy messages ≡ copy_after (asked 1 true copy) messages
begun copy m more [] none each = absurd each
begun copy m more (message ∷ messages) none each = ap (λ (c : Copy). copy_after (taken_of c message).0 messages) (asks copy none)

begun_fits : (copy : Copy) (messages : List Message) → copy.session ≡ None → WereTaken copy messages → WereTaken (asked 1 true copy) messages
begun_fits copy [] none fit = tt
begun_fits copy (message ∷ messages) none fit =
    subst (λ (c : Copy). WasTaken (taken_of c message).1 × WereTaken (taken_of c message).0 messages) (asks copy none) fit

begun_after : (copy : Copy) (now : List SyncMessage) (m : SyncMessage) (messages : List Message) → copy.session ≡ None → AllZip IsReadOf (now ++ m ∷ []) messages
    → copy_after copy messages ≡ copy_after (asked 1 true copy) messages
begun_after copy [] m messages none each = begun copy m [] messages none each
begun_after copy (x ∷ now) m messages none each = begun copy x (now ++ m ∷ []) messages none each

-- ---- a search of a directory

-- it was opened without a cookie, goes on after its refresh, and its directory's writes were accepted from clients
module _ (d : DirectoryState) (accepted : WereAccepted d.suffix d.history d.writes) (few : length d.writes ≤ most_identities)
    (opening : SearchOpening) (initial : opening.start ≡ InitialContent) (goes : opening.persists ≡ true) (marks : List ℕ) (handed : List SyncMessage) (far : IsSoFar d opening marks handed) where
  abbrev operation : SyncOperation
  operation = opened_operation d opening

  -- its pieces, the last of which is decided now where some of its walk was left
  abbrev pieces : List RefreshPiece
  pieces = all_pieces (sliced_of d opening) marks (length d.writes)

  abbrev count : ℕ
  count = length d.writes - last_mark opening.accepted pieces

  within : (number : ℕ) → IsWithinLimits (operation.states number)
  within number = IsWithinLimits-state_of d.suffix d.history d.writes accepted few number

  sent : (number : ℕ) → All CanBeSent (operation.states number)
  sent number = sent-state_of d.suffix d.history d.writes number accepted

  texts : (number : ℕ) → (cookie : csns.Cookie) × (operation.cookies number ≡ cookie_text cookie)
  texts number = (cookie_at d.sid d.history (last_csn (start d.sid) (take number d.writes)), refl)

  ascending : Ascending operation
  ascending number = ascends-state_of d.history d.writes number

  cut : IsCut operation opening.start opening.accepted pieces
  cut = far_cut d opening marks handed far

  -- from the first message on
  reached : (copy : Copy) → IsAtRest copy → (now rest : List SyncMessage) → now ++ rest ≡ stream_at d opening marks → (messages : List Message) → AllZip IsReadOf now messages → WereTaken (asked 1 true copy) messages
      → Reaches operation ascending within sent texts opening.start opening.accepted pieces cut count goes (copy_after (asked 1 true copy) messages) now rest
  reached copy rests now rest same messages each fit =
      some_taken operation ascending within sent texts opening.start opening.accepted pieces cut count goes now rest [] messages (asked 1 true copy) each fit
      (subst (Reaches operation ascending within sent texts opening.start opening.accepted pieces cut count goes (asked 1 true copy) []) (sym same)
      (begins operation ascending within sent texts opening.start opening.accepted pieces cut count goes copy
      (subst (λ first. MayBegin operation first opening.accepted copy.held) (sym initial) rests.rises) rests.rises))

  -- after some of its messages and the end with busy a copy has no search
  pub ended_taken : (copy : Copy) → IsAtRest copy → (now rest : List SyncMessage) → now ++ rest ≡ stream_at d opening marks → (messages : List Message)
      → AllZip IsReadOf (now ++ busy_end ∷ []) messages → WereTaken copy messages → IsAtRest (copy_after copy messages)
  ended_taken copy rests now rest same messages each fit =
      subst IsAtRest (sym (begun_after copy now busy_end messages rests.none each ∙ ap (copy_after (asked 1 true copy)) parts.is ∙ after-append parts.first parts.second (asked 1 true copy)))
      (ends parts.second parts.ends)
    where
      parts : IsParted IsReadOf now (busy_end ∷ []) messages
      parts = parted IsReadOf now (busy_end ∷ []) messages each

      fits : WereTaken (asked 1 true copy) parts.first
      fits = (fit-split parts.first parts.second (asked 1 true copy) (subst (WereTaken (asked 1 true copy)) parts.is (begun_fits copy messages rests.none fit))).0

      at : Reaches operation ascending within sent texts opening.start opening.accepted pieces cut count goes (copy_after (asked 1 true copy) parts.first) now rest
      at = reached copy rests now rest same parts.first parts.begins fits

      ends : (second : List Message) → AllZip IsReadOf (busy_end ∷ []) second → IsAtRest (copy_after (copy_after (asked 1 true copy) parts.first) second)
      ends [] each = absurd each
      ends (message ∷ []) each = busy_taken operation ascending within sent texts opening.start opening.accepted pieces cut count goes (copy_after (asked 1 true copy) parts.first) now rest message at each.0
      ends (message ∷ other ∷ more) each = absurd each.1

  -- after all its messages a copy has what is selected after all writes
  pub whole_taken : (copy : Copy) → IsAtRest copy → (messages : List Message) → AllZip IsReadOf (stream_at d opening marks) messages → WereTaken copy messages
      → (copy_after copy messages).held ≡ select opening.spec (entries_of d)
  whole_taken copy rests messages each fit =
      let all : last_mark opening.accepted pieces + (length d.writes - last_mark opening.accepted pieces) ≡ length d.writes = omega (arith, far_last d opening marks handed far) in
      ap (λ (c : Copy). c.held) first
      ∙ all_held operation ascending within sent texts opening.start opening.accepted pieces cut count goes (copy_after (asked 1 true copy) messages) (stream_at d opening marks)
      (reached copy rests (stream_at d opening marks) [] (append-nil (stream_at d opening marks)) messages each (begun_fits copy messages rests.none fit))
      ∙ ap (content_after operation) all
      ∙ ap (select opening.spec) (state_now d d.writes [] (append-nil d.writes))
    where
      some : HasNext (refresh operation opening.start opening.accepted pieces)
      some = refresh_some operation opening.start opening.accepted pieces

      later' : List SyncMessage
      later' = cond operation.persists (later operation (last_mark opening.accepted pieces) count) []

      shown : stream_at d opening marks ≡ some.next ∷ (some.later ++ later')
      shown = ap (λ ms. ms ++ later') some.same

      first : copy_after copy messages ≡ copy_after (asked 1 true copy) messages
      first = begun copy some.next (some.later ++ later') messages rests.none (subst (λ ms. AllZip IsReadOf ms messages) shown each)
