-- What is sent in one piece meets no limit, where each state of the directory keeps within its limits.
use Rattle.std.proofs.Common.{◌≡◌, ℕ, zero, suc, ◌+◌, ◌-◌, Bool, true, false, cond, List, [], ◌∷◌, ◌++◌, refl, sym, ap, ◌∙◌, arith, Some, None, Option, subst}
use Rattle.std.specs.Prelude.{⊤, flat_map, is_some}
use Rattle.std.proofs.lemmas.List.{append-nil}
use Rattle.entry_tree.specs.declared.entry.Entry.{Entry}
use Rattle.entry_tree.specs.declared.touched.EntryChange.{EntryChange}
use Rattle.entry_tree.specs.Selection.{is_selected}
use Rattle.entry_tree.specs.State.{ascends, entry_at}
use Rattle.entry_tree.specs.Touched.{touched}
use Rattle.entry_tree.specs.History.{differing_over}
use Rattle.sync_model.specs.Message.{CookieText, SyncMessage}
use Rattle.sync_model.specs.Message.SyncMessage.{AddOrModify, Delete, Present, IdSet, NewCookie, RefreshDelete, RefreshPresent, Done, Ignored}
use Rattle.sync_model.specs.Stream.{SyncOperation, Start, RefreshPiece, content_after, is_delete_phase, walk, decide_piece, gathered, late_uuids, end_of, after_walk, refresh, notified_all, group, later, stream}
use Rattle.sync_model.specs.Copy.{Stage, Copy, Answer, staged, effected, asked, goes_on, taken, taken_all, answers}
use Rattle.sync_model.specs.Copy.Answer.{Staged, Stored, Copied, Over, Refused}
use Rattle.sync_model.specs.Within.{puts_entry, against, limit_fault, refused_by, taken_within, taken_all_within, answers_within}
use Rattle.sync_model.specs.Law.{Ascending, IsCut, MayBegin, settled, cookie_after, IsWithinLimits}
use Rattle.sync_model.proofs.Limits.{within_filter, nothing_against, Fits, fits-staged, fits-all_dropped, fits-none, puts_fit, no_room_needed, among_now}
use Rattle.sync_model.proofs.Steps.{over_none}
use Rattle.sync_model.proofs.Gather.{Each, IsPart, EachM, each-gathered}
use Rattle.sync_model.proofs.Taking.{refreshing, session_in, named_by, staged_by, taken-one}
use Rattle.sync_model.proofs.Refresh.{Sent, Named, ascends-content, each-pieces, known, refresh_ends}
use Rattle.sync_model.proofs.Later.{IsStep, NotifiedOne, notified_one, one_staged, one_stored, stepping, staged_all, each-touched, each-now, effected-touched, notified_between, later_ends, taken_all-append}

-- ---- messages that meet no limit

-- none of these messages meets a limit
abbrev pub AllFit : ℕ → Copy → List SyncMessage → Type 0
AllFit id copy [] = ⊤
AllFit id copy (message ∷ messages) = (limit_fault (puts_entry message) (taken id copy message).0 (taken id copy message).1 ≡ None) × AllFit id (taken id copy message).0 messages

-- what fits and what fits after it fit together
pub fit-append : (messages more : List SyncMessage) (id : ℕ) (copy : Copy) → AllFit id copy messages → AllFit id (taken_all id copy messages) more → AllFit id copy (messages ++ more)
fit-append [] more id copy one other = other
fit-append (message ∷ messages) more id copy one other = (one.0, fit-append messages more id (taken id copy message).0 one.1 other)

-- a prefix of what fits fits
pub fit-prefix : (messages more : List SyncMessage) (id : ℕ) (copy : Copy) → AllFit id copy (messages ++ more) → AllFit id copy messages
fit-prefix [] more id copy fit = tt
fit-prefix (message ∷ messages) more id copy fit = (fit.0, fit-prefix messages more id (taken id copy message).0 fit.1)

-- they are taken as without limits
pub within_same : (messages : List SyncMessage) (id : ℕ) (copy : Copy) → AllFit id copy messages
    → (taken_all_within id copy messages ≡ taken_all id copy messages) × (answers_within id copy messages ≡ answers id copy messages)
within_same [] id copy fit = (refl, refl)
within_same (message ∷ messages) id copy fit =
    let one : taken_within id copy message ≡ taken id copy message = ap (λ fault. refused_by fault copy (taken id copy message)) fit.0 in
    let rest = within_same messages id (taken id copy message).0 fit.1 in (
      ap (λ (outcome : Copy × Answer). taken_all_within id outcome.0 messages) one ∙ rest.0,
      ap (λ (outcome : Copy × Answer). outcome.1 ∷ answers_within id outcome.0 messages) one ∙ ap (λ notified. (taken id copy message).1 ∷ notified) rest.1,
    )

-- a message that puts nothing
no_put : (after : Copy) (answer : Answer) → against after.held ≡ None → limit_fault false after answer ≡ None
no_put after Staged none = refl
no_put after (Stored commit) none = none
no_put after (Copied commit) none = none
no_put after (Over code) none = refl
no_put after (Refused fault) none = refl

-- ---- a part of a refresh

fits-staged_by : (message : SyncMessage) (deletes : Bool) (P : Entry → Type 0) (Q : ℕ → Type 0) (target : List Entry) (stage : Stage) → IsPart deletes P Q message
    → ((entry : Entry) → P entry → entry_at target entry.uuid ≡ Some entry) → Fits target stage → Fits target (staged_by stage message)
fits-staged_by (AddOrModify adds entry cookie) deletes P Q target stage part there fits = fits-staged target stage entry.uuid (Some entry) (there entry part.1) fits
fits-staged_by (IdSet true uuids cookie) deletes P Q target stage part there fits = fits-all_dropped uuids target stage fits
fits-staged_by (IdSet false uuids cookie) deletes P Q target stage part there fits = fits
fits-staged_by (Delete uuid name cookie) deletes P Q target stage part there fits = absurd part
fits-staged_by (Present uuid cookie) deletes P Q target stage part there fits = absurd part
fits-staged_by (NewCookie cookie) deletes P Q target stage part there fits = absurd part
fits-staged_by (RefreshDelete done cookie) deletes P Q target stage part there fits = absurd part
fits-staged_by (RefreshPresent done cookie) deletes P Q target stage part there fits = absurd part
fits-staged_by (Done code control) deletes P Q target stage part there fits = absurd part
fits-staged_by Ignored deletes P Q target stage part there fits = absurd part

module _ (deletes : Bool) (P : Entry → Type 0) (Q : ℕ → Type 0) (target : List Entry) (there : (entry : Entry) → P entry → entry_at target entry.uuid ≡ Some entry)
    (ascending : ascends target ≡ true) (within : IsWithinLimits target) where
  part_fits : (messages : List SyncMessage) (id : ℕ) (held : List Entry) (cookie : Option CookieText) (persists ended : Bool) (named : List ℕ) (stage : Stage)
      → EachM deletes P Q messages → (deletes ≡ false → (u : ℕ) → Q u → is_some (entry_at held u) ≡ true) → Fits target stage
      → AllFit id (refreshing id held cookie persists ended named stage) messages
  part_fits [] id held cookie persists ended named stage part has fits = tt
  part_fits (message ∷ messages) id held cookie persists ended named stage part has fits =
      let copy : Copy = refreshing id held cookie persists ended named stage in
      let more : Fits target (staged_by stage message) = fits-staged_by message deletes P Q target stage part.0 there fits in
      let one : taken id copy message ≡ goes_on copy (session_in id persists ended (named_by named message) (staged_by stage message)) =
      taken-one message deletes P Q id held cookie persists ended named stage part.0 has in (
        ap (λ (outcome : Copy × Answer). limit_fault (puts_entry message) outcome.0 outcome.1) one
            ∙ no_room_needed (puts_entry message) (staged_by stage message) None (puts_fit (staged_by stage message) target ascending within more) refl,
        subst (λ (outcome : Copy × Answer). AllFit id outcome.0 messages) (sym one)
            (part_fits messages id held cookie persists ended (named_by named message) (staged_by stage message) part.1 has more),
      )

end_puts_none : (persists deletes : Bool) (cookie : CookieText) → puts_entry (end_of persists deletes cookie) ≡ false
end_puts_none true true cookie = refl
end_puts_none true false cookie = refl
end_puts_none false deletes cookie = refl

-- the end of a refresh fits where what is held then is within the limits
pub end_fits : (persists deletes : Bool) (cookie : CookieText) (id : ℕ) (copy : Copy) → IsWithinLimits (taken_all id copy (end_of persists deletes cookie ∷ [])).held → AllFit id copy (end_of persists deletes cookie ∷ [])
end_fits persists deletes cookie id copy within =
    let outcome : Copy × Answer = taken id copy (end_of persists deletes cookie) in
    (ap (λ puts. limit_fault puts outcome.0 outcome.1) (end_puts_none persists deletes cookie) ∙ no_put outcome.0 outcome.1 (nothing_against outcome.0.held within), tt)

-- ---- a later write

module _ (target : List Entry) (ascending : ascends target ≡ true) (within : IsWithinLimits target) (new : CookieText) where
  touches_fit : (entry_changes : List EntryChange) (entry_change : EntryChange) (id : ℕ) (ended : Bool) (held : List Entry) (cookie : Option CookieText) (stage : Stage)
      → Each IsStep (entry_change ∷ entry_changes) → Each (λ (t : EntryChange). t.after ≡ entry_at target t.uuid) (entry_change ∷ entry_changes) → Fits target stage
      → effected held (staged_all stage (entry_change ∷ entry_changes)) ≡ target
      → AllFit id (stepping id ended held cookie stage) (notified_all new (entry_change ∷ entry_changes))
  touches_fit [] entry_change id ended held cookie stage steps now fits ends =
      let one : NotifiedOne (Some new) entry_change = notified_one (Some new) entry_change steps.0 in
      let copy : Copy = stepping id ended held cookie stage in
      let next : Stage = staged entry_change.uuid entry_change.after stage in
      let more : Fits target next = fits-staged target stage entry_change.uuid entry_change.after (among_now target entry_change.uuid entry_change.after now.0) fits in
      subst (AllFit id copy) (sym one.is) (
        ap (λ (outcome : Copy × Answer). limit_fault (puts_entry one.message) outcome.0 outcome.1) (one_stored entry_change new one id ended held cookie stage)
            ∙ no_room_needed (puts_entry one.message) next (against (effected held next)) (puts_fit next target ascending within more) (ap against ends ∙ nothing_against target within),
        tt,
      )
  touches_fit (other ∷ entry_changes) entry_change id ended held cookie stage steps now fits ends =
      let one : NotifiedOne None entry_change = notified_one None entry_change steps.0 in
      let copy : Copy = stepping id ended held cookie stage in
      let next : Stage = staged entry_change.uuid entry_change.after stage in
      let more : Fits target next = fits-staged target stage entry_change.uuid entry_change.after (among_now target entry_change.uuid entry_change.after now.0) fits in
      subst (λ messages. AllFit id copy (messages ++ notified_all new (other ∷ entry_changes))) (sym one.is) (
        ap (λ (outcome : Copy × Answer). limit_fault (puts_entry one.message) outcome.0 outcome.1) (one_staged entry_change one id ended held cookie stage)
            ∙ no_room_needed (puts_entry one.message) next None (puts_fit next target ascending within more) refl,
        subst (λ (outcome : Copy × Answer). AllFit id outcome.0 (notified_all new (other ∷ entry_changes))) (sym (one_staged entry_change one id ended held cookie stage))
            (touches_fit entry_changes other id ended held cookie next steps.1 now.1 more ends),
      )

between_fits : (id : ℕ) (ended : Bool) (old new : List Entry) (cookie : Option CookieText) (next : CookieText) → ascends old ≡ true → ascends new ≡ true → IsWithinLimits new
    → AllFit id (settled id true ended old cookie) (notified_between next old new)
between_fits id ended old new cookie next before after within = step (touched old new) (effected-touched old new before after) (each-touched old new) (each-now old new) where
  step : (entry_changes : List EntryChange) → effected old (staged_all [] entry_changes) ≡ new → Each IsStep entry_changes → Each (λ (t : EntryChange). t.after ≡ entry_at new t.uuid) entry_changes
      → AllFit id (settled id true ended old cookie) (notified_all next entry_changes)
  step [] ends steps now = tt
  step (entry_change ∷ entry_changes) ends steps now = touches_fit new after within next entry_changes entry_change id ended old cookie [] steps now (fits-none new) ends

-- ---- all messages

module _ (operation : SyncOperation) (ascending : Ascending operation) (within : (number : ℕ) → IsWithinLimits (operation.states number)) where
  -- each content of a session is within the limits
  pub content_within : (number : ℕ) → IsWithinLimits (content_after operation number)
  content_within number = within_filter (is_selected operation.selection) (operation.states number) (within number)

  -- nor does what later writes send
  pub later_fits : (count id from : ℕ) (ended : Bool) (cookie : Option CookieText) → AllFit id (settled id true ended (content_after operation from) cookie) (later operation from count)
  later_fits zero id from ended cookie = tt
  later_fits (suc count) id from ended cookie =
      fit-append (later operation from count) (group operation (from + count)) id (settled id true ended (content_after operation from) cookie)
      (later_fits count id from ended cookie)
      (subst (λ copy. AllFit id copy (group operation (from + count))) (sym (later_ends operation ascending count id from cookie ended))
      (between_fits id ended (content_after operation (from + count)) (content_after operation (from + count + 1)) (cookie_after operation cookie from count) (operation.cookies (from + count + 1))
      (ascends-content operation ascending (from + count)) (ascends-content operation ascending (from + count + 1)) (content_within (from + count + 1))))

  -- the whole walk in one piece, decided at the acceptance
  abbrev one_piece : Start → ℕ → List RefreshPiece
  one_piece start accepted = record { uuids = walk operation start accepted; mark = accepted } ∷ []

  one_cut : (start : Start) (accepted : ℕ) → IsCut operation start accepted (one_piece start accepted)
  one_cut start accepted = record { cut = append-nil (walk operation start accepted); rises = (omega arith, tt) }

  abbrev walk_part : Start → ℕ → List SyncMessage
  walk_part start accepted = gathered (is_delete_phase start) (flat_map (decide_piece operation start) (one_piece start accepted))

  one_refresh : (start : Start) (accepted : ℕ) → refresh operation start accepted (one_piece start accepted) ≡ walk_part start accepted ++ end_of operation.persists (is_delete_phase start) (operation.cookies accepted) ∷ []
  one_refresh start accepted =
      let steps : accepted - accepted ≡ 0 = omega arith in
      let none : late_uuids operation accepted accepted ≡ [] =
      ap (λ n. differing_over (λ number. content_after operation number) accepted n) steps ∙ over_none (λ number. content_after operation number) accepted in
      ap (λ late. walk_part start accepted ++ after_walk operation (is_delete_phase start) accepted late) none

  sent_there : (accepted : ℕ) (entry : Entry) → Sent operation ascending accepted accepted entry → entry_at (content_after operation accepted) entry.uuid ≡ Some entry
  sent_there accepted entry sent =
      let mark : sent.mark ≡ accepted = omega (arith, sent.from, sent.upto) in
      ap (λ number. entry_at (content_after operation number) entry.uuid) (sym mark) ∙ sent.is

  refresh_fits : (id : ℕ) (start : Start) (accepted : ℕ) (copy : Copy) → MayBegin operation start accepted copy.held → AllFit id (asked id operation.persists copy) (refresh operation start accepted (one_piece start accepted))
  refresh_fits id start accepted copy begins =
      let cut : IsCut operation start accepted (one_piece start accepted) = one_cut start accepted in
      let walked : List SyncMessage = walk_part start accepted in
      let end : List SyncMessage = end_of operation.persists (is_delete_phase start) (operation.cookies accepted) ∷ [] in
      let part : EachM (is_delete_phase start) (Sent operation ascending accepted accepted) (Named operation ascending start accepted accepted) walked =
      each-gathered (is_delete_phase start) (Sent operation ascending accepted accepted) (Named operation ascending start accepted accepted) (flat_map (decide_piece operation start) (one_piece start accepted))
      (each-pieces operation ascending (one_piece start accepted) start accepted accepted accepted (omega arith) cut.rises (omega arith)) in
      let ends = refresh_ends operation ascending id start accepted (one_piece start accepted) copy cut begins in
      let held : (taken_all id (taken_all id (asked id operation.persists copy) walked) end).held ≡ content_after operation accepted =
      ap (λ (c : Copy). c.held) (sym (taken_all-append walked end id (asked id operation.persists copy)) ∙ ap (taken_all id (asked id operation.persists copy)) (sym (one_refresh start accepted)) ∙ ends.1) in
      subst (AllFit id (asked id operation.persists copy)) (sym (one_refresh start accepted))
      (fit-append walked end id (asked id operation.persists copy)
      (part_fits (is_delete_phase start) (Sent operation ascending accepted accepted) (Named operation ascending start accepted accepted) (content_after operation accepted) (sent_there accepted)
      (ascends-content operation ascending accepted) (content_within accepted) walked id copy.held copy.cookie operation.persists false [] [] part
      (known operation ascending start accepted accepted copy.held begins) (fits-none (content_after operation accepted)))
      (end_fits operation.persists (is_delete_phase start) (operation.cookies accepted) id (taken_all id (asked id operation.persists copy) walked) (subst IsWithinLimits (sym held) (content_within accepted))))

  stream_fits : (id : ℕ) (start : Start) (accepted count : ℕ) (copy : Copy) → MayBegin operation start accepted copy.held
      → AllFit id (asked id operation.persists copy) (stream operation start accepted (one_piece start accepted) count)
  stream_fits id start accepted count copy begins =
      let ends = refresh_ends operation ascending id start accepted (one_piece start accepted) copy (one_cut start accepted) begins in
      fit-append (refresh operation start accepted (one_piece start accepted)) (cond operation.persists (later operation accepted count) []) id (asked id operation.persists copy)
      (refresh_fits id start accepted copy begins)
      (subst (λ c. AllFit id c (cond operation.persists (later operation accepted count) [])) (sym ends.1) (past operation.persists ends.0))
    where
      past : (persists ended : Bool) → AllFit id (settled id persists ended (content_after operation accepted) (Some (operation.cookies accepted))) (cond persists (later operation accepted count) [])
      past true ended = later_fits count id accepted ended (Some (operation.cookies accepted))
      past false ended = tt

  -- no prefix of what is sent in one piece meets a limit of the copy
  pub prefix_fits : (id : ℕ) (start : Start) (accepted count : ℕ) (copy : Copy) (prefix rest : List SyncMessage) → MayBegin operation start accepted copy.held
      → prefix ++ rest ≡ stream operation start accepted (one_piece start accepted) count
      → (taken_all_within id (asked id operation.persists copy) prefix ≡ taken_all id (asked id operation.persists copy) prefix)
      × (answers_within id (asked id operation.persists copy) prefix ≡ answers id (asked id operation.persists copy) prefix)
  prefix_fits id start accepted count copy prefix rest begins same =
      within_same prefix id (asked id operation.persists copy)
      (fit-prefix prefix rest id (asked id operation.persists copy) (subst (AllFit id (asked id operation.persists copy)) (sym same) (stream_fits id start accepted count copy begins)))
