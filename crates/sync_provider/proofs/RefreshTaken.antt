-- A refresh in pieces, message by message, and what a copy makes of each.
use Rattle.std.proofs.Common.{◌≡◌, ℕ, Bool, true, false, cond, List, [], ◌∷◌, ◌++◌, Option, Some, None, refl, ap, sym, ◌∙◌, arith, inl, inr, append-nil, append_assoc, subst}
use Rattle.std.specs.Prelude.{◌⊎◌, ◌&&◌, ⊤, All, flat_map, is_some}
use Rattle.std.proofs.lemmas.Bool.{false≢true, true≢false}
use Rattle.std.proofs.lemmas.List.Elements.{All-filter}
use Rattle.csn_cookie.proofs.SizeLemmas.{none_text}
use Rattle.entry_tree.specs.Selection.{is_selected}
use Rattle.entry_tree.specs.State.{ascends, entry_at}
use Rattle.entry_tree.specs.declared.entry.Entry.{Entry}
use Rattle.sync_model.specs.Copy.{Stage, SyncSession, Copy, Answer, asked, puts_of, effected, unmentioned, present_ended, commit_of, refused, goes_on, ends_phase, taken, taken_all, answers}
use Rattle.sync_model.specs.Copy.Answer.{Staged, Stored}
use Rattle.sync_model.specs.Copy.Fault.{OutOfPlace, StageFull}
use Rattle.sync_model.specs.Law.{Ascending, IsCut, MayBegin, IsWithinLimits, FillsStage, settled}
use Rattle.sync_model.specs.Message.{CookieText, SyncMessage}
use Rattle.sync_model.specs.Message.SyncMessage.{AddOrModify, Delete, Present, IdSet, NewCookie, RefreshDelete, RefreshPresent, Done, Ignored}
use Rattle.sync_model.specs.Stream.{SyncOperation, Start, RefreshPiece, WalkDecision, content_after, is_delete_phase, decided, decide_piece, decide_late, last_mark, late_uuids, gathered, end_of, after_walk, refresh}
use Rattle.sync_model.specs.Stream.Start.{DeletePhase}
use Rattle.sync_model.specs.Within.{exceeds_limits, puts_entry, staged_puts, against, limit_fault, refused_by, taken_within, taken_all_within, answers_within}
use Rattle.sync_model.proofs.Fitting.{content_within}
use Rattle.sync_model.proofs.FewNames.{IsFew, few_gathered}
use Rattle.sync_model.proofs.Gather.{Each, EachD, IsPart, EachM, each-append, each-prefix, eachd-append, each-gathered}
use Rattle.sync_model.proofs.Groups.{each_one}
use Rattle.sync_model.proofs.Later.{taken_all-append}
use Rattle.sync_model.proofs.Limits.{Fits, fits-none, fits-staged, fits-all_dropped, puts_fit, nothing_against}
use Rattle.sync_model.proofs.NextMessages.{IsMidst, IsEnd, Next, IsStored, HasNext, next_is, some_next, within-last, answers-last, answers_within-last}
use Rattle.sync_model.proofs.Refresh.{found, ascends-content, Sent, Named, each-pieces, each-late, known, refresh_ends}
use Rattle.sync_model.proofs.Stages.{IsFine, fine-none, fine-after, fine-ended, stage_commits}
use Rattle.sync_model.proofs.Taking.{session_in, refreshing, named_by, staged_by, taken-own, taken-one}
use Rattle.sync_wire.specs.CanBeSent.{CanBeSent}
use Rattle.sync_wire.specs.Law.{IsIdentity}
use Rattle.sync_wire.proofs.Identities.{found_sent, walk_range, each_decided}
use Rattle.sync_wire.proofs.OfSearch.{IsOfSearch, of_part}
use Rattle.sync_provider.proofs.Growing.{GoesOn, gathered_goes}

-- ---- what is staged in a refresh

-- whether the present phase was ended, which identities were named as present, and the stage
pub record RefreshStage : Type 0 where
  pub ended : Bool
  pub named : List ℕ
  pub stage : Stage

-- the end of a present phase is one in the middle of a refresh too
abbrev pub ended_by : Bool → SyncMessage → Bool
ended_by ended (AddOrModify adds entry cookie) = ended
ended_by ended (Delete uuid name cookie) = ended
ended_by ended (Present uuid cookie) = ended
ended_by ended (IdSet deletes uuids cookie) = ended
ended_by ended (NewCookie cookie) = ended
ended_by ended (RefreshDelete done cookie) = ended
ended_by ended (RefreshPresent done cookie) = true
ended_by ended (Done code control) = ended
ended_by ended Ignored = ended

-- it drops what was held and not named
abbrev pub stage_by : List Entry → RefreshStage → SyncMessage → Stage
stage_by held r (RefreshPresent done cookie) = present_ended r.named r.stage held
stage_by held r (AddOrModify adds entry cookie) = staged_by r.stage (AddOrModify adds entry cookie)
stage_by held r (Delete uuid name cookie) = staged_by r.stage (Delete uuid name cookie)
stage_by held r (Present uuid cookie) = staged_by r.stage (Present uuid cookie)
stage_by held r (IdSet deletes uuids cookie) = staged_by r.stage (IdSet deletes uuids cookie)
stage_by held r (NewCookie cookie) = staged_by r.stage (NewCookie cookie)
stage_by held r (RefreshDelete done cookie) = staged_by r.stage (RefreshDelete done cookie)
stage_by held r (Done code control) = staged_by r.stage (Done code control)
stage_by held r Ignored = staged_by r.stage Ignored

-- after a message, and after some
abbrev pub staged_on : List Entry → RefreshStage → SyncMessage → RefreshStage
staged_on held r m = record { ended = ended_by r.ended m; named = named_by r.named m; stage = stage_by held r m }

abbrev pub staged_over : List Entry → RefreshStage → List SyncMessage → RefreshStage
staged_over held r [] = r
staged_over held r (m ∷ ms) = staged_over held (staged_on held r m) ms

abbrev pub nothing_staged : RefreshStage
nothing_staged = record { ended = false; named = []; stage = [] }

-- a copy with these entries and this cookie that took this of its refresh
abbrev pub copy_at : Bool → List Entry → Option CookieText → RefreshStage → Copy
copy_at persists held cookie r = refreshing 1 held cookie persists r.ended r.named r.stage

abbrev pub in_refresh : Bool → List Entry → Option CookieText → List SyncMessage → Copy
in_refresh persists held cookie taken = copy_at persists held cookie (staged_over held nothing_staged taken)

-- one that has just asked
abbrev pub asking : Bool → List Entry → Option CookieText → Copy
asking persists held cookie = asked 1 persists (record { held = held; cookie = cookie; session = None })

-- these messages of a refresh meet no limit of a copy with these entries, whatever its cookie
pub record MeetNoLimit (persists : Bool) (held : List Entry) (taken : List SyncMessage) : Type 0 where
  pub copies : (cookie : Option CookieText) → taken_all_within 1 (asking persists held cookie) taken ≡ in_refresh persists held cookie taken
  pub same_answers : (cookie : Option CookieText) → answers_within 1 (asking persists held cookie) taken ≡ answers 1 (asking persists held cookie) taken

-- none meet none
pub none_met : (persists : Bool) (held : List Entry) → MeetNoLimit persists held []
none_met persists held = record { copies = λ cookie. refl; same_answers = λ cookie. refl }

staged_over-append : (ms ns : List SyncMessage) (held : List Entry) (r : RefreshStage) → staged_over held r (ms ++ ns) ≡ staged_over held (staged_over held r ms) ns
staged_over-append [] ns held r = refl
staged_over-append (m ∷ ms) ns held r = staged_over-append ms ns held (staged_on held r m)

-- one message more
in_refresh-next : (persists : Bool) (held : List Entry) (cookie : Option CookieText) (taken : List SyncMessage) (m : SyncMessage)
    → in_refresh persists held cookie (taken ++ m ∷ []) ≡ copy_at persists held cookie (staged_on held (staged_over held nothing_staged taken) m)
in_refresh-next persists held cookie taken m = ap (copy_at persists held cookie) (staged_over-append taken (m ∷ []) held nothing_staged)

-- a message puts an entry, with which those that are staged as puts are too many or too heavy
pub record PassesLimit (held : List Entry) (r : RefreshStage) (m : SyncMessage) : Type 0 where
  pub puts : puts_entry m ≡ true
  pub full : exceeds_limits (puts_of (stage_by held r m)) ≡ true

-- what is staged is in order
fine-on : (held : List Entry) (r : RefreshStage) (m : SyncMessage) → IsFine r.stage → IsFine (stage_by held r m)
fine-on held r (RefreshPresent done cookie) fine = fine-ended held (session_in 1 false false r.named r.stage) false fine
fine-on held r (AddOrModify adds entry cookie) fine = fine-after (AddOrModify adds entry cookie ∷ []) r.stage fine
fine-on held r (Delete uuid name cookie) fine = fine
fine-on held r (Present uuid cookie) fine = fine
fine-on held r (IdSet deletes uuids cookie) fine = fine-after (IdSet deletes uuids cookie ∷ []) r.stage fine
fine-on held r (NewCookie cookie) fine = fine
fine-on held r (RefreshDelete done cookie) fine = fine
fine-on held r (Done code control) fine = fine
fine-on held r Ignored fine = fine

fine-over : (ms : List SyncMessage) (held : List Entry) (r : RefreshStage) → IsFine r.stage → IsFine (staged_over held r ms).stage
fine-over [] held r fine = fine
fine-over (m ∷ ms) held r fine = fine-over ms held (staged_on held r m) (fine-on held r m fine)

-- ---- messages that are staged

-- whether the present phase was ended by some messages
abbrev pub ended_over : Bool → List SyncMessage → Bool
ended_over ended [] = ended
ended_over ended (m ∷ ms) = ended_over (ended_by ended m) ms

ended_is : (ms : List SyncMessage) (held : List Entry) (r : RefreshStage) → (staged_over held r ms).ended ≡ ended_over r.ended ms
ended_is [] held r = refl
ended_is (m ∷ ms) held r = ended_is ms held (staged_on held r m)

-- no message of a part ends a phase
plain_ended : (m : SyncMessage) (deletes : Bool) (P : Entry → Type 0) (Q : ℕ → Type 0) (ended : Bool) → IsPart deletes P Q m → ended ≡ ended_by ended m
plain_ended (AddOrModify adds entry cookie) deletes P Q ended part = refl
plain_ended (IdSet d uuids cookie) deletes P Q ended part = refl
plain_ended (Delete uuid name cookie) deletes P Q ended part = absurd part
plain_ended (Present uuid cookie) deletes P Q ended part = absurd part
plain_ended (NewCookie cookie) deletes P Q ended part = absurd part
plain_ended (RefreshDelete done cookie) deletes P Q ended part = absurd part
plain_ended (RefreshPresent done cookie) deletes P Q ended part = absurd part
plain_ended (Done code control) deletes P Q ended part = absurd part
plain_ended Ignored deletes P Q ended part = absurd part

plain_stage : (m : SyncMessage) (deletes : Bool) (P : Entry → Type 0) (Q : ℕ → Type 0) (held : List Entry) (r : RefreshStage) → IsPart deletes P Q m → staged_by r.stage m ≡ stage_by held r m
plain_stage (AddOrModify adds entry cookie) deletes P Q held r part = refl
plain_stage (IdSet d uuids cookie) deletes P Q held r part = refl
plain_stage (Delete uuid name cookie) deletes P Q held r part = absurd part
plain_stage (Present uuid cookie) deletes P Q held r part = absurd part
plain_stage (NewCookie cookie) deletes P Q held r part = absurd part
plain_stage (RefreshDelete done cookie) deletes P Q held r part = absurd part
plain_stage (RefreshPresent done cookie) deletes P Q held r part = absurd part
plain_stage (Done code control) deletes P Q held r part = absurd part
plain_stage Ignored deletes P Q held r part = absurd part

ended-part : (ms : List SyncMessage) (deletes : Bool) (P : Entry → Type 0) (Q : ℕ → Type 0) (ended : Bool) → EachM deletes P Q ms → ended_over ended ms ≡ ended
ended-part [] deletes P Q ended each = refl
ended-part (m ∷ ms) deletes P Q ended each = ended-part ms deletes P Q (ended_by ended m) each.1 ∙ sym (plain_ended m deletes P Q ended each.0)

-- the messages of a walk, and of the late part, and the end of a present phase between them
module _ (deletes : Bool) (P : Entry → Type 0) (Q : ℕ → Type 0) (L : Entry → Type 0) (N : ℕ → Type 0) where
  abbrev pub IsStep : (ended : Bool) → SyncMessage → Type 0
  IsStep ended m = IsPart deletes P Q m ⊎ (IsPart true L N m ⊎ ((m ≡ RefreshPresent false None) × (ended ≡ false)))

  abbrev pub Steps : (ended : Bool) → List SyncMessage → Type 0
  Steps ended [] = ⊤
  Steps ended (m ∷ ms) = IsStep ended m × Steps (ended_by ended m) ms

  steps-part : (ms : List SyncMessage) (ended : Bool) → EachM deletes P Q ms → Steps ended ms
  steps-part [] ended each = tt
  steps-part (m ∷ ms) ended each = (inl each.0, steps-part ms (ended_by ended m) each.1)

  steps-late : (ms : List SyncMessage) (ended : Bool) → EachM true L N ms → Steps ended ms
  steps-late [] ended each = tt
  steps-late (m ∷ ms) ended each = (inr (inl each.0), steps-late ms (ended_by ended m) each.1)

  steps-append : (ms ns : List SyncMessage) (ended : Bool) → Steps ended ms → Steps (ended_over ended ms) ns → Steps ended (ms ++ ns)
  steps-append [] ns ended one two = two
  steps-append (m ∷ ms) ns ended one two = (one.0, steps-append ms ns (ended_by ended m) one.1 two)

  -- a message after some of them
  step_at : (ms ns : List SyncMessage) (m : SyncMessage) (ended : Bool) → Steps ended (ms ++ m ∷ ns) → IsStep (ended_over ended ms) m
  step_at [] ns m ended steps = steps.0
  step_at (x ∷ ms) ns m ended steps = step_at ms ns m (ended_by ended x) steps.1

  steps-prefix : (ms ns : List SyncMessage) (ended : Bool) → Steps ended (ms ++ ns) → Steps ended ms
  steps-prefix [] ns ended steps = tt
  steps-prefix (m ∷ ms) ns ended steps = (steps.0, steps-prefix ms ns (ended_by ended m) steps.1)

  -- ---- entries that all are those of one content

  module _ (target : List Entry) (walked_there : (e : Entry) → P e → entry_at target e.uuid ≡ Some e) (late_there : (e : Entry) → L e → entry_at target e.uuid ≡ Some e) (held : List Entry) where
    part_fits : (m : SyncMessage) (d : Bool) (P' : Entry → Type 0) (Q' : ℕ → Type 0) (r : RefreshStage) → IsPart d P' Q' m → ((e : Entry) → P' e → entry_at target e.uuid ≡ Some e) → Fits target r.stage → Fits target (stage_by held r m)
    part_fits (AddOrModify adds entry cookie) d P' Q' r part there fits = fits-staged target r.stage entry.uuid (Some entry) (there entry part.1) fits
    part_fits (IdSet true uuids cookie) d P' Q' r part there fits = fits-all_dropped uuids target r.stage fits
    part_fits (IdSet false uuids cookie) d P' Q' r part there fits = fits
    part_fits (Delete uuid name cookie) d P' Q' r part there fits = absurd part
    part_fits (Present uuid cookie) d P' Q' r part there fits = absurd part
    part_fits (NewCookie cookie) d P' Q' r part there fits = absurd part
    part_fits (RefreshDelete done cookie) d P' Q' r part there fits = absurd part
    part_fits (RefreshPresent done cookie) d P' Q' r part there fits = absurd part
    part_fits (Done code control) d P' Q' r part there fits = absurd part
    part_fits Ignored d P' Q' r part there fits = absurd part

    step_fits : (r : RefreshStage) (m : SyncMessage) → IsStep r.ended m → Fits target r.stage → Fits target (stage_by held r m)
    step_fits r m (inl part) fits = part_fits m deletes P Q r part walked_there fits
    step_fits r m (inr (inl part)) fits = part_fits m true L N r part late_there fits
    step_fits r m (inr (inr (is, off))) fits =
        subst (λ x. Fits target (stage_by held r x)) (sym is) (fits-all_dropped (unmentioned r.named r.stage held) target r.stage fits)

    -- what they put are entries of it
    steps_fit : (ms : List SyncMessage) (r : RefreshStage) → Steps r.ended ms → Fits target r.stage → Fits target (staged_over held r ms).stage
    steps_fit [] r steps fits = fits
    steps_fit (m ∷ ms) r steps fits = steps_fit ms (staged_on held r m) steps.1 (step_fits r m steps.0 fits)

  -- ---- what a copy makes of them

  module _ (held : List Entry) (known : deletes ≡ false → (u : ℕ) → Q u → is_some (entry_at held u) ≡ true) (persists : Bool) where
    abbrev at : Option CookieText → RefreshStage → Copy
    at cookie r = copy_at persists held cookie r

    abbrev session_at : RefreshStage → SyncSession
    session_at r = session_in 1 persists r.ended r.named r.stage

    part_taken : (cookie : Option CookieText) (d : Bool) (P' : Entry → Type 0) (Q' : ℕ → Type 0) (r : RefreshStage) (m : SyncMessage) → IsPart d P' Q' m → (d ≡ false → (u : ℕ) → Q' u → is_some (entry_at held u) ≡ true)
        → taken 1 (at cookie r) m ≡ goes_on (at cookie r) (session_at (staged_on held r m))
    part_taken cookie d P' Q' r m part there =
        taken-one m d P' Q' 1 held cookie persists r.ended r.named r.stage part there
        ∙ (λ i. goes_on (at cookie r) (session_in 1 persists (plain_ended m d P' Q' r.ended part i) (named_by r.named m) (plain_stage m d P' Q' held r part i)))

    break_taken : (cookie : Option CookieText) (r : RefreshStage) → r.ended ≡ false
        → taken 1 (at cookie r) (RefreshPresent false None) ≡ goes_on (at cookie r) (session_at (staged_on held r (RefreshPresent false None)))
    break_taken cookie r off =
        taken-own (at cookie r) (session_at r) (RefreshPresent false None) refl
        ∙ ap (λ ended. cond ended (refused (at cookie r) OutOfPlace) (goes_on (at cookie r) (ends_phase held (session_at r) false))) off

    -- each is staged, whatever it weighs
    step_taken : (cookie : Option CookieText) (r : RefreshStage) (m : SyncMessage) → IsStep r.ended m → taken 1 (at cookie r) m ≡ goes_on (at cookie r) (session_at (staged_on held r m))
    step_taken cookie r m (inl part) = part_taken cookie deletes P Q r m part known
    step_taken cookie r m (inr (inl part)) = part_taken cookie true L N r m part (λ off. absurd (true≢false off))
    step_taken cookie r m (inr (inr (is, off))) =
        subst (λ x. taken 1 (at cookie r) x ≡ goes_on (at cookie r) (session_at (staged_on held r x))) (sym is) (break_taken cookie r off)

    steps_taken : (cookie : Option CookieText) (ms : List SyncMessage) (r : RefreshStage) → Steps r.ended ms → taken_all 1 (at cookie r) ms ≡ at cookie (staged_over held r ms)
    steps_taken cookie [] r steps = refl
    steps_taken cookie (m ∷ ms) r steps =
        ap (λ (outcome : Copy × Answer). taken_all 1 outcome.0 ms) (step_taken cookie r m steps.0) ∙ steps_taken cookie ms (staged_on held r m) steps.1

    -- ---- within the limits

    abbrev outcome_by : Option CookieText → RefreshStage → SyncMessage → (puts full : Bool) → Copy × Answer
    outcome_by cookie r m puts full = refused_by (cond (puts && full) (Some StageFull) None) (at cookie r) (at cookie (staged_on held r m), Staged)

    step_outcome : (cookie : Option CookieText) (r : RefreshStage) (m : SyncMessage) → IsStep r.ended m → taken_within 1 (at cookie r) m ≡ outcome_by cookie r m (puts_entry m) (exceeds_limits (puts_of (stage_by held r m)))
    step_outcome cookie r m step = ap (λ (outcome : Copy × Answer). refused_by (limit_fault (puts_entry m) outcome.0 outcome.1) (at cookie r) outcome) (step_taken cookie r m step)

    -- it passes the limit of the stage, or it is staged
    step_within : (r : RefreshStage) (m : SyncMessage) → IsStep r.ended m → ((cookie : Option CookieText) → taken_within 1 (at cookie r) m ≡ (at cookie (staged_on held r m), Staged)) ⊎ PassesLimit held r m
    step_within r m step = by (puts_entry m) (exceeds_limits (puts_of (stage_by held r m))) refl refl
      where
        by : (puts full : Bool) → puts_entry m ≡ puts → exceeds_limits (puts_of (stage_by held r m)) ≡ full → ((cookie : Option CookieText) → taken_within 1 (at cookie r) m ≡ (at cookie (staged_on held r m), Staged)) ⊎ PassesLimit held r m
        by true true puts full = inr (record { puts = puts; full = full })
        by true false puts full = inl (λ cookie. step_outcome cookie r m step ∙ (λ i. outcome_by cookie r m (puts i) (full i)))
        by false full' puts full = inl (λ cookie. step_outcome cookie r m step ∙ (λ i. outcome_by cookie r m (puts i) (full i)))

    -- then it is refused
    step_refused : (cookie : Option CookieText) (r : RefreshStage) (m : SyncMessage) → IsStep r.ended m → PassesLimit held r m → taken_within 1 (at cookie r) m ≡ refused (at cookie r) StageFull
    step_refused cookie r m step passes = step_outcome cookie r m step ∙ (λ i. outcome_by cookie r m (passes.puts i) (passes.full i))

    step_full : (cookie : Option CookieText) (r : RefreshStage) (m : SyncMessage) → IsStep r.ended m → PassesLimit held r m → exceeds_limits (staged_puts (taken 1 (at cookie r) m).0.session) ≡ true
    step_full cookie r m step passes = ap (λ (outcome : Copy × Answer). exceeds_limits (staged_puts outcome.0.session)) (step_taken cookie r m step) ∙ passes.full

-- ---- the end of a refresh

module _ (held : List Entry) (cookie : Option CookieText) (new : CookieText) where
  -- an end that ends a present phase comes where none was ended
  end_answer : (persists deletes ended : Bool) (named : List ℕ) (stage : Stage) → (deletes ≡ false → ended ≡ false)
      → (taken 1 (refreshing 1 held cookie persists ended named stage) (end_of persists deletes new)).1 ≡ Stored (commit_of (ends_phase held (session_in 1 persists ended named stage) deletes).stage (Some new))
  end_answer true true ended named stage off = refl
  end_answer false true ended named stage off = refl
  end_answer true false false named stage off = refl
  end_answer false false false named stage off = refl
  end_answer true false true named stage off = absurd (true≢false (off refl))
  end_answer false false true named stage off = absurd (true≢false (off refl))

  end_held : (persists deletes ended : Bool) (named : List ℕ) (stage : Stage) → (deletes ≡ false → ended ≡ false)
      → (taken 1 (refreshing 1 held cookie persists ended named stage) (end_of persists deletes new)).0.held ≡ effected held (ends_phase held (session_in 1 persists ended named stage) deletes).stage
  end_held true true ended named stage off = refl
  end_held false true ended named stage off = refl
  end_held true false false named stage off = refl
  end_held false false false named stage off = refl
  end_held true false true named stage off = absurd (true≢false (off refl))
  end_held false false true named stage off = absurd (true≢false (off refl))

end_puts : (persists deletes : Bool) (new : CookieText) → puts_entry (end_of persists deletes new) ≡ false
end_puts true true new = refl
end_puts true false new = refl
end_puts false deletes new = refl

-- ---- what is decided can be sent

each-later : {X : Type 0} (Q : X → Type 0) (xs ys : List X) → Each Q (xs ++ ys) → Each Q ys
each-later Q [] ys each = each
each-later Q (x ∷ xs) ys each = each-later Q xs ys each.1

pieces_decided : (operation : SyncOperation) (start : Start) → ((count : ℕ) → All CanBeSent (content_after operation count)) → (ps : List RefreshPiece) → Each IsIdentity (flat_map (λ piece. piece.uuids) ps)
    → EachD CanBeSent IsIdentity (flat_map (decide_piece operation start) ps)
pieces_decided operation start can [] range = tt
pieces_decided operation start can (p ∷ ps) range =
    eachd-append CanBeSent IsIdentity (decide_piece operation start p) (flat_map (decide_piece operation start) ps)
    (each_decided p.uuids operation start p.mark (can p.mark) (each-prefix IsIdentity p.uuids (flat_map (λ piece. piece.uuids) ps) range))
    (pieces_decided operation start can ps (each-later IsIdentity p.uuids (flat_map (λ piece. piece.uuids) ps) range))

late_decided : (operation : SyncOperation) (mark : ℕ) → All CanBeSent (content_after operation mark) → (us : List ℕ) → Each IsIdentity us → EachD CanBeSent IsIdentity (flat_map (decide_late operation mark) us)
late_decided operation mark can [] range = tt
late_decided operation mark can (u ∷ us) range =
    eachd-append CanBeSent IsIdentity (decide_late operation mark u) (flat_map (decide_late operation mark) us) (by (entry_at (content_after operation mark) u) refl) (late_decided operation mark can us range.1)
  where
    by : (found : Option Entry) → entry_at (content_after operation mark) u ≡ found → EachD CanBeSent IsIdentity (decided true true u found)
    by None is = (range.0, tt)
    by (Some e) is = (found_sent (content_after operation mark) u e is can, tt)

each_of : (deletes : Bool) (ms : List SyncMessage) → EachM deletes CanBeSent IsIdentity ms → Each IsFew ms → Each IsOfSearch ms
each_of deletes [] parts few = tt
each_of deletes (m ∷ ms) parts few = (of_part deletes m parts.0 few.0, each_of deletes ms parts.1 few.1)

-- ---- the refresh of a search

module _ (operation : SyncOperation) (start : Start) (opened : ℕ) (pieces : List RefreshPiece) where
  abbrev pub covered : Bool
  covered = is_delete_phase start

  abbrev pub mark : ℕ
  mark = last_mark opened pieces

  abbrev walked : List SyncMessage
  walked = gathered covered (flat_map (decide_piece operation start) pieces)

  -- the messages of the late part, where there is one
  abbrev late_of : List ℕ → List SyncMessage
  late_of [] = []
  late_of (uuid ∷ uuids) = cond covered [] (RefreshPresent false None ∷ []) ++ gathered true (flat_map (decide_late operation mark) (uuid ∷ uuids))

  -- whether the end ends a delete phase
  abbrev pub last_deletes : List ℕ → Bool
  last_deletes [] = covered
  last_deletes (uuid ∷ uuids) = true

  abbrev pub late : List ℕ
  late = late_uuids operation opened mark

  -- all of it but the end
  abbrev pub part : List SyncMessage
  part = walked ++ late_of late

  abbrev pub last : SyncMessage
  last = end_of operation.persists (last_deletes late) (operation.cookies mark)

  refresh_is : refresh operation start opened pieces ≡ part ++ last ∷ []
  refresh_is = by late
    where
      by : (us : List ℕ) → walked ++ after_walk operation covered mark us ≡ (walked ++ late_of us) ++ end_of operation.persists (last_deletes us) (operation.cookies mark) ∷ []
      by [] = ap (λ ms. ms ++ end_of operation.persists covered (operation.cookies mark) ∷ []) (sym (append-nil walked))
      by (u ∷ us) =
          let broken : List SyncMessage = cond covered [] (RefreshPresent false None ∷ []) in
          let rest : List SyncMessage = gathered true (flat_map (decide_late operation mark) (u ∷ us)) in
          let end : List SyncMessage = end_of operation.persists true (operation.cookies mark) ∷ [] in
          ap (λ ms. walked ++ ms) (sym (append_assoc broken rest end)) ∙ sym (append_assoc walked (broken ++ rest) end)

  -- a message after a prefix of the refresh is one of these or the end
  pub follows : (prefix rest : List SyncMessage) (m : SyncMessage) → prefix ++ m ∷ rest ≡ refresh operation start opened pieces → Next part prefix last m rest
  follows prefix rest m whole = next_is prefix part rest last m (whole ∙ refresh_is)

  -- each message of the part is an entry or a set of names, or the end of a present phase that goes on
  part_goes_on : Each GoesOn part
  part_goes_on = each-append GoesOn walked (late_of late) (gathered_goes covered (flat_map (decide_piece operation start) pieces)) (by late)
    where
      broken : (b : Bool) → Each GoesOn (cond b [] (RefreshPresent false None ∷ []))
      broken true = tt
      broken false = (refl, tt)

      by : (us : List ℕ) → Each GoesOn (late_of us)
      by [] = tt
      by (u ∷ us) =
          each-append GoesOn (cond covered [] (RefreshPresent false None ∷ [])) (gathered true (flat_map (decide_late operation mark) (u ∷ us))) (broken covered)
          (gathered_goes true (flat_map (decide_late operation mark) (u ∷ us)))

  -- so is one of them
  pub midst_goes : (prefix rest : List SyncMessage) (m : SyncMessage) → IsMidst part prefix last m rest → GoesOn m
  midst_goes prefix rest m is = each_one GoesOn prefix is.more m (subst (Each GoesOn) is.among part_goes_on)

  -- ---- what is said can be sent

  module _ (cut : IsCut operation start opened pieces) (sent : (count : ℕ) → All CanBeSent (operation.states count)) where
    content_sent : (count : ℕ) → All CanBeSent (content_after operation count)
    content_sent count = All-filter (is_selected operation.selection) CanBeSent (operation.states count) (sent count)

    walked_decided : EachD CanBeSent IsIdentity (flat_map (decide_piece operation start) pieces)
    walked_decided = pieces_decided operation start content_sent pieces (subst (Each IsIdentity) (sym cut.cut) (walk_range operation start opened sent))

    late_range : Each IsIdentity late
    late_range = walk_range (record operation { states = λ count. content_after operation count }) (DeletePhase opened) mark content_sent

    part_sent : Each IsOfSearch part
    part_sent =
        each-append IsOfSearch walked (late_of late)
        (each_of covered walked (each-gathered covered CanBeSent IsIdentity (flat_map (decide_piece operation start) pieces) walked_decided) (few_gathered covered (flat_map (decide_piece operation start) pieces)))
        (by late late_range)
      where
        broken : (b : Bool) → Each IsOfSearch (cond b [] (RefreshPresent false None ∷ []))
        broken true = tt
        broken false = (none_text None refl, tt)

        by : (us : List ℕ) → Each IsIdentity us → Each IsOfSearch (late_of us)
        by [] range = tt
        by (u ∷ us) range =
            let decisions : List WalkDecision = flat_map (decide_late operation mark) (u ∷ us) in
            each-append IsOfSearch (cond covered [] (RefreshPresent false None ∷ [])) (gathered true decisions) (broken covered)
            (each_of true (gathered true decisions) (each-gathered true CanBeSent IsIdentity decisions (late_decided operation mark (content_sent mark) (u ∷ us) range)) (few_gathered true decisions))

    -- each message of it is one of a search where the entries can be sent
    pub midst_sent : (prefix rest : List SyncMessage) (m : SyncMessage) → IsMidst part prefix last m rest → IsOfSearch m
    midst_sent prefix rest m is = each_one IsOfSearch prefix is.more m (subst (Each IsOfSearch) is.among part_sent)

  -- ---- what a copy makes of it

  module _ (cut : IsCut operation start opened pieces) (ascending : Ascending operation) (held : List Entry) (begins : MayBegin operation start opened held) where
    abbrev P : Entry → Type 0
    P = Sent operation ascending opened mark

    abbrev Q : ℕ → Type 0
    Q = Named operation ascending start opened mark

    abbrev L : Entry → Type 0
    L entry = found operation ascending mark entry.uuid ≡ Some entry

    abbrev N : ℕ → Type 0
    N uuid = found operation ascending mark uuid ≡ None

    walked_each : EachM covered P Q walked
    walked_each =
        each-gathered covered P Q (flat_map (decide_piece operation start) pieces)
        (each-pieces operation ascending pieces start opened mark opened (omega arith) cut.rises (omega arith))

    are_known : covered ≡ false → (u : ℕ) → Q u → is_some (entry_at held u) ≡ true
    are_known = known operation ascending start opened mark held begins

    none_ended : ended_over false walked ≡ false
    none_ended = ended-part walked covered P Q false walked_each

    late_each : (us : List ℕ) → EachM true L N (gathered true (flat_map (decide_late operation mark) us))
    late_each us = each-gathered true L N (flat_map (decide_late operation mark) us) (each-late operation ascending us mark)

    part_steps : Steps covered P Q L N false part
    part_steps =
        steps-append covered P Q L N walked (late_of late) false (steps-part covered P Q L N walked false walked_each)
        (subst (λ ended. Steps covered P Q L N ended (late_of late)) (sym none_ended) (by late))
      where
        broken : (b : Bool) (u : ℕ) (us : List ℕ)
            → Steps covered P Q L N false (cond b [] (RefreshPresent false None ∷ []) ++ gathered true (flat_map (decide_late operation mark) (u ∷ us)))
        broken true u us = steps-late covered P Q L N (gathered true (flat_map (decide_late operation mark) (u ∷ us))) false (late_each (u ∷ us))
        broken false u us = (inr (inr (refl, refl)), steps-late covered P Q L N (gathered true (flat_map (decide_late operation mark) (u ∷ us))) true (late_each (u ∷ us)))

        by : (us : List ℕ) → Steps covered P Q L N false (late_of us)
        by [] = tt
        by (u ∷ us) = broken covered u us

    midst_step : (prefix rest : List SyncMessage) (m : SyncMessage) → IsMidst part prefix last m rest → IsStep covered P Q L N (staged_over held nothing_staged prefix).ended m
    midst_step prefix rest m is =
        subst (λ ended. IsStep covered P Q L N ended m) (sym (ended_is prefix held nothing_staged))
        (step_at covered P Q L N prefix is.more m false (subst (Steps covered P Q L N false) is.among part_steps))

    -- the messages before it were staged, whatever they weigh
    before_taken : (cookie : Option CookieText) (prefix rest : List SyncMessage) (m : SyncMessage) → IsMidst part prefix last m rest
        → taken_all 1 (asking operation.persists held cookie) prefix ≡ in_refresh operation.persists held cookie prefix
    before_taken cookie prefix rest m is =
        steps_taken covered P Q L N held are_known operation.persists cookie prefix nothing_staged
        (steps-prefix covered P Q L N prefix (m ∷ is.more) false (subst (Steps covered P Q L N false) is.among part_steps))

    -- where no write came before the last piece, it does not pass the limit of the stage
    pub midst_fits : ((number : ℕ) → IsWithinLimits (operation.states number)) → mark ≡ opened → (prefix rest : List SyncMessage) (m : SyncMessage) → IsMidst part prefix last m rest
        → PassesLimit held (staged_over held nothing_staged prefix) m → ⊥
    midst_fits within same prefix rest m is passes = false≢true (sym room ∙ passes.full)
      where
        r : RefreshStage
        r = staged_over held nothing_staged prefix

        content : List Entry
        content = content_after operation mark

        there : (e : Entry) → P e → entry_at content e.uuid ≡ Some e
        there e sent =
            let at : sent.mark ≡ mark = omega (arith, sent.from, sent.upto, same) in
            ap (λ number. entry_at (content_after operation number) e.uuid) (sym at) ∙ sent.is

        before : Fits content r.stage
        before =
            steps_fit covered P Q L N content there (λ e h. h) held prefix nothing_staged
            (steps-prefix covered P Q L N prefix (m ∷ is.more) false (subst (Steps covered P Q L N false) is.among part_steps)) (fits-none content)

        room : exceeds_limits (puts_of (stage_by held r m)) ≡ false
        room =
            puts_fit (stage_by held r m) content (ascends-content operation ascending mark) (content_within operation ascending within mark)
            (step_fits covered P Q L N content there (λ e h. h) held r m (midst_step prefix rest m is) before)

    -- a message of it is staged, or passes that limit
    pub midst_within : (prefix rest : List SyncMessage) (m : SyncMessage) → IsMidst part prefix last m rest
        → ((cookie : Option CookieText) → taken_within 1 (in_refresh operation.persists held cookie prefix) m ≡ (in_refresh operation.persists held cookie (prefix ++ m ∷ []), Staged))
        ⊎ PassesLimit held (staged_over held nothing_staged prefix) m
    midst_within prefix rest m is = by (step_within covered P Q L N held are_known operation.persists r m (midst_step prefix rest m is))
      where
        r : RefreshStage
        r = staged_over held nothing_staged prefix

        by : ((cookie : Option CookieText) → taken_within 1 (copy_at operation.persists held cookie r) m ≡ (copy_at operation.persists held cookie (staged_on held r m), Staged)) ⊎ PassesLimit held r m
            → ((cookie : Option CookieText) → taken_within 1 (in_refresh operation.persists held cookie prefix) m ≡ (in_refresh operation.persists held cookie (prefix ++ m ∷ []), Staged)) ⊎ PassesLimit held r m
        by (inl now) = inl (λ cookie. now cookie ∙ (λ i. (sym (in_refresh-next operation.persists held cookie prefix m) i, Staged)))
        by (inr passes) = inr passes

    -- those that are staged meet no limit
    pub midst_met : (prefix rest : List SyncMessage) (m : SyncMessage) → IsMidst part prefix last m rest → MeetNoLimit operation.persists held prefix
        → ((cookie : Option CookieText) → taken_within 1 (in_refresh operation.persists held cookie prefix) m ≡ (in_refresh operation.persists held cookie (prefix ++ m ∷ []), Staged))
        → MeetNoLimit operation.persists held (prefix ++ m ∷ [])
    midst_met prefix rest m is met now = record {
      copies = λ cookie.
          within-last prefix m 1 (asking operation.persists held cookie)
          ∙ ap (λ c. (taken_within 1 c m).0) (met.copies cookie)
          ∙ ap (λ (outcome : Copy × Answer). outcome.0) (now cookie);
      same_answers = λ cookie.
          answers_within-last prefix m 1 (asking operation.persists held cookie)
          ∙ (λ i. met.same_answers cookie i ++ answer cookie i ∷ [])
          ∙ sym (answers-last prefix m 1 (asking operation.persists held cookie));
    }
      where
        r : RefreshStage
        r = staged_over held nothing_staged prefix

        answer : (cookie : Option CookieText) → (taken_within 1 (taken_all_within 1 (asking operation.persists held cookie) prefix) m).1 ≡ (taken 1 (taken_all 1 (asking operation.persists held cookie) prefix) m).1
        answer cookie =
            ap (λ c. (taken_within 1 c m).1) (met.copies cookie)
            ∙ ap (λ (outcome : Copy × Answer). outcome.1) (now cookie)
            ∙ sym (ap (λ (outcome : Copy × Answer). outcome.1) (step_taken covered P Q L N held are_known operation.persists cookie r m (midst_step prefix rest m is)))
            ∙ ap (λ c. (taken 1 c m).1) (sym (before_taken cookie prefix rest m is))

    -- one that passes it fills the stage
    pub midst_fills : (prefix rest : List SyncMessage) (m : SyncMessage) → IsMidst part prefix last m rest → MeetNoLimit operation.persists held prefix → PassesLimit held (staged_over held nothing_staged prefix) m
        → (cookie : Option CookieText) → FillsStage 1 (asking operation.persists held cookie) prefix m
    midst_fills prefix rest m is met passes cookie = record {
      copy_within = met.copies cookie ∙ sym taken_is;
      same_answers = met.same_answers cookie;
      puts = passes.puts;
      full = ap (λ c. exceeds_limits (staged_puts (taken 1 c m).0.session)) taken_is ∙ step_full covered P Q L N held are_known operation.persists cookie r m step passes;
      refused = ap (λ c. taken_within 1 c m) taken_is ∙ step_refused covered P Q L N held are_known operation.persists cookie r m step passes ∙ ap (λ c. refused c StageFull) (sym taken_is);
    }
      where
        r : RefreshStage
        r = staged_over held nothing_staged prefix

        step : IsStep covered P Q L N r.ended m
        step = midst_step prefix rest m is

        taken_is : taken_all 1 (asking operation.persists held cookie) prefix ≡ in_refresh operation.persists held cookie prefix
        taken_is = before_taken cookie prefix rest m is

    -- then it is refused
    pub midst_refused : (prefix rest : List SyncMessage) (m : SyncMessage) → IsMidst part prefix last m rest → PassesLimit held (staged_over held nothing_staged prefix) m
        → (cookie : Option CookieText) → taken_within 1 (in_refresh operation.persists held cookie prefix) m ≡ refused (in_refresh operation.persists held cookie prefix) StageFull
    midst_refused prefix rest m is passes cookie =
        step_refused covered P Q L N held are_known operation.persists cookie (staged_over held nothing_staged prefix) m (midst_step prefix rest m is) passes

    -- the end finds no present phase ended that it would end
    none_before : last_deletes late ≡ false → (staged_over held nothing_staged part).ended ≡ false
    none_before = by late
      where
        by : (us : List ℕ) → last_deletes us ≡ false → (staged_over held nothing_staged (walked ++ late_of us)).ended ≡ false
        by [] off = ended_is (walked ++ []) held nothing_staged ∙ ap (ended_over false) (append-nil walked) ∙ none_ended
        by (u ∷ us) off = absurd (true≢false off)

    module _ (within : (number : ℕ) → IsWithinLimits (operation.states number)) (rises : ascends held ≡ true) (cookie : Option CookieText) where
      abbrev r : RefreshStage
      r = staged_over held nothing_staged part

      abbrev before : Copy
      before = copy_at operation.persists held cookie r

      abbrev outcome : Copy × Answer
      outcome = taken 1 before last

      abbrev content : List Entry
      content = content_after operation mark

      abbrev asks : Copy
      asks = asking operation.persists held cookie

      ends : (ended : Bool) × (taken_all 1 asks (refresh operation start opened pieces) ≡ settled 1 operation.persists ended content (Some (operation.cookies mark)))
      ends = refresh_ends operation ascending 1 start opened pieces (record { held = held; cookie = cookie; session = None }) cut begins

      all_before : taken_all 1 asks part ≡ before
      all_before = steps_taken covered P Q L N held are_known operation.persists cookie part nothing_staged part_steps

      settles : outcome.0 ≡ settled 1 operation.persists ends.0 content (Some (operation.cookies mark))
      settles =
          ap (λ c. (taken 1 c last).0) (sym all_before)
          ∙ sym (taken_all-append part (last ∷ []) 1 asks)
          ∙ ap (taken_all 1 asks) (sym refresh_is)
          ∙ ends.1

      abbrev ended_stage : Stage
      ended_stage = (ends_phase held (session_in 1 operation.persists r.ended r.named r.stage) (last_deletes late)).stage

      answers_end : outcome.1 ≡ Stored (commit_of ended_stage (Some (operation.cookies mark)))
      answers_end = end_answer held cookie (operation.cookies mark) operation.persists (last_deletes late) r.ended r.named r.stage none_before

      held_end : outcome.0.held ≡ content
      held_end = ap (λ (c : Copy). c.held) settles

      no_limit : limit_fault (puts_entry last) outcome.0 outcome.1 ≡ None
      no_limit =
          ap (λ puts. limit_fault puts outcome.0 outcome.1) (end_puts operation.persists (last_deletes late) (operation.cookies mark))
          ∙ ap (limit_fault false outcome.0) answers_end
          ∙ ap against held_end
          ∙ nothing_against content (content_within operation ascending within mark)

      whole_end : taken_within 1 before last ≡ outcome
      whole_end = ap (λ fault. refused_by fault before outcome) no_limit

      -- the end brings the content into effect, with its cookie
      pub end_within : (prefix rest : List SyncMessage) (m : SyncMessage) → IsEnd part prefix last m rest
          → IsStored operation.persists held content (operation.cookies mark) (taken_within 1 (in_refresh operation.persists held cookie prefix) m)
      end_within prefix rest m is = subst (IsStored operation.persists held content (operation.cookies mark)) (sym same) (record {
        commit = commit_of ended_stage (Some (operation.cookies mark));
        answer = answers_end;
        text = refl;
        staged =
            stage_commits held ended_stage rises (fine-ended held (session_in 1 operation.persists r.ended r.named r.stage) (last_deletes late) (fine-over part held nothing_staged fine-none))
            ∙ sym (end_held held cookie (operation.cookies mark) operation.persists (last_deletes late) r.ended r.named r.stage none_before)
            ∙ held_end;
        ended = ends.0;
        copy = settles;
      })
        where
          same : taken_within 1 (in_refresh operation.persists held cookie prefix) m ≡ outcome
          same = (λ i. taken_within 1 (in_refresh operation.persists held cookie (is.notified i)) (is.message i)) ∙ whole_end

-- each refresh has a message
pub refresh_some : (operation : SyncOperation) (start : Start) (opened : ℕ) (pieces : List RefreshPiece) → HasNext (refresh operation start opened pieces)
refresh_some operation start opened pieces = subst HasNext (sym (refresh_is operation start opened pieces)) (some_next (part operation start opened pieces) (last operation start opened pieces))
