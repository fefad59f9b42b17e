-- What is sent in several pieces meets no limit but that of the stage, where each state of the directory keeps within its limits.
use Rattle.std.proofs.Common.{◌≡◌, ℕ, ◌+◌, Bool, true, false, cond, List, [], ◌∷◌, ◌++◌, refl, sym, ap, ◌∙◌, arith, Some, None, Option, inl, inr, ◌⊎◌, subst, append_assoc}
use Rattle.std.specs.Prelude.{⊤, ◌&&◌, flat_map, is_some}
use Rattle.std.proofs.lemmas.Bool.{and_parts, true≢false}
use Rattle.std.proofs.lemmas.List.{append-nil}
use Rattle.entry_tree.specs.declared.entry.Entry.{Entry}
use Rattle.entry_tree.specs.State.{entry_at}
use Rattle.sync_model.specs.Message.{CookieText, SyncMessage}
use Rattle.sync_model.specs.Message.SyncMessage.{RefreshPresent}
use Rattle.sync_model.specs.Stream.{SyncOperation, Start, RefreshPiece, WalkDecision, content_after, is_delete_phase, decide_piece, decide_late, gathered, last_mark, late_uuids, end_of, after_walk, refresh, later, stream}
use Rattle.sync_model.specs.Copy.{Stage, Copy, Answer, Fault, asked, goes_on, puts_of, refused, taken, taken_all, answers, present_ended}
use Rattle.sync_model.specs.Copy.Answer.{Staged}
use Rattle.sync_model.specs.Copy.Fault.{StageFull}
use Rattle.sync_model.specs.Within.{exceeds_limits, puts_entry, staged_puts, limit_fault, refused_by, taken_within, taken_all_within, answers_within}
use Rattle.sync_model.specs.Law.{Ascending, IsCut, MayBegin, settled, IsWithinLimits, FillsStage, FitsOrFills}
use Rattle.sync_model.proofs.Gather.{EachM, IsPart, each-gathered}
use Rattle.sync_model.proofs.Taking.{refreshing, session_in, named_by, staged_by, names_after, stage_after, taken-own, taken-one, taken-part}
use Rattle.sync_model.proofs.Refresh.{Sent, Named, found, ascends-content, each-pieces, each-late, known, refresh_ends}
use Rattle.sync_model.proofs.Later.{taken_all-append}
use Rattle.sync_model.proofs.Fitting.{AllFit, content_within, end_fits, later_fits}

-- ---- messages that meet no limit but that of the stage

-- the stage is full with this message
pub record IsFilled (id : ℕ) (copy : Copy) (message : SyncMessage) : Type 0 where
  pub staged : (taken id copy message).1 ≡ Staged
  pub puts : puts_entry message ≡ true
  pub full : exceeds_limits (staged_puts (taken id copy message).0.session) ≡ true

-- it meets no limit, or fills the stage
abbrev pub OneMayFill : ℕ → Copy → SyncMessage → Type 0
OneMayFill id copy message = (limit_fault (puts_entry message) (taken id copy message).0 (taken id copy message).1 ≡ None) ⊎ IsFilled id copy message

abbrev pub AllMayFill : ℕ → Copy → List SyncMessage → Type 0
AllMayFill id copy [] = ⊤
AllMayFill id copy (message ∷ messages) = OneMayFill id copy message × AllMayFill id (taken id copy message).0 messages

may-fit : (messages : List SyncMessage) (id : ℕ) (copy : Copy) → AllFit id copy messages → AllMayFill id copy messages
may-fit [] id copy fit = tt
may-fit (message ∷ messages) id copy fit = (inl fit.0, may-fit messages id (taken id copy message).0 fit.1)

may-append : (messages more : List SyncMessage) (id : ℕ) (copy : Copy) → AllMayFill id copy messages → AllMayFill id (taken_all id copy messages) more → AllMayFill id copy (messages ++ more)
may-append [] more id copy one other = other
may-append (message ∷ messages) more id copy one other = (one.0, may-append messages more id (taken id copy message).0 one.1 other)

may-prefix : (messages more : List SyncMessage) (id : ℕ) (copy : Copy) → AllMayFill id copy (messages ++ more) → AllMayFill id copy messages
may-prefix [] more id copy may = tt
may-prefix (message ∷ messages) more id copy may = (may.0, may-prefix messages more id (taken id copy message).0 may.1)

-- a message that fills the stage is refused for that
filled_refused : (id : ℕ) (copy : Copy) (message : SyncMessage) → IsFilled id copy message → taken_within id copy message ≡ refused copy StageFull
filled_refused id copy message is =
    ap (λ fault. refused_by fault copy (taken id copy message))
    (ap (limit_fault (puts_entry message) (taken id copy message).0) is.staged
    ∙ (λ i. cond (is.puts i && is.full i) (Some StageFull) None))

-- so they fit, or one of them fills the stage
may_cases : (messages : List SyncMessage) (id : ℕ) (copy : Copy) → AllMayFill id copy messages → FitsOrFills id copy messages
may_cases [] id copy may = inl (refl, refl)
may_cases (message ∷ messages) id copy may = by may.0 (may_cases messages id (taken id copy message).0 may.1) where
  by : OneMayFill id copy message → FitsOrFills id (taken id copy message).0 messages → FitsOrFills id copy (message ∷ messages)
  by (inr filled) rest =
      inr (
        [],
        message,
        messages,
        refl,
        record {
          copy_within = refl;
          same_answers = refl;
          puts = filled.puts;
          full = filled.full;
          refused = filled_refused id copy message filled;
        },
      )
  by (inl fit) (inl same) =
      let one : taken_within id copy message ≡ taken id copy message = ap (λ fault. refused_by fault copy (taken id copy message)) fit in
      inl (
        ap (λ (outcome : Copy × Answer). taken_all_within id outcome.0 messages) one ∙ same.0,
        ap (λ (outcome : Copy × Answer). outcome.1 ∷ answers_within id outcome.0 messages) one ∙ ap (λ notified. (taken id copy message).1 ∷ notified) same.1,
      )
  by (inl fit) (inr fills) =
      let one : taken_within id copy message ≡ taken id copy message = ap (λ fault. refused_by fault copy (taken id copy message)) fit in
      let at : FillsStage id (taken id copy message).0 fills.0 fills.1 = fills.4 in
      inr (
        message ∷ fills.0,
        fills.1,
        fills.2,
        ap (λ ms. message ∷ ms) fills.3,
        record {
          copy_within = ap (λ (outcome : Copy × Answer). taken_all_within id outcome.0 fills.0) one ∙ at.copy_within;
          same_answers =
              ap (λ (outcome : Copy × Answer). outcome.1 ∷ answers_within id outcome.0 fills.0) one ∙ ap (λ notified. (taken id copy message).1 ∷ notified) at.same_answers;
          puts = at.puts;
          full = at.full;
          refused = at.refused;
        },
      )

-- ---- a part of a refresh

staged_may : (puts : Bool) (after : Copy) → (limit_fault puts after Staged ≡ None) ⊎ ((puts ≡ true) × (exceeds_limits (staged_puts after.session) ≡ true))
staged_may puts after = by (puts && exceeds_limits (staged_puts after.session)) refl where
  by : (b : Bool) → (puts && exceeds_limits (staged_puts after.session)) ≡ b → (limit_fault puts after Staged ≡ None) ⊎ ((puts ≡ true) × (exceeds_limits (staged_puts after.session) ≡ true))
  by true full = inr (and_parts puts (exceeds_limits (staged_puts after.session)) full)
  by false room = inl (ap (λ b. cond b (Some StageFull) None) room)

-- a message that is staged may fill the stage
one_may : (id : ℕ) (copy after : Copy) (message : SyncMessage) → taken id copy message ≡ (after, Staged) → OneMayFill id copy message
one_may id copy after message is = by (staged_may (puts_entry message) after) where
  by : (limit_fault (puts_entry message) after Staged ≡ None) ⊎ ((puts_entry message ≡ true) × (exceeds_limits (staged_puts after.session) ≡ true)) → OneMayFill id copy message
  by (inl fit) = inl (ap (λ (outcome : Copy × Answer). limit_fault (puts_entry message) outcome.0 outcome.1) is ∙ fit)
  by (inr full) = inr (record {
    staged = ap (λ (outcome : Copy × Answer). outcome.1) is;
    puts = full.0;
    full = ap (λ (outcome : Copy × Answer). exceeds_limits (staged_puts outcome.0.session)) is ∙ full.1;
  })

part_may : (messages : List SyncMessage) (deletes : Bool) (P : Entry → Type 0) (Q : ℕ → Type 0) (id : ℕ) (held : List Entry) (cookie : Option CookieText) (persists ended : Bool) (named : List ℕ) (stage : Stage)
    → EachM deletes P Q messages → (deletes ≡ false → (u : ℕ) → Q u → is_some (entry_at held u) ≡ true)
    → AllMayFill id (refreshing id held cookie persists ended named stage) messages
part_may [] deletes P Q id held cookie persists ended named stage part has = tt
part_may (message ∷ messages) deletes P Q id held cookie persists ended named stage part has =
    let copy : Copy = refreshing id held cookie persists ended named stage in
    let one : taken id copy message ≡ goes_on copy (session_in id persists ended (named_by named message) (staged_by stage message)) =
    taken-one message deletes P Q id held cookie persists ended named stage part.0 has in (
      one_may id copy (refreshing id held cookie persists ended (named_by named message) (staged_by stage message)) message one,
      subst (λ (outcome : Copy × Answer). AllMayFill id outcome.0 messages) (sym one)
          (part_may messages deletes P Q id held cookie persists ended (named_by named message) (staged_by stage message) part.1 has),
    )

-- ---- a refresh up to its end

-- what stands between the walk and the end
abbrev before_end : SyncOperation → (covered : Bool) → ℕ → List ℕ → List SyncMessage
before_end operation covered last [] = []
before_end operation covered last (u ∷ us) = cond covered [] (RefreshPresent false None ∷ []) ++ gathered true (flat_map (decide_late operation last) (u ∷ us))

-- the flag refreshDeletes of the end: all was covered, or something was named late
abbrev refresh_deletes : (covered : Bool) → List ℕ → Bool
refresh_deletes covered [] = covered
refresh_deletes covered (u ∷ us) = true

after_walk_is : (operation : SyncOperation) (covered : Bool) (last : ℕ) (late : List ℕ)
    → after_walk operation covered last late ≡ before_end operation covered last late ++ end_of operation.persists (refresh_deletes covered late) (operation.cookies last) ∷ []
after_walk_is operation covered last [] = refl
after_walk_is operation covered last (u ∷ us) =
    sym (append_assoc (cond covered [] (RefreshPresent false None ∷ [])) (gathered true (flat_map (decide_late operation last) (u ∷ us))) (end_of operation.persists true (operation.cookies last) ∷ []))

module _ (operation : SyncOperation) (ascending : Ascending operation) (within : (number : ℕ) → IsWithinLimits (operation.states number)) where
  -- the late part
  late_may : (us : List ℕ) (last id : ℕ) (held : List Entry) (cookie : Option CookieText) (persists ended : Bool) (named : List ℕ) (stage : Stage)
      → AllMayFill id (refreshing id held cookie persists ended named stage) (gathered true (flat_map (decide_late operation last) us))
  late_may us last id held cookie persists ended named stage =
      part_may (gathered true (flat_map (decide_late operation last) us)) true (λ x. found operation ascending last x.uuid ≡ Some x) (λ u. found operation ascending last u ≡ None) id held cookie persists ended named stage
      (each-gathered true (λ x. found operation ascending last x.uuid ≡ Some x) (λ u. found operation ascending last u ≡ None) (flat_map (decide_late operation last) us) (each-late operation ascending us last))
      (λ c. absurd (true≢false c))

  before_end_may : (covered : Bool) (late : List ℕ) (last id : ℕ) (held : List Entry) (cookie : Option CookieText) (persists : Bool) (named : List ℕ) (stage : Stage)
      → AllMayFill id (refreshing id held cookie persists false named stage) (before_end operation covered last late)
  before_end_may covered [] last id held cookie persists named stage = tt
  before_end_may true (u ∷ us) last id held cookie persists named stage = late_may (u ∷ us) last id held cookie persists false named stage
  before_end_may false (u ∷ us) last id held cookie persists named stage =
      let copy : Copy = refreshing id held cookie persists false named stage in
      let after : Copy = refreshing id held cookie persists true named (present_ended named stage held) in
      let one : taken id copy (RefreshPresent false None) ≡ (after, Staged) = taken-own copy (session_in id persists false named stage) (RefreshPresent false None) refl in (
        one_may id copy after (RefreshPresent false None) one,
        subst (λ (outcome : Copy × Answer). AllMayFill id outcome.0 (gathered true (flat_map (decide_late operation last) (u ∷ us)))) (sym one)
            (late_may (u ∷ us) last id held cookie persists true named (present_ended named stage held)),
      )

  module _ (id : ℕ) (start : Start) (accepted : ℕ) (pieces : List RefreshPiece) (copy : Copy) (cut : IsCut operation start accepted pieces) (begins : MayBegin operation start accepted copy.held) where
    abbrev first : Copy
    first = asked id operation.persists copy

    abbrev last : ℕ
    last = last_mark accepted pieces

    abbrev deletes : Bool
    deletes = is_delete_phase start

    abbrev late : List ℕ
    late = late_uuids operation accepted last

    abbrev walked : List SyncMessage
    walked = gathered deletes (flat_map (decide_piece operation start) pieces)

    abbrev middle : List SyncMessage
    middle = before_end operation deletes last late

    abbrev end : List SyncMessage
    end = end_of operation.persists (refresh_deletes deletes late) (operation.cookies last) ∷ []

    refresh_is : refresh operation start accepted pieces ≡ (walked ++ middle) ++ end
    refresh_is = ap (λ ms. walked ++ ms) (after_walk_is operation deletes last late) ∙ sym (append_assoc walked middle end)

    part : EachM deletes (Sent operation ascending accepted last) (Named operation ascending start accepted last) walked
    part =
        each-gathered deletes (Sent operation ascending accepted last) (Named operation ascending start accepted last) (flat_map (decide_piece operation start) pieces)
        (each-pieces operation ascending pieces start accepted last accepted (omega arith) cut.rises (omega arith))

    walked_is : taken_all id first walked ≡ refreshing id copy.held copy.cookie operation.persists false (names_after [] walked) (stage_after [] walked)
    walked_is =
        ap (taken_all id first) (sym (append-nil walked))
        ∙ taken-part walked [] deletes (Sent operation ascending accepted last) (Named operation ascending start accepted last) id copy.held copy.cookie operation.persists false [] [] part
        (known operation ascending start accepted last copy.held begins)

    ends : (ended : Bool) × (taken_all id first (refresh operation start accepted pieces) ≡ settled id operation.persists ended (content_after operation last) (Some (operation.cookies last)))
    ends = refresh_ends operation ascending id start accepted pieces copy cut begins

    up_to_end : AllMayFill id first (walked ++ middle)
    up_to_end =
        may-append walked middle id first
        (part_may walked deletes (Sent operation ascending accepted last) (Named operation ascending start accepted last) id copy.held copy.cookie operation.persists false [] [] part
        (known operation ascending start accepted last copy.held begins))
        (subst (λ c. AllMayFill id c middle) (sym walked_is)
        (before_end_may deletes late last id copy.held copy.cookie operation.persists (names_after [] walked) (stage_after [] walked)))

    end_held : (taken_all id (taken_all id first (walked ++ middle)) end).held ≡ content_after operation last
    end_held =
        ap (λ (c : Copy). c.held)
        (sym (taken_all-append (walked ++ middle) end id first) ∙ ap (taken_all id first) (sym refresh_is) ∙ ends.1)

    refresh_may : AllMayFill id first (refresh operation start accepted pieces)
    refresh_may =
        subst (AllMayFill id first) (sym refresh_is)
        (may-append (walked ++ middle) end id first up_to_end
        (may-fit end id (taken_all id first (walked ++ middle))
        (end_fits operation.persists (refresh_deletes deletes late) (operation.cookies last) id (taken_all id first (walked ++ middle))
        (subst IsWithinLimits (sym end_held) (content_within operation ascending within last)))))

    stream_may : (count : ℕ) → AllMayFill id first (stream operation start accepted pieces count)
    stream_may count =
        may-append (refresh operation start accepted pieces) (cond operation.persists (later operation last count) []) id first refresh_may
        (subst (λ c. AllMayFill id c (cond operation.persists (later operation last count) [])) (sym ends.1) (past operation.persists ends.0))
      where
        past : (persists ended : Bool) → AllMayFill id (settled id persists ended (content_after operation last) (Some (operation.cookies last))) (cond persists (later operation last count) [])
        past true ended =
            may-fit (later operation last count) id (settled id true ended (content_after operation last) (Some (operation.cookies last)))
            (later_fits operation ascending within count id last ended (Some (operation.cookies last)))
        past false ended = tt

  -- a prefix of what is sent meets no limit, or fills the stage
  pub prefix_fits_or_fills : (id : ℕ) (start : Start) (accepted : ℕ) (pieces : List RefreshPiece) (count : ℕ) (copy : Copy) (prefix rest : List SyncMessage) → IsCut operation start accepted pieces
      → MayBegin operation start accepted copy.held → prefix ++ rest ≡ stream operation start accepted pieces count → FitsOrFills id (asked id operation.persists copy) prefix
  prefix_fits_or_fills id start accepted pieces count copy prefix rest cut begins same =
      may_cases prefix id (asked id operation.persists copy)
      (may-prefix prefix rest id (asked id operation.persists copy)
      (subst (AllMayFill id (asked id operation.persists copy)) (sym same) (stream_may id start accepted pieces copy cut begins count)))
