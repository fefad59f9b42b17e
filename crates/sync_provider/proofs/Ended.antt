-- After the end of a search its count stays.
use Rattle.std.proofs.Common.{◌≡◌, ℕ, ◌+◌, ◌-◌, ◌<◌, Bool, true, false, cond, nat_eq, nat_lt, List, [], ◌∷◌, ◌++◌, length, Option, Some, None, refl, ap, sym, ◌∙◌, arith, subst, inl, inr, ◌⊎◌, append_assoc, append-nil}
use Rattle.std.specs.Prelude.{Result, Ok, Err, not, ◌&&◌, ◌||◌, drop, flat_map}
use Rattle.std.proofs.lemmas.Bool.{true≢false, le-ltb, cases_Bool}
use Rattle.entry_tree.specs.declared.op.Op.TheVariants.{Commit}
use Rattle.entry_tree.specs.declared.op.Op.{Op}
use Rattle.entry_tree.specs.declared.op.Write.{Write}
use Rattle.sync_model.specs.Law.{is_nil}
use Rattle.sync_model.specs.Message.{SyncMessage}
use Rattle.sync_model.specs.Message.SyncMessage.{RefreshPresent}
use Rattle.sync_model.specs.Stream.{SyncOperation, Start, RefreshPiece, WalkDecision, is_delete_phase, decide_piece, decide_late, last_mark, late_uuids, gathered, end_of, after_walk, refresh, group, later, stream}
use Rattle.sync_model.proofs.Gather.{Each, each-append}
use Rattle.sync_model.proofs.Groups.{heads, tails}
use Rattle.sync_model.proofs.Prefixes.{nil_is}
use Rattle.sync_slices.specs.Law.{IsAt, IsWalking, IsSettled}
use Rattle.sync_slices.specs.Slices as slices
use Rattle.sync_slices.specs.Slices.{SlicedRefresh, pieces_of, left_of, rest_piece, all_pieces, stream_upto, marks_then, pending_now, coming_by}
use Rattle.sync_slices.proofs.Deciding.{some_left}
use Rattle.sync_slices.proofs.HandingOut.{pending_then}
use Rattle.sync_slices.proofs.Streams.{pending_some}
use Rattle.directory_writes.specs.Directory.{DirectoryState, judged}
use Rattle.sync_provider.specs.Committing.{commit_refusal}
use Rattle.sync_provider.specs.Law.{BeginsWith, HasHandedOut, refresh_at, Delivers, Tally, is_too_much, after_write, after_commit, after_hand_out, tally_after}
use Rattle.sync_provider.specs.Machine.{ProviderState, ProviderCall, judged_by, called}
use Rattle.sync_provider.specs.Machine.ProviderCall.{Writes, Commits, Accepts, HandsOut, Drops, SetsLogLimit, SetsQueueLimit}
use Rattle.sync_provider.specs.Queueing.{limits_of}
use Rattle.sync_provider.specs.Search.{SearchState, sliced_over, sliced, pending, advanced, is_end}
use Rattle.sync_provider.specs.declared.writing.CommitFault.{CommitFault}
use Rattle.sync_provider.proofs.Agreeing.{pending_longer}
use Rattle.sync_provider.proofs.Growing.{refresh_like, GoesOn, break_goes, gathered_goes, called_begins}
use Rattle.sync_provider.proofs.Judged.{run_same}
use Rattle.sync_provider.proofs.Overflows.{Matches, next_match}
use Rattle.sync_provider.proofs.Places.{begins_with_own, positive}
use Rattle.sync_provider.proofs.SearchNotified.{pending_open}
use Rattle.sync_provider.proofs.Streams.{Stands, stands_delivers, ends_with_refresh}

-- ---- an end is the last message

-- messages of which the last alone may be an end
pub record EndsOnce (messages : List SyncMessage) : Type 0 where
  pub before : List SyncMessage
  pub last : SyncMessage
  pub goes : Each GoesOn before
  pub split : messages ≡ before ++ last ∷ []

after_walk_once : (operation : SyncOperation) (covered : Bool) (last : ℕ) (late : List ℕ) → EndsOnce (after_walk operation covered last late)
after_walk_once operation covered last [] = record { before = []; last = end_of operation.persists covered (operation.cookies last); goes = tt; split = refl }
after_walk_once operation covered last (u ∷ us) = record {
  before = break ++ gathered true decisions;
  last = end_of operation.persists true (operation.cookies last);
  goes = each-append GoesOn break (gathered true decisions) (break_goes covered) (gathered_goes true decisions);
  split = sym (append_assoc break (gathered true decisions) (end_of operation.persists true (operation.cookies last) ∷ []));
}
  where
    decisions : List WalkDecision
    decisions = flat_map (decide_late operation last) (u ∷ us)

    break : List SyncMessage
    break = cond covered [] (RefreshPresent false None ∷ [])

-- so it is in a search that ends with its refresh
stream_once : (operation : SyncOperation) (start : Start) (opened : ℕ) (pieces : List RefreshPiece) (count : ℕ) → operation.persists ≡ false → EndsOnce (stream operation start opened pieces count)
stream_once operation start opened pieces count ends = record {
  before = walked ++ once.before;
  last = once.last;
  goes = each-append GoesOn walked once.before (gathered_goes (is_delete_phase start) (flat_map (decide_piece operation start) pieces)) once.goes;
  split =
      ap (λ b. refresh operation start opened pieces ++ cond b (later operation (last_mark opened pieces) count) []) ends
      ∙ append-nil (refresh operation start opened pieces)
      ∙ ap (λ ms. walked ++ ms) once.split
      ∙ sym (append_assoc walked once.before (once.last ∷ []));
}
  where
    walked : List SyncMessage
    walked = gathered (is_delete_phase start) (flat_map (decide_piece operation start) pieces)

    once : EndsOnce (after_walk operation (is_delete_phase start) (last_mark opened pieces) (late_uuids operation opened (last_mark opened pieces)))
    once = after_walk_once operation (is_delete_phase start) (last_mark opened pieces) (late_uuids operation opened (last_mark opened pieces))

nothing_after : (before front ms : List SyncMessage) (m last : SyncMessage) → Each GoesOn front → is_end m ≡ true → before ++ m ∷ ms ≡ front ++ last ∷ [] → ms ≡ []
nothing_after [] [] ms m last goes end same = tails m last ms [] same
nothing_after [] (x ∷ front) ms m last goes end same = absurd (true≢false (sym end ∙ ap is_end (heads m x ms (front ++ last ∷ []) same) ∙ goes.0))
nothing_after (b ∷ before) [] ms m last goes end same = absurd (never before (tails b last (before ++ m ∷ ms) [] same))
  where
    never : (xs : List SyncMessage) → xs ++ m ∷ ms ≡ [] → ⊥
    never [] e = some_left (m ∷ ms) refl e
    never (x ∷ xs) e = some_left (x ∷ (xs ++ m ∷ ms)) refl e
nothing_after (b ∷ before) (x ∷ front) ms m last goes end same = nothing_after before front ms m last goes.1 end (tails b x (before ++ m ∷ ms) (front ++ last ∷ []) same)

-- nothing follows the end of a search that ends with its refresh
pub end_is_last : (r : SlicedRefresh) (marks : List ℕ) (now : ℕ) (before ms : List SyncMessage) (m : SyncMessage) → r.operation.persists ≡ false → is_end m ≡ true → before ++ m ∷ ms ≡ stream_upto r marks now → ms ≡ []
end_is_last r marks now before ms m ends end whole =
    let once : EndsOnce (stream_upto r marks now) = stream_once r.operation r.start r.accepted (all_pieces r marks now) (now - last_mark r.accepted (all_pieces r marks now)) ends in
    nothing_after before once.before ms m once.last once.goes end (whole ∙ once.split)

-- ---- a search that ended with its refresh

-- its refresh was handed out whole, over each longer history
abbrev pub IsHandedOutWhole : SlicedRefresh → Tally → Type 0
IsHandedOutWhole r t = (left_of r t.marks ≡ []) × (t.handed ≡ length (refresh r.operation r.start r.accepted (pieces_of r t.marks)))

pub record IsDone (s0 : SearchState) (d : DirectoryState) (t : Tally) : Type 0 where
  pub over : t.over ≡ false
  pub ends : s0.persists ≡ false
  pub whole : (writes : List Write) → BeginsWith d writes → IsHandedOutWhole (refresh_at d s0 writes) t

-- where nothing is pending of a search that ends with its refresh, all of that was handed out
pub all_handed : (r : SlicedRefresh) (now : ℕ) (s : slices.SliceProgress) (handed handed_later : List SyncMessage) → IsAt r now s handed handed_later → pending_now r now s ≡ [] → r.operation.persists ≡ false
    → (left_of r s.marks ≡ []) × (length handed + length handed_later ≡ length (refresh r.operation r.start r.accepted (pieces_of r s.marks)))
all_handed r now s handed handed_later at none ends = (sym at.marked.left ∙ decided, counted at.place)
  where
    decided : s.left ≡ []
    decided = elim (cases_Bool (is_nil s.left)) [
      | inl here ↦ nil_is s.left here
      | inr off ↦ absurd (true≢false (sym (ap is_nil none) ∙ pending_some r now s off))
    ]

    first_none : (xs ys : List SyncMessage) → xs ++ ys ≡ [] → xs ≡ []
    first_none [] ys e = refl
    first_none (x ∷ xs) ys e = absurd (some_left (x ∷ (xs ++ ys)) refl e)

    no_rest : s.rest ≡ []
    no_rest = first_none s.rest (coming_by s.left r now s ++ s.due) none

    counted : ((is_nil s.left ≡ false) × IsWalking r now s handed handed_later) ⊎ ((s.left ≡ []) × IsSettled r now s handed handed_later)
        → length handed + length handed_later ≡ length (refresh r.operation r.start r.accepted (pieces_of r s.marks))
    counted (inl walks) = absurd (some_left s.left walks.0 decided)
    counted (inr settled) =
        let all : length handed ≡ length (refresh r.operation r.start r.accepted (pieces_of r s.marks)) =
        ap length (sym (append-nil handed) ∙ ap (λ ms. handed ++ ms) (sym no_rest) ∙ settled.1.rest)
        in
        let sent_none : handed_later ++ s.due ≡ [] =
        settled.1.due ∙ ap (λ b. cond b (later r.operation (slices.last_of r s.marks) (now - slices.last_of r s.marks)) []) ends
        in
        let none_later : length handed_later ≡ 0 = ap length (first_none handed_later s.due sent_none) in
        omega (arith, all, none_later)

-- a search that is not over and hands out its end is done
pub ended_done : (d0 : DirectoryState) (s0 : SearchState) (p : ProviderState) (s : SearchState) (before : List SyncMessage) (t : Tally) (m : SyncMessage) (ms : List SyncMessage)
    → Stands d0 s0 p.directory s before → Matches s0 p.directory s t → pending p.directory s ≡ m ∷ ms → is_end m ≡ true → s.over ≡ false → IsDone s0 p.directory (after_hand_out p s0 t)
ended_done d0 s0 p s before t m ms stands matches first end off = record {
  over = after.over ∙ off;
  ends = ends;
  whole = λ writes begins.
      let at : IsAt (refresh_at d s writes) (length d.writes) (advanced d s).progress now.now.handed now.now.handed_later = now.now.place writes begins in
      let none : pending_now (refresh_at d s writes) (length d.writes) (advanced d s).progress ≡ [] =
      sym (pending_longer d.sid d.history s d.writes begins.0 writes begins.1 (length d.writes) (omega arith) at.marked.low (advanced d s).progress) ∙ no_more
      in
      let all : (left_of (refresh_at d s writes) (advanced d s).progress.marks ≡ []) × (length now.now.handed + length now.now.handed_later ≡ length (refreshed (refresh_at d s writes) (advanced d s).progress.marks)) =
      all_handed (refresh_at d s writes) (length d.writes) (advanced d s).progress now.now.handed now.now.handed_later at none (matches.same.persists ∙ ends)
      in
      let like : refresh_at d s0 writes ≡ refresh_at d s writes = refresh_like d s0 d s refl refl matches.same writes in
      ((λ i. left_of (like i) (after.marks i)) ∙ all.0, now.counted ∙ all.1 ∙ sym (λ i. length (refreshed (like i) (after.marks i))));
}
  where
    d : DirectoryState
    d = p.directory

    refreshed : SlicedRefresh → List ℕ → List SyncMessage
    refreshed r marks = refresh r.operation r.start r.accepted (pieces_of r marks)

    after : Matches s0 d (advanced d s) (after_hand_out p s0 t)
    after = next_match s0 p s t matches m ms off first

    ends : s0.persists ≡ false
    ends = ends_with_refresh d0 s0 d s before m ms stands first end off

    now : HasHandedOut d (advanced d s) (after_hand_out p s0 t).handed
    now = after.counted off

    -- nothing follows it
    last : ms ≡ []
    last =
        let whole : before ++ m ∷ ms ≡ stream_upto (refresh_at d0 s0 d.writes) s.progress.marks (length d.writes) =
        ap (λ l. before ++ l) (sym first)
        ∙ subst (λ o. Delivers o (before ++ pending d s) (stream_upto (refresh_at d0 s0 d.writes) s.progress.marks (length d.writes))) off (stands_delivers d0 s0 d s before stands d.writes (begins_with_own d))
        in
        end_is_last (refresh_at d0 s0 d.writes) s.progress.marks (length d.writes) before ms m ends end whole

    no_more : pending_now (sliced d s) (length d.writes) (advanced d s).progress ≡ []
    no_more = pending_then (sliced d s) (length d.writes) s.progress (positive d s) m ms (sym (pending_open d s off) ∙ first) ∙ last

-- ---- nothing changes any more

-- of a search that is over, or that ended with its refresh
abbrev pub IsPast : SearchState → DirectoryState → Tally → Type 0
IsPast s0 d t = (t.over ≡ true) ⊎ IsDone s0 d t

-- a write sends nothing to a search that does not go on
pub never_too_much : (limits : slices.QueueLimits) (operation : SyncOperation) (before : ℕ) (items : List SyncMessage) → operation.persists ≡ false → slices.sends_too_much limits (slices.messages_by operation before) items ≡ false
never_too_much limits operation before items ends = ap (λ b. slices.sends_too_much limits (cond b (group operation before) []) items) ends

module _ (s0 : SearchState) (p : ProviderState) (t : Tally) where
  abbrev d : DirectoryState
  d = p.directory

  past_write : (outcome : Result Write ℕ) → IsPast s0 d t → after_write p s0 outcome t ≡ t
  past_write (Err code) past = refl
  past_write (Ok w) past = λ i. record t { over = same past i }
    where
      writes : List Write
      writes = d.writes ++ w ∷ []

      r : SlicedRefresh
      r = refresh_at d s0 writes

      sends_nothing : IsDone s0 d t → is_too_much p.queue_limit d s0 w t.marks t.handed ≡ false
      sends_nothing done =
          ap (λ left. slices.is_too_much_by left (limits_of p.queue_limit) r t.marks t.handed (length d.writes)) (done.whole writes (w ∷ [], refl)).0
          ∙ never_too_much (limits_of p.queue_limit) r.operation (length d.writes)
          (drop (t.handed - length (refresh r.operation r.start r.accepted (pieces_of r t.marks))) (slices.later_upto r t.marks (length d.writes + 1))) done.ends

      same : IsPast s0 d t → (t.over || is_too_much p.queue_limit d s0 w t.marks t.handed) ≡ t.over
      same (inl on) = ap (λ b. b || is_too_much p.queue_limit d s0 w t.marks t.handed) on ∙ sym on
      same (inr done) = ap (λ b. b || is_too_much p.queue_limit d s0 w t.marks t.handed) done.over ∙ sends_nothing done ∙ sym done.over

  past_commit : (op : Op) (now : ℕ) (refusal : Option CommitFault) → IsPast s0 d t → after_commit p s0 op now refusal t ≡ t
  past_commit op now None past = past_write (judged d op now) past
  past_commit op now (Some fault) past = refl

  past_hand_out : IsPast s0 d t → after_hand_out p s0 t ≡ t
  past_hand_out past = by past
    where
      r : SlicedRefresh
      r = refresh_at d s0 d.writes

      more : Tally
      more = record t { handed = t.handed + 1; marks = marks_then r t.handed (length d.writes) t.marks }

      by : IsPast s0 d t → cond (not t.over && nat_lt t.handed (length (stream_upto r t.marks (length d.writes)))) more t ≡ t
      by (inl on) = ap (λ b. cond (not b && nat_lt t.handed (length (stream_upto r t.marks (length d.writes)))) more t) on
      by (inr done) = λ i. cond (not (done.over i) && none_left i) more t
        where
          whole : IsHandedOutWhole r t
          whole = done.whole d.writes (begins_with_own d)

          refreshed : List RefreshPiece → List SyncMessage
          refreshed pieces = refresh r.operation r.start r.accepted pieces

          stream_is : stream_upto r t.marks (length d.writes) ≡ refreshed (pieces_of r t.marks)
          stream_is =
              ap (λ left. stream r.operation r.start r.accepted (pieces_of r t.marks ++ rest_piece (length d.writes) left) (length d.writes - last_mark r.accepted (pieces_of r t.marks ++ rest_piece (length d.writes) left))) whole.0
              ∙ ap (λ pieces. stream r.operation r.start r.accepted pieces (length d.writes - last_mark r.accepted pieces)) (append-nil (pieces_of r t.marks))
              ∙ ap (λ b. refreshed (pieces_of r t.marks) ++ cond b (later r.operation (last_mark r.accepted (pieces_of r t.marks)) (length d.writes - last_mark r.accepted (pieces_of r t.marks))) []) done.ends
              ∙ append-nil (refreshed (pieces_of r t.marks))

          none_left : nat_lt t.handed (length (stream_upto r t.marks (length d.writes))) ≡ false
          none_left =
              let long : length (stream_upto r t.marks (length d.writes)) ≡ length (refreshed (pieces_of r t.marks)) = ap length stream_is in
              let all : t.handed ≡ length (refreshed (pieces_of r t.marks)) = whole.1 in
              le-ltb t.handed (length (stream_upto r t.marks (length d.writes))) (omega (arith, long, all))

-- it is so later
past_longer : (s0 : SearchState) (p : ProviderState) (t : Tally) (call : ProviderCall) → IsPast s0 p.directory t → IsPast s0 (called p call).directory t
past_longer s0 p t call (inl on) = inl on
past_longer s0 p t call (inr done) = inr (record { over = done.over; ends = done.ends; whole = later_whole call })
  where
    same_at : (q : ProviderState) → q.directory.sid ≡ p.directory.sid → q.directory.history ≡ p.directory.history → ((writes : List Write) → BeginsWith q.directory writes → BeginsWith p.directory writes)
        → (writes : List Write) → BeginsWith q.directory writes → IsHandedOutWhole (refresh_at q.directory s0 writes) t
    same_at q sid history begins writes from = subst (λ (r : SlicedRefresh). IsHandedOutWhole r t) (λ i. sliced_over (sym sid i) (sym history i) writes s0) (done.whole writes (begins writes from))

    later_whole : (c : ProviderCall) → (writes : List Write) → BeginsWith (called p c).directory writes → IsHandedOutWhole (refresh_at (called p c).directory s0 writes) t
    later_whole c = same_at (called p c) (run_same (c ∷ []) p).sid (run_same (c ∷ []) p).history (called_begins p c)

-- the count stays
pub stays_counted : (calls : List ProviderCall) (number : ℕ) (s0 : SearchState) (p : ProviderState) (t : Tally) → IsPast s0 p.directory t → tally_after number s0 p t calls ≡ t
stays_counted [] number s0 p t past = refl
stays_counted (Writes op now ∷ calls) number s0 p t past =
    ap (λ u. tally_after number s0 (called p (Writes op now)) u calls) (past_write s0 p t (judged_by p.kind p.directory op now) past)
    ∙ stays_counted calls number s0 (called p (Writes op now)) t (past_longer s0 p t (Writes op now) past)
stays_counted (Commits puts drops now ∷ calls) number s0 p t past =
    ap (λ u. tally_after number s0 (called p (Commits puts drops now)) u calls) (past_commit s0 p t (Commit puts drops) now (commit_refusal p.kind p.directory puts drops now) past)
    ∙ stays_counted calls number s0 (called p (Commits puts drops now)) t (past_longer s0 p t (Commits puts drops now) past)
stays_counted (Accepts ask ∷ calls) number s0 p t past = stays_counted calls number s0 (called p (Accepts ask)) t (past_longer s0 p t (Accepts ask) past)
stays_counted (SetsLogLimit limit ∷ calls) number s0 p t past = stays_counted calls number s0 (called p (SetsLogLimit limit)) t (past_longer s0 p t (SetsLogLimit limit) past)
stays_counted (SetsQueueLimit limit ∷ calls) number s0 p t past = stays_counted calls number s0 (called p (SetsQueueLimit limit)) t (past_longer s0 p t (SetsQueueLimit limit) past)
stays_counted (HandsOut other ∷ calls) number s0 p t past =
    ap (λ u. tally_after number s0 (called p (HandsOut other)) u calls) (by (nat_eq other number))
    ∙ stays_counted calls number s0 (called p (HandsOut other)) t (past_longer s0 p t (HandsOut other) past)
  where
    by : (b : Bool) → cond b (after_hand_out p s0 t) t ≡ t
    by true = past_hand_out s0 p t past
    by false = refl
stays_counted (Drops other ∷ calls) number s0 p t past = by (stays_counted calls number s0 (called p (Drops other)) t (past_longer s0 p t (Drops other) past)) (nat_eq other number)
  where
    by : tally_after number s0 (called p (Drops other)) t calls ≡ t → (b : Bool) → cond b t (tally_after number s0 (called p (Drops other)) t calls) ≡ t
    by rest true = refl
    by rest false = rest
