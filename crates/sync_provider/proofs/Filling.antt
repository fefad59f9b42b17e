-- What is pushed into a queue, by whether it is full, and the room for what is staged.
use Rattle.std.proofs.Common.{◌≡◌, ℕ, zero, suc, ◌+◌, ◌-◌, ◌*◌, ◌<◌, ◌≤◌, ◌^◌, Bool, true, false, cond, get_or, nat_lt, List, [], ◌∷◌, ◌++◌, length, refl, ap, sym, subst, ◌∙◌, arith, inl, inr, ◌⊎◌}
use Rattle.std.specs.Prelude.{◌&&◌, ◌||◌, ◌↔◌, sum_by, is_err, Result, Ok, Err, IfErr}
use Rattle.std.proofs.lemmas.Bool.{false≢true, true≢false, cases_lt, le-ltb, lt-ltb, ltb-true, or_right}
use Rattle.std.proofs.lemmas.List.{map_push, append-nil}
use Rattle.std.proofs.lemmas.List.Sums.{sum_by-append, sum_by-cons}
use Rattle.persist_queues.specs.Pending.{IsOver}
use Rattle.persist_queues.specs.declared.fault.QueueFault.{QueueFault}
use Rattle.persist_queues.specs.declared.fault.QueueFault.TheVariants.{QueueFull, NoMemory}
use Rattle.sync_model.specs.Message.{SyncMessage}
use Rattle.sync_model.specs.Law.{is_nil}
use Rattle.sync_slices.specs.Slices.{SliceProgress, grows_too_much, given_up}
use Rattle.sync_provider.specs.Queueing.{message_weight, most_pending_weight, is_full, overflowed, changed_weight, is_crowded, limits_of}
use Rattle.sync_provider.specs.Search.{SearchState}
use Rattle.sync_provider.specs.StagedGroups.{AreGrown, AreStaged, changed_with, grown_by, last_changed, messages_in}
use Rattle.sync_provider.specs.Staging.{counted_weight, queued, kept_changed, pushed_by, pushed_group, pushed_staged, first_pushed}
use Rattle.sync_provider.specs.declared.staged_group.StagedGroup.{StagedGroup}
use Rattle.sync_provider.proofs.Saying.{counted_sum}

-- ---- the weights as they are counted

abbrev Counted : List SyncMessage → Type 0
Counted items =
    (sum_by counted_weight items ≡ sum_by message_weight items)
    ⊎ ((2 ^ 64 - 1 ≤ sum_by counted_weight items) × (2 ^ 64 - 1 ≤ sum_by message_weight items))

heavy_is : (items : List SyncMessage) → Counted items → most_pending_weight < sum_by counted_weight items → most_pending_weight < sum_by message_weight items
heavy_is items (inl same) heavy = omega (arith, same, heavy)
heavy_is items (inr far) heavy = omega (arith, far.1)

heavy_was : (items : List SyncMessage) → Counted items → most_pending_weight < sum_by message_weight items → most_pending_weight < sum_by counted_weight items
heavy_was items (inl same) heavy = omega (arith, same, heavy)
heavy_was items (inr far) heavy = omega (arith, far.0)

-- a queue that would be over its limit is full
pub full_is : (limit : ℕ) (items : List SyncMessage) → IsOver counted_weight limit items → is_full limit items ≡ true
full_is limit items (inl many) = ap (λ b. b || nat_lt most_pending_weight (sum_by message_weight items)) (lt-ltb limit (length items) many)
full_is limit items (inr heavy) =
    or_right (nat_lt limit (length items)) (nat_lt most_pending_weight (sum_by message_weight items))
    (lt-ltb most_pending_weight (sum_by message_weight items) (heavy_is items (counted_sum items) heavy))

-- one that would not has room
pub room_is : (limit : ℕ) (items : List SyncMessage) → (IsOver counted_weight limit items → ⊥) → is_full limit items ≡ false
room_is limit items none = by (nat_lt limit (length items)) (nat_lt most_pending_weight (sum_by message_weight items)) refl refl
  where
    by : (b c : Bool) → nat_lt limit (length items) ≡ b → nat_lt most_pending_weight (sum_by message_weight items) ≡ c → (b || c) ≡ false
    by true c many heavy = absurd (none (inl (ltb-true limit (length items) many)))
    by false true many heavy = absurd (none (inr (heavy_was items (counted_sum items) (ltb-true most_pending_weight (sum_by message_weight items) heavy))))
    by false false many heavy = refl

-- ---- the search

-- with these messages due after the others
abbrev with_due : SearchState → List SyncMessage → SearchState
with_due s messages = record s { progress = record s.progress { due = s.progress.due ++ messages } }

-- without messages it stays
pub pushed_none : (limit : ℕ) (messages : List SyncMessage) (s : SearchState) → length messages ≡ 0 → queued limit messages s ≡ s
pushed_none limit [] s none = ap (λ due. record s { progress = record s.progress { due = due } }) (append-nil s.progress.due)
pushed_none limit (m ∷ ms) s none = absurd (omega (arith, none))

-- where they are too much it is over
pub pushed_over : (limit : ℕ) (messages : List SyncMessage) (s : SearchState) → 0 < length messages → IsOver counted_weight limit (s.progress.due ++ messages)
    → queued limit messages s ≡ overflowed s
pushed_over limit [] s some over = absurd (omega (arith, some))
pushed_over limit (m ∷ ms) s some over = ap (λ b. cond b (overflowed s) (with_due s (m ∷ ms))) (full_is limit (s.progress.due ++ m ∷ ms) over)

-- otherwise they are pending
pub pushed_in : (limit : ℕ) (messages : List SyncMessage) (s : SearchState) → 0 < length messages → (IsOver counted_weight limit (s.progress.due ++ messages) → ⊥)
    → queued limit messages s ≡ record s { progress = record s.progress { due = s.progress.due ++ messages } }
pushed_in limit [] s some none = absurd (omega (arith, some))
pushed_in limit (m ∷ ms) s some none = ap (λ b. cond b (overflowed s) (with_due s (m ∷ ms))) (room_is limit (s.progress.due ++ m ∷ ms) none)

-- ---- a group

-- it is dropped where a write was too much, or there is nothing in it
pub group_dropped : (limit : ℕ) (messages : List SyncMessage) (s : SearchState) → (s.over ≡ true) ⊎ (length messages ≡ 0) → pushed_group limit messages s ≡ s
group_dropped limit messages s (inl over) = ap (λ b. cond b s (pushed_by s.progress.left limit messages s)) over
group_dropped limit messages s (inr none) = ap (cond s.over s) (by s.progress.left messages none) ∙ same s.over
  where
    same : (b : Bool) → cond b s s ≡ s
    same true = refl
    same false = refl

    kept : (limit : ℕ) → kept_changed limit s.progress.changed s ≡ s
    kept limit =
        ap (λ b. cond (b && (limits_of limit).is_crowded (length s.progress.changed)) (overflowed s) s)
        (le-ltb (length s.progress.changed) (length s.progress.changed) (omega arith))

    by : (left : List ℕ) (messages : List SyncMessage) → length messages ≡ 0 → pushed_by left limit messages s ≡ s
    by [] messages none = pushed_none limit messages s none
    by (u ∷ us) [] none = kept limit
    by (u ∷ us) (m ∷ ms) none = absurd (omega (arith, none))

-- its messages go after what is due, or they are too much
pub group_queued : (limit : ℕ) (messages : List SyncMessage) (s : SearchState) (full : Bool) → s.over ≡ false → s.progress.left ≡ [] → 0 < length messages → full ≡ is_full limit (s.progress.due ++ messages)
    → pushed_group limit messages s ≡ cond full (overflowed s) (with_due s messages)
group_queued limit messages s full off none some is =
    ap (λ b. cond b s (pushed_by s.progress.left limit messages s)) off
    ∙ ap (λ left. pushed_by left limit messages s) none
    ∙ by messages some is
  where
    by : (ms : List SyncMessage) → 0 < length ms → full ≡ is_full limit (s.progress.due ++ ms) → queued limit ms s ≡ cond full (overflowed s) (with_due s ms)
    by [] some is = absurd (omega (arith, some))
    by (m ∷ ms) some is = ap (λ b. cond b (overflowed s) (with_due s (m ∷ ms))) (sym is)

-- or what changed is kept, or is too much
pub group_kept : (limit : ℕ) (messages : List SyncMessage) (s : SearchState) (changed : List ℕ) (full : Bool) → s.over ≡ false → is_nil s.progress.left ≡ false → changed ≡ changed_with s.progress.changed messages
    → full ≡ grows_too_much (limits_of limit) (length s.progress.changed) (length changed)
    → pushed_group limit messages s ≡ cond full (overflowed s) (record s { progress = record s.progress { changed = changed } })
group_kept limit messages s changed full off some same is =
    ap (λ b. cond b s (pushed_by s.progress.left limit messages s)) off
    ∙ by s.progress.left some
    ∙ ap (λ us. kept_changed limit us s) (sym same)
    ∙ ap (λ b. cond b (overflowed s) (record s { progress = record s.progress { changed = changed } })) (sym is)
  where
    by : (left : List ℕ) → is_nil left ≡ false → pushed_by left limit messages s ≡ kept_changed limit (changed_with s.progress.changed messages) s
    by [] some = absurd (true≢false some)
    by (u ∷ us) some = refl

-- the search then, by what is left of its refresh and its queue
pub queued_after : (limit : ℕ) (messages : List SyncMessage) (s : SearchState) (was now : SliceProgress) (due : List SyncMessage) (full : Bool) → s.progress ≡ record was { due = s.progress.due } → s.over ≡ false → was.left ≡ []
    → 0 < length messages → full ≡ is_full limit (s.progress.due ++ messages) → now ≡ cond full (given_up was) was → due ≡ cond full [] (s.progress.due ++ messages)
    → record s { progress = record now { due = due }; over = full } ≡ pushed_group limit messages s
queued_after limit messages s was now due full is off none some fits then dues =
    (λ i. record s { progress = record (then i) { due = dues i }; over = full })
    ∙ by full
    ∙ sym (group_queued limit messages s full off (ap (λ (p : SliceProgress). p.left) is ∙ none) some fits)
  where
    by : (b : Bool) → record s { progress = record (cond b (given_up was) was) { due = cond b [] (s.progress.due ++ messages) }; over = b } ≡ cond b (overflowed s) (with_due s messages)
    by true = ap (λ (p : SliceProgress). record s { progress = given_up p; over = true }) (sym is)
    by false = λ i. record s { progress = record (sym is i) { due = s.progress.due ++ messages }; over = sym off i }

-- what is kept after a write that changed something while pieces are left: more of what changed, or
-- nothing where that is too much
pub kept_after : (limit : ℕ) (messages : List SyncMessage) (s : SearchState) (was now : SliceProgress) (changed : List ℕ) (due : List SyncMessage) (full : Bool) → s.progress ≡ record was { due = s.progress.due } → s.over ≡ false → is_nil was.left ≡ false
    → changed ≡ changed_with was.changed messages → full ≡ grows_too_much (limits_of limit) (length was.changed) (length changed) → now ≡ cond full (given_up was) (record was { changed = changed }) → due ≡ cond full [] s.progress.due
    → record s { progress = record now { due = due }; over = full } ≡ pushed_group limit messages s
kept_after limit messages s was now changed due full is off some grown fits then dues =
    (λ i. record s { progress = record (then i) { due = dues i }; over = full })
    ∙ by full
    ∙ sym (group_kept limit messages s changed full off (ap (λ (p : SliceProgress). is_nil p.left) is ∙ some)
    (grown ∙ ap (λ (p : SliceProgress). changed_with p.changed messages) (sym is))
    (fits ∙ ap (λ (p : SliceProgress). grows_too_much (limits_of limit) (length p.changed) (length changed)) (sym is)))
  where
    by : (b : Bool) → record s { progress = record (cond b (given_up was) (record was { changed = changed })) { due = cond b [] s.progress.due }; over = b }
        ≡ cond b (overflowed s) (record s { progress = record s.progress { changed = changed } })
    by true = ap (λ (p : SliceProgress). record s { progress = given_up p; over = true }) (sym is)
    by false = λ i. record s { progress = record (sym is i) { changed = changed }; over = sym off i }

-- more identities than weigh 16 MiB, each 16
pub crowded_is : (limit count : ℕ) → (nat_lt limit count || nat_lt 1048576 count) ≡ is_crowded limit count
crowded_is limit count = ap (λ b. nat_lt limit count || b) (by (cases_lt 1048576 count))
  where
    by : (1048576 < count) ⊎ (count ≤ 1048576) → nat_lt 1048576 count ≡ nat_lt most_pending_weight (count * changed_weight)
    by (inl more) = lt-ltb 1048576 count more ∙ sym (lt-ltb most_pending_weight (count * changed_weight) (omega (arith, more)))
    by (inr few) = le-ltb 1048576 count few ∙ sym (le-ltb most_pending_weight (count * changed_weight) (omega (arith, few)))

-- ---- what is staged

-- nothing is, where no group is
pub none_staged : (staged : List StagedGroup) → staged ≡ [] → messages_in staged ≡ []
none_staged staged none = ap messages_in none

-- where none is staged there is room, whatever is left to decide
pub room_none : (over : Bool) (p : SliceProgress) (spare : ℕ) (staged : List StagedGroup) → staged ≡ [] → (over ≡ true → p.left ≡ []) → AreStaged over p spare 0 staged
room_none over p spare staged none ended = subst (AreStaged over p spare 0) (sym none) (record { ended = ended; counted = refl; room = λ off settled. omega arith; grown = λ some. tt })

-- nor where none was too much before
pub room_open : (over : Bool) (p : SliceProgress) (spare : ℕ) (staged : List StagedGroup) → staged ≡ [] → over ≡ false → AreStaged over p spare 0 staged
room_open over p spare staged none off = room_none over p spare staged none (λ on. absurd (false≢true (sym off ∙ on)))

-- nor where no more is left to decide than where some was
pub room_cleared : (over : Bool) (p q : SliceProgress) (spare after count : ℕ) (old staged : List StagedGroup) → AreStaged over p spare count old → q ≡ p → staged ≡ [] → AreStaged over q after 0 staged
room_cleared over p q spare after count old staged are same none = room_none over q after staged none (λ on. ap (λ (r : SliceProgress). r.left) same ∙ are.ended on)

-- what is handed out of the refresh changes nothing of it
pub room_handed : (over going : Bool) (p q : SliceProgress) (rest : List SyncMessage) (spare count : ℕ) (staged : List StagedGroup) → AreStaged over p spare count staged → q ≡ cond going (record p { rest = rest }) p → AreStaged over q spare count staged
room_handed over going p q rest spare count staged are same = subst (λ r. AreStaged over r spare count staged) (sym same) (by going)
  where
    by : (b : Bool) → AreStaged over (cond b (record p { rest = rest }) p) spare count staged
    by true = record { ended = are.ended; counted = are.counted; room = are.room; grown = are.grown }
    by false = are

-- more room is room
pub room_more : (over : Bool) (p : SliceProgress) (spare after count : ℕ) (staged : List StagedGroup) → AreStaged over p spare count staged → spare ≤ after → AreStaged over p after count staged
room_more over p spare after count staged are more = record {
  ended = are.ended;
  counted = are.counted;
  room = λ off settled. let within : count ≤ spare = are.room off settled in omega (arith, within, more);
  grown = are.grown;
}

-- ---- one group more

-- after what changed with all that is staged
grown_last : (changed : List ℕ) (staged : List StagedGroup) (group : StagedGroup) → AreGrown changed staged → group.changed ≡ changed_with (last_changed changed (messages_in staged)) group.messages.items
    → AreGrown changed (staged ++ group ∷ [])
grown_last changed [] group are is = (is, tt)
grown_last changed (first ∷ staged) group are is = (are.0, grown_last (changed_with changed first.messages.items) staged group are.1 is)

-- a search with one group more is staged as it should be
pub group_added : (over : Bool) (p : SliceProgress) (spare after count total : ℕ) (staged : List StagedGroup) (group : StagedGroup) → AreStaged over p spare count staged
    → total ≡ count + length group.messages.items → (over ≡ false → p.left ≡ [] → total ≤ after) → group.changed ≡ grown_by p.left (last_changed p.changed (messages_in staged)) group.messages.items
    → AreStaged over p after total (staged ++ group ∷ [])
group_added over p spare after count total staged group are all fits grown = record {
  ended = are.ended;
  counted =
      let longer = ap (sum_by length) (map_push (λ (g : StagedGroup). g.messages.items) staged group) in
      let both = sum_by-append length (messages_in staged) (group.messages.items ∷ []) in
      omega (arith, all, are.counted, longer, both);
  room = fits;
  grown = λ some. grown_last p.changed staged group (are.grown some) (grown ∙ by p.left some);
}
  where
    by : (left : List ℕ) → is_nil left ≡ false → grown_by left (last_changed p.changed (messages_in staged)) group.messages.items ≡ changed_with (last_changed p.changed (messages_in staged)) group.messages.items
    by [] some = absurd (true≢false some)
    by (u ∷ us) some = refl

-- the messages that are staged for one search more
pub groups_added : (staged : List StagedGroup) (group : StagedGroup) → messages_in (staged ++ group ∷ []) ≡ messages_in staged ++ group.messages.items ∷ []
groups_added staged group = map_push (λ (g : StagedGroup). g.messages.items) staged group

-- ---- what changes with it

-- nothing is kept once all is decided
pub grown_none : (left changed : List ℕ) (messages : List SyncMessage) → is_nil left ≡ true → [] ≡ grown_by left changed messages
grown_none [] changed messages none = refl
grown_none (u ∷ us) changed messages none = absurd (false≢true none)

-- else what changed before it, and with it
pub grown_some : (left before changed : List ℕ) (messages : List SyncMessage) (set : List ℕ) → is_nil left ≡ false → before ≡ changed → set ≡ changed_with before messages → set ≡ grown_by left changed messages
grown_some [] before changed messages set some same is = absurd (true≢false some)
grown_some (u ∷ us) before changed messages set some same is = is ∙ ap (λ c. changed_with c messages) same

-- the last group has what changed with all of them
pub last_is : (changed : List ℕ) (staged : List StagedGroup) (group : StagedGroup) (last : ℕ) → AreGrown changed staged → length staged ≡ suc last → group ≡ get_or staged last group
    → group.changed ≡ last_changed changed (messages_in staged)
last_is changed [] group last are long is = absurd (omega (arith, long))
last_is changed (first ∷ []) group zero are long is = ap (λ (g : StagedGroup). g.changed) is ∙ are.0
last_is changed (first ∷ []) group (suc last) are long is = absurd (omega (arith, long))
last_is changed (first ∷ next ∷ staged) group zero are long is = absurd (omega (arith, long))
last_is changed (first ∷ next ∷ staged) group (suc last) are long is = last_is (changed_with changed first.messages.items) (next ∷ staged) group last are.1 (omega (arith, long)) is

-- where there is none it is as it was
pub no_groups : (changed : List ℕ) (staged : List StagedGroup) → length staged ≡ 0 → changed ≡ last_changed changed (messages_in staged)
no_groups changed [] none = refl
no_groups changed (group ∷ staged) none = absurd (omega (arith, none))

-- ---- the first group

-- where there is none
pub first_none : (limit : ℕ) (s : SearchState) (staged : List StagedGroup) → length staged ≡ 0
    → first_pushed limit s (messages_in staged) ≡ record { search = s; staged = messages_in staged }
first_none limit s [] none = refl
first_none limit s (group ∷ staged) none = absurd (omega (arith, none))

-- where it is put there
pub first_some : (limit : ℕ) (s : SearchState) (staged rest : List StagedGroup) (group : StagedGroup) → staged ≡ group ∷ rest
    → first_pushed limit s (messages_in staged) ≡ record { search = pushed_group limit group.messages.items s; staged = messages_in rest }
first_some limit s staged rest group is = ap (λ groups. first_pushed limit s (messages_in groups)) is

module _ (over : Bool) (p : SliceProgress) (spare count : ℕ) (staged rest : List StagedGroup) (group : StagedGroup) (are : AreStaged over p spare count staged) (is : staged ≡ group ∷ rest) where
  abbrev messages : List SyncMessage
  messages = group.messages.items

  counts : count ≡ length messages + sum_by length (messages_in rest)
  counts = are.counted ∙ ap (λ groups. sum_by length (messages_in groups)) is ∙ sum_by-cons length messages (messages_in rest)

  -- it is counted
  pub group_counted : length messages ≤ count
  group_counted = omega (arith, counts)

  -- there is room for it
  pub group_fits : over ≡ false → p.left ≡ [] → length messages ≤ spare
  group_fits off none = let within : count ≤ spare = are.room off none in omega (arith, counts, within)

  -- it has what changed with it
  pub group_grown : is_nil p.left ≡ false → group.changed ≡ changed_with p.changed messages
  group_grown some = (subst (AreGrown p.changed) is (are.grown some)).0

  -- the others, where it is dropped
  pub left_dropped : (over ≡ true) ⊎ (length messages ≡ 0) → AreStaged over p spare (count - length messages) rest
  left_dropped dropped = record {
    ended = are.ended;
    counted = omega (arith, counts);
    room = λ off none. let within : count ≤ spare = are.room off none in omega (arith, counts, within);
    grown = λ some. by dropped some;
  }
    where
      all : is_nil p.left ≡ false → AreGrown (changed_with p.changed messages) rest
      all some = (subst (AreGrown p.changed) is (are.grown some)).1

      same : (ms : List SyncMessage) → length ms ≡ 0 → changed_with p.changed ms ≡ p.changed
      same [] none = refl
      same (m ∷ ms) none = absurd (omega (arith, none))

      by : (over ≡ true) ⊎ (length messages ≡ 0) → is_nil p.left ≡ false → AreGrown p.changed rest
      by (inl ended) some = absurd (true≢false (sym (ap is_nil (are.ended ended)) ∙ some))
      by (inr none) some = subst (λ c. AreGrown c rest) (same messages none) (all some)

  -- where nothing is left to decide
  pub left_settled : (full : Bool) (then : SliceProgress) (after : ℕ) → over ≡ false → p.left ≡ [] → then ≡ cond full (given_up p) p → spare ≤ after + length messages → AreStaged full then after (count - length messages) rest
  left_settled full then after off none same used = record {
    ended = λ on. settled;
    counted = omega (arith, counts);
    room = λ fits left. let within : count ≤ spare = are.room off none in omega (arith, counts, within, used);
    grown = λ some. absurd (true≢false (sym (ap is_nil settled) ∙ some));
  }
    where
      by : (b : Bool) → (cond b (given_up p) p).left ≡ []
      by true = refl
      by false = none

      settled : then.left ≡ []
      settled = ap (λ (q : SliceProgress). q.left) same ∙ by full

  -- where what changed is kept
  pub left_walking : (full : Bool) (then : SliceProgress) (after : ℕ) → is_nil p.left ≡ false → then ≡ cond full (given_up p) (record p { changed = group.changed }) → AreStaged full then after (count - length messages) rest
  left_walking full then after some same = subst (λ q. AreStaged full q after (count - length messages) rest) (sym same) (by full)
    where
      all : AreGrown (changed_with p.changed messages) rest
      all = (subst (AreGrown p.changed) is (are.grown some)).1

      by : (b : Bool) → AreStaged b (cond b (given_up p) (record p { changed = group.changed })) after (count - length messages) rest
      by true = record { ended = λ on. refl; counted = omega (arith, counts); room = λ off left. absurd (true≢false off); grown = λ some. absurd (true≢false some) }
      by false = record {
        ended = λ on. absurd (false≢true on);
        counted = omega (arith, counts);
        room = λ off left. absurd (true≢false (sym (ap is_nil left) ∙ some));
        grown = λ more. subst (λ c. AreGrown c rest) (sym (group_grown some)) all;
      }

-- what is refused where there is room is too much
pub refused_full : {A : Type 0} (r : Result A QueueFault) (limit spare long : ℕ) (Over : Type 0) → is_err r ≡ true → (r ≡ Err (QueueFull limit)) ↔ Over → (r ≡ Err NoMemory → spare < long)
    → IfErr r (λ e. (e ≡ QueueFull limit) ⊎ (e ≡ NoMemory)) → long ≤ spare → Over
refused_full (Ok x) limit spare long Over err full none faults fits = absurd (false≢true err)
refused_full (Err e) limit spare long Over err full none faults fits = by faults
  where
    by : (e ≡ QueueFull limit) ⊎ (e ≡ NoMemory) → Over
    by (inl is) = full.0 (λ i. Err (is i))
    by (inr is) = absurd (omega (arith, none (λ i. Err (is i)), fits))

-- once the first group is put there the others are left
pub pushed_next : (limit : ℕ) (s : SearchState) (groups : List (List SyncMessage)) → pushed_staged limit (first_pushed limit s groups).staged (first_pushed limit s groups).search ≡ pushed_staged limit groups s
pushed_next limit s [] = refl
pushed_next limit s (messages ∷ groups) = refl

-- one group fewer is left
pub left_next : (limit : ℕ) (s : SearchState) (groups : List (List SyncMessage)) → 0 < length groups → length (first_pushed limit s groups).staged + 1 ≡ length groups
left_next limit s [] some = absurd (omega (arith, some))
left_next limit s (messages ∷ groups) some = omega arith

-- where none is left, the search is as all of them leave it
pub pushed_end : (limit : ℕ) (groups : List (List SyncMessage)) (s whole : SearchState) → length groups ≡ 0 → pushed_staged limit groups s ≡ whole → s ≡ whole
pushed_end limit [] s whole none is = is
pushed_end limit (messages ∷ groups) s whole none is = absurd (omega (arith, none))

-- a group more is put after those before it
pub pushed_last : (limit : ℕ) (groups : List (List SyncMessage)) (messages : List SyncMessage) (s : SearchState)
    → pushed_staged limit (groups ++ messages ∷ []) s ≡ pushed_group limit messages (pushed_staged limit groups s)
pushed_last limit [] messages s = refl
pushed_last limit (first ∷ groups) messages s = pushed_last limit groups messages (pushed_group limit first s)
