-- Pieces that are decided until a message is there.
use Rattle.std.proofs.Common.{◌≡◌, ℕ, None, zero, suc, ◌-◌, ◌<◌, ◌≤◌, Bool, true, false, cond, List, [], ◌∷◌, ◌++◌, length, drop, take, refl, ap, sym, ◌∙◌, arith, length-drop}
use Rattle.std.specs.Prelude.{not, ◌&&◌, ◌||◌, flat_map}
use Rattle.std.proofs.lemmas.Bool.{true≢false, or_parts}
use Rattle.sync_model.specs.Law.{is_nil}
use Rattle.sync_model.specs.Message.{SyncMessage}
use Rattle.sync_model.specs.Message.SyncMessage.{RefreshPresent}
use Rattle.sync_model.specs.Stream.{SyncOperation, WalkDecision, is_delete_phase, walk, decide_late, gathered, end_of, whole, left_over, rest_of, after_walk}
use Rattle.sync_model.proofs.Prefixes.{nil_is}
use Rattle.sync_slices.specs.Slices.{SlicedRefresh, SliceProgress, decisions_now, end_parts, with_piece, with_end, ended_by, with_next, ready_from, made_ready, first_progress}
use Rattle.sync_slices.proofs.Deciding.{is_ready}
use Rattle.sync_provider.specs.Gathering.{Gathered, Gathers, AddsLast}

-- ---- there is always an end

is_nil-append : (xs ys : List SyncMessage) → is_nil ys ≡ false → is_nil (xs ++ ys) ≡ false
is_nil-append [] ys some = some
is_nil-append (x ∷ xs) ys some = refl

after_walk_some : (operation : SyncOperation) (covered : Bool) (now : ℕ) (late : List ℕ) → is_nil (after_walk operation covered now late) ≡ false
after_walk_some operation covered now [] = refl
after_walk_some operation covered now (u ∷ us) =
    is_nil-append (cond covered [] (RefreshPresent false None ∷ [])) (gathered true (flat_map (decide_late operation now) (u ∷ us)) ++ end_of operation.persists true (operation.cookies now) ∷ [])
    (is_nil-append (gathered true (flat_map (decide_late operation now) (u ∷ us))) (end_of operation.persists true (operation.cookies now) ∷ []) refl)

-- ---- what waits

-- nothing waits to be decided where a message is there, or no identity is left
pub ready_by : (s : SliceProgress) → (is_nil s.rest && not (is_nil s.left)) ≡ false → is_ready s ≡ true
ready_by s off = by (is_nil s.rest) (is_nil s.left) off
  where
    by : (empty over : Bool) → (empty && not over) ≡ false → (over || not empty) ≡ true
    by true true off = refl
    by true false off = absurd (true≢false off)
    by false true off = refl
    by false false off = refl

-- and else something does
pub waits_by : (s : SliceProgress) → (is_nil s.rest && not (is_nil s.left)) ≡ true → (s.rest ≡ []) × (is_nil s.left ≡ false)
waits_by s on = by (is_nil s.rest) (is_nil s.left) refl refl on
  where
    by : (empty over : Bool) → is_nil s.rest ≡ empty → is_nil s.left ≡ over → (empty && not over) ≡ true → (s.rest ≡ []) × (is_nil s.left ≡ false)
    by true false none some on = (nil_is s.rest none, some)
    by true true none some on = absurd (true≢false (sym on))
    by false true none some on = absurd (true≢false (sym on))
    by false false none some on = absurd (true≢false (sym on))

-- where nothing waits and no message is there, no identity is left
pub none_left : (s : SliceProgress) → (is_nil s.rest && not (is_nil s.left)) ≡ false → is_nil s.rest ≡ true → s.left ≡ []
none_left s off none = nil_is s.left (by (is_nil s.left) (ap (λ b. b && not (is_nil s.left)) (sym none) ∙ off))
  where
    by : (over : Bool) → not over ≡ false → over ≡ true
    by true off = refl
    by false off = absurd (true≢false off)

-- the first piece of all is the next one of a refresh of which none is decided
pub first_is : (r : SlicedRefresh) (p : SliceProgress) (left : List ℕ) → p ≡ record { marks = []; left = left; names = []; changed = []; rest = []; due = [] } → left ≡ walk r.operation r.start r.accepted
    → with_next r r.accepted p ≡ first_progress r
first_is r p left is same = ap (with_next r r.accepted) (is ∙ (λ i. record { marks = []; left = same i; names = []; changed = []; rest = []; due = [] }))

-- at its acceptance nothing is due of a search
pub first_due : (r : SlicedRefresh) → record (first_progress r) { due = [] } ≡ first_progress r
first_due r = by (drop r.size first.left)
  where
    first : SliceProgress
    first = record { marks = []; left = walk r.operation r.start r.accepted; names = []; changed = []; rest = []; due = [] }

    by : (us : List ℕ) → record (ended_by us r r.accepted (with_piece r r.accepted first)) { due = [] } ≡ ended_by us r r.accepted (with_piece r r.accepted first)
    by [] = refl
    by (u ∷ us) = refl

module _ (r : SlicedRefresh) (now : ℕ) where
  -- ---- one piece

  -- the progress with this piece decided, and what was gathered of it
  abbrev gathered_of : (marks left changed : List ℕ) (g : Gathered) → SliceProgress
  gathered_of marks left changed g = record { marks = marks; left = left; names = g.names; changed = changed; rest = g.messages; due = [] }

  module _ (s : SliceProgress) (uuids left marks : List ℕ) (first said : Gathered) (empty : s.rest ≡ []) (none_due : s.due ≡ [])
      (taken : uuids ≡ take r.size s.left) (dropped : left ≡ drop r.size s.left) (marked : marks ≡ s.marks ++ now ∷ [])
      (begun : first ≡ record { deletes = is_delete_phase r.start; messages = []; names = s.names }) (gathers : Gathers (decisions_now r now uuids) first said) where
    abbrev decisions : List WalkDecision
    decisions = decisions_now r now (take r.size s.left)

    messages_are : said.messages ≡ s.rest ++ whole (is_delete_phase r.start) s.names decisions
    messages_are =
        gathers.messages
        ∙ (λ i. (begun i).messages ++ whole (begun i).deletes (begun i).names (decisions_now r now (taken i)))
        ∙ ap (λ ms. ms ++ whole (is_delete_phase r.start) s.names decisions) (sym empty)

    names_are : said.names ≡ left_over s.names decisions
    names_are = gathers.names ∙ (λ i. left_over (begun i).names (decisions_now r now (taken i)))

    deletes_are : said.deletes ≡ is_delete_phase r.start
    deletes_are = gathers.deletes ∙ ap (λ (g : Gathered). g.deletes) begun

    piece_is : (changed : List ℕ) → changed ≡ s.changed → gathered_of marks left changed said ≡ with_piece r now s
    piece_is changed same = λ i. record { marks = marked i; left = dropped i; names = names_are i; changed = same i; rest = messages_are i; due = sym none_due i }

    -- identities are left
    pub piece_goes_on : (changed : List ℕ) → changed ≡ s.changed → is_nil left ≡ false
        → record { marks = marks; left = left; names = said.names; changed = changed; rest = said.messages; due = [] } ≡ with_next r now s
    piece_goes_on changed same some = piece_is changed same ∙ by (drop r.size s.left) (ap is_nil (sym dropped) ∙ some)
      where
        by : (us : List ℕ) → is_nil us ≡ false → with_piece r now s ≡ ended_by us r now (with_piece r now s)
        by [] some = absurd (true≢false some)
        by (u ∷ us) some = refl

    -- none is left, and the end follows
    pub piece_ends : (none changed : List ℕ) (last : Gathered) → none ≡ [] → changed ≡ [] → is_nil left ≡ true
        → AddsLast (rest_of said.deletes said.names ++ after_walk r.operation said.deletes now s.changed) said last
        → record { marks = marks; left = none; names = last.names; changed = changed; rest = last.messages; due = [] } ≡ with_next r now s
    piece_ends none changed last no_left no_changed over adds =
        (λ i. record { marks = marked i; left = (no_left ∙ sym gone) i; names = adds.names i; changed = no_changed i; rest = whole_is i; due = sym none_due i })
        ∙ by (drop r.size s.left) gone
      where
        gone : drop r.size s.left ≡ []
        gone = nil_is (drop r.size s.left) (ap is_nil (sym dropped) ∙ over)

        whole_is : last.messages ≡ (with_end r now (with_piece r now s)).rest
        whole_is =
            adds.messages
            ∙ (λ i. messages_are i ++ (rest_of (deletes_are i) (names_are i) ++ after_walk r.operation (deletes_are i) now s.changed))

        by : (us : List ℕ) → us ≡ [] → with_end r now (with_piece r now s) ≡ ended_by us r now (with_piece r now s)
        by [] none = refl
        by (u ∷ us) some = absurd (true≢false (sym (ap is_nil some)))

  -- ---- pieces up to a message

  left_next : (s : SliceProgress) → (with_next r now s).left ≡ drop r.size s.left
  left_next s = by (drop r.size s.left) where
    by : (us : List ℕ) → (ended_by us r now (with_piece r now s)).left ≡ drop r.size s.left
    by [] = refl
    by (u ∷ us) = refl

  fewer : 0 < r.size → (us : List ℕ) → is_nil us ≡ false → length (drop r.size us) < length us
  fewer some [] h = absurd (true≢false h)
  fewer some (u ∷ us) h = let gone : length (drop r.size (u ∷ us)) ≡ length (u ∷ us) - r.size = length-drop r.size (u ∷ us) in omega (arith, some, gone)

  -- fewer identities are left after a piece
  pub fewer_left : 0 < r.size → (s after : SliceProgress) → is_nil s.left ≡ false → after ≡ with_next r now s → length after.left < length s.left
  fewer_left some s after waits is =
      let gone : length after.left ≡ length (drop r.size s.left) = ap (λ (p : SliceProgress). length p.left) is ∙ ap length (left_next s) in
      let less : length (drop r.size s.left) < length s.left = fewer some s.left waits in
      omega (arith, gone, less)

  unready : (s : SliceProgress) → is_ready s ≡ false → is_nil s.left ≡ false
  unready s e = (or_parts (is_nil s.left) (not (is_nil s.rest)) e).0

  -- where it is ready no piece is decided
  ready_stays : (most : ℕ) (s : SliceProgress) → is_ready s ≡ true → ready_from most r now s ≡ s
  ready_stays zero s ready = refl
  ready_stays (suc most) s ready = ap (λ b. cond b s (ready_from most r now (with_next r now s))) ready

  -- so it stays as it is when it is made ready
  pub made_there : (s : SliceProgress) → is_ready s ≡ true → made_ready r now s ≡ s
  made_there s ready = ready_stays (length s.left) s ready

  none_ready : (s : SliceProgress) → length s.left ≤ 0 → is_ready s ≡ true
  none_ready s few = by s.left few where
    by : (us : List ℕ) → length us ≤ 0 → (is_nil us || not (is_nil s.rest)) ≡ true
    by [] few = refl
    by (u ∷ us) few = absurd (omega (arith, few))

  -- as many pieces as there are identities are enough
  same_ready : 0 < r.size → (most more : ℕ) (s : SliceProgress) → length s.left ≤ most → length s.left ≤ more → ready_from most r now s ≡ ready_from more r now s
  same_ready some zero more s few fit = sym (ready_stays more s (none_ready s few))
  same_ready some (suc most) zero s few fit = ready_stays (suc most) s (none_ready s fit)
  same_ready some (suc most) (suc more) s few fit = by (is_ready s) refl (same_ready some most more (with_next r now s))
    where
      by : (b : Bool) → is_ready s ≡ b
          → (length (with_next r now s).left ≤ most → length (with_next r now s).left ≤ more → ready_from most r now (with_next r now s) ≡ ready_from more r now (with_next r now s))
          → cond b s (ready_from most r now (with_next r now s)) ≡ cond b s (ready_from more r now (with_next r now s))
      by true ready go = refl
      by false off go =
          let less : length (with_next r now s).left < length s.left = fewer_left some s (with_next r now s) (unready s off) refl in
          go (omega (arith, few, less)) (omega (arith, fit, less))

  -- after a piece it is made ready as before it
  pub made_next : 0 < r.size → (s after : SliceProgress) → (is_nil s.rest && not (is_nil s.left)) ≡ true → after ≡ with_next r now s → made_ready r now after ≡ made_ready r now s
  made_next some s after on is = ap (made_ready r now) is ∙ by (length s.left) refl
    where
      waits : (s.rest ≡ []) × (is_nil s.left ≡ false)
      waits = waits_by s on

      off : is_ready s ≡ false
      off = λ i. waits.1 i || not (is_nil (waits.0 i))

      less : length (with_next r now s).left < length s.left
      less = fewer_left some s (with_next r now s) waits.1 refl

      by : (n : ℕ) → length s.left ≡ n → made_ready r now (with_next r now s) ≡ ready_from n r now s
      by zero none = absurd (omega (arith, less, none))
      by (suc n) long =
          same_ready some (length (with_next r now s).left) n (with_next r now s) (omega arith) (omega (arith, less, long))
          ∙ sym (ap (λ b. cond b s (ready_from n r now (with_next r now s))) off)

  -- ---- what is there then

  -- after the last piece there is the end
  end_there : (s : SliceProgress) (us : List ℕ) → us ≡ [] → is_nil (ended_by us r now (with_piece r now s)).rest ≡ false
  end_there s [] none =
      is_nil-append (with_piece r now s).rest (end_parts r now (with_piece r now s).names s.changed)
      (is_nil-append (rest_of (is_delete_phase r.start) (with_piece r now s).names) (after_walk r.operation (is_delete_phase r.start) now s.changed)
      (after_walk_some r.operation (is_delete_phase r.start) now s.changed))
  end_there s (u ∷ us) some = absurd (true≢false (sym (ap is_nil some)))

  -- so where pieces were left a message is there
  ready_some : (most : ℕ) (s : SliceProgress) → is_nil s.rest ≡ false → is_nil (ready_from most r now s).rest ≡ false
  ready_some zero s some = some
  ready_some (suc most) s some = ap (λ b. is_nil (cond b s (ready_from most r now (with_next r now s))).rest) (ready some) ∙ some
    where
      ready : is_nil s.rest ≡ false → is_ready s ≡ true
      ready some = by (is_nil s.left) where
        by : (b : Bool) → (b || not (is_nil s.rest)) ≡ true
        by true = refl
        by false = ap not some

  some_there : 0 < r.size → (most : ℕ) (s : SliceProgress) → length s.left ≤ most → is_nil s.left ≡ false → is_nil (ready_from most r now s).rest ≡ false
  some_there some zero s few waits = absurd (true≢false (sym (none s.left few) ∙ waits))
    where
      none : (us : List ℕ) → length us ≤ 0 → is_nil us ≡ true
      none [] few = refl
      none (u ∷ us) few = absurd (omega (arith, few))
  some_there some (suc most) s few waits = by (some_there some most (with_next r now s)) (is_nil s.rest) refl
    where
      less : length (with_next r now s).left < length s.left
      less = fewer_left some s (with_next r now s) waits refl

      next : (length (with_next r now s).left ≤ most → is_nil (with_next r now s).left ≡ false → is_nil (ready_from most r now (with_next r now s)).rest ≡ false)
          → (b : Bool) → is_nil (with_next r now s).left ≡ b → is_nil (ready_from most r now (with_next r now s)).rest ≡ false
      next go false left = go (omega (arith, few, less)) left
      next go true over =
          ready_some most (with_next r now s)
          (end_there s (drop r.size s.left) (nil_is (drop r.size s.left) (ap is_nil (sym (left_next s)) ∙ over)))

      by : (length (with_next r now s).left ≤ most → is_nil (with_next r now s).left ≡ false → is_nil (ready_from most r now (with_next r now s)).rest ≡ false)
          → (b : Bool) → is_nil s.rest ≡ b → is_nil (cond (is_nil s.left || not (is_nil s.rest)) s (ready_from most r now (with_next r now s))).rest ≡ false
      by go true none =
          ap (λ b. is_nil (cond b s (ready_from most r now (with_next r now s))).rest) (λ i. waits i || not (none i))
          ∙ next go (is_nil (with_next r now s).left) refl
      by go false there =
          ap (λ b. is_nil (cond b s (ready_from most r now (with_next r now s))).rest) (λ i. waits i || not (there i)) ∙ there

  -- where identities are left there is a message once it is ready
  pub made_some : 0 < r.size → (s : SliceProgress) → is_nil s.left ≡ false → is_nil (made_ready r now s).rest ≡ false
  made_some some s waits = some_there some (length s.left) s (omega arith) waits

  -- ---- what is due beside it

  next_due : (s : SliceProgress) (due : List SyncMessage) → with_next r now (record s { due = due }) ≡ record (with_next r now s) { due = due }
  next_due s due = by (drop r.size s.left) where
    by : (us : List ℕ) → ended_by us r now (with_piece r now (record s { due = due })) ≡ record (ended_by us r now (with_piece r now s)) { due = due }
    by [] = refl
    by (u ∷ us) = refl

  ready_due : (most : ℕ) (s : SliceProgress) (due : List SyncMessage) → ready_from most r now (record s { due = due }) ≡ record (ready_from most r now s) { due = due }
  ready_due zero s due = refl
  ready_due (suc most) s due = by (is_ready s) (ap (ready_from most r now) (next_due s due) ∙ ready_due most (with_next r now s) due)
    where
      by : (b : Bool) → ready_from most r now (with_next r now (record s { due = due })) ≡ record (ready_from most r now (with_next r now s)) { due = due }
          → cond b (record s { due = due }) (ready_from most r now (with_next r now (record s { due = due }))) ≡ record (cond b s (ready_from most r now (with_next r now s))) { due = due }
      by true go = refl
      by false go = go

  -- it stays
  pub made_due : (s : SliceProgress) (due : List SyncMessage) → made_ready r now (record s { due = due }) ≡ record (made_ready r now s) { due = due }
  made_due s due = ready_due (length s.left) s due
