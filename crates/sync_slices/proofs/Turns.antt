-- Over every list of writes and hand-outs a search delivers what it sends.
use Rattle.std.proofs.Common.{◌≡◌, ℕ, ◌+◌, ◌≤◌, ◌<◌, Bool, true, false, cond, nat_lt, List, [], ◌∷◌, ◌++◌, length, take, refl, ap, sym, ◌∙◌, arith, subst, append-nil, length-append, inl, inr, ◌⊎◌}
use Rattle.std.specs.Prelude.{not, ◌&&◌, ◌||◌}
use Rattle.std.proofs.lemmas.Bool.{true≢false, false≢true, lt-ltb, le-ltb}
use Rattle.sync_model.specs.Law.{MarksRise, IsCut}
use Rattle.sync_model.specs.Message.{SyncMessage}
use Rattle.sync_model.specs.Stream.{walk}
use Rattle.sync_slices.specs.Law.{IsAt, SliceTurn, SliceMoment, SliceTally, IsPrefixOfStream, first_moment, first_tally, noted, turned_open, turned_over, turned, turned_all, tallied, tallied_all, DeliversBy, Delivers}
use Rattle.sync_slices.specs.Law.SliceTurn.{Writes, HandsOut}
use Rattle.sync_slices.specs.Slices.{SlicedRefresh, SliceProgress, QueueLimits, pieces_of, last_of, all_pieces, stream_upto, marks_then, handed_on, pending_now, adds_too_much, is_too_much}
use Rattle.sync_slices.proofs.Beginnings.{marks_written, prefix_upto}
use Rattle.sync_slices.proofs.Cutting.{all-cut}
use Rattle.sync_slices.proofs.Deciding.{first_is, marks_next}
use Rattle.sync_slices.proofs.HandingOut.{IsHanded, hands_nothing, marks_handed, hands_first}
use Rattle.sync_slices.proofs.Overflowing.{too_much_is}
use Rattle.sync_slices.proofs.Streams.{stream_is}
use Rattle.sync_slices.proofs.Writing.{write_is}

-- what was handed out of a search for which no write was too much
pub record IsOpen (r : SlicedRefresh) (m : SliceMoment) : Type 0 where
  pub handed : List SyncMessage
  pub handed_later : List SyncMessage
  pub at : IsAt r m.now m.progress handed handed_later
  pub all : handed ++ handed_later ≡ m.handed

-- what was handed out of one for which a write was too much
pub record IsClosed (r : SlicedRefresh) (m : SliceMoment) : Type 0 where
  pub rises : MarksRise r.accepted (pieces_of r m.progress.marks)
  pub last : last_of r m.progress.marks ≤ m.now
  pub begins : (later : ℕ) → m.now ≤ later → IsPrefixOfStream r m.progress.marks later m.handed

-- a moment of a search, with the counts of it
pub record IsMoment (r : SlicedRefresh) (m : SliceMoment) (t : SliceTally) : Type 0 where
  pub now : m.now ≡ t.now
  pub counted : length m.handed ≡ t.handed
  pub marks : m.progress.marks ≡ t.marks
  pub over : m.over ≡ t.over
  pub place : ((m.over ≡ false) × IsOpen r m) ⊎ ((m.over ≡ true) × IsClosed r m)

module _ (r : SlicedRefresh) (some : 0 < r.size) where
  first_moment_is : IsMoment r (first_moment r) (first_tally r)
  first_moment_is = record {
    now = refl;
    counted = refl;
    marks = marks_next r r.accepted (record { marks = []; left = walk r.operation r.start r.accepted; names = []; changed = []; rest = []; due = [] });
    over = refl;
    place = inl (refl, record { handed = []; handed_later = []; at = first_is r; all = refl });
  }

  module _ (m : SliceMoment) (t : SliceTally) (is : IsMoment r m t) where
    abbrev s : SliceProgress
    s = m.progress

    -- ---- a write

    -- of a search that is over
    writes_over : (limits : QueueLimits) → m.over ≡ true → IsClosed r m → IsMoment r (turned_over m (Writes limits)) (tallied r t (Writes limits))
    writes_over limits on was = record {
      now = ap (λ n. n + 1) is.now;
      counted = is.counted;
      marks = is.marks;
      over = on ∙ sym (ap (λ b. b || is_too_much limits r t.marks t.handed t.now) (sym is.over ∙ on));
      place = inr (on, record { rises = was.rises; last = omega (arith, was.last); begins = λ later above. was.begins later (omega (arith, above)) });
    }

    module _ (limits : QueueLimits) (off : m.over ≡ false) (open' : IsOpen r m) where
      count_is : t.handed ≡ length open'.handed + length open'.handed_later
      count_is = sym is.counted ∙ sym (ap length open'.all) ∙ length-append open'.handed open'.handed_later

      test_is : adds_too_much limits r m.now s ≡ (t.over || is_too_much limits r t.marks t.handed t.now)
      test_is =
          too_much_is limits r m.now s open'.handed open'.handed_later open'.at t.handed count_is
          ∙ (λ i. is_too_much limits r (is.marks i) t.handed (is.now i))
          ∙ ap (λ b. b || is_too_much limits r t.marks t.handed t.now) (sym off ∙ is.over)

      noted_moment : (too_much : Bool) → adds_too_much limits r m.now s ≡ too_much → IsMoment r (noted too_much r m) (tallied r t (Writes limits))
      noted_moment true on = record {
        now = ap (λ n. n + 1) is.now;
        counted = is.counted;
        marks = is.marks;
        over = sym on ∙ test_is;
        place =
            inr (
              refl,
              record {
                rises = open'.at.marked.rises;
                last = omega (arith, open'.at.marked.last);
                begins = λ later above. subst (IsPrefixOfStream r s.marks later) open'.all (prefix_upto r m.now s open'.handed open'.handed_later open'.at later (omega (arith, above)));
              },
            );
      }
      noted_moment false fits = record {
        now = ap (λ n. n + 1) is.now;
        counted = is.counted;
        marks = marks_written r m.now s ∙ is.marks;
        over = off ∙ sym fits ∙ test_is;
        place =
            inl (
              off,
              record {
                handed = open'.handed;
                handed_later = open'.handed_later;
                at = write_is r m.now s open'.handed open'.handed_later open'.at;
                all = open'.all;
              },
            );
      }

    -- ---- a hand-out

    -- of a search that is over
    hands_over : m.over ≡ true → IsMoment r m (tallied r t HandsOut)
    hands_over on =
        subst (IsMoment r m)
        (sym (ap (λ b. cond (not b && nat_lt t.handed (length (stream_upto r t.marks t.now))) (record t { handed = t.handed + 1; marks = marks_then r t.handed t.now t.marks }) t) (sym is.over ∙ on)))
        is

    module _ (off : m.over ≡ false) (open' : IsOpen r m) where
      abbrev pending : List SyncMessage
      pending = pending_now r m.now s

      abbrev stream_length : ℕ
      stream_length = length (stream_upto r t.marks t.now)

      abbrev more : SliceTally
      more = record t { handed = t.handed + 1; marks = marks_then r t.handed t.now t.marks }

      long : stream_length ≡ t.handed + length pending
      long =
          let whole : m.handed ++ pending ≡ stream_upto r t.marks t.now =
          ap (λ ms. ms ++ pending) (sym open'.all) ∙ stream_is r m.now s open'.handed open'.handed_later open'.at ∙ (λ i. stream_upto r (is.marks i) (is.now i))
          in
          sym (ap length whole) ∙ length-append m.handed pending ∙ ap (λ n. n + length pending) is.counted

      counts : t.handed ≡ length open'.handed + length open'.handed_later
      counts = sym is.counted ∙ sym (ap length open'.all) ∙ length-append open'.handed open'.handed_later

      tally_is : (b : Bool) → nat_lt t.handed stream_length ≡ b → tallied r t HandsOut ≡ cond b more t
      tally_is b test = λ i. cond (not ((sym is.over ∙ off) i) && test i) more t

      -- nothing is pending
      waits : pending ≡ [] → IsMoment r (turned_open r m HandsOut) (tallied r t HandsOut)
      waits none =
          subst (IsMoment r (turned_open r m HandsOut)) (sym (tally_is false test))
          (record {
            now = is.now;
            counted = ap length (sym same) ∙ is.counted;
            marks = ap (λ (now : SliceProgress). now.marks) (hands_nothing r m.now s none) ∙ is.marks;
            over = is.over;
            place =
                inl (
                  off,
                  record {
                    handed = open'.handed;
                    handed_later = open'.handed_later;
                    at = subst (λ now. IsAt r m.now now open'.handed open'.handed_later) (sym (hands_nothing r m.now s none)) open'.at;
                    all = open'.all ∙ same;
                  },
                );
          })
        where
          test : nat_lt t.handed stream_length ≡ false
          test = let nothing : length pending ≡ 0 = ap length none in le-ltb t.handed stream_length (omega (arith, long, nothing))

          same : m.handed ≡ m.handed ++ take 1 pending
          same = sym (append-nil m.handed) ∙ ap (λ ms. m.handed ++ take 1 ms) (sym none)

      goes_on : (x : SyncMessage) (xs : List SyncMessage) → pending ≡ x ∷ xs → IsMoment r (turned_open r m HandsOut) (tallied r t HandsOut)
      goes_on x xs first =
          subst (IsMoment r (turned_open r m HandsOut)) (sym (tally_is true test))
          (record {
            now = is.now;
            counted =
                let one : length (m.handed ++ x ∷ []) ≡ length m.handed + 1 = length-append m.handed (x ∷ []) in
                ap (λ ms. length (m.handed ++ take 1 ms)) first ∙ one ∙ ap (λ n. n + 1) is.counted;
            marks =
                marks_handed r m.now s open'.handed open'.handed_later t.handed open'.at counts
                ∙ (λ i. marks_then r t.handed (is.now i) (is.marks i));
            over = is.over;
            place = inl (off, record { handed = next.handed; handed_later = next.handed_later; at = next.at; all = next.all ∙ whole });
          })
        where
          next : IsHanded r m.now (handed_on r m.now s) (open'.handed ++ open'.handed_later) x
          next = hands_first r m.now s some x xs first open'.handed open'.handed_later open'.at

          test : nat_lt t.handed stream_length ≡ true
          test = let one_more : length pending ≡ length (x ∷ xs) = ap length first in lt-ltb t.handed stream_length (omega (arith, long, one_more))

          whole : (open'.handed ++ open'.handed_later) ++ x ∷ [] ≡ m.handed ++ take 1 pending
          whole = ap (λ ms. ms ++ x ∷ []) open'.all ∙ ap (λ ms. m.handed ++ take 1 ms) (sym first)

      hands_open : IsMoment r (turned_open r m HandsOut) (tallied r t HandsOut)
      hands_open = by pending refl where
        by : (ms : List SyncMessage) → pending ≡ ms → IsMoment r (turned_open r m HandsOut) (tallied r t HandsOut)
        by [] none = waits none
        by (x ∷ xs) first = goes_on x xs first

    -- ---- either

    turned_as : (turn : SliceTurn) (over : Bool) → m.over ≡ over
        → (m.over ≡ true → IsClosed r m → IsMoment r (turned_over m turn) (tallied r t turn))
        → (m.over ≡ false → IsOpen r m → IsMoment r (turned_open r m turn) (tallied r t turn))
        → IsMoment r (cond over (turned_over m turn) (turned_open r m turn)) (tallied r t turn)
    turned_as turn true on closed open' = by is.place where
      by : ((m.over ≡ false) × IsOpen r m) ⊎ ((m.over ≡ true) × IsClosed r m) → IsMoment r (turned_over m turn) (tallied r t turn)
      by (inl at) = absurd (true≢false (sym on ∙ at.0))
      by (inr was) = closed on was.1
    turned_as turn false off closed open' = by is.place where
      by : ((m.over ≡ false) × IsOpen r m) ⊎ ((m.over ≡ true) × IsClosed r m) → IsMoment r (turned_open r m turn) (tallied r t turn)
      by (inl at) = open' off at.1
      by (inr was) = absurd (false≢true (sym off ∙ was.0))

    turned_moment : (turn : SliceTurn) → IsMoment r (turned r m turn) (tallied r t turn)
    turned_moment (Writes limits) =
        turned_as (Writes limits) m.over refl (λ on was. writes_over limits on was)
        (λ off at. noted_moment limits off at (adds_too_much limits r m.now s) refl)
    turned_moment HandsOut = turned_as HandsOut m.over refl (λ on was. hands_over on) (λ off at. hands_open off at)

    -- its pieces, with one of all that is left
    pieces_cut : IsCut r.operation r.start r.accepted (all_pieces r s.marks m.now)
    pieces_cut = by is.place
      where
        by : ((m.over ≡ false) × IsOpen r m) ⊎ ((m.over ≡ true) × IsClosed r m) → IsCut r.operation r.start r.accepted (all_pieces r s.marks m.now)
        by (inl at) = all-cut r s.marks m.now at.1.at.marked.rises at.1.at.marked.last
        by (inr was) = all-cut r s.marks m.now was.1.rises was.1.last

    delivers : Delivers r m t
    delivers = record {
      now = is.now;
      counted = is.counted;
      marks = is.marks;
      over = is.over;
      cut = subst (λ marks. IsCut r.operation r.start r.accepted (all_pieces r marks t.now)) is.marks (subst (λ now. IsCut r.operation r.start r.accepted (all_pieces r s.marks now)) is.now pieces_cut);
      delivers = by m.over refl is.place;
    }
      where
        by : (over : Bool) → m.over ≡ over → ((m.over ≡ false) × IsOpen r m) ⊎ ((m.over ≡ true) × IsClosed r m) → DeliversBy over r m t
        by false off (inl at) =
            ap (λ ms. ms ++ pending_now r m.now m.progress) (sym at.1.all)
            ∙ stream_is r m.now s at.1.handed at.1.handed_later at.1.at
            ∙ (λ i. stream_upto r (is.marks i) (is.now i))
        by false off (inr was) = absurd (false≢true (sym off ∙ was.0))
        by true on (inl at) = absurd (true≢false (sym on ∙ at.0))
        by true on (inr was) =
            let now : IsPrefixOfStream r s.marks m.now m.handed = was.1.begins m.now (omega arith) in
            record { rest = now.rest; split = now.split ∙ (λ i. stream_upto r (is.marks i) (is.now i)) }

  -- ---- all of them

  all_moments : (turns : List SliceTurn) (m : SliceMoment) (t : SliceTally) → IsMoment r m t → IsMoment r (turned_all r m turns) (tallied_all r t turns)
  all_moments [] m t is = is
  all_moments (turn ∷ turns) m t is = all_moments turns (turned r m turn) (tallied r t turn) (turned_moment m t is turn)

  -- each moment is one with its counts
  pub moment_is : (turns : List SliceTurn) → IsMoment r (turned_all r (first_moment r) turns) (tallied_all r (first_tally r) turns)
  moment_is turns = all_moments turns (first_moment r) (first_tally r) first_moment_is

  -- what was handed out, and what is pending, is a stream up to the writes so far, or a prefix of one
  pub slices_deliver : (turns : List SliceTurn) → Delivers r (turned_all r (first_moment r) turns) (tallied_all r (first_tally r) turns)
  slices_deliver turns = delivers (turned_all r (first_moment r) turns) (tallied_all r (first_tally r) turns) (moment_is turns)
