-- A search is over exactly where a write was too much by the writes and a count of what was handed out, and its pieces
-- are decided at the numbers of writes that the count says: at its acceptance, after a write, and after a hand-out.
use Rattle.std.proofs.Common.{◌≡◌, ℕ, ◌+◌, ◌<◌, Bool, true, false, cond, nat_lt, List, [], ◌∷◌, ◌++◌, length, refl, ap, sym, ◌∙◌, arith, subst, length-append}
use Rattle.std.specs.Prelude.{not, ◌&&◌, ◌||◌}
use Rattle.std.proofs.lemmas.Bool.{lt-ltb, le-ltb}
use Rattle.entry_tree.specs.declared.op.Write.{Write}
use Rattle.sync_model.specs.Message.{SyncMessage}
use Rattle.sync_model.specs.Stream.{walk}
use Rattle.sync_slices.specs.Law.{IsAt}
use Rattle.sync_slices.specs.Slices as slices
use Rattle.sync_slices.specs.Slices.{SlicedRefresh, SliceProgress, stream_upto, marks_then, pending_now, given_up, adds_too_much}
use Rattle.sync_slices.proofs.Beginnings.{marks_written}
use Rattle.sync_slices.proofs.Deciding.{marks_next}
use Rattle.sync_slices.proofs.HandingOut.{marks_handed}
use Rattle.sync_slices.proofs.Overflowing.{too_much_is}
use Rattle.sync_slices.proofs.Streams.{stream_is}
use Rattle.directory_writes.specs.Directory.{DirectoryState, with_write, with_log_limit}
use Rattle.sync_provider.specs.Accepting.{start_of_ask, persists_of_ask}
use Rattle.sync_provider.specs.Law.{HasHandedOut, refresh_at, asked, Tally, is_too_much, after_hand_out}
use Rattle.sync_provider.specs.Machine.{ProviderState}
use Rattle.sync_provider.specs.Queueing.{limits_of, noted_search, search_notified}
use Rattle.sync_provider.specs.Search.{SearchState, sliced, busy_end, pending, advanced}
use Rattle.sync_provider.specs.declared.searches.SyncSearch.{SyncSearch}
use Rattle.sync_provider.proofs.Growing.{refresh_like}
use Rattle.sync_provider.proofs.SearchNotified.{pending_open, pending_over, IsSame, same_search, same_then, search_notified_same, search_notified_open}
use Rattle.sync_provider.proofs.Places.{begins_with_own, search_notified_placed, IsNext, next_place, next_counted, opening_place, limited_placed, some_left}
use Rattle.sync_provider.proofs.Streams.{advanced_same, over_stays}

-- ---- a search and its count

pub record Matches (s0 : SearchState) (d : DirectoryState) (s : SearchState) (t : Tally) : Type 0 where
  pub same : IsSame s0 s
  pub over : t.over ≡ s.over
  pub marks : t.marks ≡ s.progress.marks
  pub counted : s.over ≡ false → HasHandedOut d s t.handed

-- ---- a write

module _ (s0 : SearchState) (limit : ℕ) (d : DirectoryState) (w : Write) (s : SearchState) (t : Tally) (matches : Matches s0 d s t) where
  abbrev all : List Write
  all = d.writes ++ w ∷ []

  -- whether it was too much by the count
  abbrev over_now : Bool
  over_now = t.over || is_too_much limit d s0 w t.marks t.handed

  -- whether it is too much for what is kept
  abbrev adds : Bool
  adds = adds_too_much (limits_of limit) (sliced (with_write d w) s) (length d.writes) s.progress

  abbrev noted : Bool → SearchState
  noted b = noted_search b (sliced (with_write d w) s) (length d.writes) s

  noted_over : s.over ≡ false → (b : Bool) → (noted b).over ≡ b
  noted_over off true = refl
  noted_over off false = off

  -- the two agree where it was not over
  over_by : s.over ≡ false → over_now ≡ adds
  over_by off =
      let count : HasHandedOut d s t.handed = matches.counted off in
      let at : IsAt (sliced (with_write d w) s) (length d.writes) s.progress count.now.handed count.now.handed_later = count.now.place all (w ∷ [], refl) in
      (λ i. (matches.over ∙ off) i || slices.is_too_much (limits_of limit) (refresh_like d s0 d s refl refl matches.same all i) (matches.marks i) t.handed (length d.writes))
      ∙ sym (too_much_is (limits_of limit) (sliced (with_write d w) s) (length d.writes) s.progress count.now.handed count.now.handed_later at t.handed count.counted)

  over_is : over_now ≡ (search_notified limit d w s).over
  over_is = by s.over refl
    where
      by : (o : Bool) → s.over ≡ o → over_now ≡ (cond o s (noted adds)).over
      by true on = ap (λ b. b || is_too_much limit d s0 w t.marks t.handed) (matches.over ∙ on) ∙ sym on
      by false off = over_by off ∙ sym (noted_over off adds)

  -- a write leaves the numbers at its pieces
  marks_kept : (search_notified limit d w s).progress.marks ≡ s.progress.marks
  marks_kept = by s.over adds
    where
      by : (o b : Bool) → (cond o s (noted b)).progress.marks ≡ s.progress.marks
      by true b = refl
      by false true = refl
      by false false = marks_written (sliced (with_write d w) s) (length d.writes) s.progress

  -- it is over then, where the write was too much
  pub search_notified_match : Matches s0 (with_write d w) (search_notified limit d w s) (record t { over = over_now })
  search_notified_match = record {
    same = same_then s0 s (search_notified limit d w s) matches.same (search_notified_same limit d w s);
    over = over_is;
    marks = matches.marks ∙ sym marks_kept;
    counted = λ still.
        let was : HasHandedOut d s t.handed = matches.counted (search_notified_open limit d w s still).0 in
        record { now = search_notified_placed limit d w s still was.now; counted = was.counted };
  }

-- ---- a hand-out

module _ (s0 : SearchState) (p : ProviderState) (s : SearchState) (t : Tally) (matches : Matches s0 p.directory s t) where
  abbrev d : DirectoryState
  d = p.directory

  abbrev r : SlicedRefresh
  r = refresh_at d s0 d.writes

  abbrev ahead : List SyncMessage
  ahead = pending_now (sliced d s) (length d.writes) s.progress

  abbrev stream_length : ℕ
  stream_length = length (stream_upto r t.marks (length d.writes))

  abbrev more : Tally
  more = record t { handed = t.handed + 1; marks = marks_then r t.handed (length d.writes) t.marks }

  like : r ≡ sliced d s
  like = refresh_like d s0 d s refl refl matches.same d.writes

  -- how many messages there are up to now
  long : s.over ≡ false → stream_length ≡ t.handed + length ahead
  long off =
      let count : HasHandedOut d s t.handed = matches.counted off in
      let whole : (count.now.handed ++ count.now.handed_later) ++ ahead ≡ stream_upto (sliced d s) s.progress.marks (length d.writes) =
      stream_is (sliced d s) (length d.writes) s.progress count.now.handed count.now.handed_later (count.now.place d.writes (begins_with_own d))
      in
      let same : stream_length ≡ length (stream_upto (sliced d s) s.progress.marks (length d.writes)) = λ i. length (stream_upto (like i) (matches.marks i) (length d.writes)) in
      let parts : length ((count.now.handed ++ count.now.handed_later) ++ ahead) ≡ length (count.now.handed ++ count.now.handed_later) + length ahead = length-append (count.now.handed ++ count.now.handed_later) ahead in
      let both : length (count.now.handed ++ count.now.handed_later) ≡ length count.now.handed + length count.now.handed_later = length-append count.now.handed count.now.handed_later in
      let all_long : length ((count.now.handed ++ count.now.handed_later) ++ ahead) ≡ length (stream_upto (sliced d s) s.progress.marks (length d.writes)) = ap length whole in
      let counted : t.handed ≡ length count.now.handed + length count.now.handed_later = count.counted in
      omega (arith, same, parts, both, all_long, counted)

  -- it is one more where there are more
  counted_by : s.over ≡ false → (b : Bool) → nat_lt t.handed stream_length ≡ b → after_hand_out p s0 t ≡ cond b more t
  counted_by off b test = λ i. cond (not ((matches.over ∙ off) i) && test i) more t

  -- where nothing is pending nothing is counted
  pub waits_match : pending d s ≡ [] → Matches s0 d s (after_hand_out p s0 t)
  waits_match none = by s.over refl
    where
      by : (o : Bool) → s.over ≡ o → Matches s0 d s (after_hand_out p s0 t)
      by true on = absurd (some_left busy_end [] (sym (pending_over d s on) ∙ none))
      by false off =
          let nothing : length ahead ≡ 0 = ap length (sym (pending_open d s off) ∙ none) in
          subst (Matches s0 d s) (sym (counted_by off false (le-ltb t.handed stream_length (omega (arith, nothing, long off))))) matches

  -- where it is over nothing is counted
  over_counted : s.over ≡ true → after_hand_out p s0 t ≡ t
  over_counted on = ap (λ b. cond (not b && nat_lt t.handed stream_length) more t) (matches.over ∙ on)

  -- where it is not, a hand-out leaves that as it was
  pub next_match : (m : SyncMessage) (ms : List SyncMessage) → s.over ≡ false → pending d s ≡ m ∷ ms → Matches s0 d (advanced d s) (after_hand_out p s0 t)
  next_match m ms off first =
      subst (Matches s0 d (advanced d s)) (sym (counted_by off true test)) (record {
        same = same_then s0 s (advanced d s) matches.same (advanced_same d s);
        over = matches.over;
        marks =
            (λ i. marks_then (like i) t.handed (length d.writes) (matches.marks i))
            ∙ sym (marks_handed (sliced d s) (length d.writes) s.progress count.now.handed count.now.handed_later t.handed (count.now.place d.writes (begins_with_own d)) count.counted);
        counted = λ still. record { now = next.now; counted = ap (λ n. n + 1) count.counted ∙ sym (next_counted d (advanced d s) count.now.handed count.now.handed_later m next) };
      })
    where
      parts : ahead ≡ m ∷ ms
      parts = sym (pending_open d s off) ∙ first

      test : nat_lt t.handed stream_length ≡ true
      test = let some : length ahead ≡ length (m ∷ ms) = ap length parts in lt-ltb t.handed stream_length (omega (arith, some, long off))

      count : HasHandedOut d s t.handed
      count = matches.counted off

      next : IsNext d (advanced d s) (count.now.handed ++ count.now.handed_later) m
      next = next_place d s count.now m ms parts

  -- either way its end leaves the numbers at its pieces, and whether it is over, as the count says
  pub end_match : (m : SyncMessage) (ms : List SyncMessage) → (s.over ≡ true → s.progress ≡ given_up s.progress) → pending d s ≡ m ∷ ms
      → ((advanced d s).progress.marks ≡ (after_hand_out p s0 t).marks) × (s.over ≡ (after_hand_out p s0 t).over)
  end_match m ms given first = by s.over refl
    where
      by : (o : Bool) → s.over ≡ o → ((advanced d s).progress.marks ≡ (after_hand_out p s0 t).marks) × (s.over ≡ (after_hand_out p s0 t).over)
      by false off = (sym (next_match m ms off first).marks, sym (next_match m ms off first).over)
      by true on = (
        ap (λ (progress : SliceProgress). progress.marks) (over_stays d s (given on)) ∙ sym matches.marks ∙ ap (λ (u : Tally). u.marks) (sym (over_counted on)),
        sym matches.over ∙ ap (λ (u : Tally). u.over) (sym (over_counted on)),
      )

-- ---- another limit of the log

-- it changes no search
pub limited_match : (s0 : SearchState) (d : DirectoryState) (limit : ℕ) (s : SearchState) (t : Tally) → Matches s0 d s t → Matches s0 (with_log_limit d limit) s t
limited_match s0 d limit s t matches = record {
  same = matches.same;
  over = matches.over;
  marks = matches.marks;
  counted = λ off. record { now = limited_placed d limit s (matches.counted off).now; counted = (matches.counted off).counted };
}

-- ---- its acceptance

-- at first its first piece is decided, and it is not over
pub asked_matches : (p : ProviderState) (ask : SyncSearch) → Matches (asked p ask) p.directory (asked p ask) (record { handed = 0; marks = length p.directory.writes ∷ []; over = false })
asked_matches p ask = record {
  same = same_search (asked p ask) (asked p ask).progress (asked p ask).over;
  over = refl;
  marks = sym (first_marks (sliced p.directory (asked p ask)));
  counted = λ off. record {
    now = record { handed = []; handed_later = []; place = opening_place p.directory ask.id (asked p ask).spec (start_of_ask p.directory ask) (persists_of_ask ask) };
    counted = refl;
  };
}
  where
    first_marks : (r : SlicedRefresh) → (slices.first_progress r).marks ≡ r.accepted ∷ []
    first_marks r = marks_next r r.accepted (record { marks = []; left = walk r.operation r.start r.accepted; names = []; changed = []; rest = []; due = [] })
