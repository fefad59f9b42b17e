-- A search over two histories with the same states and cookies up to a number of writes is kept alike up to there.
use Rattle.std.proofs.Common.{◌≡◌, ℕ, zero, suc, ◌+◌, ◌-◌, ◌≤◌, Bool, true, false, cond, List, [], ◌∷◌, ◌++◌, length, refl, ap, sym, ◌∙◌, arith, subst, inl, inr, ◌⊎◌, None}
use Rattle.std.specs.Prelude.{flat_map}
use Rattle.entry_tree.specs.declared.entry.Entry.{Entry}
use Rattle.entry_tree.specs.declared.op.Write.{Write}
use Rattle.entry_tree.specs.History.{state_of}
use Rattle.entry_tree.specs.Selection.{Search, select}
use Rattle.entry_tree.specs.State.{entry_at}
use Rattle.entry_tree.specs.Touched.{identities, touched}
use Rattle.sync_model.specs.Law.{MarksRise, is_nil}
use Rattle.sync_model.specs.Message.{CookieText, SyncMessage}
use Rattle.sync_model.specs.Message.SyncMessage.{RefreshPresent}
use Rattle.sync_model.specs.Stream.{SyncOperation, Start, RefreshPiece, WalkDecision, content_after, among, is_delete_phase, walk, is_sent, decided, decide, decide_piece, decide_late, last_mark, late_uuids, whole, left_over, rest_of, gathered, end_of, after_walk, refresh, notified_all, group, later}
use Rattle.sync_model.specs.Stream.Start.{InitialContent, DeletePhase, PresentPhase}
use Rattle.sync_model.proofs.Refresh.{marks-last}
use Rattle.directory_writes.proofs.Notified.{Agree, agree-longer, over-agree_upto}
use Rattle.sync_slices.specs.Law.{IsAt, IsMarked, IsWalking, IsSettled}
use Rattle.sync_slices.specs.Slices.{SlicedRefresh, SliceProgress, most_decided, pieces_at, undecided, pieces_of, left_of, decisions_of, last_of, later_upto, coming_by, pending_now}
use Rattle.sync_provider.specs.Search.{SearchState, cookie_after, sliced_over}
use Rattle.sync_provider.proofs.Histories.{cookie-longer}

module _ (persists : Bool) (selection : Search) (f g : ℕ → List Entry) (c d : ℕ → CookieText) (start : Start) (accepted size now : ℕ) (low : accepted ≤ now) (same : Agree f g now) (cookies : (n : ℕ) → n ≤ now → c n ≡ d n) where
  abbrev one : SyncOperation
  one = record { persists = persists; selection = selection; states = f; cookies = c }

  abbrev other : SyncOperation
  other = record { persists = persists; selection = selection; states = g; cookies = d }

  -- the two refreshes
  abbrev pub first : SlicedRefresh
  first = record { operation = one; start = start; accepted = accepted; size = size }

  abbrev pub second : SlicedRefresh
  second = record { operation = other; start = start; accepted = accepted; size = size }

  contents : (n : ℕ) → n ≤ now → content_after one n ≡ content_after other n
  contents n least = ap (select selection) (same n least)

  -- ---- the walk and what is decided of it

  -- the walk is the same
  pub walks_by : (s : Start) → walk one s accepted ≡ walk other s accepted
  walks_by InitialContent = ap identities (same accepted low)
  walks_by (DeletePhase a) = over-agree_upto f g a accepted (λ n least. same n (omega (arith, least, low)))
  walks_by (PresentPhase a) = ap identities (same accepted low)

  sent_by : (s : Start) (mark u : ℕ) → mark ≤ now → is_sent one s mark u ≡ is_sent other s mark u
  sent_by InitialContent mark u least = refl
  sent_by (DeletePhase a) mark u least = refl
  sent_by (PresentPhase a) mark u least = ap (among u) (over-agree_upto f g a mark (λ n below. same n (omega (arith, below, least))))

  decides : (mark u : ℕ) → mark ≤ now → decide one start mark u ≡ decide other start mark u
  decides mark u least i = decided (is_delete_phase start) (sent_by start mark u least i) u (entry_at (contents mark least i) u)

  decides_all : (mark : ℕ) → mark ≤ now → (us : List ℕ) → flat_map (decide one start mark) us ≡ flat_map (decide other start mark) us
  decides_all mark least [] = refl
  decides_all mark least (u ∷ us) = λ i. decides mark u least i ++ decides_all mark least us i

  decides_pieces : (ps : List RefreshPiece) (mark : ℕ) → MarksRise mark ps → last_mark mark ps ≤ now → flat_map (decide_piece one start) ps ≡ flat_map (decide_piece other start) ps
  decides_pieces [] mark rises last = refl
  decides_pieces (p ∷ ps) mark rises last =
      let least : p.mark ≤ now = omega (arith, last, marks-last ps p.mark rises.1) in
      λ i. decides_all p.mark least p.uuids i ++ decides_pieces ps p.mark rises.1 last i

  pieces_same : (marks : List ℕ) → pieces_of first marks ≡ pieces_of second marks
  pieces_same marks = ap (pieces_at marks size) (walks_by start)

  left_same : (marks : List ℕ) → left_of first marks ≡ left_of second marks
  left_same marks = ap (undecided marks size) (walks_by start)

  last_same : (marks : List ℕ) → last_of first marks ≡ last_of second marks
  last_same marks = ap (last_mark accepted) (pieces_same marks)

  lates : (last : ℕ) → last ≤ now → late_uuids one accepted last ≡ late_uuids other accepted last
  lates last least = over-agree_upto (λ n. content_after one n) (λ n. content_after other n) accepted last (λ n below. contents n (omega (arith, below, least)))

  decides_late : (last : ℕ) → last ≤ now → (us : List ℕ) → flat_map (decide_late one last) us ≡ flat_map (decide_late other last) us
  decides_late last least [] = refl
  decides_late last least (u ∷ us) = λ i. decided true true u (entry_at (contents last least i) u) ++ decides_late last least us i

  afters : (covered : Bool) (last : ℕ) → last ≤ now → (us : List ℕ) → after_walk one covered last us ≡ after_walk other covered last us
  afters covered last least [] = ap (λ text. end_of persists covered text ∷ []) (cookies last least)
  afters covered last least (u ∷ us) = after_late (flat_map (decide_late one last) (u ∷ us)) (flat_map (decide_late other last) (u ∷ us)) (decides_late last least (u ∷ us))
    where
      broken : List SyncMessage
      broken = cond covered [] (RefreshPresent false None ∷ [])

      after_late : (ds es : List WalkDecision) → ds ≡ es → broken ++ (gathered true ds ++ end_of persists true (c last) ∷ []) ≡ broken ++ (gathered true es ++ end_of persists true (d last) ∷ [])
      after_late ds es is = λ i. broken ++ (gathered true (is i) ++ end_of persists true (cookies last least i) ∷ [])

  -- pieces up to there make the same refresh
  pub refresh_agrees : (ps : List RefreshPiece) → MarksRise accepted ps → last_mark accepted ps ≤ now → refresh one start accepted ps ≡ refresh other start accepted ps
  refresh_agrees ps rises last =
      (λ i. gathered (is_delete_phase start) (decides_pieces ps accepted rises last i) ++ after_walk one (is_delete_phase start) (last_mark accepted ps) (lates (last_mark accepted ps) last i))
      ∙ ap (λ ms. gathered (is_delete_phase start) (flat_map (decide_piece other start) ps) ++ ms) (afters (is_delete_phase start) (last_mark accepted ps) last (late_uuids other accepted (last_mark accepted ps)))

  -- ---- later writes

  groups : (n : ℕ) → n + 1 ≤ now → group one n ≡ group other n
  groups n least =
      let was : content_after one n ≡ content_after other n = contents n (omega (arith, least)) in
      λ i. notified_all (cookies (n + 1) least i) (touched (was i) (contents (n + 1) least i))

  laters : (count from : ℕ) → from + count ≤ now → later one from count ≡ later other from count
  laters zero from least = refl
  laters (suc count) from least =
      let prefix : later one from count ≡ later other from count = laters count from (omega (arith, least)) in
      let last : group one (from + count) ≡ group other (from + count) = groups (from + count) (omega (arith, least)) in
      λ i. prefix i ++ last i

  -- ---- what is kept

  module _ (marks : List ℕ) (rises : MarksRise accepted (pieces_of first marks)) (last : last_of first marks ≤ now) where
    decided_same : decisions_of first marks ≡ decisions_of second marks
    decided_same = decides_pieces (pieces_of first marks) accepted rises last ∙ ap (flat_map (decide_piece other start)) (pieces_same marks)

    refresh_same : refresh one start accepted (pieces_of first marks) ≡ refresh other start accepted (pieces_of second marks)
    refresh_same = refresh_agrees (pieces_of first marks) rises last ∙ ap (refresh other start accepted) (pieces_same marks)

    later_same : later_upto first marks now ≡ later_upto second marks now
    later_same =
        ap (λ ms. cond persists ms []) (laters (now - last_of first marks) (last_of first marks) (omega (arith, last)))
        ∙ ap (λ n. cond persists (later other n (now - n)) []) (last_same marks)

  -- what is to come of it
  pub coming_same : (other_size : ℕ) (s : SliceProgress) (us : List ℕ) → coming_by us first now s ≡ coming_by us (record second { size = other_size }) now s
  coming_same other_size s [] = refl
  coming_same other_size s (u ∷ us) =
      let least : now ≤ now = omega arith in
      let decides_left : flat_map (decide one start now) (u ∷ us) ≡ flat_map (decide other start now) (u ∷ us) = decides_all now least (u ∷ us) in
      λ i. whole (is_delete_phase start) s.names (decides_left i) ++ (rest_of (is_delete_phase start) (left_over s.names (decides_left i)) ++ afters (is_delete_phase start) now least s.changed i)

  -- a search that is at its place is so over the other directory
  pub at_same : (s : SliceProgress) (handed handed_later : List SyncMessage) → IsAt first now s handed handed_later → IsAt second now s handed handed_later
  at_same s handed handed_later at = record { marked = marked; place = place at.place }
    where
      marked : IsMarked second now s.marks s.left
      marked = record {
        low = at.marked.low;
        last = omega (arith, at.marked.last, last_same s.marks);
        rises = subst (MarksRise accepted) (pieces_same s.marks) at.marked.rises;
        left = at.marked.left ∙ left_same s.marks;
      }

      place : ((is_nil s.left ≡ false) × IsWalking first now s handed handed_later) ⊎ ((s.left ≡ []) × IsSettled first now s handed handed_later)
          → ((is_nil s.left ≡ false) × IsWalking second now s handed handed_later) ⊎ ((s.left ≡ []) × IsSettled second now s handed handed_later)
      place (inl walks) =
          inl (
            walks.0,
            record {
              known = walks.1.known ∙ ap (whole (is_delete_phase start) []) (decided_same s.marks at.marked.rises at.marked.last);
              names = walks.1.names ∙ ap (left_over []) (decided_same s.marks at.marked.rises at.marked.last);
              changed = walks.1.changed ∙ lates now (omega arith);
              due = walks.1.due;
              later = walks.1.later;
            },
          )
      place (inr settled) =
          inr (
            settled.0,
            record {
              rest = settled.1.rest ∙ refresh_same s.marks at.marked.rises at.marked.last;
              due = settled.1.due ∙ later_same s.marks at.marked.rises at.marked.last;
              ordered = settled.1.ordered;
            },
          )

-- ---- a longer history

module _ (sid history : ℕ) (s : SearchState) (writes more whole : List Write) (is : writes ++ more ≡ whole) (now : ℕ) (fits : now ≤ length writes) where
  agree : Agree (state_of history writes) (state_of history (writes ++ more)) now
  agree n below = sym (agree-longer history writes more n (omega (arith, below, fits)))

  agree_cookies : (n : ℕ) → n ≤ now → cookie_after sid history writes n ≡ cookie_after sid history (writes ++ more) n
  agree_cookies n below = sym (cookie-longer sid history writes more n (omega (arith, below, fits)))

  module _ (low : s.accepted ≤ now) where
    -- what is pending of a search is the same
    pub pending_longer : (progress : SliceProgress) → pending_now (sliced_over sid history writes s) now progress ≡ pending_now (sliced_over sid history whole s) now progress
    pending_longer progress =
        ap (λ coming. progress.rest ++ (coming ++ progress.due))
        (coming_same s.persists s.spec (state_of history writes) (state_of history (writes ++ more)) (cookie_after sid history writes) (cookie_after sid history (writes ++ more)) s.start s.accepted most_decided now low agree agree_cookies
        most_decided progress progress.left)
        ∙ ap (λ ws. pending_now (sliced_over sid history ws s) now progress) is

  -- a search that is at its place is so over the longer one
  pub at_longer : (progress : SliceProgress) (handed handed_later : List SyncMessage) → IsAt (sliced_over sid history writes s) now progress handed handed_later
      → IsAt (sliced_over sid history whole s) now progress handed handed_later
  at_longer progress handed handed_later at =
      subst (λ ws. IsAt (sliced_over sid history ws s) now progress handed handed_later) is
      (at_same s.persists s.spec (state_of history writes) (state_of history (writes ++ more)) (cookie_after sid history writes) (cookie_after sid history (writes ++ more)) s.start s.accepted most_decided now at.marked.low agree agree_cookies
      progress handed handed_later at)
