-- A search reports its Stream: what holds of it at its acceptance, after a write and after a hand-out.
use Rattle.std.proofs.Common.{◌≡◌, ℕ, ◌+◌, ◌-◌, ◌≤◌, Bool, true, false, cond, List, [], ◌∷◌, ◌++◌, length, Some, refl, ap, sym, ◌∙◌, arith, subst, inl, inr, ◌⊎◌, append_assoc, length-append}
use Rattle.std.specs.Prelude.{option_map}
use Rattle.std.proofs.lemmas.Bool.{true≢false}
use Rattle.entry_tree.specs.declared.op.Write.{Write}
use Rattle.sync_model.specs.Law.{MarksRise, IsCut}
use Rattle.sync_model.specs.Message.{SyncMessage}
use Rattle.sync_model.specs.Stream.{last_mark}
use Rattle.sync_model.proofs.Gather.{Each}
use Rattle.sync_model.proofs.Groups.{heads, each_one}
use Rattle.sync_slices.specs.Law.{IsPrefixOfStream}
use Rattle.sync_slices.specs.Slices.{SlicedRefresh, SliceProgress, pieces_of, last_of, all_pieces, stream_upto, pending_now, given_up, adds_too_much}
use Rattle.sync_slices.proofs.Beginnings.{prefix_upto}
use Rattle.sync_slices.proofs.Cutting.{all-cut}
use Rattle.sync_slices.proofs.HandingOut.{hands_nothing}
use Rattle.sync_slices.proofs.Streams.{stream_is}
use Rattle.directory_writes.specs.Directory.{DirectoryState, with_write, with_log_limit}
use Rattle.sync_provider.specs.Accepting.{start_of_ask, persists_of_ask}
use Rattle.sync_provider.specs.HandingOut.{search_at}
use Rattle.sync_provider.specs.Law.{BeginsWith, IsPlaced, refresh_at, stream_of, Delivery, marks_of, over_of, delivered_now, ended_now, all_delivered, Delivers, asked}
use Rattle.sync_provider.specs.Machine.{ProviderState}
use Rattle.sync_provider.specs.Queueing.{limits_of, noted_search, search_notified}
use Rattle.sync_provider.specs.Search.{SearchState, sliced, busy_end, pending, advanced, is_end}
use Rattle.sync_provider.specs.declared.searches.SyncSearch.{SyncSearch}
use Rattle.sync_provider.proofs.Advanced.{advanced_is}
use Rattle.sync_provider.proofs.Agreeing.{pending_longer}
use Rattle.sync_provider.proofs.Growing.{begins_before, refresh_like, GoesOn, stream_goes}
use Rattle.sync_provider.proofs.Places.{begins_with_own, written_place, opening_place, IsNext, next_place, limited_placed}
use Rattle.sync_provider.proofs.SearchNotified.{pending_open, pending_over, IsSame, same_search, same_then, progress_then, search_notified_same}

-- ---- what became of a search

-- where no write was too much, these messages were handed out of it
pub record HasHanded (d : DirectoryState) (s : SearchState) (before : List SyncMessage) : Type 0 where
  pub placed : IsPlaced d s
  pub all : placed.handed ++ placed.handed_later ≡ before

-- where one was, they are a prefix of what it sends up to each later write, and nothing else is kept of it but the
-- numbers at its pieces
pub record IsCutOff (d : DirectoryState) (s : SearchState) (before : List SyncMessage) : Type 0 where
  pub given : s.progress ≡ given_up s.progress
  pub rises : (writes : List Write) → BeginsWith d writes → MarksRise s.accepted (pieces_of (refresh_at d s writes) s.progress.marks)
  pub last : (writes : List Write) → BeginsWith d writes → last_of (refresh_at d s writes) s.progress.marks ≤ length d.writes
  pub begins : (writes : List Write) → BeginsWith d writes → (later : ℕ) → length d.writes ≤ later → IsPrefixOfStream (refresh_at d s writes) s.progress.marks later before

abbrev pub StandsAt : DirectoryState → SearchState → List SyncMessage → Type 0
StandsAt d s before = ((s.over ≡ false) × HasHanded d s before) ⊎ ((s.over ≡ true) × IsCutOff d s before)

-- a search that was opened on one directory, on what became of that, after these messages were handed out
pub record Stands (d0 : DirectoryState) (s0 : SearchState) (d : DirectoryState) (s : SearchState) (before : List SyncMessage) : Type 0 where
  pub sid : d.sid ≡ d0.sid
  pub history : d.history ≡ d0.history
  pub same : IsSame s0 s
  pub place : StandsAt d s before

-- the pieces of a search cut its walk, with one of all that is left
abbrev pub CutsWalk : SlicedRefresh → (marks : List ℕ) → (now : ℕ) → Type 0
CutsWalk r marks now = IsCut r.operation r.start r.accepted (all_pieces r marks now)

-- what was handed out, followed by what is pending, is its stream over each longer history, or is cut short
module _ (d : DirectoryState) (s : SearchState) (before : List SyncMessage) (writes : List Write) (begins : BeginsWith d writes) where
  abbrev shown : List SyncMessage
  shown = stream_upto (refresh_at d s writes) s.progress.marks (length d.writes)

  handed_shows : s.over ≡ false → HasHanded d s before → before ++ pending d s ≡ shown
  handed_shows off has =
      let at = has.placed.place writes begins in
      (λ i. sym has.all i ++ pending_open d s off i)
      ∙ ap (λ ms. (has.placed.handed ++ has.placed.handed_later) ++ ms) (pending_longer d.sid d.history s d.writes begins.0 writes begins.1 (length d.writes) (omega arith) at.marked.low s.progress)
      ∙ stream_is (refresh_at d s writes) (length d.writes) s.progress has.placed.handed has.placed.handed_later at

  -- what was handed out, and what is pending, is the stream up to now, or a prefix of it
  pub stands_shows : StandsAt d s before → Delivers s.over (before ++ pending d s) shown
  stands_shows (inl open') = subst (λ o. Delivers o (before ++ pending d s) shown) (sym open'.0) (handed_shows open'.0 open'.1)
  stands_shows (inr cut) =
      let now : IsPrefixOfStream (refresh_at d s writes) s.progress.marks (length d.writes) before = cut.1.begins writes begins (length d.writes) (omega arith) in
      subst (λ o. Delivers o (before ++ pending d s) shown) (sym cut.0)
      (record { prefix = before; left = now.rest; split = now.split; is = ap (λ ms. before ++ ms) (pending_over d s cut.0) })

  -- the pieces, with one of all that is left, cut its walk
  pub stands_cut : StandsAt d s before → CutsWalk (refresh_at d s writes) s.progress.marks (length d.writes)
  stands_cut (inl open') =
      let at = open'.1.placed.place writes begins in
      all-cut (refresh_at d s writes) s.progress.marks (length d.writes) at.marked.rises at.marked.last
  stands_cut (inr cut) = all-cut (refresh_at d s writes) s.progress.marks (length d.writes) (cut.1.rises writes begins) (cut.1.last writes begins)

-- as it was opened
pub stands_cuts : (d0 : DirectoryState) (s0 : SearchState) (d : DirectoryState) (s : SearchState) (before : List SyncMessage) (stands : Stands d0 s0 d s before) (writes : List Write) → BeginsWith d writes
    → CutsWalk (refresh_at d0 s0 writes) s.progress.marks (length d.writes)
stands_cuts d0 s0 d s before stands writes begins =
    subst (λ (r : SlicedRefresh). CutsWalk r s.progress.marks (length d.writes)) (sym (refresh_like d0 s0 d s stands.sid stands.history stands.same writes)) (stands_cut d s before writes begins stands.place)

-- and so it is of the stream of the search as it was opened
pub stands_delivers : (d0 : DirectoryState) (s0 : SearchState) (d : DirectoryState) (s : SearchState) (before : List SyncMessage) (stands : Stands d0 s0 d s before) (writes : List Write) → BeginsWith d writes
    → Delivers s.over (before ++ pending d s) (stream_of d0 s0 s.progress.marks (length d.writes) writes)
stands_delivers d0 s0 d s before stands writes begins =
    subst (λ r. Delivers s.over (before ++ pending d s) (stream_upto r s.progress.marks (length d.writes))) (sym (refresh_like d0 s0 d s stands.sid stands.history stands.same writes))
    (stands_shows d s before writes begins stands.place)

-- ---- a write

module _ (limit : ℕ) (d : DirectoryState) (w : Write) (s : SearchState) (before : List SyncMessage) where
  abbrev noted : Bool → SearchState
  noted b = noted_search b (sliced (with_write d w) s) (length d.writes) s

  -- where a write was too much before
  over_stands : s.over ≡ true → StandsAt d s before → StandsAt (with_write d w) s before
  over_stands on (inl open') = absurd (true≢false (sym on ∙ open'.0))
  over_stands on (inr cut) =
      inr (
        on,
        record {
          given = cut.1.given;
          rises = λ writes begins. cut.1.rises writes (begins_before d w writes begins);
          last = λ writes begins. omega (arith, cut.1.last writes (begins_before d w writes begins), length-append d.writes (w ∷ []));
          begins = λ writes begins later above. cut.1.begins writes (begins_before d w writes begins) later (omega (arith, above, length-append d.writes (w ∷ [])));
        },
      )

  -- where this one is, or is not
  open_stands : s.over ≡ false → HasHanded d s before → (b : Bool) → StandsAt (with_write d w) (noted b) before
  open_stands off has true =
      inr (
        refl,
        record {
          given = refl;
          rises = λ writes begins. (has.placed.place writes (begins_before d w writes begins)).marked.rises;
          last = λ writes begins. omega (arith, (has.placed.place writes (begins_before d w writes begins)).marked.last, length-append d.writes (w ∷ []));
          begins = λ writes begins later above.
              subst (IsPrefixOfStream (refresh_at d s writes) s.progress.marks later) has.all
              (prefix_upto (refresh_at d s writes) (length d.writes) s.progress has.placed.handed has.placed.handed_later (has.placed.place writes (begins_before d w writes begins)) later
              (omega (arith, above, length-append d.writes (w ∷ []))));
        },
      )
  open_stands off has false =
      inl (
        off,
        record {
          placed = record { handed = has.placed.handed; handed_later = has.placed.handed_later; place = written_place limit d w s has.placed.handed has.placed.handed_later has.placed.place };
          all = has.all;
        },
      )

  -- after a write it stands where it stood
  pub search_notified_at_place : StandsAt d s before → StandsAt (with_write d w) (search_notified limit d w s) before
  search_notified_at_place place = by s.over refl
    where
      by : (over : Bool) → s.over ≡ over → StandsAt (with_write d w) (cond over s (noted (adds_too_much (limits_of limit) (sliced (with_write d w) s) (length d.writes) s.progress))) before
      by true on = over_stands on place
      by false off = kept place
        where
          kept : StandsAt d s before → StandsAt (with_write d w) (noted (adds_too_much (limits_of limit) (sliced (with_write d w) s) (length d.writes) s.progress)) before
          kept (inl open') = open_stands off open'.1 (adds_too_much (limits_of limit) (sliced (with_write d w) s) (length d.writes) s.progress)
          kept (inr cut) = absurd (true≢false (sym cut.0 ∙ off))

-- it stands where it stood, with what the write sends to come
pub search_notified_stands : (d0 : DirectoryState) (s0 : SearchState) (limit : ℕ) (d : DirectoryState) (w : Write) (s : SearchState) (before : List SyncMessage)
    → Stands d0 s0 d s before → Stands d0 s0 (with_write d w) (search_notified limit d w s) before
search_notified_stands d0 s0 limit d w s before stands = record {
  sid = stands.sid;
  history = stands.history;
  same = same_then s0 s (search_notified limit d w s) stands.same (search_notified_same limit d w s);
  place = search_notified_at_place limit d w s before stands.place;
}

-- ---- a hand-out

-- a search of which a message is pending after which it goes on is not over
pub not_over : (d : DirectoryState) (s : SearchState) (m : SyncMessage) (ms : List SyncMessage) → pending d s ≡ m ∷ ms → is_end m ≡ false → s.over ≡ false
not_over d s m ms first goes = by s.over refl
  where
    by : (o : Bool) → s.over ≡ o → s.over ≡ false
    by false is = is
    by true is = absurd (true≢false (ap is_end (heads busy_end m [] ms (sym (pending_over d s is) ∙ first)) ∙ goes))

-- the search without its first message is the same one
pub advanced_same : (d : DirectoryState) (s : SearchState) → IsSame s (advanced d s)
advanced_same d s = same_search s (advanced d s).progress s.over

-- where it is not over, one message more was handed out then
pub advanced_has : (d : DirectoryState) (s : SearchState) (before : List SyncMessage) (m : SyncMessage) (ms : List SyncMessage)
    → s.over ≡ false → pending d s ≡ m ∷ ms → HasHanded d s before → HasHanded d (advanced d s) (before ++ m ∷ [])
advanced_has d s before m ms off first has =
    let more : IsNext d (advanced d s) (has.placed.handed ++ has.placed.handed_later) m = next_place d s has.placed m ms (sym (pending_open d s off) ∙ first) in
    record { placed = more.now; all = more.all ∙ ap (λ l. l ++ m ∷ []) has.all }

-- it stands one message further
pub advanced_stands : (d0 : DirectoryState) (s0 : SearchState) (d : DirectoryState) (s : SearchState) (before : List SyncMessage) (m : SyncMessage) (ms : List SyncMessage)
    → Stands d0 s0 d s before → pending d s ≡ m ∷ ms → s.over ≡ false → Stands d0 s0 d (advanced d s) (before ++ m ∷ [])
advanced_stands d0 s0 d s before m ms stands first off = record {
  sid = stands.sid;
  history = stands.history;
  same = same_then s0 s (advanced d s) stands.same (advanced_same d s);
  place = next stands.place;
}
  where
    next : StandsAt d s before → StandsAt d (advanced d s) (before ++ m ∷ [])
    next (inl open') = inl (off, advanced_has d s before m ms off first open'.1)
    next (inr cut) = absurd (true≢false (sym cut.0 ∙ off))

-- a search that ends where it is not over ends with its refresh
pub ends_with_refresh : (d0 : DirectoryState) (s0 : SearchState) (d : DirectoryState) (s : SearchState) (before : List SyncMessage) (m : SyncMessage) (ms : List SyncMessage)
    → Stands d0 s0 d s before → pending d s ≡ m ∷ ms → is_end m ≡ true → s.over ≡ false → s0.persists ≡ false
ends_with_refresh d0 s0 d s before m ms stands first end off = by s0.persists refl
  where
    Stream : List SyncMessage
    Stream = stream_of d0 s0 s.progress.marks (length d.writes) d.writes

    whole : before ++ m ∷ ms ≡ Stream
    whole = ap (λ l. before ++ l) (sym first) ∙ subst (λ o. Delivers o (before ++ pending d s) Stream) off (stands_delivers d0 s0 d s before stands d.writes (begins_with_own d))

    by : (b : Bool) → s0.persists ≡ b → s0.persists ≡ false
    by false is = is
    by true is =
        let r = refresh_at d0 s0 d.writes in
        let pieces = all_pieces r s.progress.marks (length d.writes) in
        let goes : is_end m ≡ false =
        each_one GoesOn before ms m (subst (Each GoesOn) (sym whole) (stream_goes r.operation r.start r.accepted pieces (length d.writes - last_mark r.accepted pieces) is))
        in
        absurd (true≢false (sym end ∙ goes))

-- ---- what is reported of it

-- it is its stream, in pieces that cut its walk
pub record IsNotified (d0 : DirectoryState) (s0 : SearchState) (before : List SyncMessage) (writes : List Write) (t : Delivery) : Type 0 where
  pub shows : Delivers t.over (before ++ all_delivered t) (stream_of d0 s0 t.marks t.writes writes)
  pub cuts : CutsWalk (refresh_at d0 s0 writes) t.marks t.writes

-- what is reported at one moment
pub now_notified : (d0 : DirectoryState) (s0 : SearchState) (p : ProviderState) (number : ℕ) (s : SearchState) (before handed left : List SyncMessage) (writes : List Write)
    → search_at p.searches number ≡ Some s → Stands d0 s0 p.directory s before → handed ++ left ≡ pending p.directory s → BeginsWith p.directory writes
    → IsNotified d0 s0 before writes (delivered_now p number handed left)
now_notified d0 s0 p number s before handed left writes found stands is begins = record {
  shows =
      subst (λ at. Delivers (over_of at) (before ++ (handed ++ left)) (stream_of d0 s0 (marks_of at) (length p.directory.writes) writes)) (sym found)
      (subst (λ ms. Delivers s.over (before ++ ms) (stream_of d0 s0 s.progress.marks (length p.directory.writes) writes)) (sym is)
      (stands_delivers d0 s0 p.directory s before stands writes begins));
  cuts = subst (λ at. CutsWalk (refresh_at d0 s0 writes) (marks_of at) (length p.directory.writes)) (sym found) (stands_cuts d0 s0 p.directory s before stands writes begins);
}

-- a hand-out leaves one that is over as it was
pub over_stays : (d : DirectoryState) (s : SearchState) → s.progress ≡ given_up s.progress → (advanced d s).progress ≡ s.progress
over_stays d s given = hands_nothing (sliced d s) (length d.writes) s.progress (ap (λ (progress : SliceProgress). pending_now (sliced d s) (length d.writes) progress) given)

-- what is reported of its end
pub end_notified : (d0 : DirectoryState) (s0 : SearchState) (p : ProviderState) (number : ℕ) (s : SearchState) (before : List SyncMessage) (m : SyncMessage) (ms : List SyncMessage) (writes : List Write)
    → search_at p.searches number ≡ Some s → Stands d0 s0 p.directory s before → pending p.directory s ≡ m ∷ ms → BeginsWith p.directory writes
    → IsNotified d0 s0 before writes (ended_now p number m ms)
end_notified d0 s0 p number s before m ms writes found stands first begins = record {
  shows =
      subst (λ at. Delivers (over_of at) (before ++ m ∷ ms) (stream_of d0 s0 (marks_of (option_map (advanced d) at)) (length d.writes) writes)) (sym found)
      (shows stands.place);
  cuts = subst (λ at. CutsWalk (refresh_at d0 s0 writes) (marks_of (option_map (advanced d) at)) (length d.writes)) (sym found) (cuts stands.place);
}
  where
    d : DirectoryState
    d = p.directory

    shows : StandsAt d s before → Delivers s.over (before ++ m ∷ ms) (stream_of d0 s0 (advanced d s).progress.marks (length d.writes) writes)
    shows (inl open') =
        let off : s.over ≡ false = open'.0 in
        let same : (before ++ m ∷ []) ++ pending d (advanced d s) ≡ before ++ m ∷ ms = ap (λ l. (before ++ m ∷ []) ++ l) (advanced_is d s ms m off first).same ∙ append_assoc before (m ∷ []) ms in
        subst (λ l. Delivers s.over l (stream_of d0 s0 (advanced d s).progress.marks (length d.writes) writes)) same
        (stands_delivers d0 s0 d (advanced d s) (before ++ m ∷ []) (advanced_stands d0 s0 d s before m ms stands first off) writes begins)
    shows (inr cut) =
        subst (λ (progress : SliceProgress). Delivers s.over (before ++ m ∷ ms) (stream_of d0 s0 progress.marks (length d.writes) writes)) (sym (over_stays d s cut.1.given))
        (subst (λ l. Delivers s.over (before ++ l) (stream_of d0 s0 s.progress.marks (length d.writes) writes)) first (stands_delivers d0 s0 d s before stands writes begins))

    cuts : StandsAt d s before → CutsWalk (refresh_at d0 s0 writes) (advanced d s).progress.marks (length d.writes)
    cuts (inl open') = stands_cuts d0 s0 d (advanced d s) (before ++ m ∷ []) (advanced_stands d0 s0 d s before m ms stands first open'.0) writes begins
    cuts (inr cut) =
        subst (λ (progress : SliceProgress). CutsWalk (refresh_at d0 s0 writes) progress.marks (length d.writes)) (sym (over_stays d s cut.1.given)) (stands_cuts d0 s0 d s before stands writes begins)

-- ---- another limit of the log

-- it is no matter
pub limited_stands : (d : DirectoryState) (limit : ℕ) (s : SearchState) (before : List SyncMessage) → StandsAt d s before → StandsAt (with_log_limit d limit) s before
limited_stands d limit s before (inl at) = inl (at.0, record { placed = limited_placed d limit s at.1.placed; all = at.1.all })
limited_stands d limit s before (inr cut) = inr (cut.0, record { given = cut.1.given; rises = cut.1.rises; last = cut.1.last; begins = cut.1.begins })

-- ---- its acceptance

-- it stands at the beginning
pub asked_stands : (p : ProviderState) (ask : SyncSearch) → Stands p.directory (asked p ask) p.directory (asked p ask) []
asked_stands p ask = record {
  sid = refl;
  history = refl;
  same = same_search (asked p ask) (asked p ask).progress (asked p ask).over;
  place =
      inl (
        refl,
        record {
          placed = record { handed = []; handed_later = []; place = opening_place p.directory ask.id (asked p ask).spec (start_of_ask p.directory ask) (persists_of_ask ask) };
          all = refl;
        },
      );
}
