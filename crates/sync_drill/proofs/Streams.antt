-- A search of a port: what it handed out stays the same as its directory has more writes, and one message more is handed out.
use Rattle.std.proofs.Common.{◌≡◌, ℕ, ◌-◌, ◌≤◌, List, [], ◌∷◌, ◌++◌, map, take, drop, length, Option, Some, None, refl, sym, ap, ◌∙◌, subst, inl, arith, append_assoc, append-nil, length-append}
use Rattle.std.proofs.lemmas.List.{take_all, take_at, drop_at}
use Rattle.entry_tree.specs.declared.op.Write.{Write}
use Rattle.sync_model.specs.Law.{IsCut}
use Rattle.sync_model.specs.Message.{SyncMessage}
use Rattle.sync_model.specs.Stream.{RefreshPiece, walk, last_mark}
use Rattle.sync_slices.specs.Law.{IsAt}
use Rattle.sync_slices.specs.Slices.{SlicedRefresh, pieces_of, left_of, rest_piece, all_pieces, marks_then, first_progress}
use Rattle.sync_slices.proofs.Beginnings.{marks_written}
use Rattle.sync_slices.proofs.Cutting.{last_mark-push}
use Rattle.sync_slices.proofs.Deciding.{marks_next}
use Rattle.sync_slices.proofs.HandingOut.{marks_handed}
use Rattle.directory_writes.specs.Directory.{DirectoryState, with_write}
use Rattle.sync_provider.specs.Opened.{SearchOpening, sliced_of}
use Rattle.sync_provider.specs.Search.{SearchState, busy_end, sliced, pending, advanced}
use Rattle.sync_provider.specs.declared.journal_note.JournalNote.{JournalNote}
use Rattle.sync_provider.specs.declared.journal_note.JournalNote.TheVariants.{Opened, Closed}
use Rattle.sync_provider.proofs.Places.{begins_with_own, written_place, opening_place}
use Rattle.sync_provider.proofs.SearchNotified.{progress_then}
use Rattle.sync_provider.proofs.Streams.{HasHanded, advanced_has, stands_cut, stands_shows}
use Rattle.sync_drill.specs.Delivered.{stream_at, handed_of, EndedSearch, notes_in, handed_by, delivered}
use Rattle.sync_drill.specs.Handing.{search_with, IsSoFar, IsEnded, AreEnded, EndsBusy, AllEndBusy, count_of}

-- ---- one search

-- at its acceptance nothing was handed out
far_at_first : (d : DirectoryState) (o : SearchOpening) → IsSoFar d (record o { accepted = length d.writes }) (length d.writes ∷ []) []
far_at_first d o = record {
  progress = first_progress r;
  marks_are = marks_next r (length d.writes) (record { marks = []; left = walk r.operation r.start r.accepted; names = []; changed = []; rest = []; due = [] });
  placed = record { handed = []; handed_later = []; place = opening_place d o.id o.spec o.start o.persists };
  all = refl;
}
  where
    r : SlicedRefresh
    r = sliced_of d (record o { accepted = length d.writes })

-- so of a search that is opened after the writes of a directory
pub far_first : (d : DirectoryState) (o : SearchOpening) → o.accepted ≡ length d.writes → IsSoFar d o (o.accepted ∷ []) []
far_first d o same = subst (λ n. IsSoFar d (record o { accepted = n }) (n ∷ []) []) (sym same) (far_at_first d o)

module _ (d : DirectoryState) (o : SearchOpening) (marks : List ℕ) (handed : List SyncMessage) (far : IsSoFar d o marks handed) where
  abbrev s : SearchState
  s = search_with o far.progress

  has : HasHanded d s handed
  has = record { placed = far.placed; all = far.all }

  -- its pieces, with what is left of its walk as one more, cut the walk
  pub far_cut : IsCut (sliced_of d o).operation o.start o.accepted (all_pieces (sliced_of d o) marks (length d.writes))
  far_cut =
      subst (λ found. IsCut (sliced_of d o).operation o.start o.accepted (all_pieces (sliced_of d o) found (length d.writes))) far.marks_are
      (stands_cut d s handed d.writes (begins_with_own d) (inl (refl, has)))

  at : IsAt (sliced_of d o) (length d.writes) far.progress far.placed.handed far.placed.handed_later
  at = far.placed.place d.writes (begins_with_own d)

  -- there were no fewer writes at its acceptance
  pub far_low : o.accepted ≤ length d.writes
  far_low = at.marked.low

  -- and the last of its pieces is not decided later
  pub far_last : last_mark o.accepted (all_pieces (sliced_of d o) marks (length d.writes)) ≤ length d.writes
  far_last =
      subst (λ found. last_mark o.accepted (all_pieces (sliced_of d o) found (length d.writes)) ≤ length d.writes) far.marks_are (low (left_of (sliced_of d o) far.progress.marks))
    where
      decided : List RefreshPiece
      decided = pieces_of (sliced_of d o) far.progress.marks

      low : (left : List ℕ) → last_mark o.accepted (decided ++ rest_piece (length d.writes) left) ≤ length d.writes
      low [] =
          let same : last_mark o.accepted (decided ++ []) ≡ last_mark o.accepted decided = ap (last_mark o.accepted) (append-nil decided) in
          omega (arith, same, at.marked.last)
      low (u ∷ us) =
          let same : last_mark o.accepted (decided ++ record { uuids = u ∷ us; mark = length d.writes } ∷ []) ≡ length d.writes =
          last_mark-push decided o.accepted (record { uuids = u ∷ us; mark = length d.writes })
          in
          omega (arith, same)

  -- its Stream begins with what was handed out
  shows : handed ++ pending d s ≡ stream_at d o marks
  shows = stands_shows d s handed d.writes (begins_with_own d) (inl (refl, has)) ∙ ap (stream_at d o) far.marks_are

  -- as many of its messages are these
  pub far_taken : take (length handed) (stream_at d o marks) ≡ handed
  far_taken = ap (take (length handed)) (sym shows) ∙ take_at handed (pending d s) (length handed) refl

  left_is : drop (length handed) (stream_at d o marks) ≡ pending d s
  left_is = ap (drop (length handed)) (sym shows) ∙ drop_at handed (pending d s) (length handed) refl

  -- where nothing is left of it, it is what was handed out
  pub far_whole : drop (length handed) (stream_at d o marks) ≡ [] → handed ≡ stream_at d o marks
  far_whole none = sym (append-nil handed) ∙ ap (λ ms. handed ++ ms) (sym none ∙ left_is) ∙ shows

  -- and with what follows them they are its Stream
  pub far_prefix : handed ++ drop (length handed) (stream_at d o marks) ≡ stream_at d o marks
  far_prefix = ap (λ ms. handed ++ ms) left_is ∙ shows

  -- so it is after a write
  pub far_grows : (w : Write) → IsSoFar (with_write d w) o marks handed
  far_grows w = record {
    progress = progress_then 0 d w s;
    marks_are = marks_written (sliced (with_write d w) s) (length d.writes) far.progress ∙ far.marks_are;
    placed = record { handed = far.placed.handed; handed_later = far.placed.handed_later; place = written_place 0 d w s far.placed.handed far.placed.handed_later far.placed.place };
    all = far.all;
  }

  -- one message more is handed out
  pub far_next : (m : SyncMessage) (rest : List SyncMessage) → drop (length handed) (stream_at d o marks) ≡ m ∷ rest
      → IsSoFar d o (marks_then (sliced_of d o) (length handed) (length d.writes) marks) (handed ++ m ∷ [])
  far_next m rest some = record {
    progress = (advanced d s).progress;
    marks_are =
        marks_handed (sliced d s) (length d.writes) far.progress far.placed.handed far.placed.handed_later (length handed) at
        (ap length (sym far.all) ∙ length-append far.placed.handed far.placed.handed_later)
        ∙ ap (marks_then (sliced_of d o) (length handed) (length d.writes)) far.marks_are;
    placed = next.placed;
    all = next.all;
  }
    where
      next : HasHanded d (advanced d s) (handed ++ m ∷ [])
      next = advanced_has d s handed m rest refl (sym left_is ∙ some) has

-- ---- one that is over

-- it is over still
pub ended_grows : (d : DirectoryState) (w : Write) (search : EndedSearch) → IsEnded d search → IsEnded (with_write d w) search
ended_grows d w search ended = record {
  number = ended.number;
  handed = ended.handed;
  far = far_grows d search.opening search.marks ended.handed ended.far w;
  counted = ended.counted;
}

-- as many of its messages as it handed out are those that it did
pub handed_are : (d : DirectoryState) (search : EndedSearch) (ended : IsEnded d search)
    → handed_of search.end.over search.end.handed (stream_at d search.opening search.marks) ≡ handed_of search.end.over search.end.handed ended.handed
handed_are d search ended = by search.end.over refl
  where
    stream : List SyncMessage
    stream = stream_at d search.opening search.marks

    same : (count : ℕ) → length ended.handed ≡ count → take count stream ≡ take count ended.handed
    same count is =
        ap (λ n. take n stream) (sym is)
        ∙ far_taken d search.opening search.marks ended.handed ended.far
        ∙ sym (take_all (length ended.handed) ended.handed (omega arith))
        ∙ ap (λ n. take n ended.handed) is

    by : (over : Option ℕ) → search.end.over ≡ over → handed_of over search.end.handed stream ≡ handed_of over search.end.handed ended.handed
    by None is = same search.end.handed (ended.counted ∙ ap (λ over. count_of over search.end.handed) is)
    by (Some before) is =
        ap (λ messages. messages ++ take (search.end.handed - before) (busy_end ∷ []))
        (same before (ended.counted ∙ ap (λ over. count_of over search.end.handed) is))

handed_same : (d : DirectoryState) (w : Write) (search : EndedSearch) → IsEnded d search → handed_by (with_write d w) search ≡ handed_by d search
unfolding ended_grows
handed_same d w search ended =
    ap (map (λ message. (search.opening.id, message)))
    (handed_are (with_write d w) search (ended_grows d w search ended) ∙ sym (handed_are d search ended))

-- ---- searches that are over

-- searches that are over are so still
pub still_ended : (d : DirectoryState) (w : Write) (searches : List EndedSearch) → AreEnded d searches → AreEnded (with_write d w) searches
still_ended d w [] ended = tt
still_ended d w (search ∷ searches) ended = (ended_grows d w search ended.0, still_ended d w searches ended.1)

-- what they handed out stays the same
pub delivered_same : (d : DirectoryState) (w : Write) (searches : List EndedSearch) → AreEnded d searches → delivered (with_write d w) searches ≡ delivered d searches
delivered_same d w [] ended = refl
delivered_same d w (search ∷ searches) ended =
    let first : handed_by (with_write d w) search ≡ handed_by d search = handed_same d w search ended.0 in
    let rest : delivered (with_write d w) searches ≡ delivered d searches = delivered_same d w searches ended.1 in
    λ i. first i ++ rest i

-- one search more that is over
pub delivered-append : (d : DirectoryState) (searches : List EndedSearch) (search : EndedSearch) → delivered d (searches ++ search ∷ []) ≡ delivered d searches ++ handed_by d search
delivered-append d [] search = append-nil (handed_by d search)
delivered-append d (first ∷ searches) search =
    ap (λ messages. handed_by d first ++ messages) (delivered-append d searches search) ∙ sym (append_assoc (handed_by d first) (delivered d searches) (handed_by d search))

-- its entries come last
pub entries-append : (searches : List EndedSearch) (search : EndedSearch) → notes_in (searches ++ search ∷ []) ≡ notes_in searches ++ Opened search.opening ∷ Closed search.end ∷ []
entries-append [] search = refl
entries-append (first ∷ searches) search = ap (λ (notes : List JournalNote). Opened first.opening ∷ Closed first.end ∷ notes) (entries-append searches search)

-- one more that is over
pub ended-append : (d : DirectoryState) (searches : List EndedSearch) (search : EndedSearch) → AreEnded d searches → IsEnded d search → AreEnded d (searches ++ search ∷ [])
ended-append d [] search ended one = (one, tt)
ended-append d (first ∷ searches) search ended one = (ended.0, ended-append d searches search ended.1 one)

-- ---- searches that ended with busy

-- searches that ended with the code busy did so still
pub still_busy : (consumer : ℕ) (d : DirectoryState) (w : Write) (searches : List EndedSearch) → AllEndBusy consumer d searches → AllEndBusy consumer (with_write d w) searches
still_busy consumer d w [] busy = tt
still_busy consumer d w (search ∷ searches) busy = (
  record { ended = ended_grows d w search busy.0.ended; asked = busy.0.asked; before = busy.0.before; over = busy.0.over; handed = busy.0.handed },
  still_busy consumer d w searches busy.1,
)

-- one more that ended so
pub busy-append : (consumer : ℕ) (d : DirectoryState) (searches : List EndedSearch) (search : EndedSearch) → AllEndBusy consumer d searches → EndsBusy consumer d search
    → AllEndBusy consumer d (searches ++ search ∷ [])
busy-append consumer d [] search busy one = (one, tt)
busy-append consumer d (first ∷ searches) search busy one = (busy.0, busy-append consumer d searches search busy.1 one)
