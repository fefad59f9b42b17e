-- A consumer's port: what was offered for it stays what its searches handed out, as entries of
-- other ports come in, as a message is handed out, and as a search is opened and ended.
use Rattle.std.proofs.Common.{◌≡◌, ◌≢◌, ℕ, suc, ◌-◌, ◌==◌, nat_eq, Bool, true, false, cond, ◌||◌, List, [], ◌∷◌, ◌++◌, map, take, drop, length, Option, Some, None, option_map, refl, sym, ap, ◌∙◌, subst, arith, append_assoc, append-nil, length-append}
use Rattle.std.specs.List.{All}
use Rattle.std.proofs.lemmas.Bool.{false≢true, eq-eqb}
use Rattle.std.proofs.lemmas.List.{map-append}
use Rattle.sync_model.specs.Message.{SyncMessage}
use Rattle.sync_slices.specs.Slices.{is_too_much}
use Rattle.directory_writes.specs.Directory.{with_write}
use Rattle.sync_provider.specs.Opened.{SearchOpening, sliced_of}
use Rattle.sync_provider.specs.Ports.{Journal, PortState, FollowedSearch, followed_after, followed_on, marks_in, noted, noted_all, opened_in, handed_in, end_of, ended_in, IsLater}
use Rattle.sync_provider.specs.Queueing.{limits_of}
use Rattle.sync_provider.specs.Search.{busy_end}
use Rattle.sync_provider.specs.declared.journal_note.ClosedSearch.{ClosedSearch}
use Rattle.sync_provider.specs.declared.journal_note.JournalNote.{JournalNote}
use Rattle.sync_provider.specs.declared.journal_note.JournalNote.TheVariants.{Wrote, Opened, Closed}
use Rattle.sync_drill.specs.Journals.{notes_of}
use Rattle.sync_drill.specs.Delivered.{stream_at, EndedSearch, notes_in, handed_by, handed_of, delivered, encoded, search_id}
use Rattle.sync_drill.specs.Handing.{EndsBusy, IsEnded, IsHanding, IsOpening, IsResting, MayOpen, count_of}
use Rattle.sync_drill.proofs.Notes.{is_another, is_itself, noted-number, others_notes, own_notes}
use Rattle.sync_drill.proofs.Streams.{busy-append, delivered-append, delivered_same, ended-append, entries-append, far_first, far_grows, far_next, far_taken, still_busy, still_ended}

-- ---- entries of other ports

handing-noted : (consumer search : ℕ) (p : PortState) (items : List (List ℕ)) (note : JournalNote) (by : ℕ) → by ≢ p.number
    → IsHanding consumer search p items → IsHanding consumer search (noted p note by) items
handing-noted consumer search p items (Wrote write) by other h = record {
  opening = h.opening;
  marks = h.marks;
  handed = h.handed;
  over =
      h.over
      || is_too_much (limits_of p.queue_limit) (sliced_of (with_write p.directory write) h.opening) h.marks (length h.handed)
      (length p.directory.writes);
  follows = ap (option_map (followed_after p.queue_limit p.directory write)) h.follows;
  alone = λ n far. ap (option_map (followed_after p.queue_limit p.directory write)) (h.alone n far);
  its_number = h.its_number;
  asked = h.asked;
  far = far_grows p.directory h.opening h.marks h.handed h.far write;
  ended = h.ended;
  are_ended = still_ended p.directory write h.ended h.are_ended;
  busy = still_busy consumer p.directory write h.ended h.busy;
  own = others_notes p (Wrote write) by other ∙ h.own;
  offered_is = h.offered_is
      ∙ ap (λ messages. map encoded (messages ++ map (λ message. (search_id, message)) h.handed)) (sym (delivered_same p.directory write h.ended h.are_ended));
}
handing-noted consumer search p items (Opened opening) by other h = record {
  opening = h.opening;
  marks = h.marks;
  handed = h.handed;
  over = h.over;
  follows = h.follows;
  alone = h.alone;
  its_number = h.its_number;
  asked = h.asked;
  far = h.far;
  ended = h.ended;
  are_ended = h.are_ended;
  busy = h.busy;
  own = others_notes p (Opened opening) by other ∙ h.own;
  offered_is = h.offered_is;
}
handing-noted consumer search p items (Closed end) by other h = record {
  opening = h.opening;
  marks = h.marks;
  handed = h.handed;
  over = h.over;
  follows = h.follows;
  alone = h.alone;
  its_number = h.its_number;
  asked = h.asked;
  far = h.far;
  ended = h.ended;
  are_ended = h.are_ended;
  busy = h.busy;
  own = others_notes p (Closed end) by other ∙ h.own;
  offered_is = h.offered_is;
}

handing-all : (consumer search : ℕ) (p : PortState) (items : List (List ℕ)) (entries : Journal) → All (λ e. e.1 ≢ p.number) entries
    → IsHanding consumer search p items → IsHanding consumer search (noted_all p entries) items
handing-all consumer search p items [] others h = h
handing-all consumer search p items (e ∷ entries) others h =
    handing-all consumer search (noted p e.0 e.1) items entries
    (subst (λ n. All (λ other. other.1 ≢ n) entries) (sym (noted-number p e.0 e.1)) (λ k d low. others (suc k) d (omega (arith, low))))
    (handing-noted consumer search p items e.0 e.1 (others 0 e (omega arith)) h)

-- its search is handed out still after entries of others
pub handing-later : (consumer search : ℕ) (old new : PortState) (items : List (List ℕ)) → IsLater old new
    → IsHanding consumer search old items → IsHanding consumer search new items
handing-later consumer search old new items later h =
    subst (λ p. IsHanding consumer search p items) (sym later.is)
    (handing-all consumer search old items later.entries (λ k d low. (later.others k d low).0) h)

resting-noted : (p : PortState) (items : List (List ℕ)) (note : JournalNote) (by : ℕ) → by ≢ p.number
    → IsResting p items → IsResting (noted p note by) items
resting-noted p items (Wrote write) by other r = record {
  alone = λ n. ap (option_map (followed_after p.queue_limit p.directory write)) (r.alone n);
  searches = r.searches;
  own = others_notes p (Wrote write) by other ∙ r.own;
  are_ended = still_ended p.directory write r.searches r.are_ended;
  offered_is = r.offered_is ∙ ap (map encoded) (sym (delivered_same p.directory write r.searches r.are_ended));
}
resting-noted p items (Opened opening) by other r =
    record { alone = r.alone; searches = r.searches; own = others_notes p (Opened opening) by other ∙ r.own; are_ended = r.are_ended; offered_is = r.offered_is }
resting-noted p items (Closed end) by other r =
    record { alone = r.alone; searches = r.searches; own = others_notes p (Closed end) by other ∙ r.own; are_ended = r.are_ended; offered_is = r.offered_is }

resting-all : (p : PortState) (items : List (List ℕ)) (entries : Journal) → All (λ e. e.1 ≢ p.number) entries
    → IsResting p items → IsResting (noted_all p entries) items
resting-all p items [] others r = r
resting-all p items (e ∷ entries) others r =
    resting-all (noted p e.0 e.1) items entries
    (subst (λ n. All (λ other. other.1 ≢ n) entries) (sym (noted-number p e.0 e.1)) (λ k d low. others (suc k) d (omega (arith, low))))
    (resting-noted p items e.0 e.1 (others 0 e (omega arith)) r)

-- it rests still after entries of others
pub resting-later : (old new : PortState) (items : List (List ℕ)) → IsLater old new → IsResting old items → IsResting new items
resting-later old new items later r =
    subst (λ p. IsResting p items) (sym later.is)
    (resting-all old items later.entries (λ k d low. (later.others k d low).0) r)

-- each of its searches still ended with busy
may_open-noted : (consumer : ℕ) (p : PortState) (items : List (List ℕ)) (note : JournalNote) (by : ℕ) → by ≢ p.number → MayOpen consumer p items → MayOpen consumer (noted p note by) items
unfolding resting-noted
may_open-noted consumer p items (Wrote write) by other may =
    record { resting = resting-noted p items (Wrote write) by other may.resting; busy = still_busy consumer p.directory write may.resting.searches may.busy }
may_open-noted consumer p items (Opened opening) by other may = record { resting = resting-noted p items (Opened opening) by other may.resting; busy = may.busy }
may_open-noted consumer p items (Closed end) by other may = record { resting = resting-noted p items (Closed end) by other may.resting; busy = may.busy }

may_open-all : (consumer : ℕ) (p : PortState) (items : List (List ℕ)) (entries : Journal) → All (λ e. e.1 ≢ p.number) entries → MayOpen consumer p items → MayOpen consumer (noted_all p entries) items
may_open-all consumer p items [] others may = may
may_open-all consumer p items (e ∷ entries) others may =
    may_open-all consumer (noted p e.0 e.1) items entries
    (subst (λ n. All (λ other. other.1 ≢ n) entries) (sym (noted-number p e.0 e.1)) (λ k d low. others (suc k) d (omega (arith, low))))
    (may_open-noted consumer p items e.0 e.1 (others 0 e (omega arith)) may)

-- it may open a search still after entries of others
pub may_open-later : (consumer : ℕ) (old new : PortState) (items : List (List ℕ)) → IsLater old new → MayOpen consumer old items → MayOpen consumer new items
may_open-later consumer old new items later may =
    subst (λ p. MayOpen consumer p items) (sym later.is)
    (may_open-all consumer old items later.entries (λ k d low. (later.others k d low).0) may)

-- ---- a search is opened

-- a port that opens a search hands it out
pub handing-opened : (consumer : ℕ) (p : PortState) (items : List (List ℕ)) (opening : SearchOpening) → IsOpening consumer opening
    → opening.accepted ≡ length p.directory.writes → MayOpen consumer p items → IsHanding consumer opening.number (opened_in p opening) items
handing-opened consumer p items opening asked all may = record {
  opening = opening;
  marks = opening.accepted ∷ [];
  handed = [];
  over = false;
  follows = ap (λ b. cond b (Some fresh) (p.followed opening.number)) (is_itself opening.number);
  alone = λ n far. ap (λ b. cond b (Some fresh) (p.followed n)) (is_another n opening.number far) ∙ may.resting.alone n;
  its_number = refl;
  asked = asked;
  far = far_first p.directory opening all;
  ended = may.resting.searches;
  are_ended = may.resting.are_ended;
  busy = may.busy;
  own = own_notes p (Opened opening) ∙ ap (λ notes. notes ++ Opened opening ∷ []) may.resting.own;
  offered_is = may.resting.offered_is ∙ ap (map encoded) (sym (append-nil (delivered p.directory may.resting.searches)));
}
  where
    fresh : FollowedSearch
    fresh = record { opened = opening; handed = 0; marks = opening.accepted ∷ []; over = false }

-- ---- a message is handed out

-- how many messages a search handed out that is dropped, whether a write was too much for it or not
dropped-count : (over : Bool) (handed : ℕ) → count_of (cond over (Some handed) None) handed ≡ handed
dropped-count true handed = refl
dropped-count false handed = refl

dropped-handed : (over : Bool) (handed : ℕ) (stream : List SyncMessage) → handed_of (cond over (Some handed) None) handed stream ≡ take handed stream
dropped-handed true handed stream =
    let none : handed - handed ≡ 0 = omega arith in
    ap (λ n. take handed stream ++ take n (busy_end ∷ [])) none ∙ append-nil (take handed stream)
dropped-handed false handed stream = refl

module _ (consumer search : ℕ) (p : PortState) (items : List (List ℕ)) (h : IsHanding consumer search p items) where
  -- the search that it follows
  abbrev pub followed_now : FollowedSearch
  followed_now = record { opened = h.opening; handed = length h.handed; marks = h.marks; over = h.over }

  abbrev stream : List SyncMessage
  stream = stream_at p.directory h.opening h.marks

  abbrev numbered : List SyncMessage → List (ℕ × SyncMessage)
  numbered = map (λ message. (search_id, message))

  -- one message more is handed out
  pub handing-handed : (message : SyncMessage) (rest : List SyncMessage) → drop (length h.handed) (stream_at p.directory h.opening h.marks) ≡ message ∷ rest
      → IsHanding consumer search (handed_in p search followed_now) (items ++ encoded (search_id, message) ∷ [])
  handing-handed message rest is = record {
    opening = h.opening;
    marks = marks_in p.directory followed_now;
    handed = h.handed ++ message ∷ [];
    over = h.over;
    follows = ap (λ b. cond b (Some one_more) (p.followed search)) (is_itself search)
        ∙ ap (λ n. Some (of_count n)) (sym (length-append h.handed (message ∷ [])));
    alone = λ n far. ap (λ b. cond b (Some one_more) (p.followed n)) (is_another n search far) ∙ h.alone n far;
    its_number = h.its_number;
    asked = h.asked;
    far = far_next p.directory h.opening h.marks h.handed h.far message rest is;
    ended = h.ended;
    are_ended = h.are_ended;
    busy = h.busy;
    own = h.own;
    offered_is = ap (λ before. before ++ encoded (search_id, message) ∷ []) h.offered_is
        ∙ sym (map-append encoded (delivered p.directory h.ended ++ numbered h.handed) ((search_id, message) ∷ []))
        ∙ ap (map encoded)
        (append_assoc (delivered p.directory h.ended) (numbered h.handed) ((search_id, message) ∷ [])
        ∙ ap (λ messages. delivered p.directory h.ended ++ messages) (sym (map-append (λ m. (search_id, m)) h.handed (message ∷ []))));
  }
    where
      of_count : ℕ → FollowedSearch
      of_count count = record { opened = h.opening; handed = count; marks = marks_in p.directory followed_now; over = h.over }

      one_more : FollowedSearch
      one_more = followed_on p.directory followed_now

  -- ---- the search is ended

  -- as it ended so
  abbrev pub ended_so : ClosedSearch → EndedSearch
  ended_so end = record { opening = h.opening; marks = h.marks; end = end }

  its_notes : (end : ClosedSearch) → notes_of p.number (ended_in p search end).journal ≡ notes_in (h.ended ++ ended_so end ∷ [])
  its_notes end =
      own_notes p (Closed end)
      ∙ ap (λ notes. notes ++ Closed end ∷ []) h.own
      ∙ append_assoc (notes_in h.ended) (Opened h.opening ∷ []) (Closed end ∷ [])
      ∙ sym (entries-append h.ended (ended_so end))

  -- after all that it handed out until then, and the end itself where that was sent
  pub resting-ended : (end : ClosedSearch) (offered : List (List ℕ)) → IsEnded p.directory (ended_so end) → end.number ≡ search
      → offered ≡ map encoded (delivered p.directory h.ended ++ handed_by p.directory (ended_so end))
      → IsResting (ended_in p search end) offered
  resting-ended end offered one same is = record {
    alone = λ n. none n (n == search) refl;
    searches = h.ended ++ ended_so end ∷ [];
    own = its_notes end;
    are_ended = ended-append p.directory h.ended (ended_so end) h.are_ended one;
    offered_is = is ∙ ap (map encoded) (sym (delivered-append p.directory h.ended (ended_so end)));
  }
    where
      off : (n m : ℕ) → (n == m) ≡ false → n ≢ m
      off n m far = λ same. false≢true (sym far ∙ eq-eqb n m same)

      none : (n : ℕ) (b : Bool) → (n == search) ≡ b → cond {A = Option FollowedSearch} (nat_eq n search) None (p.followed n) ≡ None
      none n true same = ap (λ b. cond {A = Option FollowedSearch} b None (p.followed n)) same
      none n false far = ap (λ b. cond {A = Option FollowedSearch} b None (p.followed n)) far ∙ h.alone n (off n search far)

  -- where a write was too much for it, another one may be opened
  pub may_open-ended : (end : ClosedSearch) (offered : List (List ℕ)) → end.number ≡ search → EndsBusy consumer p.directory (ended_so end)
      → offered ≡ map encoded (delivered p.directory h.ended ++ handed_by p.directory (ended_so end))
      → MayOpen consumer (ended_in p search end) offered
  unfolding resting-ended
  may_open-ended end offered same one is = record {
    resting = resting-ended end offered one.ended same is;
    busy = busy-append consumer p.directory h.ended (ended_so end) h.busy one;
  }

  -- it is dropped: what it handed out was offered
  pub resting-dropped : IsResting (ended_in p search (end_of search followed_now)) items
  resting-dropped =
      resting-ended end items (record { number = h.its_number; handed = h.handed; far = h.far; counted = sym (dropped-count h.over (length h.handed)) }) refl
      (h.offered_is ∙ ap (λ messages. map encoded (delivered p.directory h.ended ++ messages)) (sym handed_now))
    where
      end : ClosedSearch
      end = end_of search followed_now

      handed_now : handed_by p.directory (ended_so end) ≡ numbered h.handed
      handed_now =
          ap (map (λ message. (h.opening.id, message))) (dropped-handed h.over (length h.handed) stream ∙ far_taken p.directory h.opening h.marks h.handed h.far)
          ∙ (λ i. map (λ message. (h.asked.id i, message)) h.handed)
