-- What holds of a refresh that is decided piece by piece, over every list of writes and hand-outs.
use Rattle.std.specs.Prelude.{◌≡◌, ◌≤◌, ◌<◌, ◌⊎◌, ℕ, ◌+◌, Bool, true, false, cond, not, ◌&&◌, ◌||◌, nat_lt, List, [], ◌∷◌, ◌++◌, length, take, Some}
use Rattle.sync_model.specs.Copy.{Copy, asked, taken_all}
use Rattle.sync_model.specs.Law.{Ascending, MarksRise, IsCut, MayBegin, Shows, is_nil, settled}
use Rattle.sync_model.specs.Message.{SyncMessage}
use Rattle.sync_model.specs.Stream.{content_after, is_delete_phase, late_uuids, whole, left_over, refresh}
use Rattle.sync_slices.specs.Slices.{SlicedRefresh, SliceProgress, QueueLimits, pieces_of, left_of, decisions_of, last_of, later_upto, all_pieces, stream_upto, marks_then, first_progress, handed_on, written, pending_now, adds_too_much, is_too_much, given_up}

-- ---- what is kept, by what was handed out

-- the numbers of writes at the pieces rise, from that of the acceptance up to now, and this is left
-- of the walk
pub record IsMarked (r : SlicedRefresh) (now : ℕ) (marks rest : List ℕ) : Type 0 where
  pub low : r.accepted ≤ now
  pub last : last_of r marks ≤ now
  pub rises : MarksRise r.accepted (pieces_of r marks)
  pub left : rest ≡ left_of r marks

-- while pieces are left: what was handed out and what is not are the whole messages of those that
-- are decided, and what changed in the content since the acceptance is known
pub record IsWalking
    (r : SlicedRefresh) (now : ℕ) (s : SliceProgress)
    (handed handed_later : List SyncMessage) : Type 0 where
  pub known : handed ++ s.rest ≡ whole (is_delete_phase r.start) [] (decisions_of r s.marks)
  pub names : s.names ≡ left_over [] (decisions_of r s.marks)
  pub changed : s.changed ≡ late_uuids r.operation r.accepted now
  pub due : s.due ≡ []
  pub later : handed_later ≡ []

-- then: they are the refresh, and what the writes since the last piece send; and nothing of the
-- latter was handed out before all of the refresh
pub record IsSettled
    (r : SlicedRefresh) (now : ℕ) (s : SliceProgress)
    (handed handed_later : List SyncMessage) : Type 0 where
  pub rest : handed ++ s.rest ≡ refresh r.operation r.start r.accepted (pieces_of r s.marks)
  pub due : handed_later ++ s.due ≡ later_upto r s.marks now
  pub ordered : (s.rest ≡ []) ⊎ (handed_later ≡ [])

pub record IsAt
    (r : SlicedRefresh) (now : ℕ) (s : SliceProgress)
    (handed handed_later : List SyncMessage) : Type 0 where
  pub marked : IsMarked r now s.marks s.left
  pub place :
      ((is_nil s.left ≡ false) × IsWalking r now s handed handed_later)
      ⊎ ((s.left ≡ []) × IsSettled r now s handed handed_later)

-- ---- over writes and hand-outs

-- what is done: the directory is written to, with these limits, or a message of the search is
-- handed out
pub data SliceTurn : Type 0 where
  Writes : (limits : QueueLimits) → SliceTurn
  HandsOut : SliceTurn

-- a moment: how many writes there are, what was handed out, what is kept of the search, and whether
-- a write was too much for it
pub record SliceMoment : Type 0 where
  pub now : ℕ
  pub handed : List SyncMessage
  pub progress : SliceProgress
  pub over : Bool

abbrev pub first_moment : SlicedRefresh → SliceMoment
first_moment r =
    record { now = r.accepted; handed = []; progress = first_progress r; over = false }

-- after a write, which was too much or not
abbrev pub noted : (too_much : Bool) → SlicedRefresh → SliceMoment → SliceMoment
noted true r m = record m { now = m.now + 1; progress = given_up m.progress; over = true }
noted false r m = record m { now = m.now + 1; progress = written r m.now m.progress }

-- of a search for which a write was too much, nothing is handed out but its end
abbrev pub turned_open : SlicedRefresh → SliceMoment → SliceTurn → SliceMoment
turned_open r m (Writes limits) = noted (adds_too_much limits r m.now m.progress) r m
turned_open r m HandsOut =
    record m {
      handed = m.handed ++ take 1 (pending_now r m.now m.progress);
      progress = handed_on r m.now m.progress;
    }

abbrev pub turned_over : SliceMoment → SliceTurn → SliceMoment
turned_over m (Writes limits) = record m { now = m.now + 1 }
turned_over m HandsOut = m

abbrev pub turned : SlicedRefresh → SliceMoment → SliceTurn → SliceMoment
turned r m turn = cond m.over (turned_over m turn) (turned_open r m turn)

abbrev pub turned_all : SlicedRefresh → SliceMoment → List SliceTurn → SliceMoment
turned_all r m [] = m
turned_all r m (turn ∷ turns) = turned_all r (turned r m turn) turns

-- the same by counts alone: how many writes there are, how many messages were handed out, the
-- numbers of writes at the pieces, and whether a write was too much. A piece is decided by the
-- hand-out that needs it
pub record SliceTally : Type 0 where
  pub now : ℕ
  pub handed : ℕ
  pub marks : List ℕ
  pub over : Bool

abbrev pub first_tally : SlicedRefresh → SliceTally
first_tally r = record { now = r.accepted; handed = 0; marks = r.accepted ∷ []; over = false }

abbrev pub tallied : SlicedRefresh → SliceTally → SliceTurn → SliceTally
tallied r t (Writes limits) =
    record t { now = t.now + 1; over = t.over || is_too_much limits r t.marks t.handed t.now }
tallied r t HandsOut =
    cond (not t.over && nat_lt t.handed (length (stream_upto r t.marks t.now)))
    (record t { handed = t.handed + 1; marks = marks_then r t.handed t.now t.marks }) t

abbrev pub tallied_all : SlicedRefresh → SliceTally → List SliceTurn → SliceTally
tallied_all r t [] = t
tallied_all r t (turn ∷ turns) = tallied_all r (tallied r t turn) turns

-- messages that were handed out are a prefix of all that the search sends up to n writes
pub record IsPrefixOfStream (r : SlicedRefresh) (marks : List ℕ) (count : ℕ)
    (handed : List SyncMessage) : Type 0 where
  pub rest : List SyncMessage
  pub split : handed ++ rest ≡ stream_upto r marks count

-- what was handed out, followed by what is pending, is all that the search sends up to now, by the
-- numbers of writes at its pieces; or a write was too much for it, and what was handed out is a
-- prefix of that
abbrev pub DeliversBy : (over : Bool) → SlicedRefresh → SliceMoment → SliceTally → Type 0
DeliversBy false r m t = m.handed ++ pending_now r m.now m.progress ≡ stream_upto r t.marks t.now
DeliversBy true r m t = IsPrefixOfStream r t.marks t.now m.handed

-- and the pieces cut its walk
pub record Delivers (r : SlicedRefresh) (m : SliceMoment) (t : SliceTally) : Type 0 where
  pub now : m.now ≡ t.now
  pub counted : length m.handed ≡ t.handed
  pub marks : m.progress.marks ≡ t.marks
  pub over : m.over ≡ t.over
  pub cut : IsCut r.operation r.start r.accepted (all_pieces r t.marks t.now)
  pub delivers : DeliversBy m.over r m t

-- whatever is written and handed out
abbrev pub SlicesDeliver : Type 0
SlicesDeliver =
    (r : SlicedRefresh) → 0 < r.size → (turns : List SliceTurn)
    → Delivers r (turned_all r (first_moment r) turns) (tallied_all r (first_tally r) turns)

-- ---- what a copy makes of it

-- wherever the messages that were handed out are cut off, a copy has what it had before the search,
-- or the content after a number of writes, not fewer than those at the acceptance, and its cookie
abbrev pub SlicesShow : Type 0
SlicesShow =
    (r : SlicedRefresh) → 0 < r.size → Ascending r.operation
    → (turns : List SliceTurn) (id : ℕ) (copy : Copy) (prefix rest : List SyncMessage)
    → MayBegin r.operation r.start r.accepted copy.held
    → prefix ++ rest ≡ (turned_all r (first_moment r) turns).handed
    → Shows r.operation copy r.accepted (turned_all r (first_moment r) turns).now
    (taken_all id (asked id r.operation.persists copy) prefix)

-- the refresh, once all pieces are decided, ends in the content after the writes at the last piece,
-- with the cookie of their number, which is not below that of the acceptance
pub record EndsAtLastPiece
    (r : SlicedRefresh) (now : ℕ) (marks : List ℕ) (id : ℕ) (copy : Copy) : Type 0 where
  pub from : r.accepted ≤ last_of r marks
  pub upto : last_of r marks ≤ now
  pub ended : Bool
  pub same :
      taken_all id (asked id r.operation.persists copy)
      (refresh r.operation r.start r.accepted (pieces_of r marks))
      ≡ settled id r.operation.persists ended (content_after r.operation (last_of r marks))
      (Some (r.operation.cookies (last_of r marks)))

abbrev pub SlicesEnd : Type 0
SlicesEnd =
    (r : SlicedRefresh) → 0 < r.size → Ascending r.operation
    → (turns : List SliceTurn) (id : ℕ) (copy : Copy)
    → MayBegin r.operation r.start r.accepted copy.held
    → (turned_all r (first_moment r) turns).over ≡ false
    → (turned_all r (first_moment r) turns).progress.left ≡ []
    → EndsAtLastPiece r (turned_all r (first_moment r) turns).now
    (turned_all r (first_moment r) turns).progress.marks id copy
