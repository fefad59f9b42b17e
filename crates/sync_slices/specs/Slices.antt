-- A refresh that is decided piece by piece, while writes go on (RFC 4533, section 3.3).
use Rattle.std.specs.Prelude.{ℕ, zero, suc, ◌+◌, ◌-◌, Bool, cond, not, ◌||◌, ◌&&◌, nat_lt, List, [], ◌∷◌, ◌++◌, length, map, take, drop, flat_map}
use Rattle.entry_tree.specs.Touched.{joined, touched}
use Rattle.sync_model.specs.Law.{is_nil}
use Rattle.sync_model.specs.Message.{SyncMessage}
use Rattle.sync_model.specs.Stream.{SyncOperation, Start, RefreshPiece, WalkDecision, content_after, is_delete_phase, walk, decide, decide_piece, last_mark, late_uuids, whole, left_over, rest_of, after_walk, refresh, group, later, stream}

-- how many identities a provider decides at one moment, at most
abbrev pub most_decided : ℕ
most_decided = 256

-- ---- how a walk is cut

-- the pieces of these identities that were decided at these numbers of writes, each of n
-- identities but the last
abbrev pub pieces_at : (marks : List ℕ) → ℕ → List ℕ → List RefreshPiece
pieces_at [] size uuids = []
pieces_at (mark ∷ marks) size uuids =
    record { uuids = take size uuids; mark = mark } ∷ pieces_at marks size (drop size uuids)

-- the identities that are in none of them
abbrev pub undecided : (marks : List ℕ) → ℕ → List ℕ → List ℕ
undecided [] size uuids = uuids
undecided (mark ∷ marks) size uuids = undecided marks size (drop size uuids)

-- ---- what a search sends, by the numbers of writes at its pieces

-- the refresh of a search: where it begins, after how many writes it was accepted, and how many
-- identities are decided at one moment
pub record SlicedRefresh : Type 0 where
  pub operation : SyncOperation
  pub start : Start
  pub accepted : ℕ
  pub size : ℕ

abbrev pub pieces_of : SlicedRefresh → (marks : List ℕ) → List RefreshPiece
pieces_of r marks = pieces_at marks r.size (walk r.operation r.start r.accepted)

-- the identities of its walk that are not decided
abbrev pub left_of : SlicedRefresh → (marks : List ℕ) → List ℕ
left_of r marks = undecided marks r.size (walk r.operation r.start r.accepted)

abbrev pub decisions_of : SlicedRefresh → (marks : List ℕ) → List WalkDecision
decisions_of r marks = flat_map (decide_piece r.operation r.start) (pieces_of r marks)

-- the messages that are settled by these pieces: the whole refresh after the last of them, and
-- before it those in which no identity is missing that is still to be named
abbrev pub settled_by : (left : List ℕ) → SlicedRefresh → (marks : List ℕ) → List SyncMessage
settled_by [] r marks = refresh r.operation r.start r.accepted (pieces_of r marks)
settled_by (uuid ∷ uuids) r marks = whole (is_delete_phase r.start) [] (decisions_of r marks)

abbrev pub settled_messages : SlicedRefresh → (marks : List ℕ) → List SyncMessage
settled_messages r marks = settled_by (left_of r marks) r marks

-- further pieces are decided at this number of writes, one after the other, until they settle a
-- message more than were handed out, or none is left
abbrev pub marks_from : (most : ℕ) → SlicedRefresh → (handed now : ℕ) → List ℕ → List ℕ
marks_from zero r handed now marks = marks
marks_from (suc most) r handed now marks =
    cond
    (is_nil (left_of r marks) || nat_lt handed (length (settled_messages r marks)))
    marks (marks_from most r handed now (marks ++ now ∷ []))

-- the numbers of writes at the pieces once the message after n is handed out
abbrev pub marks_then : SlicedRefresh → (handed now : ℕ) → (marks : List ℕ) → List ℕ
marks_then r handed now marks = marks_from (length (left_of r marks)) r handed now marks

-- the number of writes at the last piece that was decided
abbrev pub last_of : SlicedRefresh → (marks : List ℕ) → ℕ
last_of r marks = last_mark r.accepted (pieces_of r marks)

-- what the writes after all pieces send, up to n writes
abbrev pub later_upto : SlicedRefresh → (marks : List ℕ) → (now : ℕ) → List SyncMessage
later_upto r marks now =
    cond r.operation.persists (later r.operation (last_of r marks) (now - last_of r marks)) []

-- what is left is decided at this number of writes
abbrev pub rest_piece : ℕ → List ℕ → List RefreshPiece
rest_piece now [] = []
rest_piece now (uuid ∷ uuids) = record { uuids = uuid ∷ uuids; mark = now } ∷ []

-- all pieces, where no write comes before the last of them
abbrev pub all_pieces : SlicedRefresh → (marks : List ℕ) → (now : ℕ) → List RefreshPiece
all_pieces r marks now = pieces_of r marks ++ rest_piece now (left_of r marks)

-- all messages up to this number of writes, where no write comes before the last piece
abbrev pub stream_upto : SlicedRefresh → (marks : List ℕ) → (now : ℕ) → List SyncMessage
stream_upto r marks now =
    stream r.operation r.start r.accepted (all_pieces r marks now)
    (now - last_mark r.accepted (all_pieces r marks now))

-- ---- what is kept of a search

-- the numbers of writes at its pieces; while pieces are left, the identities that are not decided,
-- those that are to be named and wait for a set to be full, and those that changed in the content
-- since the acceptance; and what is not handed out of the refresh, and of later writes
pub record SliceProgress : Type 0 where
  pub marks : List ℕ
  pub left : List ℕ
  pub names : List ℕ
  pub changed : List ℕ
  pub rest : List SyncMessage
  pub due : List SyncMessage

abbrev pub decisions_now : SlicedRefresh → (now : ℕ) → List ℕ → List WalkDecision
decisions_now r now uuids = flat_map (decide r.operation r.start now) uuids

-- one piece more is decided
abbrev pub with_piece : SlicedRefresh → (now : ℕ) → SliceProgress → SliceProgress
with_piece r now s =
    record s {
      marks = s.marks ++ now ∷ [];
      left = drop r.size s.left;
      names = left_over s.names (decisions_now r now (take r.size s.left));
      rest =
          s.rest
          ++ whole (is_delete_phase r.start) s.names (decisions_now r now (take r.size s.left));
    }

-- what follows the last piece: the rest of the names, the late part and the end
abbrev pub end_parts : SlicedRefresh → (now : ℕ) → (names changed : List ℕ) → List SyncMessage
end_parts r now names changed =
    rest_of (is_delete_phase r.start) names
    ++ after_walk r.operation (is_delete_phase r.start) now changed

abbrev pub with_end : SlicedRefresh → (now : ℕ) → SliceProgress → SliceProgress
with_end r now s =
    record s { names = []; changed = []; rest = s.rest ++ end_parts r now s.names s.changed }

abbrev pub ended_by : (left : List ℕ) → SlicedRefresh → (now : ℕ) → SliceProgress → SliceProgress
ended_by [] r now s = with_end r now s
ended_by (uuid ∷ uuids) r now s = s

-- one piece more, and where it is the last the end in the same moment
abbrev pub with_next : SlicedRefresh → (now : ℕ) → SliceProgress → SliceProgress
with_next r now s = ended_by (drop r.size s.left) r now (with_piece r now s)

-- a search that is accepted: its first piece is decided
abbrev pub first_progress : SlicedRefresh → SliceProgress
first_progress r =
    with_next r r.accepted
    (record {
      marks = [];
      left = walk r.operation r.start r.accepted;
      names = [];
      changed = [];
      rest = [];
      due = [];
    })

-- pieces are decided until there is a message, or none is left
abbrev pub ready_from : (most : ℕ) → SlicedRefresh → (now : ℕ) → SliceProgress → SliceProgress
ready_from zero r now s = s
ready_from (suc most) r now s =
    cond (is_nil s.left || not (is_nil s.rest)) s (ready_from most r now (with_next r now s))

abbrev pub made_ready : SlicedRefresh → (now : ℕ) → SliceProgress → SliceProgress
made_ready r now s = ready_from (length s.left) r now s

-- without the first message
abbrev pub without_first : SliceProgress → (rest due : List SyncMessage) → SliceProgress
without_first s (message ∷ rest) due = record s { rest = rest }
without_first s [] (message ∷ due) = record s { due = due }
without_first s [] [] = s

-- after a hand-out
abbrev pub handed_on : SlicedRefresh → (now : ℕ) → SliceProgress → SliceProgress
handed_on r now s =
    without_first (made_ready r now s) (made_ready r now s).rest (made_ready r now s).due

-- the identities that the write after n writes changes in the content
abbrev pub changed_by : SyncOperation → (before : ℕ) → List ℕ
changed_by operation before =
    map (λ entry_change. entry_change.uuid)
    (touched (content_after operation before) (content_after operation (before + 1)))

abbrev pub messages_by : SyncOperation → (before : ℕ) → List SyncMessage
messages_by operation before = cond operation.persists (group operation before) []

-- after a write: what it sends is due once all pieces are decided, and before that it is kept what
-- it changed
abbrev pub written_by :
    (left : List ℕ) → SlicedRefresh → (before : ℕ) → SliceProgress → SliceProgress
written_by [] r before s = record s { due = s.due ++ messages_by r.operation before }
written_by (uuid ∷ uuids) r before s =
    record s { changed = joined s.changed (changed_by r.operation before) }

abbrev pub written : SlicedRefresh → (before : ℕ) → SliceProgress → SliceProgress
written r before s = written_by s.left r before s

-- what is to come of the refresh, where no write comes before its last piece
abbrev pub coming_by :
    (left : List ℕ) → SlicedRefresh → (now : ℕ) → SliceProgress → List SyncMessage
coming_by [] r now s = []
coming_by (uuid ∷ uuids) r now s =
    whole (is_delete_phase r.start) s.names (decisions_now r now (uuid ∷ uuids))
    ++ end_parts r now (left_over s.names (decisions_now r now (uuid ∷ uuids))) s.changed

-- what is handed out next, in order, where no write comes
abbrev pub pending_now : SlicedRefresh → (now : ℕ) → SliceProgress → List SyncMessage
pending_now r now s = s.rest ++ (coming_by s.left r now s ++ s.due)

-- ---- what is too much

-- when a search is to keep no more: these messages of later writes, or n identities that
-- changed while pieces are left
pub record QueueLimits : Type 0 where
  pub is_full : List SyncMessage → Bool
  pub is_crowded : ℕ → Bool

-- a number of identities is too much where the last write made it greater
abbrev pub grows_too_much : QueueLimits → (old new : ℕ) → Bool
grows_too_much limits old new = nat_lt old new && limits.is_crowded new

-- messages are too many where the last write sent some of them
abbrev pub sends_too_much : QueueLimits → (sent items : List SyncMessage) → Bool
sends_too_much limits sent items = not (is_nil sent) && limits.is_full items

-- the write after n writes adds too much to what is kept
abbrev pub adds_too_much_by :
    (left : List ℕ) → QueueLimits → SlicedRefresh → (before : ℕ) → SliceProgress → Bool
adds_too_much_by [] limits r before s =
    sends_too_much limits (messages_by r.operation before)
    (s.due ++ messages_by r.operation before)
adds_too_much_by (uuid ∷ uuids) limits r before s =
    grows_too_much limits (length s.changed)
    (length (joined s.changed (changed_by r.operation before)))

abbrev pub adds_too_much : QueueLimits → SlicedRefresh → (before : ℕ) → SliceProgress → Bool
adds_too_much limits r before s = adds_too_much_by s.left limits r before s

-- the same by the numbers of writes at the pieces, and how many messages were handed out: those of
-- the refresh come first, and the items of the search are the messages of later writes that were
-- not handed out, or while pieces are left what changed in the content since the acceptance
abbrev pub is_too_much_by :
    (left : List ℕ) → QueueLimits → SlicedRefresh → (marks : List ℕ) → (handed before : ℕ) → Bool
is_too_much_by [] limits r marks handed before =
    sends_too_much limits (messages_by r.operation before)
    (drop (handed - length (refresh r.operation r.start r.accepted (pieces_of r marks)))
    (later_upto r marks (before + 1)))
is_too_much_by (uuid ∷ uuids) limits r marks handed before =
    grows_too_much limits
    (length (late_uuids r.operation r.accepted before))
    (length (late_uuids r.operation r.accepted (before + 1)))

abbrev pub is_too_much :
    QueueLimits → SlicedRefresh → (marks : List ℕ) → (handed before : ℕ) → Bool
is_too_much limits r marks handed before =
    is_too_much_by (left_of r marks) limits r marks handed before

-- nothing is kept of it but the numbers of writes at its pieces
abbrev pub given_up : SliceProgress → SliceProgress
given_up s = record {
  marks = s.marks;
  left = [];
  names = [];
  changed = [];
  rest = [];
  due = [];
}
