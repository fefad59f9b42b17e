-- A log over the calls that change it.
use Rattle.std.specs.Prelude.{◌≡◌, ℕ, List, [], ◌∷◌, ◌++◌}
use Rattle.session_log.specs.declared.note.Note.{Note}
use Rattle.session_log.specs.Log.{Log, greatest, noted, trimmed}

pub data LogCall : Type 0 where
  Noted : (number uuid : ℕ) → LogCall
  Trimmed : (limit : ℕ) → LogCall

-- the log after these calls
abbrev pub after_calls : Log → List LogCall → Log
after_calls log [] = log
after_calls log (Noted number uuid ∷ calls) = after_calls (noted number uuid log) calls
after_calls log (Trimmed limit ∷ calls) = after_calls (trimmed limit log) calls

-- all that was ever noted by them
abbrev pub notes_of : List LogCall → List Note
notes_of [] = []
notes_of (Noted number uuid ∷ calls) = (record { number = number; uuid = uuid }) ∷ notes_of calls
notes_of (Trimmed limit ∷ calls) = notes_of calls

-- the log is what is left of these notes: a prefix of them was dropped, and the floor is the
-- greatest number there
pub record IsLogOf (all : List Note) (log : Log) : Type 0 where
  pub dropped : List Note
  pub split : dropped ++ log.notes ≡ all
  pub floor : log.floor ≡ greatest 0 dropped
