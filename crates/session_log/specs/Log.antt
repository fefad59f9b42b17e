-- A bounded log of which entries were touched by which write.
use Rattle.std.specs.Prelude.{ℕ, ◌-◌, max, nat_lt, nat_le, Bool, List, [], ◌∷◌, ◌++◌, length, take, drop, map, filter}
use Rattle.std.specs.List.{fold}
use Rattle.std.specs.List.Sorted.{IsNonDecreasingBy}
use Rattle.std.specs.BTreeSet.{insert_key}
use Rattle.std.specs.Ordering.{nat_cmp}
use Rattle.session_log.specs.declared.note.Note.{Note}

-- what is kept, how many may be, and the greatest number of a note that was dropped, or 0
pub record Log : Type 0 where
  pub notes : List Note
  pub limit : ℕ
  pub floor : ℕ

-- a log, and how many more notes it has room for
pub record LogWithRoom : Type 0 where
  pub log : Log
  pub spare : ℕ

-- ---- what is kept

-- the last n notes
abbrev pub last_of : ℕ → List Note → List Note
last_of limit notes = drop (length notes - limit) notes

-- those before them
abbrev pub before_last : ℕ → List Note → List Note
before_last limit notes = take (length notes - limit) notes

-- the greatest of a number and the numbers of these notes
abbrev pub greatest : ℕ → List Note → ℕ
greatest floor [] = floor
greatest floor (note ∷ notes) = greatest (max floor note.number) notes

-- a log of these notes, where those before the last ones are dropped
abbrev pub limited : ℕ → List Note → ℕ → Log
limited limit notes floor =
    record {
      notes = last_of limit notes;
      limit = limit;
      floor = greatest floor (before_last limit notes);
    }

-- no note has a lower number than one before it
abbrev pub NumbersRise : List Note → Type 0
NumbersRise notes = IsNonDecreasingBy (λ note. note.number) notes

abbrev pub fresh : ℕ → Log
fresh limit = record { notes = []; limit = limit; floor = 0 }

abbrev pub noted : ℕ → ℕ → Log → Log
noted number uuid log =
    limited log.limit (log.notes ++ (record { number = number; uuid = uuid }) ∷ []) log.floor

abbrev pub trimmed : ℕ → Log → Log
trimmed limit log = limited limit log.notes log.floor

-- ---- what is reported

abbrev pub covers : ℕ → Log → Bool
covers number log = nat_le log.floor number

-- the identities that were noted after write `number`, in the order of the notes
abbrev pub uuids_after : ℕ → List Note → List ℕ
uuids_after number notes =
    map (λ note. note.uuid) (filter (λ note. nat_lt number note.number) notes)

-- the numbers of both lists, ascending, each once, where the first list is so
abbrev pub joined : List ℕ → List ℕ → List ℕ
joined xs ys = fold (insert_key nat_cmp) xs ys

-- those that were noted after write `number`, ascending, each once
abbrev pub since : ℕ → Log → List ℕ
since number log = joined [] (uuids_after number log.notes)
