-- What was dropped is at the floor or below it.
use Rattle.std.proofs.Common.{◌≡◌, ap, sym, ◌∙◌, refl, ℕ, ◌-◌, ◌≤◌, cond, List, [], ◌∷◌, ◌++◌, length, take, arith, append_assoc, append-nil, subst}
use Rattle.std.specs.Prelude.{max, map, filter, nat_lt}
use Rattle.std.proofs.lemmas.Bool.{le-ltb}
use Rattle.std.proofs.lemmas.List.{take-append-drop}
use Rattle.session_log.specs.declared.note.Note.{Note}
use Rattle.session_log.specs.Log.{Log, greatest, limited, noted, trimmed, fresh, last_of, before_last, since, joined, uuids_after}
use Rattle.session_log.specs.Calls.{LogCall, after_calls, notes_of, IsLogOf}
use Rattle.session_log.specs.Calls.LogCall.{Noted, Trimmed}
use Rattle.session_log.proofs.Searches.{uuids_after-append}

-- the greatest number of notes in two parts
pub greatest-append : (xs ys : List Note) (floor : ℕ) → greatest floor (xs ++ ys) ≡ greatest (greatest floor xs) ys
greatest-append [] ys floor = refl
greatest-append (x ∷ xs) ys floor = greatest-append xs ys (max floor x.number)

-- the floor is not above it
pub le-greatest : (xs : List Note) (floor : ℕ) → floor ≤ greatest floor xs
le-greatest [] floor = omega arith
le-greatest (x ∷ xs) floor = omega (arith, le-greatest xs (max floor x.number))

uuids_after-low : (xs : List Note) (floor number : ℕ) → greatest floor xs ≤ number → uuids_after number xs ≡ []
uuids_after-low [] floor number low = refl
uuids_after-low (x ∷ xs) floor number low =
    let below : x.number ≤ number = omega (arith, low, le-greatest xs (max floor x.number)) in
    ap (λ b. map (λ (note : Note). note.uuid) (cond b (x ∷ filter (λ note. nat_lt number note.number) xs) (filter (λ note. nat_lt number note.number) xs)))
    (le-ltb number x.number below)
    ∙ uuids_after-low xs (max floor x.number) number low

-- ---- each call goes on

-- an empty log is what is left of no notes
pub IsLogOf-fresh : (limit : ℕ) → IsLogOf [] (fresh limit)
IsLogOf-fresh limit = record { dropped = []; split = refl; floor = refl }

IsLogOf-limited : (all dropped notes : List Note) (limit floor : ℕ) → dropped ++ notes ≡ all → floor ≡ greatest 0 dropped
    → IsLogOf all (limited limit notes floor)
IsLogOf-limited all dropped notes limit floor split is_floor = record {
  dropped = dropped ++ before_last limit notes;
  split = append_assoc dropped (before_last limit notes) (last_of limit notes)
      ∙ ap (λ rest. dropped ++ rest) (take-append-drop (length notes - limit) notes) ∙ split;
  floor = ap (λ n. greatest n (before_last limit notes)) is_floor ∙ sym (greatest-append dropped (before_last limit notes) 0);
}

-- after one more note it is what is left of all, with this one
pub IsLogOf-noted : (all : List Note) (log : Log) (number uuid : ℕ) → IsLogOf all log
    → IsLogOf (all ++ (record { number = number; uuid = uuid }) ∷ []) (noted number uuid log)
IsLogOf-noted all log number uuid h =
    IsLogOf-limited (all ++ note ∷ []) h.dropped (log.notes ++ note ∷ []) log.limit log.floor
    (sym (append_assoc h.dropped log.notes (note ∷ [])) ∙ ap (λ notes. notes ++ note ∷ []) h.split) h.floor
  where
    note : Note
    note = record { number = number; uuid = uuid }

-- after a trim it is still what is left of them
pub IsLogOf-trimmed : (all : List Note) (log : Log) (limit : ℕ) → IsLogOf all log → IsLogOf all (trimmed limit log)
IsLogOf-trimmed all log limit h = IsLogOf-limited all h.dropped log.notes limit log.floor h.split h.floor

-- after some calls it is the log of all notes so far
pub IsLogOf-calls : (calls : List LogCall) (all : List Note) (log : Log) → IsLogOf all log
    → IsLogOf (all ++ notes_of calls) (after_calls log calls)
IsLogOf-calls [] all log h = record { dropped = h.dropped; split = h.split ∙ sym (append-nil all); floor = h.floor }
IsLogOf-calls (Noted number uuid ∷ calls) all log h =
    subst (λ notes. IsLogOf notes (after_calls (noted number uuid log) calls))
    (append_assoc all ((record { number = number; uuid = uuid }) ∷ []) (notes_of calls))
    (IsLogOf-calls calls (all ++ (record { number = number; uuid = uuid }) ∷ []) (noted number uuid log) (IsLogOf-noted all log number uuid h))
IsLogOf-calls (Trimmed limit ∷ calls) all log h = IsLogOf-calls calls all (trimmed limit log) (IsLogOf-trimmed all log limit h)

-- ---- and at the floor and above it nothing is missed

-- above the floor the log has every identity that was noted since
pub since-covered : (all : List Note) (log : Log) (number : ℕ) → IsLogOf all log → log.floor ≤ number
    → since number log ≡ joined [] (uuids_after number all)
since-covered all log number h above =
    let low : greatest 0 h.dropped ≤ number = omega (arith, h.floor, above) in
    ap (joined []) (
    ap (λ uuids. uuids ++ uuids_after number log.notes) (sym (uuids_after-low h.dropped 0 number low))
    ∙ sym (uuids_after-append number h.dropped log.notes)
    ∙ ap (uuids_after number) h.split)
