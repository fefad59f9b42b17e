-- What the log and the numbers of the last touches report is what differs between the states.
use Rattle.std.proofs.Common.{◌≡◌, ℕ, zero, suc, ◌+◌, ◌-◌, ◌≤◌, Bool, true, false, cond, nat_lt, List, [], ◌∷◌, ◌++◌, length, map, refl, sym, ap, ◌∙◌, arith, subst, inl, inr, append_assoc}
use Rattle.std.specs.Prelude.{not, ◌||◌, max, filter}
use Rattle.std.specs.BTreeSet.{insert_key}
use Rattle.std.specs.Ordering.{nat_cmp}
use Rattle.std.proofs.lemmas.Bool.{cases_lt, lt-ltb, le-ltb, or_right}
use Rattle.std.proofs.lemmas.List.{append-nil, take-append-le}
use Rattle.std.proofs.lemmas.List.Sums.{fold-append}
use Rattle.std.proofs.Math.Bool.{or-false}
use Rattle.entry_tree.specs.declared.entry.Entry.{Entry}
use Rattle.entry_tree.specs.declared.op.Write.{Write}
use Rattle.entry_tree.specs.Bytes.{is_one_found}
use Rattle.entry_tree.specs.History.{state_from, state_of, differing_over}
use Rattle.entry_tree.specs.State.{entry_at}
use Rattle.entry_tree.specs.Touched.{joined, touched}
use Rattle.session_log.specs.declared.note.Note.{Note}
use Rattle.session_log.specs.Calls.{IsLogOf}
use Rattle.session_log.specs.Log.{Log, greatest, noted, since, uuids_after}
use Rattle.session_log.proofs.Covering.{IsLogOf-noted, since-covered, greatest-append, le-greatest}
use Rattle.session_log.proofs.Searches.{uuids_after-append}
use Rattle.sync_model.specs.Stream.{among}
use Rattle.sync_model.proofs.Steps.{differing, among-differing, over_none, over_more, among-over_more}
use Rattle.directory_writes.specs.Touches.{uuids_of, last_touch, noted_each, notes_of, all_notes}

-- ---- states that agree up to a number

-- two histories have the same states up to a number
abbrev pub Agree : (ℕ → List Entry) → (ℕ → List Entry) → ℕ → Type 0
Agree f g upto = (n : ℕ) → n ≤ upto → f n ≡ g n

-- those of a longer history agree up to the writes of the shorter one
pub agree-longer : (history : ℕ) (writes more : List Write) → Agree (state_of history (writes ++ more)) (state_of history writes) (length writes)
agree-longer history writes more n low = ap (state_from history [] 0) (take-append-le n writes more low)

-- what differs between neighbours depends on these states alone
pub over-agree : (steps : ℕ) (f g : ℕ → List Entry) (from : ℕ) → Agree f g (from + steps) → differing_over f from steps ≡ differing_over g from steps
over-agree zero f g from h = over_none f from ∙ sym (over_none g from)
over-agree (suc steps) f g from h =
    let rest : differing_over f from steps ≡ differing_over g from steps = over-agree steps f g from (λ n low. h n (omega (arith, low))) in
    let one : f (from + steps) ≡ g (from + steps) = h (from + steps) (omega arith) in
    let two : f (from + steps + 1) ≡ g (from + steps + 1) = h (from + steps + 1) (omega arith) in
    over_more f from steps ∙ (λ i. joined (rest i) (differing (one i) (two i))) ∙ sym (over_more g from steps)

-- up to a number, from any other
pub over-agree_upto : (f g : ℕ → List Entry) (from upto : ℕ) → Agree f g upto → differing_over f from (upto - from) ≡ differing_over g from (upto - from)
over-agree_upto f g from upto h = elim (cases_lt upto from) [
  | inl past ↦ (let none : upto - from ≡ 0 = omega (arith, past) in
      ap (differing_over f from) none ∙ over_none f from ∙ sym (over_none g from) ∙ sym (ap (differing_over g from) none))
  | inr within ↦ over-agree (upto - from) f g from (λ n low. h n (omega (arith, low, within)))
]

-- the notes of two histories that agree are the same
pub notes-agree : (count : ℕ) (f g : ℕ → List Entry) → Agree f g count → all_notes f count ≡ all_notes g count
notes-agree zero f g h = refl
notes-agree (suc count) f g h =
    let rest : all_notes f count ≡ all_notes g count = notes-agree count f g (λ n low. h n (omega (arith, low))) in
    let one : f count ≡ g count = h count (omega arith) in
    let two : f (count + 1) ≡ g (count + 1) = h (count + 1) (omega arith) in
    λ i. rest i ++ notes_of (count + 1) (uuids_of (touched (one i) (two i)))

-- the last touch of an identity in two histories that agree is the same
pub last-agree : (count : ℕ) (f g : ℕ → List Entry) (u : ℕ) → Agree f g count → last_touch f count u ≡ last_touch g count u
last-agree zero f g u h = refl
last-agree (suc count) f g u h =
    let rest : last_touch f count u ≡ last_touch g count u = last-agree count f g u (λ n low. h n (omega (arith, low))) in
    let one : f count ≡ g count = h count (omega arith) in
    let two : f (count + 1) ≡ g (count + 1) = h (count + 1) (omega arith) in
    λ i. cond (is_one_found (entry_at (one i) u) (entry_at (two i) u)) (rest i) (count + 1)

-- ---- the log

after-new : (number count : ℕ) (uuids : List ℕ) → number ≤ count → uuids_after number (notes_of (count + 1) uuids) ≡ uuids
after-new number count [] low = refl
after-new number count (u ∷ uuids) low =
    ap (λ b. map (λ (note : Note). note.uuid) (cond b ((record { number = count + 1; uuid = u }) ∷ filter (λ note. nat_lt number note.number) (notes_of (count + 1) uuids)) (filter (λ note. nat_lt number note.number) (notes_of (count + 1) uuids))))
    (lt-ltb number (count + 1) (omega (arith, low)))
    ∙ ap (λ us. u ∷ us) (after-new number count uuids low)

after-old : (number count : ℕ) (uuids : List ℕ) → count ≤ number → uuids_after number (notes_of count uuids) ≡ []
after-old number count [] high = refl
after-old number count (u ∷ uuids) high =
    ap (λ b. map (λ (note : Note). note.uuid) (cond b ((record { number = count; uuid = u }) ∷ filter (λ note. nat_lt number note.number) (notes_of count uuids)) (filter (λ note. nat_lt number note.number) (notes_of count uuids))))
    (le-ltb number count high)
    ∙ after-old number count uuids high

-- the notes of all writes report what differs since a number
pub notes-show : (count : ℕ) (f : ℕ → List Entry) (number : ℕ) → joined [] (uuids_after number (all_notes f count)) ≡ differing_over f number (count - number)
notes-show zero f number =
    let none : zero - number ≡ 0 = omega arith in
    sym (over_none f number) ∙ ap (differing_over f number) (sym none)
notes-show (suc count) f number =
    let us = differing (f count) (f (count + 1)) in
    ap (joined []) (uuids_after-append number (all_notes f count) (notes_of (count + 1) us))
    ∙ fold-append (insert_key nat_cmp) [] (uuids_after number (all_notes f count)) (uuids_after number (notes_of (count + 1) us))
    ∙ ap (λ before. joined before (uuids_after number (notes_of (count + 1) us))) (notes-show count f number)
    ∙ elim (cases_lt count number) [
      | inl past ↦ (let none : count - number ≡ 0 = omega (arith, past) in
          let still : suc count - number ≡ 0 = omega (arith, past) in
          ap (joined (differing_over f number (count - number))) (after-old number (count + 1) us (omega (arith, past)))
          ∙ ap (differing_over f number) (none ∙ sym still))
      | inr since_then ↦ (let more : suc count - number ≡ suc (count - number) = omega (arith, since_then) in
          let here : number + (count - number) ≡ count = omega (arith, since_then) in
          ap (joined (differing_over f number (count - number))) (after-new number count us since_then)
          ∙ ap (λ n. joined (differing_over f number (count - number)) (differing (f n) (f (n + 1)))) (sym here)
          ∙ sym (over_more f number (count - number))
          ∙ ap (differing_over f number) (sym more))
    ]

-- what is left of them reports it too, from the floor on
pub log-shows : (f : ℕ → List Entry) (count : ℕ) (log : Log) (number : ℕ) → IsLogOf (all_notes f count) log → log.floor ≤ number
    → since number log ≡ differing_over f number (count - number)
log-shows f count log number is above = since-covered (all_notes f count) log number is above ∙ notes-show count f number

greatest-notes : (number : ℕ) (uuids : List ℕ) (floor : ℕ) → floor ≤ number → greatest floor (notes_of number uuids) ≤ number
greatest-notes number [] floor low = low
greatest-notes number (u ∷ uuids) floor low = greatest-notes number uuids (max floor number) (omega (arith, low))

greatest-all : (count : ℕ) (f : ℕ → List Entry) → greatest 0 (all_notes f count) ≤ count
greatest-all zero f = omega arith
greatest-all (suc count) f =
    let us = differing (f count) (f (count + 1)) in
    let both : greatest 0 (all_notes f (suc count)) ≡ greatest (greatest 0 (all_notes f count)) (notes_of (count + 1) us) = greatest-append (all_notes f count) (notes_of (count + 1) us) 0 in
    let rest : greatest 0 (all_notes f count) ≤ count = greatest-all count f in
    let last : greatest (greatest 0 (all_notes f count)) (notes_of (count + 1) us) ≤ count + 1 = greatest-notes (count + 1) us (greatest 0 (all_notes f count)) (omega (arith, rest)) in
    omega (arith, both, last)

-- the floor is the number of a write, or 0
pub floor-low : (f : ℕ → List Entry) (count : ℕ) (log : Log) → IsLogOf (all_notes f count) log → log.floor ≤ count
floor-low f count log is =
    let all : greatest 0 (all_notes f count) ≤ count = greatest-all count f in
    let parts : greatest 0 (is.dropped ++ log.notes) ≡ greatest (greatest 0 is.dropped) log.notes = greatest-append is.dropped log.notes 0 in
    let least : greatest 0 is.dropped ≤ greatest (greatest 0 is.dropped) log.notes = le-greatest log.notes (greatest 0 is.dropped) in
    let same : greatest 0 (is.dropped ++ log.notes) ≡ greatest 0 (all_notes f count) = ap (greatest 0) is.split in
    let floor : log.floor ≡ greatest 0 is.dropped = is.floor in
    omega (arith, all, parts, least, same, floor)

-- one more write, with a note for each identity
pub noted_each-is : (uuids : List ℕ) (number : ℕ) (all : List Note) (log : Log) → IsLogOf all log → IsLogOf (all ++ notes_of number uuids) (noted_each number uuids log)
noted_each-is [] number all log is = subst (λ notes. IsLogOf notes log) (sym (append-nil all)) is
noted_each-is (u ∷ uuids) number all log is =
    subst (λ notes. IsLogOf notes (noted_each number uuids (noted number u log)))
    (append_assoc all ((record { number = number; uuid = u }) ∷ []) (notes_of number uuids))
    (noted_each-is uuids number (all ++ (record { number = number; uuid = u }) ∷ []) (noted number u log) (IsLogOf-noted all log number u is))

-- ---- the numbers of the last touches

-- the last touch is that of one of the writes
pub last-low : (count : ℕ) (f : ℕ → List Entry) (u : ℕ) → last_touch f count u ≤ count
last-low zero f u = omega arith
last-low (suc count) f u = step (is_one_found (entry_at (f count) u) (entry_at (f (count + 1)) u)) (last-low count f u) where
  step : (b : Bool) → last_touch f count u ≤ count → cond b (last_touch f count u) (count + 1) ≤ suc count
  step true low = omega (arith, low)
  step false low = omega arith

-- such a number is above another where what differs since then has the identity
pub last-shows : (count : ℕ) (f : ℕ → List Entry) (number u : ℕ) → number ≤ count → nat_lt number (last_touch f count u) ≡ among u (differing_over f number (count - number))
last-shows zero f number u low =
    let none : zero - number ≡ 0 = omega arith in
    le-ltb number 0 (omega arith) ∙ sym (ap (among u) (ap (differing_over f number) none ∙ over_none f number))
last-shows (suc count) f number u low = elim (cases_lt count number) [
  | inl past ↦ (let none : suc count - number ≡ 0 = omega (arith, low, past) in
      let most : last_touch f (suc count) u ≤ suc count = last-low (suc count) f u in
      le-ltb number (last_touch f (suc count) u) (omega (arith, most, past))
      ∙ sym (ap (among u) (ap (differing_over f number) none ∙ over_none f number)))
  | inr since_then ↦ (let more : suc count - number ≡ suc (count - number) = omega (arith, since_then) in
      let here : number + (count - number) ≡ count = omega (arith, since_then) in
      step (is_one_found (entry_at (f count) u) (entry_at (f (count + 1)) u)) (last-shows count f number u since_then) (lt-ltb number (count + 1) (omega (arith, since_then)))
      ∙ ap (λ b. among u (differing_over f number (count - number)) || b)
      (sym (among-differing (f count) (f (count + 1)) u) ∙ ap (λ n. among u (differing (f n) (f (n + 1)))) (sym here))
      ∙ sym (among-over_more f number (count - number) u)
      ∙ ap (λ k. among u (differing_over f number k)) (sym more))
]
  where
    step : (b : Bool) → nat_lt number (last_touch f count u) ≡ among u (differing_over f number (count - number)) → nat_lt number (count + 1) ≡ true
        → nat_lt number (cond b (last_touch f count u) (count + 1)) ≡ (among u (differing_over f number (count - number)) || not b)
    step true same late = same ∙ sym (or-false (among u (differing_over f number (count - number))))
    step false same late = late ∙ sym (or_right (among u (differing_over f number (count - number))) true refl)
