-- Notes in the order of their numbers.
use Rattle.std.proofs.Common.{◌≡◌, ap, sym, subst, ◌∙◌, refl, ℕ, zero, suc, ◌-◌, ◌≤◌, true, false, cond, leb, List, [], ◌∷◌, ◌++◌, length, drop, get_or, arith}
use Rattle.std.specs.Prelude.{map, filter, nat_lt}
use Rattle.std.specs.List.Sorted.{IsPartitionPoint}
use Rattle.std.proofs.lemmas.Bool.{leb-true, le-ltb}
use Rattle.std.proofs.lemmas.List.{drop_at, get_or_read, nil_from_length, take_at}
use Rattle.std.proofs.lemmas.List.Sorted.{IsNonDecreasingBy-drop, IsNonDecreasingBy-push, IsNonDecreasingBy-short, IsNonDecreasingBy-take}
use Rattle.session_log.specs.declared.note.Note.{Note}
use Rattle.session_log.specs.Log.{last_of, uuids_after, NumbersRise}

-- ---- what is in order

-- no notes are in order
pub in_order-none : (notes : List Note) → notes ≡ [] → NumbersRise notes
in_order-none notes none =
    IsNonDecreasingBy-short (λ (note : Note). note.number) notes (omega (arith, ap (length {A = Note}) none))

-- with one more of no lower number than the last
pub in_order-push : (notes : List Note) (last : Note) (number uuid : ℕ) → NumbersRise notes
    → last ≡ get_or notes (length notes - 1) last → last.number ≤ number
    → NumbersRise (notes ++ (record { number = number; uuid = uuid }) ∷ [])
in_order-push notes last number uuid rise is low =
    IsNonDecreasingBy-push (λ (note : Note). note.number) notes (record { number = number; uuid = uuid }) rise
    (λ d some.
    let same : last ≡ get_or notes (length notes - 1) d =
    get_or_read notes (length notes - 1) last (omega (arith, some)) is d in
    subst (λ (note : Note). note.number ≤ number) same low)

-- one alone
pub in_order-one : (notes : List Note) (number uuid : ℕ) → length notes ≡ 0
    → NumbersRise (notes ++ (record { number = number; uuid = uuid }) ∷ [])
in_order-one notes number uuid none =
    subst (λ before. NumbersRise (before ++ (record { number = number; uuid = uuid }) ∷ []))
    (sym (nil_from_length notes none))
    (IsNonDecreasingBy-short (λ (note : Note). note.number) ((record { number = number; uuid = uuid }) ∷ []) (omega arith))

-- the last ones
pub in_order-last : (limit : ℕ) (notes : List Note) → NumbersRise notes → NumbersRise (last_of limit notes)
in_order-last limit notes rise =
    IsNonDecreasingBy-drop (λ (note : Note). note.number) (length notes - limit) notes rise

-- each of two parts
pub in_order-prefix : (prefix back notes : List Note) → prefix ++ back ≡ notes → NumbersRise notes → NumbersRise prefix
in_order-prefix prefix back notes is rise =
    subst NumbersRise (take_at prefix back (length prefix) refl)
    (IsNonDecreasingBy-take (λ (note : Note). note.number) (length prefix) (prefix ++ back) (subst NumbersRise (sym is) rise))

-- the last notes of a list in order are in order
pub in_order-back : (prefix back notes : List Note) → prefix ++ back ≡ notes → NumbersRise notes → NumbersRise back
in_order-back prefix back notes is rise =
    subst NumbersRise (drop_at prefix back (length prefix) refl)
    (IsNonDecreasingBy-drop (λ (note : Note). note.number) (length prefix) (prefix ++ back) (subst NumbersRise (sym is) rise))

-- ---- what is looked for

-- where the notes before a place are not after a write, those from there on have all that are
pub uuids_after-from : (number : ℕ) (notes : List Note) (first : ℕ)
    → IsPartitionPoint (λ (note : Note). leb note.number number ≡ true) (λ (note : Note). leb note.number number ≡ false) notes first
    → uuids_after number (drop first notes) ≡ uuids_after number notes
uuids_after-from number notes zero point = refl
uuids_after-from number [] (suc first) point = refl
uuids_after-from number (note ∷ notes) (suc first) point =
    let low : leb note.number number ≡ true = point.0 zero note (omega arith) (omega arith) in
    uuids_after-from number notes first
    ((λ k d above below. point.0 (suc k) d (omega arith) (omega (arith, below))), (λ k d above below. point.1 (suc k) d (omega (arith, above)) (omega (arith, below))))
    ∙ sym (ap (λ b. map (λ (note : Note). note.uuid) (cond b (note ∷ filter (λ note. nat_lt number note.number) notes) (filter (λ note. nat_lt number note.number) notes)))
    (le-ltb number note.number (leb-true note.number number low)))
