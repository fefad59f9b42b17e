-- The last notes of a list, dropped one by one from the prefix.
use Rattle.std.proofs.Common.{◌≡◌, ap, ℕ, suc, ◌-◌, ◌<◌, List, ◌∷◌, length, take, drop, arith}
use Rattle.std.specs.Prelude.{max}
use Rattle.session_log.specs.declared.note.Note.{Note}
use Rattle.session_log.specs.Log.{last_of, before_last, greatest}

one_less : (limit : ℕ) (note : Note) (notes : List Note) → limit < length (note ∷ notes)
    → length (note ∷ notes) - limit ≡ suc (length notes - limit)
one_less limit note notes long = omega arith

-- the first note of too many is none of the last
pub last_of-drop : (limit : ℕ) (note : Note) (notes : List Note) → limit < length (note ∷ notes)
    → last_of limit (note ∷ notes) ≡ last_of limit notes
last_of-drop limit note notes long = ap (λ k. drop k (note ∷ notes)) (one_less limit note notes long)

-- the floor is the greatest number of those that were dropped
pub greatest-drop : (limit floor : ℕ) (note : Note) (notes : List Note) → limit < length (note ∷ notes)
    → greatest floor (before_last limit (note ∷ notes)) ≡ greatest (max floor note.number) (before_last limit notes)
greatest-drop limit floor note notes long =
    ap (λ k. greatest floor (take k (note ∷ notes))) (one_less limit note notes long)
