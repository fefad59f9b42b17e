-- The texts of identities.
use Rattle.std.proofs.Common.{◌≡◌, ℕ, Bool, true, false, if◌then◌else◌, List, Option, None, Some, refl}
use Rattle.std.specs.Option.{option_map}
use Rattle.std.specs.Int.{w128, from_be_bytes}

-- a text that spells nothing is none of an identity, however long it is
pub spells_none : (b : Bool) (bytes : Option (List ℕ)) → ((x : List ℕ) → bytes ≡ Some x → ⊥)
    → None ≡ (if b then option_map (from_be_bytes w128) bytes else None)
spells_none true None none = refl
spells_none true (Some x) none = absurd (none x refl)
spells_none false bytes none = refl
