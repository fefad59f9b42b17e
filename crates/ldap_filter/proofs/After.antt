-- Where a piece stands.
use Rattle.std.proofs.Common.{◌≡◌, ℕ, true, List, [], ◌∷◌, length, drop, nat_eq, Some, refl}
use Rattle.std.specs.List.{starts_with}
use Rattle.ldap_filter.specs.Matching.{after_first}

-- at a prefix that is the piece, that is its first place
pub after_first_here : (piece text : List ℕ) → starts_with nat_eq text piece ≡ true → after_first piece text ≡ Some (drop (length piece) text)
after_first_here piece [] here = rw here refl
after_first_here piece (c ∷ cs) here = rw here refl
