-- RDNs of one pair, whose set of pairs needs no order.
use Rattle.std.proofs.Common.{◌≡◌, ◌<◌, true, false, List, [], ◌∷◌, ◌++◌, length, get_or, append-nil, refl, sym, ap, arith}
use Rattle.dn_names.specs.Names.{TypeAndValue}
use Rattle.dn_names.specs.Keys.{has_double}
use Rattle.dn_names.specs.Paths.{four_octets, pair_piece, rdn_path, has_short_key, has_small_numbers}

-- fewer than two pairs differ
pub has_double-few : (pairs : List TypeAndValue) → length pairs < 2 → has_double pairs ≡ false
has_double-few [] few = refl
has_double-few (pair ∷ []) few = refl
has_double-few (pair ∷ next ∷ pairs) few = absurd (omega arith)

-- the path is the number 1 and the piece of the pair
pub rdn_path-one : (pair : TypeAndValue) → rdn_path (pair ∷ []) ≡ four_octets 1 ++ pair_piece pair
rdn_path-one pair = ap (λ piece. four_octets 1 ++ piece) (append-nil (pair_piece pair))

-- its numbers have a place in four octets where the length of the key has
pub small_numbers-one : (pair : TypeAndValue) → has_short_key pair ≡ true → has_small_numbers (pair ∷ []) ≡ true
small_numbers-one pair short = rw short refl

-- a list of one pair is its first pair alone
pub one_pair : (pairs : List TypeAndValue) (pair d : TypeAndValue) → length pairs ≡ 1 → pair ≡ get_or pairs 0 d → pairs ≡ pair ∷ []
one_pair [] pair d one first = absurd (omega arith)
one_pair (own ∷ []) pair d one first = ap (λ other. other ∷ []) (sym first)
one_pair (own ∷ next ∷ pairs) pair d one first = absurd (omega arith)
