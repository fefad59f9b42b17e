-- The path keys of names: texts of which one begins with another where its name is at or below the
-- other's.
use Rattle.std.specs.Prelude.{◌≡◌, ℕ, ◌<◌, ◌^◌, Bool, ◌&&◌, nat_lt, List, [], ◌∷◌, ◌++◌, length, map, fold, nat_eq, bytes_eq}
use Rattle.std.specs.Int.{w32, to_be_bytes}
use Rattle.std.specs.Ordering.{nat_cmp}
use Rattle.std.specs.Cmp.Lexicographic.{slice_cmp}
use Rattle.std.specs.BTreeSet.{insert_key}
use Rattle.std.specs.List.{flat_map, list_all, AllPass, starts_with}
use Rattle.dn_names.specs.Names.{TypeAndValue, pair_key, same_name, is_at_or_below, is_child_of, parent_of}
use Rattle.dn_names.specs.Sound.{IsName}

-- a number in four octets, the highest first
abbrev pub four_octets : ℕ → List ℕ
four_octets number = to_be_bytes w32 number

-- the number of the type, the length of the key, and the key
abbrev pub pair_piece : TypeAndValue → List ℕ
pair_piece pair =
    four_octets pair.kind ++ (four_octets (length (pair_key pair)) ++ pair_key pair)

-- the pairs as a set: in ascending order, and each once
abbrev pub piece_set : List TypeAndValue → List (List ℕ)
piece_set pairs = fold (insert_key (slice_cmp nat_cmp)) [] (map pair_piece pairs)

-- how many pairs there are, and then these
abbrev pub rdn_path : List TypeAndValue → List ℕ
rdn_path rdn =
    four_octets (length (piece_set rdn)) ++ flat_map (λ piece. piece) (piece_set rdn)

-- the RDNs, from that at the root of the tree to the entry's own
abbrev pub path_key : List (List TypeAndValue) → List ℕ
path_key [] = []
path_key (rdn ∷ above) = path_key above ++ rdn_path rdn

-- ---- numbers that have a place in four octets

abbrev pub has_short_key : TypeAndValue → Bool
has_short_key pair = nat_lt (length (pair_key pair)) (2 ^ 32)

abbrev pub has_small_numbers : List TypeAndValue → Bool
has_small_numbers rdn =
    nat_lt (length (piece_set rdn)) (2 ^ 32) && list_all has_short_key rdn

-- a name of which each number in its path key has a place there
pub record HasPath (name : List (List TypeAndValue)) : Type 0 where
  pub sound : IsName name
  pub numbers : AllPass has_small_numbers name

-- these RDNs have this path key
pub record IsPathOf (rdns : List (List TypeAndValue)) (path : List ℕ) : Type 0 where
  pub is : path ≡ path_key rdns
  pub numbers : AllPass has_small_numbers rdns

-- the same, and its first octets, this number of them, are the path key of the parent
pub record IsPathInParts (rdns : List (List TypeAndValue)) (whole : List ℕ)
    (above : ℕ) : Type 0 where
  pub path : IsPathOf rdns whole
  pub parent : above ≡ length (path_key (parent_of rdns))

-- what the path keys of two names show of these
pub record ShowsNames (one other : List (List TypeAndValue)) : Type 0 where
  pub below : starts_with nat_eq (path_key one) (path_key other) ≡ is_at_or_below one other
  pub same : bytes_eq (path_key one) (path_key other) ≡ same_name one other
  pub child :
      0 < length one
      → bytes_eq (path_key (parent_of one)) (path_key other) ≡ is_child_of one other
