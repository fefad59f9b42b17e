-- Names as lists, the entry's own RDN first, and when two are equal (RFC 4514, section 2;
-- RFC 4512, section 2.3).
use Rattle.std.specs.Prelude.{ℕ, ◌-◌, Bool, false, ◌&&◌, ◌==◌, nat_le, List, [], ◌∷◌, ◌++◌, length, take, drop, unwrap_or, bytes_eq}
use Rattle.std.specs.List.{list_any, list_all, zip}
use Rattle.schema_rules.specs.Keys.{key_of}

-- a type, by its number in the schema, and a value
pub record TypeAndValue : Type 0 where
  pub kind : ℕ
  pub value : List ℕ

-- the key of the value; each value of a name has one
abbrev pub pair_key : TypeAndValue → List ℕ
pair_key pair = unwrap_or (key_of pair.kind pair.value) []

-- one type, and values that match
abbrev pub same_pair : TypeAndValue → TypeAndValue → Bool
same_pair one other = (one.kind == other.kind) && bytes_eq (pair_key one) (pair_key other)

-- a pair like this one is among the pairs
abbrev pub has_pair : List TypeAndValue → TypeAndValue → Bool
has_pair pairs pair = list_any (same_pair pair) pairs

-- equal as sets of pairs
abbrev pub same_rdn : List TypeAndValue → List TypeAndValue → Bool
same_rdn one other = list_all (has_pair other) one && list_all (has_pair one) other

-- as many RDNs, and these equal in pairs
abbrev pub same_name : List (List TypeAndValue) → List (List TypeAndValue) → Bool
same_name one other =
    (length one == length other) && list_all (λ rdns. same_rdn rdns.0 rdns.1) (zip one other)

-- the last RDNs of a name, n of them
abbrev pub suffix_of : ℕ → List (List TypeAndValue) → List (List TypeAndValue)
suffix_of count name = drop (length name - count) name

-- the other name equals a suffix of this one
abbrev pub is_at_or_below : List (List TypeAndValue) → List (List TypeAndValue) → Bool
is_at_or_below name other =
    nat_le (length other) (length name) && same_name (suffix_of (length other) name) other

-- the name without its own RDN
abbrev pub parent_of : List (List TypeAndValue) → List (List TypeAndValue)
parent_of name = drop 1 name

-- the other name is the parent of this one
abbrev pub is_child_of : List (List TypeAndValue) → List (List TypeAndValue) → Bool
is_child_of [] other = false
is_child_of (rdn ∷ above) other = same_name above other

-- the name with another suffix in place of one that is as long as `from`
abbrev pub moved_name :
    List (List TypeAndValue) → List (List TypeAndValue) → List (List TypeAndValue)
    → List (List TypeAndValue)
moved_name name from to = take (length name - length from) name ++ to
