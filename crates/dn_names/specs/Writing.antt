-- Names as text (RFC 4514, section 2).
use Rattle.std.specs.Prelude.{ℕ, Bool, true, false, ◌&&◌, ◌||◌, ◌==◌, if◌then◌else◌, List, [], ◌∷◌, ◌++◌, length, codes, nat_eq}
use Rattle.std.specs.List.{list_any}
use Rattle.schema_rules.specs.Schema.{type_name}
use Rattle.dn_names.specs.Names.{TypeAndValue}

-- what a backslash precedes wherever it stands in a value (section 2.4)
abbrev pub is_special : ℕ → Bool
is_special byte = list_any (nat_eq byte) (codes "\"+,;<>\\")

-- a space at the start or at the end, and a number sign at the start
abbrev pub is_special_at_edge : Bool → Bool → ℕ → Bool
is_special_at_edge first last byte = ((byte == 32) && (first || last)) || ((byte == 35) && first)

abbrev pub byte_text : Bool → Bool → ℕ → List ℕ
byte_text first last byte =
    if is_special byte || is_special_at_edge first last byte then 92 ∷ byte ∷ []
    else if byte == 0 then codes "\\00"
    else byte ∷ []

-- the bytes of a value, of which the next is the first one or is not
abbrev pub bytes_text : Bool → List ℕ → List ℕ
bytes_text first [] = []
bytes_text first (byte ∷ bytes) = byte_text first (length bytes == 0) byte ++ bytes_text false bytes

abbrev pub value_text : List ℕ → List ℕ
value_text value = bytes_text true value

-- section 2.3
abbrev pub pair_text : TypeAndValue → List ℕ
pair_text pair = type_name pair.kind ++ 61 ∷ value_text pair.value

-- with a plus sign before each pair but the first (section 2.2)
abbrev pub more_pairs_text : List TypeAndValue → List ℕ
more_pairs_text [] = []
more_pairs_text (pair ∷ pairs) = 43 ∷ (pair_text pair ++ more_pairs_text pairs)

abbrev pub rdn_text : List TypeAndValue → List ℕ
rdn_text [] = []
rdn_text (pair ∷ pairs) = pair_text pair ++ more_pairs_text pairs

-- with a comma before each RDN but the first (section 2.1)
abbrev pub more_rdns_text : List (List TypeAndValue) → List ℕ
more_rdns_text [] = []
more_rdns_text (rdn ∷ rdns) = 44 ∷ (rdn_text rdn ++ more_rdns_text rdns)

abbrev pub name_text : List (List TypeAndValue) → List ℕ
name_text [] = []
name_text (rdn ∷ rdns) = rdn_text rdn ++ more_rdns_text rdns
