-- What the tables of types and of classes give by computation.
use Rattle.std.proofs.Common.{◌≡◌, ℕ, ◌<◌, true, List, length, map, get_or, Some, None, ap, sym, ◌∙◌, refl, zero-add, arith}
use Rattle.std.specs.List.{range_with_len}
use Rattle.std.specs.Prelude.{position}
use Rattle.std.specs.Str.{bytes_eq, str_eq_ignore_ascii_case, str_to_ascii_lowercase}
use Rattle.std.proofs.lemmas.List.FromFn.{get_or-map-range_with_len}
use Rattle.std.proofs.lemmas.Slice.Eq.{bytes_eq-Decides}
use Rattle.schema_rules.specs.Schema.{TypeRow, types, type_name, type_named}

-- the first 24 numbers are those of types
pub known_type : (n m : ℕ) → n ≡ m → n < 24 → m < length types
unfolding types
known_type n m same known = omega (arith, same, known)

-- each type is found by its name
all_found : map (λ n. type_named (type_name n)) (range_with_len 0 24) ≡ map Some (range_with_len 0 24)
unfolding types type_named
all_found = refl

-- names that differ in case alone are of one type
pub type_named-alike : (one other : List ℕ) → str_eq_ignore_ascii_case one other ≡ true → type_named one ≡ type_named other
unfolding type_named
type_named-alike one other same =
    ap (λ l. position (λ (row : TypeRow). bytes_eq (str_to_ascii_lowercase row.name) l) types) ((bytes_eq-Decides (str_to_ascii_lowercase one) (str_to_ascii_lowercase other)).0 same)

-- each type is found by its name
pub found_by_name : (n m : ℕ) → n ≡ m → n < 24 → type_named (type_name m) ≡ Some m
found_by_name n m same known =
    let low : m < 24 = omega (arith, same, known) in
    sym (get_or-map-range_with_len (λ n. type_named (type_name n)) 0 24 m m None low (zero-add m))
    ∙ ap (λ found. get_or found m None) all_found
    ∙ get_or-map-range_with_len Some 0 24 m m None low (zero-add m)
