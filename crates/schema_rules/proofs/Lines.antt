-- Lines of superiors, by computation over the table of classes.
use Rattle.std.proofs.Common.{◌≡◌, ℕ, ◌<◌, ◌≤◌, true, nat_le, [], ◌∷◌, map, get_or, ap, sym, ◌∙◌, refl, zero-add, arith}
use Rattle.std.specs.List.{range_with_len}
use Rattle.std.proofs.lemmas.List.FromFn.{get_or-map-range_with_len}
use Rattle.std.proofs.lemmas.Bool.{leb-true}
use Rattle.schema_rules.specs.Schema.{classes, class_named, superior_of, line_of, line_from, height}

all_lines : map line_of (range_with_len 0 10) ≡ map (λ c. c ∷ line_from (superior_of c)) (range_with_len 0 10)
unfolding classes class_named line_of
all_lines = refl

all_lower : map (λ c. nat_le (height (superior_of c)) c) (range_with_len 0 10) ≡ map (λ c. true) (range_with_len 0 10)
unfolding classes class_named
all_lower = refl

-- a class and its superiors are the class and the line of its superior
pub line_of-superior : (n m : ℕ) → n ≡ m → n < 10 → line_of m ≡ m ∷ line_from (superior_of m)
line_of-superior n m same known =
    let low : m < 10 = omega (arith, same, known) in
    sym (get_or-map-range_with_len line_of 0 10 m m [] low (zero-add m))
    ∙ ap (λ lines. get_or lines m []) all_lines
    ∙ get_or-map-range_with_len (λ c. c ∷ line_from (superior_of c)) 0 10 m m [] low (zero-add m)

-- a superior stands before its class in the table
pub superior_of-lower : (n m : ℕ) → n ≡ m → n < 10 → height (superior_of m) ≤ m
superior_of-lower n m same known =
    let low : m < 10 = omega (arith, same, known) in
    leb-true (height (superior_of m)) m
    (sym (get_or-map-range_with_len (λ c. nat_le (height (superior_of c)) c) 0 10 m m true low (zero-add m))
    ∙ ap (λ tests. get_or tests m true) all_lower
    ∙ get_or-map-range_with_len (λ c. true) 0 10 m m true low (zero-add m))
