-- Names that are the same without regard to the case of ASCII letters.
use Rattle.std.proofs.Common.{◌≡◌, ◌≢◌, ℕ, true, false, List, [], ◌∷◌, length, refl, ap, sym, ◌∙◌}
use Rattle.std.specs.Char.{to_ascii_lowercase}
use Rattle.std.specs.Str.{bytes_eq, str_eq_ignore_ascii_case, str_to_ascii_lowercase}
use Rattle.std.proofs.lemmas.Bool.{both_ways, false_from_ne_true}
use Rattle.std.proofs.lemmas.List.{length-map}
use Rattle.std.proofs.lemmas.Slice.Eq.{bytes_eq-Decides}
use Rattle.std.proofs.lemmas.Str.Ascii.{lowercase-lowercase}

-- the same octets are the same name
pub same_octets : (one other : List ℕ) → bytes_eq one other ≡ true → true ≡ str_eq_ignore_ascii_case one other
same_octets one other same =
    sym ((bytes_eq-Decides (str_to_ascii_lowercase one) (str_to_ascii_lowercase other)).1 (ap str_to_ascii_lowercase ((bytes_eq-Decides one other).0 same)))

-- octets of another length are another name
pub other_lengths : (one other : List ℕ) → length one ≢ length other → false ≡ str_eq_ignore_ascii_case one other
other_lengths one other differ =
    sym (false_from_ne_true (str_eq_ignore_ascii_case one other) (λ same.
    let lowered = (bytes_eq-Decides (str_to_ascii_lowercase one) (str_to_ascii_lowercase other)).0 same in
    differ (sym (length-map one to_ascii_lowercase) ∙ ap (λ (name : List ℕ). length name) lowered ∙ length-map other to_ascii_lowercase)))

lower_twice : (name : List ℕ) → str_to_ascii_lowercase (str_to_ascii_lowercase name) ≡ str_to_ascii_lowercase name
lower_twice [] = refl
lower_twice (c ∷ cs) =
    ap (λ (d : ℕ). d ∷ str_to_ascii_lowercase (str_to_ascii_lowercase cs)) (lowercase-lowercase c)
    ∙ ap (λ (ds : List ℕ). to_ascii_lowercase c ∷ ds) (lower_twice cs)

-- a name in small letters is no other name in small letters
pub other_small : (one other : List ℕ) → str_eq_ignore_ascii_case one other ≡ false → bytes_eq one (str_to_ascii_lowercase other) ≡ false
other_small one other differ =
    false_from_ne_true (bytes_eq one (str_to_ascii_lowercase other)) (λ same.
    let is = (bytes_eq-Decides one (str_to_ascii_lowercase other)).0 same in
    let alike = (bytes_eq-Decides (str_to_ascii_lowercase one) (str_to_ascii_lowercase other)).1 (ap str_to_ascii_lowercase is ∙ lower_twice other) in
    both_ways (str_eq_ignore_ascii_case one other) differ alike)
