-- How the names of a drill are written: a value of lower-case letters and digits stands as it is.
use Rattle.std.proofs.Common.{◌≡◌, ℕ, ◌<◌, ◌≤◌, ◌==◌, Bool, true, false, List, [], ◌∷◌, ◌++◌, inl, inr, length, codes, refl, ap, ◌∙◌, arith, append-nil}
use Rattle.std.proofs.lemmas.Bool.Decides.{nat_tests}
use Rattle.schema_rules.specs.Schema.{types, type_name}
use Rattle.dn_names.specs.Writing.{is_special, is_special_at_edge, byte_text, bytes_text, value_text, pair_text, rdn_text}
use Rattle.drill_plan.specs.Names.{rdn_of_one}
use Rattle.drill_plan.proofs.PlainKeys.{IsWordByte, IsWord}

plain_byte : (c : ℕ) (first last : Bool) → IsWordByte c → byte_text first last c ≡ c ∷ []
plain_byte c first last byte = rw (no_special c byte, no_edge c first last byte, no_zero c byte) refl
  where
    no_special : (c : ℕ) → IsWordByte c → is_special c ≡ false
    no_special c (inl digit) = let high : 48 ≤ c = digit.0 in let low : c < 58 = digit.1 in grind (arith, nat_tests)
    no_special c (inr letter) = let high : 97 ≤ c = letter.0 in grind (arith, nat_tests)

    no_edge : (c : ℕ) (first last : Bool) → IsWordByte c → is_special_at_edge first last c ≡ false
    no_edge c first last (inl digit) = let high : 48 ≤ c = digit.0 in grind (arith, nat_tests)
    no_edge c first last (inr letter) = let high : 97 ≤ c = letter.0 in grind (arith, nat_tests)

    no_zero : (c : ℕ) → IsWordByte c → (c == 0) ≡ false
    no_zero c (inl digit) = let high : 48 ≤ c = digit.0 in grind (arith, nat_tests)
    no_zero c (inr letter) = let high : 97 ≤ c = letter.0 in grind (arith, nat_tests)

word_text : (first : Bool) (value : List ℕ) → IsWord value → bytes_text first value ≡ value
word_text first [] word = refl
word_text first (c ∷ cs) word =
    ap (λ front. front ++ bytes_text false cs) (plain_byte c first (length cs == 0) word.0)
    ∙ ap (λ rest. c ∷ rest) (word_text false cs word.1)

-- one pair of such a value
pub one_text : (kind : ℕ) (name value : List ℕ) → type_name kind ≡ name → IsWord value
    → rdn_text (rdn_of_one kind value) ≡ name ++ 61 ∷ value
one_text kind name value is word =
    append-nil (pair_text (record { kind = kind; value = value }))
    ∙ ap (λ n. n ++ 61 ∷ value_text value) is
    ∙ ap (λ v. name ++ 61 ∷ v) (word_text true value word)

-- ---- the types of these names

-- `cn`
pub common_name_text : type_name 1 ≡ codes "cn"
unfolding types
common_name_text = refl

-- `ou`
pub unit_name_text : type_name 9 ≡ codes "ou"
unfolding types
unit_name_text = refl

-- `dc`
pub component_text : type_name 12 ≡ codes "dc"
unfolding types
component_text = refl
