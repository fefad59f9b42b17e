-- The keys of values of lower-case letters and digits: such a value is its own key.
use Rattle.std.proofs.Common.{◌≡◌, ℕ, zero, suc, ◌<◌, ◌≤◌, true, false, ◌&&◌, if◌then◌else◌, List, [], ◌∷◌, ◌++◌, ◌⊎◌, inl, inr, map, get_or, Some, encode_utf8_all, refl, ap, ◌∙◌, arith}
use Rattle.std.specs.Option.{option_and_then}
use Rattle.std.proofs.lemmas.Bool.Decides.{nat_tests}
use Rattle.std.proofs.lemmas.Str.{encode_ascii}
use Rattle.text_keys.specs.Text.{lowered, is_space, is_empty, single_spaced, without_leading_spaces, without_trailing_spaces, squeezed, not_empty, ignore_case_key}
use Rattle.text_keys.proofs.Ascii.{piece_key-ascii}
use Rattle.schema_rules.specs.declared.types.Rule.TheVariants.{Folded}
use Rattle.schema_rules.specs.Schema.{types, type_rule}
use Rattle.schema_rules.specs.Keys.{key_by, key_of}

-- a digit or a lower-case letter
abbrev pub IsWordByte : ℕ → Type 0
IsWordByte c = ((48 ≤ c) × (c < 58)) ⊎ ((97 ≤ c) × (c < 123))

abbrev pub IsWord : List ℕ → Type 0
IsWord [] = Unit {0}
IsWord (c ∷ cs) = IsWordByte c × IsWord cs

-- it is in ASCII
pub byte_small : (c : ℕ) → IsWordByte c → c < 123
byte_small c (inl digit) = let low : c < 58 = digit.1 in omega (arith, low)
byte_small c (inr letter) = letter.1

byte_large : (c : ℕ) → IsWordByte c → 48 ≤ c
byte_large c (inl digit) = digit.0
byte_large c (inr letter) = let high : 97 ≤ c = letter.0 in omega (arith, high)

word_ascii : (value : List ℕ) → IsWord value → (i : ℕ) → get_or value i 0 < 128
word_ascii [] word i = omega arith
word_ascii (c ∷ cs) word zero = let low = byte_small c word.0 in omega (arith, low)
word_ascii (c ∷ cs) word (suc i) = word_ascii cs word.1 i

lowered_byte : (c : ℕ) → IsWordByte c → lowered true c ≡ c
lowered_byte c (inl digit) = let low : c < 58 = digit.1 in grind (arith, nat_tests)
lowered_byte c (inr letter) = let high : 97 ≤ c = letter.0 in grind (arith, nat_tests)

lowered_word : (value : List ℕ) → IsWord value → map (lowered true) value ≡ value
lowered_word [] word = refl
lowered_word (c ∷ cs) word = ap (λ d. d ∷ map (lowered true) cs) (lowered_byte c word.0) ∙ ap (λ ds. c ∷ ds) (lowered_word cs word.1)

no_space : (c : ℕ) → IsWordByte c → is_space c ≡ false
no_space c byte = let high = byte_large c byte in grind (arith, nat_tests)

leading_word : (value : List ℕ) → IsWord value → without_leading_spaces value ≡ value
leading_word [] word = refl
leading_word (c ∷ cs) word = ap (λ b. if b then without_leading_spaces cs else c ∷ cs) (no_space c word.0)

trailing_word : (value : List ℕ) → IsWord value → without_trailing_spaces value ≡ value
trailing_word [] word = refl
trailing_word (c ∷ cs) word =
    ap (λ b. if b && is_empty (without_trailing_spaces cs) then [] else c ∷ without_trailing_spaces cs) (no_space c word.0)
    ∙ ap (λ ds. c ∷ ds) (trailing_word cs word.1)

single_word : (value : List ℕ) → IsWord value → single_spaced value ≡ value
single_word [] word = refl
single_word (c ∷ []) word = ap (λ b. if b && false then single_spaced [] else c ∷ []) (no_space c word.0)
single_word (c ∷ d ∷ cs) word =
    ap (λ b. if b && is_space d then single_spaced (d ∷ cs) else c ∷ single_spaced (d ∷ cs)) (no_space c word.0)
    ∙ ap (λ ds. c ∷ ds) (single_word (d ∷ cs) word.1)

squeezed_word : (value : List ℕ) → IsWord value → squeezed true true value ≡ value
unfolding squeezed
squeezed_word value word =
    ap (λ v. single_spaced (without_trailing_spaces v)) (leading_word value word)
    ∙ ap single_spaced (trailing_word value word)
    ∙ single_word value word

encoded_word : (value : List ℕ) → IsWord value → encode_utf8_all value ≡ value
encoded_word [] word = refl
encoded_word (c ∷ cs) word =
    ap (λ front. front ++ encode_utf8_all cs) (encode_ascii c (let low = byte_small c word.0 in omega (arith, low)))
    ∙ ap (λ ds. c ∷ ds) (encoded_word cs word.1)

-- a word is its own key where case is ignored
pub folded_word : (c : ℕ) (cs : List ℕ) → IsWord (c ∷ cs) → ignore_case_key (c ∷ cs) ≡ Some (c ∷ cs)
unfolding ignore_case_key
folded_word c cs word =
    let value = c ∷ cs in
    ap (option_and_then not_empty)
    (piece_key-ascii value true true true (word_ascii value word)
    ∙ ap (λ ds. Some (encode_utf8_all (squeezed true true ds))) (lowered_word value word)
    ∙ ap (λ ds. Some (encode_utf8_all ds)) (squeezed_word value word)
    ∙ ap Some (encoded_word value word))

folded_rule : (kind : ℕ) (value : List ℕ) → type_rule kind ≡ Folded → key_of kind value ≡ ignore_case_key value
unfolding key_of
folded_rule kind value is = ap (λ rule. key_by rule value) is

-- the type of a unit's name and the type of a common name
pub unit_rule : type_rule 9 ≡ Folded
unfolding types
unit_rule = refl

-- the type `cn` ignores case
pub common_rule : type_rule 1 ≡ Folded
unfolding types
common_rule = refl

-- a word of a type that ignores case is its own key
pub word_key : (kind c : ℕ) (cs : List ℕ) → type_rule kind ≡ Folded → IsWord (c ∷ cs) → key_of kind (c ∷ cs) ≡ Some (c ∷ cs)
word_key kind c cs is word = folded_rule kind (c ∷ cs) is ∙ folded_word c cs word
