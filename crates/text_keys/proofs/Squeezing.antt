-- What is squeezed of a text, one character after the other; a space may be due from before.
use Rattle.std.proofs.Common.{◌≡◌, ℕ, Bool, true, false, not, ◌&&◌, List, [], ◌∷◌, ◌++◌, refl, ap, ◌∙◌, if◌then◌else◌, encode_utf8, encode_utf8_all, ne_eqb}
use Rattle.std.proofs.lemmas.Bool.{true≢false}
use Rattle.std.proofs.lemmas.Str.{encodes-append}
use Rattle.text_keys.specs.Text.{is_empty, is_space, single_spaced, without_trailing_spaces, squeezed, spaced}

-- a space before what is left of the rest, unless nothing is left
abbrev space_before : List ℕ → List ℕ
space_before rest = if is_empty rest then [] else 32 ∷ rest

two_spaces_before : (rest : List ℕ) → single_spaced (space_before (space_before rest)) ≡ single_spaced (space_before rest)
two_spaces_before [] = refl
two_spaces_before (c ∷ cs) = refl

-- a space is due afterwards, except at the start
pub squeezed-space : (start space last : Bool) (rest : List ℕ) → (start && space) ≡ false
    → squeezed start last (spaced space (32 ∷ rest)) ≡ squeezed start last (spaced (not start) rest)
unfolding squeezed
squeezed-space true true last rest apart = absurd (true≢false apart)
squeezed-space true false true rest apart = refl
squeezed-space true false false rest apart = refl
squeezed-space false true true rest apart = two_spaces_before (without_trailing_spaces rest)
squeezed-space false true false rest apart = refl
squeezed-space false false last rest apart = refl

squeezed-char : (start space last : Bool) (c : ℕ) (rest : List ℕ) → is_space c ≡ false → (start && space) ≡ false
    → squeezed start last (spaced space (c ∷ rest)) ≡ spaced space [] ++ (c ∷ squeezed false last rest)
unfolding squeezed
squeezed-char true true last c rest other apart = absurd (true≢false apart)
squeezed-char true false true c rest other apart = simp other
squeezed-char true false false c rest other apart = simp other
squeezed-char false true true c rest other apart = simp other
squeezed-char false true false c rest other apart = simp other
squeezed-char false false true c rest other apart = simp other
squeezed-char false false false c rest other apart = simp other

-- another character is written, after the space that is due
pub encodes_squeezed-char : (start space last : Bool) (c : ℕ) (rest : List ℕ) → (c ≡ 32 → ⊥) → (start && space) ≡ false
    → encode_utf8_all (squeezed start last (spaced space (c ∷ rest)))
    ≡ encode_utf8_all (spaced space []) ++ (encode_utf8 c ++ encode_utf8_all (squeezed false last rest))
encodes_squeezed-char start space last c rest other apart =
    ap encode_utf8_all (squeezed-char start space last c rest (ne_eqb c 32 other) apart) ∙ encodes-append _ _

-- the space that is due at the end is written, unless the text stands last
pub squeezed-end : (start space last : Bool) → (start && space) ≡ false
    → squeezed start last (spaced space []) ≡ spaced (space && not last) []
unfolding squeezed
squeezed-end true true last apart = absurd (true≢false apart)
squeezed-end true false true apart = refl
squeezed-end true false false apart = refl
squeezed-end false true true apart = refl
squeezed-end false true false apart = refl
squeezed-end false false true apart = refl
squeezed-end false false false apart = refl

-- nothing is so and not so
pub not_both : (b : Bool) → (b && not b) ≡ false
not_both true = refl
not_both false = refl
