-- The canonical octets of an integer are those of that integer, and the shortest.
use Rattle.std.proofs.Common.{◌≡◌, ◌≢◌, ℕ, zero, suc, ◌-◌, ◌%◌, ◌<◌, ◌≤◌, true, cond, ltb, List, [], ◌∷◌, ◌++◌, length, replicate, refl, sym, ap, ◌∙◌, arith, inl, inr, ℤ}
use Rattle.std.specs.Int.{w64, to_be_bytes, from_be_bytes, cast_signed, cast_unsigned}
use Rattle.std.proofs.lemmas.Nat.{from_be_bytes-to_be_bytes_8}
use Rattle.std.proofs.lemmas.Int.{to_z-of_z}
use Rattle.std.proofs.Common.{FitsSigned}
use Rattle.std.proofs.Math.Facts.{Fits-of_z}
use Rattle.std.proofs.lemmas.Bool.Decides.{nat_tests}
use Rattle.std.proofs.lemmas.Bool.{cases_lt, le-ltb, lt-ltb, cases_Bool}
use Rattle.ldap_ber.specs.Element.{extended, integer_of}
use Rattle.ldap_ber.specs.Form.{Integer}
use Rattle.ldap_ber.specs.Canonical.{element, is_needless, shortest, IsShortest, integer_octets}
use Rattle.ldap_ber.proofs.ElementLemmas.{element_spells}
use Rattle.ldap_ber.proofs.CanonicalLemmas.{Spelled, Anything}

replicate_move : (k x : ℕ) (xs : List ℕ) → replicate (suc k) x ++ xs ≡ replicate k x ++ (x ∷ xs)
replicate_move zero x xs = refl
replicate_move (suc k) x xs = ap (λ (ys : List ℕ). x ∷ ys) (replicate_move k x xs)

needless_is : (a b : ℕ) → is_needless a b ≡ true → (cond (ltb b 128) 0 255 ≡ a) × (cond (ltb a 128) 0 255 ≡ a)
needless_is a b e =
    elim (cases_lt b 128) [
      | inl s ↦
          let z : a ≡ 0 = grind (arith, nat_tests) in
          (rw (lt-ltb b 128 s) (sym z), rw z refl)
      | inr s ↦
          let z : a ≡ 255 = grind (arith, nat_tests) in
          (rw (le-ltb b 128 s) (sym z), rw z refl)
    ]

-- the shortest octets of a word stand for the same integer
pub extended_shortest : (word : List ℕ) → length word ≤ 8 → extended (shortest word) ≡ extended word
extended_shortest [] le = refl
extended_shortest (a ∷ []) le = refl
extended_shortest (a ∷ b ∷ octets) le =
    elim (cases_Bool (is_needless a b)) [
      | inl t ↦
          let n = needless_is a b t in
          let k : 8 - length (b ∷ octets) ≡ suc (8 - length (a ∷ b ∷ octets)) = omega arith in
          rw t (extended_shortest (b ∷ octets) (omega arith) ∙ rw (n.0, n.1, k) (replicate_move (8 - length (a ∷ b ∷ octets)) a (b ∷ octets)))
      | inr f ↦ rw f refl
    ]

shortest_size : (word : List ℕ) → (length (shortest word) ≤ length word) × (0 < length word → 0 < length (shortest word))
shortest_size [] = (omega arith, λ h. h)
shortest_size (a ∷ []) = (omega arith, λ h. h)
shortest_size (a ∷ b ∷ octets) =
    let i = shortest_size (b ∷ octets) in
    elim (cases_Bool (is_needless a b)) [
      | inl t ↦ rw t (omega arith, λ h. i.1 (omega arith))
      | inr f ↦ rw f (omega arith, λ h. h)
    ]

-- the canonical octets of an integer are read as it
pub integer_back : (z : ℤ) → FitsSigned w64 z → integer_of (integer_octets z) ≡ z
unfolding integer_octets
integer_back z fits =
    ap (λ (w : List ℕ). cast_signed w64 (from_be_bytes w64 w)) (extended_shortest (to_be_bytes w64 (cast_unsigned w64 z)) (omega arith))
    ∙ ap (cast_signed w64) (from_be_bytes-to_be_bytes_8 (cast_unsigned w64 z) (omega (arith, Fits-of_z {w = w64} {z = z} fits)))
    ∙ to_z-of_z w64 z fits

-- the canonical integer is a spelling
pub integer_spelled : (tag : ℕ) → tag % 32 ≢ 31 → Spelled (Integer tag) (λ z. element tag (integer_octets z)) (FitsSigned w64) Anything
unfolding integer_octets
integer_spelled tag low = record {
  spells = λ z rest small fits after.
      let s = shortest_size (to_be_bytes w64 (cast_unsigned w64 z)) in
      (integer_octets z, element_spells tag (integer_octets z) rest low (omega (arith, s.0)), s.1 (omega arith), s.0, sym (integer_back z fits));
}

shortest_is : (word : List ℕ) → 0 < length word → IsShortest (shortest word)
shortest_is [] some = absurd (omega arith)
shortest_is (a ∷ []) some = tt
shortest_is (a ∷ b ∷ octets) some =
    elim (cases_Bool (is_needless a b)) [
      | inl t ↦ rw t (shortest_is (b ∷ octets) (omega arith))
      | inr f ↦ rw f f
    ]

-- no spelling of an integer has fewer octets than the canonical one
pub integer_shortest : (z : ℤ) → IsShortest (integer_octets z)
unfolding integer_octets
integer_shortest z = shortest_is (to_be_bytes w64 (cast_unsigned w64 z)) (omega arith)
