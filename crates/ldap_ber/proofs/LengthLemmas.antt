-- Reading a length is exact, and its canonical octets are some of its octets, and the fewest.
use Rattle.std.proofs.Common.{◌≡◌, ◌≢◌, ℕ, suc, ◌-◌, ◌/◌, ◌%◌, ◌^◌, ◌<◌, ◌≤◌, ltb, eqb, List, [], ◌∷◌, ◌++◌, length, take, drop, Ok, refl, sym, ap, ◌∙◌, arith, inl, inr}
use Rattle.std.proofs.lemmas.Bool.{cases_lt, ltb-false, ltb-true, le-ltb, lt-ltb, eqb-false, ne_eqb}
use Rattle.std.proofs.Math.Seq.{take-append_seam, drop-append_seam}
use Rattle.std.proofs.lemmas.List.{take-append-drop, length-append, length-take}
use Rattle.ldap_ber.specs.Element.{number_after, IsLength}
use Rattle.ldap_ber.specs.Reader.{length_at}
use Rattle.ldap_ber.specs.Canonical.{length_octets}
use Rattle.ldap_ber.proofs.Steps.{chosen, guard_ok, ok_pair}
use Rattle.std.specs.Prelude.{All}

-- what is read as a length is one at the start of the bytes
pub length_found : (bytes : List ℕ) (n : ℕ) (rest : List ℕ) → length_at bytes ≡ Ok (n, rest) → (octets : List ℕ) × IsLength octets n × (bytes ≡ octets ++ rest)
length_found [] n rest e = absurd cc
length_found (b ∷ more) n rest e =
    elim (chosen (ltb b 128) _ _ _ e) [
      | inl s ↦
          let p = ok_pair b more n rest s.1 in
          (b ∷ [], inl (ltb-true _ _ s.0, refl, sym p.0), ap (λ (t : List ℕ). b ∷ t) p.1)
      | inr s ↦
          let g1 = guard_ok (eqb b 128) _ _ _ s.1 in
          let g2 = guard_ok (ltb 132 b) _ _ _ g1.1 in
          let g3 = guard_ok (ltb (length more) (b - 128)) _ _ _ g2.1 in
          let p = ok_pair (number_after 0 (take (b - 128) more)) (drop (b - 128) more) n rest g3.1 in
          let low : 128 ≤ b = ltb-false _ _ s.0 in
          let high : b ≤ 132 = ltb-false _ _ g2.0 in
          let long : b - 128 ≤ length more = ltb-false _ _ g3.0 in
          let not : b ≢ 128 = eqb-false _ _ g1.0 in
          (b ∷ take (b - 128) more, inr (omega arith, high, omega (arith, length-take (b - 128) more), sym p.0), ap (λ (t : List ℕ). b ∷ t) (sym (take-append-drop (b - 128) more) ∙ ap (λ (t : List ℕ). take (b - 128) more ++ t) p.1))
    ]

-- a prefix that is as long as a number says
pub seam : (k : ℕ) (xs ys : List ℕ) → length xs ≡ k → (take k (xs ++ ys) ≡ xs) × (drop k (xs ++ ys) ≡ ys)
seam k xs ys e = (rw (← e) (take-append_seam xs ys), rw (← e) (drop-append_seam xs ys))

-- a length at the start of the bytes is read as it is
pub length_only : (octets : List ℕ) (n : ℕ) (rest : List ℕ) → IsLength octets n → length_at (octets ++ rest) ≡ Ok (n, rest)
length_only [] n rest h = absurd h
length_only (b ∷ octets) n rest h =
    elim h [
      | inl s ↦ rw (lt-ltb b 128 s.0, s.1, s.2) refl
      | inr s ↦
          let p = seam (b - 128) octets rest s.2 in
          let not : b ≢ 128 = omega arith in
          let low : 128 ≤ b = omega arith in
          let long : b - 128 ≤ length (octets ++ rest) = omega (arith, length-append octets rest) in
          rw (le-ltb b 128 low, ne_eqb b 128 not, le-ltb 132 b s.1, le-ltb (length (octets ++ rest)) (b - 128) long, p.0, p.1, s.3) refl
    ]

-- ---- the canonical octets

-- what holds of each of the five forms holds of the canonical octets
by_size : (P : List ℕ → Type 0) (n : ℕ) → (n < 128 → P (n ∷ [])) → (128 ≤ n → n < 256 → P (129 ∷ n ∷ [])) → (256 ≤ n → n < 65536 → P (130 ∷ n / 256 ∷ n % 256 ∷ []))
    → (65536 ≤ n → n < 16777216 → P (131 ∷ n / 65536 ∷ n / 256 % 256 ∷ n % 256 ∷ []))
    → (16777216 ≤ n → P (132 ∷ n / 16777216 ∷ n / 65536 % 256 ∷ n / 256 % 256 ∷ n % 256 ∷ [])) → P (length_octets n)
by_size P n one two three four five =
    elim (cases_lt n 128) [
      | inl s ↦ rw (lt-ltb n 128 s) (one s)
      | inr s ↦ elim (cases_lt n 256) [
        | inl t ↦ rw (le-ltb n 128 s, lt-ltb n 256 t) (two s t)
        | inr t ↦ elim (cases_lt n 65536) [
          | inl u ↦ rw (le-ltb n 128 s, le-ltb n 256 t, lt-ltb n 65536 u) (three t u)
          | inr u ↦ elim (cases_lt n 16777216) [
            | inl v ↦ rw (le-ltb n 128 s, le-ltb n 256 t, le-ltb n 65536 u, lt-ltb n 16777216 v) (four u v)
            | inr v ↦ rw (le-ltb n 128 s, le-ltb n 256 t, le-ltb n 65536 u, le-ltb n 16777216 v) (five v)
          ]
        ]
      ]
    ]

-- the canonical octets of a length are one
pub length_spells : (n : ℕ) → n < 2 ^ 32 → IsLength (length_octets n) n
length_spells n small =
    by_size (λ octets. IsLength octets n) n
    (λ s. inl (s, refl, refl))
    (λ s t. inr (omega arith, omega arith, refl, omega arith))
    (λ s t. inr (omega arith, omega arith, refl, omega arith))
    (λ s t. inr (omega arith, omega arith, refl, omega arith))
    (λ s. inr (omega arith, omega arith, refl, omega arith))

-- a length has at most five octets
pub length-length_octets : (n : ℕ) → length (length_octets n) ≤ 5
length-length_octets n =
    by_size (λ octets. length octets ≤ 5) n (λ s. omega arith) (λ s t. omega arith) (λ s t. omega arith) (λ s t. omega arith) (λ s. omega arith)

-- n octets for so small a number
size_under : (n : ℕ) → (n < 128 → length (length_octets n) ≤ 1) × (n < 256 → length (length_octets n) ≤ 2) × (n < 65536 → length (length_octets n) ≤ 3) × (n < 16777216 → length (length_octets n) ≤ 4)
size_under n =
    by_size (λ octets. (n < 128 → length octets ≤ 1) × (n < 256 → length octets ≤ 2) × (n < 65536 → length octets ≤ 3) × (n < 16777216 → length octets ≤ 4)) n
    (λ s. (λ h. omega arith, λ h. omega arith, λ h. omega arith, λ h. omega arith))
    (λ s t. (λ h. omega arith, λ h. omega arith, λ h. omega arith, λ h. omega arith))
    (λ s t. (λ h. omega arith, λ h. omega arith, λ h. omega arith, λ h. omega arith))
    (λ s t. (λ h. omega arith, λ h. omega arith, λ h. omega arith, λ h. omega arith))
    (λ s. (λ h. omega arith, λ h. omega arith, λ h. omega arith, λ h. omega arith))

-- the octets after the first
after_shortest : (octets : List ℕ) → All (λ o. o < 256) octets → 0 < length octets → length octets ≤ 4 → length (length_octets (number_after 0 octets)) ≤ suc (length octets)
after_shortest [] small some few = absurd (omega arith)
after_shortest (x ∷ []) small some few =
    let a : x < 256 = small 0 0 (omega arith) in
    omega (arith, (size_under (number_after 0 (x ∷ []))).1 (omega arith))
after_shortest (x ∷ y ∷ []) small some few =
    let a : x < 256 = small 0 0 (omega arith) in
    let b : y < 256 = small 1 0 (omega arith) in
    omega (arith, (size_under (number_after 0 (x ∷ y ∷ []))).2 (omega arith))
after_shortest (x ∷ y ∷ z ∷ []) small some few =
    let a : x < 256 = small 0 0 (omega arith) in
    let b : y < 256 = small 1 0 (omega arith) in
    let c : z < 256 = small 2 0 (omega arith) in
    omega (arith, (size_under (number_after 0 (x ∷ y ∷ z ∷ []))).3 (omega arith))
after_shortest (x ∷ y ∷ z ∷ w ∷ more) small some few = omega (arith, length-length_octets (number_after 0 (x ∷ y ∷ z ∷ w ∷ more)))

-- no length has fewer octets than the canonical one
pub length_shortest : (octets : List ℕ) (n : ℕ) → All (λ o. o < 256) octets → IsLength octets n → length (length_octets n) ≤ length octets
length_shortest [] n small h = absurd h
length_shortest (b ∷ octets) n small h =
    elim h [
      | inl s ↦ omega (arith, (size_under n).0 (omega (arith, s.0, s.2)))
      | inr s ↦ rw s.3 (after_shortest octets (λ k d lt. small (suc k) d (omega arith)) (omega (arith, s.0, s.2)) (omega (arith, s.1, s.2)))
    ]
