-- No spelling of a message begins another one, and a proper prefix of one waits for more bytes.
use Rattle.std.proofs.Common.{◌≡◌, ◌≢◌, ℕ, ◌+◌, ◌-◌, ◌<◌, ◌≤◌, ltb, List, [], ◌∷◌, ◌++◌, length, take, refl, sym, ap, subst, ◌∙◌, inl, inr, arith, eq-eqb, length-append}
use Rattle.std.proofs.lemmas.Bool.{lt-ltb, le-ltb, ne_eqb, ltb-false, cases_Bool}
use Rattle.std.proofs.lemmas.List.{take-append-le}
use Rattle.ldap_ber.specs.Element.{Begins, IsLength, number_after}
use Rattle.ldap_ber.proofs.LengthLemmas.{seam}
use Rattle.ldap_ber.proofs.ElementLemmas.{no_prefix}
use Rattle.ldap_messages.specs.declared.frame.Frame.TheVariants.{Partial}
use Rattle.ldap_messages.specs.Whole.{MessageValue, MessageForm}
use Rattle.ldap_messages.specs.Frame.{framed, frame_at, in_frame, read_of, partial, Spells}

-- nothing follows a spelling in another one
pub one_message : (prefix more : List ℕ) (one other : MessageValue) → MessageForm prefix one [] → MessageForm (prefix ++ more) other [] → more ≡ []
unfolding MessageForm
one_message prefix more one other h k = no_prefix prefix more 48 48 h.0 k.0 h.2 k.2

framed_partial : (header count so_far : ℕ) → count ≤ 4194304 → so_far < header + count → framed header count so_far ≡ Partial
framed_partial header count so_far small less = rw (le-ltb 4194304 count small, lt-ltb so_far (header + count) less) refl

abbrev Waits : List ℕ → Type 0
Waits bytes = frame_at bytes ≡ Partial

body_waits : (c : ℕ) (ds body octets more : List ℕ) → IsLength (c ∷ ds) (length body) → length body ≤ 4194304 → 0 < length more → octets ++ more ≡ ds ++ (body ++ []) → Waits (48 ∷ c ∷ octets)
body_waits c ds body octets more h small some r =
    let size : length octets + length more ≡ length ds + length body = omega (arith, ap (λ (x : List ℕ). length x) r, length-append octets more, length-append ds (body ++ []), length-append body []) in
    elim h [
      | inl s ↦
          let none : length ds ≡ 0 = omega (arith, ap (λ (x : List ℕ). length x) s.1) in
          rw (lt-ltb c 128 s.0) (framed_partial 2 c (length octets + 2) (omega (arith, s.2)) (omega (arith, s.2, size, none)))
      | inr s ↦
          let low : 128 ≤ c = omega arith in
          elim (cases_Bool (ltb (length octets) (c - 128))) [
            | inl less ↦ rw (le-ltb c 128 low, ne_eqb c 128 (omega arith), le-ltb 132 c s.1, less) refl
            | inr all ↦
                let same : take (c - 128) octets ≡ ds =
                sym (take-append-le (c - 128) octets more (ltb-false _ _ all)) ∙ ap (λ (x : List ℕ). take (c - 128) x) r ∙ (seam (c - 128) ds (body ++ []) s.2).0 in
                rw (le-ltb c 128 low, ne_eqb c 128 (omega arith), le-ltb 132 c s.1, all, same)
                (framed_partial (c - 126) (number_after 0 ds) (length octets + 2) (omega (arith, s.3)) (omega (arith, s.2, s.3, size)))
          ]
    ]

header_waits : (lens body : List ℕ) → IsLength lens (length body) → length body ≤ 4194304 → (tag b : ℕ) (octets more : List ℕ) → 0 < length more → tag ∷ b ∷ (octets ++ more) ≡ 48 ∷ (lens ++ (body ++ [])) → Waits (tag ∷ b ∷ octets)
header_waits [] body h small tag b octets more some e = absurd h
header_waits (c ∷ ds) body h small tag b octets more some e =
    let t : tag ≡ 48 = cc in
    let f : b ≡ c = cc in
    let r : octets ++ more ≡ ds ++ (body ++ []) = cc in
    subst (λ (n : ℕ). Waits (n ∷ b ∷ octets)) (sym t) (subst (λ (n : ℕ). Waits (48 ∷ n ∷ octets)) (sym f) (body_waits c ds body octets more h small some r))

prefix_waits : (prefix more body : List ℕ) → Begins (prefix ++ more) 48 body [] → length body ≤ 4194304 → 0 < length more → Waits prefix
prefix_waits [] more body h small some = refl
prefix_waits (tag ∷ []) more body h small some =
    let e : tag ∷ more ≡ 48 ∷ (h.octets ++ (body ++ [])) = h.parts in
    let t : tag ≡ 48 = cc in
    rw (eq-eqb tag 48 t) refl
prefix_waits (tag ∷ b ∷ octets) more body h small some = header_waits h.octets body h.counted small tag b octets more some h.parts

some_more : (xs : List ℕ) → xs ≢ [] → 0 < length xs
some_more [] some = absurd (some refl)
some_more (x ∷ xs) some = omega arith

-- a proper prefix of one is read as no message yet
pub message_cut : (prefix more : List ℕ) (whole : MessageValue) → Spells (prefix ++ more) whole → more ≢ [] → read_of prefix ≡ partial
unfolding MessageForm read_of
message_cut prefix more whole h some =
    let m = h.0 in
    let begins : Begins (prefix ++ more) 48 m.0 [] = m.2 in
    ap (in_frame prefix) (prefix_waits prefix more m.0 begins (h.1 m.0 begins) (some_more more some))
