-- Reading an element is exact, and its canonical spelling is one of its spellings.
use Rattle.std.proofs.Common.{◌≡◌, ◌≢◌, ℕ, ◌+◌, ◌%◌, ◌^◌, ◌<◌, ◌≤◌, cond, ltb, eqb, List, [], ◌∷◌, ◌++◌, length, take, drop, Ok, Err, refl, sym, ap, subst, ◌∙◌, append_assoc, arith}
use Rattle.std.proofs.lemmas.Bool.{ltb-false, le-ltb, eqb-false, ne_eqb}
use Rattle.std.proofs.lemmas.List.{take-append-drop, length-append, length-take}
use Rattle.ldap_ber.specs.declared.fault.BerKind.TheVariants.{Short}
use Rattle.ldap_ber.specs.Element.{IsLength, Begins}
use Rattle.ldap_ber.specs.Reader.{length_at, parts_at}
use Rattle.ldap_ber.specs.Canonical.{length_octets, element}
use Rattle.ldap_ber.proofs.LengthLemmas.{seam, length_found, length_only, length_spells, length-length_octets}
use Rattle.ldap_ber.proofs.Steps.{bind_ok, guard_ok, ok_triple}

-- what is read as an element begins the bytes
pub parts_found : (bytes : List ℕ) (tag : ℕ) (body rest : List ℕ) → parts_at bytes ≡ Ok (tag, body, rest) → Begins bytes tag body rest
parts_found [] tag body rest e = absurd cc
parts_found (t ∷ more) tag body rest e =
    let g1 = guard_ok (eqb (t % 32) 31) _ _ _ e in
    let b = bind_ok (length_at more) (λ n. cond (ltb (length n.1) n.0) (Err Short) (Ok (t, take n.0 n.1, drop n.0 n.1))) (tag, body, rest) g1.1 in
    let g2 = guard_ok (ltb (length b.0.1) b.0.0) _ _ _ b.2 in
    let p = ok_triple t (take b.0.0 b.0.1) (drop b.0.0 b.0.1) tag body rest g2.1 in
    let l = length_found more b.0.0 b.0.1 b.1 in
    let long : b.0.0 ≤ length b.0.1 = ltb-false _ _ g2.0 in
    let size : b.0.0 ≡ length body = omega (arith, length-take b.0.0 b.0.1, ap (λ (x : List ℕ). length x) p.1) in
    let cut : b.0.1 ≡ body ++ rest = sym (take-append-drop b.0.0 b.0.1) ∙ ap (λ (x : List ℕ). x ++ drop b.0.0 b.0.1) p.1 ∙ ap (λ (x : List ℕ). body ++ x) p.2 in
    record {
      octets = l.0;
      counted = subst (λ (n : ℕ). IsLength l.0 n) size l.1;
      low = subst (λ (x : ℕ). x % 32 ≢ 31) p.0 (eqb-false _ _ g1.0);
      parts = ap (λ (x : List ℕ). t ∷ x) (l.2 ∙ ap (λ (x : List ℕ). l.0 ++ x) cut) ∙ ap (λ (x : ℕ). x ∷ (l.0 ++ (body ++ rest))) p.0;
    }

-- an element that begins the bytes is read as it is
pub parts_only : (bytes : List ℕ) (tag : ℕ) (body rest : List ℕ) → Begins bytes tag body rest → parts_at bytes ≡ Ok (tag, body, rest)
parts_only bytes tag body rest h =
    let l : length_at (h.octets ++ (body ++ rest)) ≡ Ok (length body, body ++ rest) = length_only h.octets (length body) (body ++ rest) h.counted in
    let p = seam (length body) body rest refl in
    let long : length body ≤ length (body ++ rest) = omega (arith, length-append body rest) in
    rw (h.parts, ne_eqb (tag % 32) 31 h.low, l, le-ltb (length (body ++ rest)) (length body) long, p.0, p.1) refl

-- ---- the canonical spelling

-- the canonical element is one that begins the bytes
pub element_spells : (tag : ℕ) (body rest : List ℕ) → tag % 32 ≢ 31 → length body < 2 ^ 32 → Begins (element tag body ++ rest) tag body rest
unfolding element
element_spells tag body rest low small = record {
  octets = length_octets (length body);
  counted = length_spells (length body) small;
  low = low;
  parts = ap (λ (x : List ℕ). tag ∷ x) (append_assoc (length_octets (length body)) body rest);
}

-- ---- how much longer than its body an element is

-- an element has at most six octets more than its body
pub element_size : (tag : ℕ) (body : List ℕ) → length (element tag body) ≤ length body + 6
unfolding element
element_size tag body = omega (arith, length-append (length_octets (length body)) body, length-length_octets (length body))

-- an element has no fewer octets than its body
pub body_size : (tag : ℕ) (body : List ℕ) → length body ≤ length (element tag body)
unfolding element
body_size tag body = omega (arith, length-append (length_octets (length body)) body)

-- ---- no spelling begins another

-- an element begins the bytes whatever follows them
pub Begins-more : (bytes : List ℕ) (tag : ℕ) (body rest after : List ℕ) → Begins bytes tag body rest → Begins (bytes ++ after) tag body (rest ++ after)
Begins-more bytes tag body rest after h = record {
  octets = h.octets;
  counted = h.counted;
  low = h.low;
  parts = ap (λ (x : List ℕ). x ++ after) h.parts ∙ ap (λ (x : List ℕ). tag ∷ x) (append_assoc h.octets (body ++ rest) after ∙ ap (λ (x : List ℕ). h.octets ++ x) (append_assoc body rest after));
}

-- two readings of the prefix are one
pub one_element : (bytes : List ℕ) (s t : ℕ) (a b x y : List ℕ) → Begins bytes s a x → Begins bytes t b y → (s ≡ t) × (a ≡ b) × (x ≡ y)
one_element bytes s t a b x y h k = ok_triple s a x t b y (sym (parts_only bytes s a x h) ∙ parts_only bytes t b y k)

-- no element begins another one
pub no_prefix : (a b : List ℕ) (s t : ℕ) (x y : List ℕ) → Begins a s x [] → Begins (a ++ b) t y [] → b ≡ []
no_prefix a b s t x y h k = (one_element (a ++ b) s t x y b [] (Begins-more a s x [] b h) k).2
