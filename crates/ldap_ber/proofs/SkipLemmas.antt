-- Passing over elements.
use Rattle.std.proofs.Common.{◌≡◌, ℕ, ◌-◌, ◌<◌, ◌≢◌, List, [], ◌∷◌, ◌++◌, length, Result, Ok, Err, refl, sym, ap, ◌∙◌, arith, length-append}
use Rattle.ldap_ber.specs.declared.fault.BerFault.{BerFault}
use Rattle.ldap_ber.specs.declared.fault.BerKind.{BerKind}
use Rattle.ldap_ber.specs.Element.{Begins}
use Rattle.ldap_ber.specs.Reader.{◌>>=◌, Element, parts_at, placed, element_at}
use Rattle.ldap_ber.specs.Reading.{many_at, any_at, skip_at}
use Rattle.ldap_ber.proofs.Steps.{bind_ok, ok_pair, triple_is}
use Rattle.ldap_ber.proofs.ElementLemmas.{parts_found}
use Rattle.ldap_ber.proofs.ManyLemmas.{Advances, many_next, many_none}

-- an element that was read has its place, tag and body
pub placed_ok : (stop : ℕ) (bytes : List ℕ) (r : Result (ℕ × List ℕ × List ℕ) BerKind) (e : Element) (rest : List ℕ) → placed stop bytes r ≡ Ok (e, rest) → (r ≡ Ok (e.tag, e.body, rest)) × (e.at ≡ stop - length bytes) × (e.stop ≡ stop - length rest)
placed_ok stop bytes (Ok x) e rest h =
    let p = ok_pair (record { tag = x.0; at = stop - length bytes; stop = stop - length x.2; body = x.1 }) x.2 e rest h in (
      ap (λ (y : ℕ × List ℕ × List ℕ). Ok y) (triple_is x.0 e.tag x.1 e.body x.2 rest (ap (λ (y : Element). y.tag) p.0) (ap (λ (y : Element). y.body) p.0) p.1),
      ap (λ (y : Element). y.at) (sym p.0),
      ap (λ (y : Element). y.stop) (sym p.0) ∙ ap (λ (y : List ℕ). stop - length y) p.1,
    )
placed_ok stop bytes (Err f) e rest h = absurd cc

-- what is read as an element begins the bytes
pub element_found : (stop : ℕ) (bytes : List ℕ) (e : Element) (rest : List ℕ) → element_at stop bytes ≡ Ok (e, rest) → Begins bytes e.tag e.body rest
unfolding element_at
element_found stop bytes e rest h = parts_found bytes e.tag e.body rest (placed_ok stop bytes (parts_at bytes) e rest h).0

-- an element leaves fewer bytes
pub Begins-shorter : (bytes : List ℕ) (tag : ℕ) (body rest : List ℕ) → Begins bytes tag body rest → length rest < length bytes
Begins-shorter bytes tag body rest h = omega (arith, ap (λ (x : List ℕ). length x) h.parts, length-append h.octets (body ++ rest), length-append body rest)

-- reading an element passes over at least one byte
pub any_advances : Advances any_at
any_advances stop bytes x rest h =
    let b = bind_ok (element_at stop bytes) (λ e. Ok ((e.0.tag, e.0.body), e.1)) (x, rest) h in
    let p = ok_pair (b.0.0.tag, b.0.0.body) b.0.1 x rest b.2 in
    let less = Begins-shorter bytes _ _ _ (element_found stop bytes b.0.0 b.0.1 b.1) in
    omega (arith, less, ap (λ (y : List ℕ). length y) p.1)

-- only whether it failed matters
forget : {X Y E : Type 0} (r : Result (List X) E) (x : X) (y : Y) → ((r >>= λ xs. Ok (x ∷ xs)) >>= λ es. Ok y) ≡ (r >>= λ es. Ok y)
forget (Ok xs) x y = refl
forget (Err f) x y = refl

-- passing over elements goes on after the first
pub skip_next : (stop : ℕ) (bytes : List ℕ) (e : Element) (rest : List ℕ) → element_at stop bytes ≡ Ok (e, rest) → skip_at stop bytes ≡ skip_at stop rest
unfolding skip_at element_at
skip_next stop [] e rest h = absurd cc
skip_next stop (b ∷ bytes) e rest h = rw (many_next any_at any_advances stop b bytes, h) (forget (many_at any_at stop rest) (e.tag, e.body) tt)

-- an element that is refused is the fault of passing over
pub skip_fault : (stop : ℕ) (bytes : List ℕ) (f : BerFault) → element_at stop bytes ≡ Err f → bytes ≢ [] → skip_at stop bytes ≡ Err f
unfolding skip_at
skip_fault stop [] f h not = absurd (not refl)
skip_fault stop (b ∷ bytes) f h not = rw (many_next any_at any_advances stop b bytes, h) refl

-- where no byte is left all is passed over
pub skip_none : (stop : ℕ) (bytes : List ℕ) → length bytes ≡ 0 → skip_at stop bytes ≡ Ok tt
unfolding skip_at
skip_none stop [] e = rw (many_none any_at stop) refl
skip_none stop (b ∷ bytes) e = absurd (omega arith)
