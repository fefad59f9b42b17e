-- A proper prefix of a spelling is short, and so no spelling begins another one.
use Rattle.std.proofs.Common.{◌≡◌, ◌≢◌, ℕ, ◌-◌, ◌%◌, cond, ltb, eqb, List, [], ◌∷◌, ◌++◌, length, take, drop, Result, Ok, Err, refl, sym, ap, ◌∙◌, inl, inr, ◌⊎◌}
use Rattle.ldap_ber.specs.declared.fault.BerFault.{BerFault}
use Rattle.ldap_ber.specs.declared.fault.BerKind.{BerKind}
use Rattle.ldap_ber.specs.declared.fault.BerKind.TheVariants.{Short}
use Rattle.ldap_ber.specs.Element.{Begins}
use Rattle.ldap_ber.specs.Reader.{◌>>=◌, fault, length_at, parts_at, placed, element_at, expect_at}
use Rattle.ldap_ber.specs.Reading.{Reading, reworded, octets_at, sequence_at}
use Rattle.ldap_ber.proofs.Steps.{chosen, err_is}
use Rattle.ldap_ber.proofs.ElementLemmas.{parts_found, parts_only, Begins-more, one_element}

-- more octets after those that are refused change nothing but what was short
length_refused : (bytes after : List ℕ) (k : BerKind) → length_at bytes ≡ Err k → (k ≡ Short) ⊎ (length_at (bytes ++ after) ≡ Err k)
length_refused [] after k e = inl (sym (err_is _ _ e))
length_refused (b ∷ more) after k e = elim (chosen (ltb b 128) _ _ _ e) [
  | inl s ↦ absurd (let h = s.1 in cc)
  | inr s ↦ elim (chosen (eqb b 128) _ _ _ s.1) [
    | inl t ↦ inr (rw (s.0, t.0) t.1)
    | inr t ↦ elim (chosen (ltb 132 b) _ _ _ t.1) [
      | inl u ↦ inr (rw (s.0, t.0, u.0) u.1)
      | inr u ↦ elim (chosen (ltb (length more) (b - 128)) _ _ _ u.1) [
        | inl v ↦ inl (sym (err_is _ _ v.1))
        | inr v ↦ absurd (let h = v.1 in cc)
      ]
    ]
  ]
]

-- a body of n octets, and what follows it
abbrev body_at : ℕ → ℕ × List ℕ → Result (ℕ × List ℕ × List ℕ) BerKind
body_at tag n = cond (ltb (length n.1) n.0) (Err Short) (Ok (tag, take n.0 n.1, drop n.0 n.1))

body_refused : (tag : ℕ) (more after : List ℕ) (k : BerKind) (r : Result (ℕ × List ℕ) BerKind) → length_at more ≡ r
    → (r >>= body_at tag) ≡ Err k
    → (k ≡ Short) ⊎ ((length_at (more ++ after) >>= body_at tag) ≡ Err k)
body_refused tag more after k (Ok n) is e = elim (chosen (ltb (length n.1) n.0) _ _ _ e) [
  | inl s ↦ inl (sym (err_is _ _ s.1))
  | inr s ↦ absurd (let h = s.1 in cc)
]
body_refused tag more after k (Err j) is e = elim (length_refused more after j is) [
  | inl s ↦ inl (sym (err_is j k e) ∙ s)
  | inr s ↦ inr (rw s e)
]

parts_refused : (bytes after : List ℕ) (k : BerKind) → parts_at bytes ≡ Err k → (k ≡ Short) ⊎ (parts_at (bytes ++ after) ≡ Err k)
parts_refused [] after k e = inl (sym (err_is _ _ e))
parts_refused (tag ∷ more) after k e = elim (chosen (eqb (tag % 32) 31) _ _ _ e) [
  | inl s ↦ inr (rw s.0 s.1)
  | inr s ↦ elim (body_refused tag more after k (length_at more) refl s.1) [
    | inl t ↦ inl t
    | inr t ↦ inr (rw s.0 t)
  ]
]

cut_goes : (prefix more : List ℕ) (tag : ℕ) (body : List ℕ) → Begins (prefix ++ more) tag body [] → more ≢ [] → (r : Result (ℕ × List ℕ × List ℕ) BerKind) → parts_at prefix ≡ r → r ≡ Err Short
cut_goes prefix more tag body h some (Ok p) is =
    absurd (some (more_none p.2 more (one_element (prefix ++ more) p.0 tag p.1 body (p.2 ++ more) [] (Begins-more prefix p.0 p.1 p.2 more (parts_found prefix p.0 p.1 p.2 is)) h).2))
  where
    more_none : (xs ys : List ℕ) → xs ++ ys ≡ [] → ys ≡ []
    more_none [] ys e = e
    more_none (x ∷ xs) ys e = absurd cc
cut_goes prefix more tag body h some (Err k) is = elim (parts_refused prefix more k is) [
  | inl s ↦ ap (λ (j : BerKind). Err j) s
  | inr s ↦ absurd (let p = sym (parts_only (prefix ++ more) tag body [] h) ∙ s in cc)
]

-- a proper prefix of an element is refused as short
pub element_cut : (stop tag : ℕ) (prefix more body : List ℕ) → Begins (prefix ++ more) tag body [] → more ≢ [] → element_at stop prefix ≡ Err (fault Short stop prefix)
unfolding element_at
element_cut stop tag prefix more body h some = ap (placed stop prefix) (cut_goes prefix more tag body h some (parts_at prefix) refl)

-- a proper prefix of an element is short, whatever tag is asked for
pub expect_cut : (tag other stop : ℕ) (prefix more body : List ℕ) → Begins (prefix ++ more) other body [] → more ≢ [] → expect_at tag stop prefix ≡ Err (fault Short stop prefix)
unfolding expect_at
expect_cut tag other stop prefix more body h some = rw (element_cut stop other prefix more body h some) refl

-- a proper prefix of an octet string is refused as short
pub octets_cut : {E : Type 0} (reword : BerFault → E) (tag other stop : ℕ) (prefix more body : List ℕ) → Begins (prefix ++ more) other body [] → more ≢ [] → reworded reword (octets_at tag stop prefix) ≡ Err (reword (fault Short stop prefix))
octets_cut reword tag other stop prefix more body h some = rw (expect_cut tag other stop prefix more body h some) refl

-- a proper prefix of a SEQUENCE is refused as short
pub sequence_cut : {X E : Type 0} (reword : BerFault → E) (tag other : ℕ) (f : Reading E X) (stop : ℕ) (prefix more body : List ℕ) → Begins (prefix ++ more) other body [] → more ≢ [] → sequence_at reword tag f stop prefix ≡ Err (reword (fault Short stop prefix))
sequence_cut reword tag other f stop prefix more body h some = rw (expect_cut tag other stop prefix more body h some) refl
