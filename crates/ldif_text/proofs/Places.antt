-- What a write at the place of a type makes of the attributes.
use Rattle.std.proofs.Common.{◌≡◌, ◌+◌, ◌<◌, ℕ, List, [], ◌∷◌, ◌++◌, length, set, get_or, refl, ap, inl, inr, arith}
use Rattle.std.proofs.lemmas.Bool.{cases_Bool}
use Rattle.std.specs.List.{position_or_len}
use Rattle.std.proofs.Math.Numerals.{one-add}
use Rattle.schema_rules.specs.declared.raw.RawAttribute.{RawAttribute}
use Rattle.ldif_text.specs.Record.{with_value, is_of_type}

-- a value more of a type that is there
pub with_value-there : (attrs : List RawAttribute) (name value : List ℕ) (x : RawAttribute) → position_or_len (is_of_type name) attrs < length attrs → x ≡ get_or attrs (position_or_len (is_of_type name) attrs) x
    → set attrs (position_or_len (is_of_type name) attrs) (record { name = x.name; values = x.values ++ value ∷ [] }) ≡ with_value attrs name value
with_value-there [] name value x l r = absurd (omega arith)
with_value-there (a ∷ attrs) name value x l r =
    elim (cases_Bool (is_of_type name a)) [
      | inl hit ↦ let same : x ≡ a = rw hit at r in rw hit (ap (λ (y : RawAttribute). record { name = y.name; values = y.values ++ value ∷ [] } ∷ attrs) same)
      | inr miss ↦
          let l' : 1 + position_or_len (is_of_type name) attrs < length (a ∷ attrs) = rw miss at l in
          let r' = rw (miss, one-add) at r in
          rw (miss, one-add) (ap (λ l. a ∷ l) (with_value-there attrs name value x (omega arith) r'))
    ]

-- a value of a type that is not there yet
pub with_value-new : (attrs : List RawAttribute) (name value : List ℕ) → length attrs ≡ position_or_len (is_of_type name) attrs
    → attrs ++ record { name = name; values = value ∷ [] } ∷ [] ≡ with_value attrs name value
with_value-new [] name value e = refl
with_value-new (a ∷ attrs) name value e =
    elim (cases_Bool (is_of_type name a)) [
      | inl hit ↦ let z : length (a ∷ attrs) ≡ 0 = rw hit at e in absurd (omega arith)
      | inr miss ↦
          let e' : length (a ∷ attrs) ≡ 1 + position_or_len (is_of_type name) attrs = rw miss at e in
          rw miss (ap (λ l. a ∷ l) (with_value-new attrs name value (omega arith)))
    ]
