-- The canonical spelling is one of the spellings, where the whole is small.
use Rattle.std.proofs.Common.{◌≡◌, ◌≢◌, ℕ, ◌%◌, ◌^◌, ◌<◌, Bool, true, false, not, nat_eq, List, [], ◌∷◌, ◌++◌, length, Option, Some, None, refl, sym, subst, append_assoc, length-append, arith, inl, inr}
use Rattle.std.specs.Prelude.{IfSome, IfOk, Result, Ok, Err}
use Rattle.std.specs.List.{flat_map, AllByRecursion}
use Rattle.std.proofs.lemmas.List.{append-nil}
use Rattle.std.proofs.lemmas.List.Concat.{flat_map-cons}
use Rattle.ldap_ber.specs.Element.{Begins}
use Rattle.ldap_ber.specs.Reader.{tag_at}
use Rattle.ldap_ber.specs.Form.{Form, OctetString, Boolean, Optional, Default, Both, Meaning, MadeOf, Many, Tagged, Sequence, ListOf}
use Rattle.ldap_ber.specs.Canonical.{element, boolean_octets, option_octets, flag_octets}
use Rattle.ldap_ber.specs.Writer.{IsSmall}
use Rattle.ldap_ber.proofs.ElementLemmas.{element_spells, body_size}

-- what is written of a sound value, small enough to be counted in four octets, is a spelling of it, before what may follow
pub record Spelled {X : Type 0} (R : Form X) (write : X → List ℕ) (Sound : X → Type 0) (After : List ℕ → Type 0) : Type 0 where
  pub spells : (x : X) (rest : List ℕ) → length (write x) < 2 ^ 32 → Sound x → After rest → R (write x ++ rest) x rest

-- no condition on what follows
abbrev pub Anything : List ℕ → Type 0
Anything rest = Unit {0}

-- no condition on the value
abbrev pub Always : {X : Type 0} → X → Type 0
Always x = Unit {0}

-- no element with this tag comes next
abbrev pub Lacks : ℕ → List ℕ → Type 0
Lacks tag rest = tag_at rest ≡ Some tag → ⊥

-- no element comes next at the end
pub none_next : (tag : ℕ) → Lacks tag []
none_next tag e = cc

-- any octets that may be left out are sound
pub option_sound : (option : Option (List ℕ)) → IfSome option (Always {X = List ℕ})
option_sound None = tt
option_sound (Some octets) = tt

-- the canonical octet string is a spelling
pub octets_spelled : (tag : ℕ) → tag % 32 ≢ 31 → Spelled (OctetString tag) (element tag) (Always {X = List ℕ}) Anything
octets_spelled tag low = record { spells = λ x rest small sound after. element_spells tag x rest low (omega (arith, body_size tag x)) }

-- two canonical spellings one after another are a spelling of both
pub both_spelled : {X Y : Type 0} (R : Form X) (S : Form Y) (c : X → List ℕ) (d : Y → List ℕ) (F : X → Type 0) (G : Y → Type 0) (A B : List ℕ → Type 0)
    → Spelled R c F A → Spelled S d G B → ((y : Y) (rest : List ℕ) → G y → B rest → A (d y ++ rest))
    → Spelled (Both R S) (λ p. c p.0 ++ d p.1) (λ p. F p.0 × G p.1) B
both_spelled {X} {Y} R S c d F G A B p q next = record {
  spells = λ x rest small sound after. (
    d x.1 ++ rest,
    subst (λ (y : List ℕ). R y x.0 (d x.1 ++ rest)) (sym (append_assoc (c x.0) (d x.1) rest)) (p.spells x.0 (d x.1 ++ rest) (omega (arith, length-append (c x.0) (d x.1), small)) sound.0 (next x.1 rest sound.1 after)),
    q.spells x.1 rest (omega (arith, length-append (c x.0) (d x.1), small)) sound.1 after,
  );
}

optional_goes : {X : Type 0} (tag : ℕ) (R : Form X) (c : X → List ℕ) (F : X → Type 0) → Spelled R c F Anything → ((x : X) (rest : List ℕ) → tag_at (c x ++ rest) ≡ Some tag)
    → (o : Option X) (rest : List ℕ) → length (option_octets c o) < 2 ^ 32 → IfSome o F → Lacks tag rest → Optional tag R (option_octets c o ++ rest) o rest
optional_goes tag R c F p begins None rest small sound after = (refl, after)
optional_goes tag R c F p begins (Some x) rest small sound after = (begins x rest, p.spells x rest small sound tt)

-- the canonical spelling of an optional component is a spelling
pub optional_spelled : {X : Type 0} (tag : ℕ) (R : Form X) (c : X → List ℕ) (F : X → Type 0) → Spelled R c F Anything → ((x : X) (rest : List ℕ) → tag_at (c x ++ rest) ≡ Some tag)
    → Spelled (Optional tag R) (option_octets c) (λ o. IfSome o F) (Lacks tag)
optional_spelled tag R c F p begins = record { spells = optional_goes tag R c F p begins }

-- the canonical spelling of a SEQUENCE is a spelling
pub sequence_spelled : {X : Type 0} (tag : ℕ) (R : Form X) (c : X → List ℕ) (F : X → Type 0) (A : List ℕ → Type 0) → tag % 32 ≢ 31 → Spelled R c F A → A []
    → Spelled (Sequence tag R) (λ x. element tag (c x)) F Anything
sequence_spelled tag R c F A low p ends = record {
  spells = λ x rest small sound after.
      let less : length (c x) < 2 ^ 32 = omega (arith, body_size tag (c x), small) in
      (c x, [], element_spells tag (c x) rest low less, subst (λ (y : List ℕ). R y x []) (append-nil (c x)) (p.spells x [] less sound ends), ([], refl));
}

many_spelled : {X : Type 0} (R : Form X) (c : X → List ℕ) (F : X → Type 0) → Spelled R c F Anything → (xs : List X) → length (flat_map c xs) < 2 ^ 32 → AllByRecursion F xs → Many R (flat_map c xs) xs
many_spelled R c F p [] small sound = refl
many_spelled R c F p (x ∷ xs) small sound =
    let size = simp (flat_map-cons, length-append) at small in
    rw (flat_map-cons c x xs) (flat_map c xs, p.spells x (flat_map c xs) (omega (arith, size)) sound.0 tt, many_spelled R c F p xs (omega (arith, size)) sound.1)

-- the canonical spelling of a list is a spelling
pub list_spelled : {X : Type 0} (tag : ℕ) (R : Form X) (c : X → List ℕ) (F : X → Type 0) → tag % 32 ≢ 31 → Spelled R c F Anything
    → Spelled (ListOf tag R) (λ xs. element tag (flat_map c xs)) (AllByRecursion F) Anything
list_spelled tag R c F low p = record {
  spells = λ xs rest small sound after.
      let less : length (flat_map c xs) < 2 ^ 32 = omega (arith, body_size tag (flat_map c xs), small) in
      (flat_map c xs, element_spells tag (flat_map c xs) rest low less, many_spelled R c F p xs less sound);
}

-- the canonical spelling within a tag is a spelling
pub tagged_spelled : {X : Type 0} (tag : ℕ) (R : Form X) (c : X → List ℕ) (F : X → Type 0) (A : List ℕ → Type 0) → tag % 32 ≢ 31 → Spelled R c F A → A []
    → Spelled (Tagged tag R) (λ x. element tag (c x)) F Anything
tagged_spelled tag R c F A low p ends = record {
  spells = λ x rest small sound after.
      let less : length (c x) < 2 ^ 32 = omega (arith, body_size tag (c x), small) in
      (c x, element_spells tag (c x) rest low less, subst (λ (y : List ℕ). R y x []) (append-nil (c x)) (p.spells x [] less sound ends));
}

-- a component whose value stands for another one, which is sound where that one is
pub meaning_spelled : {X Y : Type 0} (P : X → Y → Type 0) (R : Form X) (c : X → List ℕ) (F : X → Type 0) (A : List ℕ → Type 0) (of : Y → X) (G : Y → Type 0)
    → ((y : Y) → G y → P (of y) y × F (of y)) → Spelled R c F A → Spelled (Meaning P R) (λ y. c (of y)) G A
meaning_spelled P R c F A of G back p = record {
  spells = λ y rest small sound after. let k = back y sound in (of y, p.spells (of y) rest small k.1 after, k.0);
}

-- the canonical spelling of the parts of a value is a spelling of the value
pub made_spelled : {X Y : Type 0} (parts : Y → X) (R : Form X) (c : X → List ℕ) (F : X → Type 0) (A : List ℕ → Type 0) → Spelled R c F A → Spelled (MadeOf parts R) (λ y. c (parts y)) (λ y. F (parts y)) A
made_spelled parts R c F A p = record { spells = λ y rest small sound after. p.spells (parts y) rest small sound after }

-- ---- truth values

boolean_back : (b : Bool) → (octet : ℕ) × (boolean_octets b ≡ octet ∷ []) × (b ≡ not (nat_eq octet 0))
boolean_back true = (255, refl, refl)
boolean_back false = (0, refl, refl)

boolean_goes : (tag : ℕ) → tag % 32 ≢ 31 → (b : Bool) (rest : List ℕ) → length (boolean_octets b) < 2 ^ 32 → Boolean tag (element tag (boolean_octets b) ++ rest) b rest
boolean_goes tag low b rest small =
    let o = boolean_back b in
    (o.0, subst (λ (y : List ℕ). Begins (element tag (boolean_octets b) ++ rest) tag y rest) o.1 (element_spells tag (boolean_octets b) rest low small), o.2)

-- the canonical truth value is a spelling
pub boolean_spelled : (tag : ℕ) → tag % 32 ≢ 31 → Spelled (Boolean tag) (λ b. element tag (boolean_octets b)) (Always {X = Bool}) Anything
boolean_spelled tag low = record { spells = λ b rest small sound after. boolean_goes tag low b rest (omega (arith, body_size tag (boolean_octets b), small)) }

-- an element begins with its tag
pub begins_with : (tag : ℕ) (body rest : List ℕ) → tag_at (element tag body ++ rest) ≡ Some tag
unfolding element
begins_with tag body rest = refl

flag_goes : (tag : ℕ) → tag % 32 ≢ 31 → (usual b : Bool) (rest : List ℕ) → Lacks tag rest → Default tag usual (Boolean tag) (flag_octets tag usual b ++ rest) b rest
flag_goes tag low true true rest after = inr (refl, refl, after)
flag_goes tag low false false rest after = inr (refl, refl, after)
flag_goes tag low true false rest after = inl (begins_with tag (0 ∷ []) rest, boolean_goes tag low false rest (omega arith))
flag_goes tag low false true rest after = inl (begins_with tag (255 ∷ []) rest, boolean_goes tag low true rest (omega arith))

-- the canonical truth value with a default is a spelling
pub flag_spelled : (tag : ℕ) → tag % 32 ≢ 31 → (usual : Bool) → Spelled (Default tag usual (Boolean tag)) (flag_octets tag usual) (Always {X = Bool}) (Lacks tag)
flag_spelled tag low usual = record { spells = λ b rest small sound after. flag_goes tag low usual b rest after }

-- ---- what was written

-- the whole that was written is a spelling, where nothing follows it
pub whole_spelled : {X : Type 0} (R : Form X) (c : X → List ℕ) (F : X → Type 0) (A : List ℕ → Type 0) → Spelled R c F A → A [] → (x : X) → F x → IsSmall (c x) → R (c x) x []
whole_spelled R c F A p ends x sound small = subst (λ (y : List ℕ). R y x []) (append-nil (c x)) (p.spells x [] small sound ends)

-- what was written has what its canonical spelling has
pub if_written : {E : Type 0} (r : Result (List ℕ) E) (w : List ℕ) (P : List ℕ → Type 0) → IfOk r (λ o. o ≡ w) → IfOk r IsSmall → (IsSmall w → P w) → IfOk r P
if_written (Ok o) w P is small h = subst P (sym is) (h (subst IsSmall is small))
if_written (Err e) w P is small h = tt

-- the same, where it also has to be sound
pub if_written_soundly : {E : Type 0} (r : Result (List ℕ) E) (w : List ℕ) (S : Type 0) (P : List ℕ → Type 0) → IfOk r (λ o. o ≡ w) → IfOk r IsSmall → IfOk r (λ o. S) → (S → IsSmall w → P w) → IfOk r P
if_written_soundly (Ok o) w S P is small sound h = subst P (sym is) (h sound (subst IsSmall is small))
if_written_soundly (Err e) w S P is small sound h = tt
