-- One more attribute in front of the joining of attributes by type.
use Rattle.std.proofs.Common.{◌≡◌, ℕ, Bool, true, false, not, ◌||◌, cond, nat_eq, List, [], ◌∷◌, ◌++◌, map, ap, sym, ◌∙◌, refl, append-nil}
use Rattle.std.specs.List.{filter, flat_map, list_any}
use Rattle.std.proofs.lemmas.Bool.{eqb-true, eq-eqb}
use Rattle.std.specs.Cmp.{nat_eq_equiv}
use Rattle.std.proofs.lemmas.List.{map-append}
use Rattle.std.proofs.lemmas.Grind.{flat_map-append}
use Rattle.std.proofs.lemmas.List.Elements.{filter-append}
use Rattle.schema_rules.specs.declared.attributes.Attribute.{Attribute}
use Rattle.schema_rules.specs.Attributes.{kinds_of, values_of, joined, with_values}

false_left : (a b : Bool) → (a || b) ≡ false → a ≡ false
false_left true b h = h
false_left false b h = refl

false_right : (a b : Bool) → (a || b) ≡ false → b ≡ false
false_right true b h = absurd (cc)
false_right false b h = h

-- ---- numbers of types

abbrev among : ℕ → List ℕ → Bool
among kind kinds = list_any (λ k. nat_eq k kind) kinds

abbrev others : ℕ → List ℕ → List ℕ
others kind kinds = filter (λ k. not (nat_eq k kind)) kinds

nat_eq_sym : (a b : ℕ) → nat_eq a b ≡ nat_eq b a
nat_eq_sym a b = nat_eq_equiv.symm a b

among-others : (kind x : ℕ) → nat_eq x kind ≡ false → (ks : List ℕ) → among kind (others x ks) ≡ among kind ks
among-others kind x differ [] = refl
among-others kind x differ (k ∷ ks) = by (nat_eq k x) refl (among-others kind x differ ks)
  where
    by : (b : Bool) → nat_eq k x ≡ b → among kind (others x ks) ≡ among kind ks → among kind (cond (not b) (k ∷ others x ks) (others x ks)) ≡ (nat_eq k kind || among kind ks)
    by true e ih = ih ∙ sym (ap (λ c. c || among kind ks) (ap (λ n. nat_eq n kind) (eqb-true k x e) ∙ differ))
    by false e ih = ap (λ c. nat_eq k kind || c) ih

among-others_same : (kind : ℕ) (ks : List ℕ) → among kind (others kind ks) ≡ false
among-others_same kind [] = refl
among-others_same kind (k ∷ ks) = by (nat_eq k kind) refl (among-others_same kind ks)
  where
    by : (b : Bool) → nat_eq k kind ≡ b → among kind (others kind ks) ≡ false → among kind (cond (not b) (k ∷ others kind ks) (others kind ks)) ≡ false
    by true e ih = ih
    by false e ih = ap (λ c. c || among kind (others kind ks)) e ∙ ih

among-others_absent : (kind x : ℕ) (ks : List ℕ) → among kind ks ≡ false → among kind (others x ks) ≡ false
among-others_absent kind x ks absent = by (nat_eq x kind) refl
  where
    by : (b : Bool) → nat_eq x kind ≡ b → among kind (others x ks) ≡ false
    by true e = ap (λ n. among kind (others n ks)) (eqb-true x kind e) ∙ among-others_same kind ks
    by false e = among-others kind x e ks ∙ absent

-- no number comes twice
abbrev IsOnce : List ℕ → Type 0
IsOnce [] = Unit {0}
IsOnce (k ∷ ks) = (among k ks ≡ false) × IsOnce ks

IsOnce-others : (x : ℕ) (ks : List ℕ) → IsOnce ks → IsOnce (others x ks)
IsOnce-others x [] once = tt
IsOnce-others x (k ∷ ks) once = by (nat_eq k x) (IsOnce-others x ks once.1)
  where
    by : (b : Bool) → IsOnce (others x ks) → IsOnce (cond (not b) (k ∷ others x ks) (others x ks))
    by true ih = ih
    by false ih = (among-others_absent k x ks once.0, ih)

IsOnce-kinds_of : (xs : List Attribute) → IsOnce (kinds_of xs)
IsOnce-kinds_of [] = tt
IsOnce-kinds_of (x ∷ xs) = (among-others_same x.kind (kinds_of xs), IsOnce-others x.kind (kinds_of xs) (IsOnce-kinds_of xs))

kinds_of-push : (xs : List Attribute) (a : Attribute) → kinds_of (xs ++ a ∷ []) ≡ cond (among a.kind (kinds_of xs)) (kinds_of xs) (kinds_of xs ++ a.kind ∷ [])
kinds_of-push [] a = refl
kinds_of-push (x ∷ xs) a = ap (λ ks. x.kind ∷ others x.kind ks) (kinds_of-push xs a) ∙ by (nat_eq x.kind a.kind) refl
  where
    ks : List ℕ
    ks = kinds_of xs

    kept : nat_eq x.kind a.kind ≡ true → (c : Bool) → (x.kind ∷ others x.kind (cond c ks (ks ++ a.kind ∷ []))) ≡ x.kind ∷ others x.kind ks
    kept e true = refl
    kept e false =
        ap (λ l. x.kind ∷ l) (filter-append (λ k. not (nat_eq k x.kind)) ks (a.kind ∷ [])
        ∙ ap (λ b. others x.kind ks ++ cond (not b) (a.kind ∷ []) []) (nat_eq_sym a.kind x.kind ∙ e) ∙ append-nil (others x.kind ks))

    apart : nat_eq x.kind a.kind ≡ false → (c : Bool)
        → (x.kind ∷ others x.kind (cond c ks (ks ++ a.kind ∷ []))) ≡ cond c (x.kind ∷ others x.kind ks) (x.kind ∷ (others x.kind ks ++ a.kind ∷ []))
    apart e true = refl
    apart e false =
        ap (λ l. x.kind ∷ l) (filter-append (λ k. not (nat_eq k x.kind)) ks (a.kind ∷ [])
        ∙ ap (λ b. others x.kind ks ++ cond (not b) (a.kind ∷ []) []) (nat_eq_sym a.kind x.kind ∙ e))

    by : (b : Bool) → nat_eq x.kind a.kind ≡ b
        → (x.kind ∷ others x.kind (cond (among a.kind ks) ks (ks ++ a.kind ∷ [])))
        ≡ cond (b || among a.kind (others x.kind ks)) (x.kind ∷ others x.kind ks) (x.kind ∷ (others x.kind ks ++ a.kind ∷ []))
    by true e = kept e (among a.kind ks)
    by false e =
        apart e (among a.kind ks)
        ∙ ap (λ c. cond c (x.kind ∷ others x.kind ks) (x.kind ∷ (others x.kind ks ++ a.kind ∷ []))) (sym (among-others a.kind x.kind e ks))

-- ---- values of a type

values_of-absent : (xs : List Attribute) (kind : ℕ) → among kind (kinds_of xs) ≡ false → values_of xs kind ≡ []
values_of-absent [] kind absent = refl
values_of-absent (x ∷ xs) kind absent =
    let differ = false_left (nat_eq x.kind kind) (among kind (others x.kind (kinds_of xs))) absent in
    let rest = false_right (nat_eq x.kind kind) (among kind (others x.kind (kinds_of xs))) absent in
    ap (λ b. flat_map (λ (a : Attribute). a.values) (cond b (x ∷ filter (λ (a : Attribute). nat_eq a.kind kind) xs) (filter (λ (a : Attribute). nat_eq a.kind kind) xs))) differ
    ∙ values_of-absent xs kind (sym (among-others kind x.kind differ (kinds_of xs)) ∙ rest)

values_of-push : (xs : List Attribute) (a : Attribute) (kind : ℕ) (b : Bool) → nat_eq a.kind kind ≡ b
    → values_of (xs ++ a ∷ []) kind ≡ values_of xs kind ++ cond b a.values []
values_of-push xs a kind b e =
    ap (flat_map (λ (x : Attribute). x.values)) (filter-append (λ (x : Attribute). nat_eq x.kind kind) xs (a ∷ []))
    ∙ flat_map-append (λ (x : Attribute). x.values) (filter (λ (x : Attribute). nat_eq x.kind kind) xs) _
    ∙ ap (λ c. values_of xs kind ++ flat_map (λ (x : Attribute). x.values) (cond c (a ∷ []) [])) e
    ∙ ap (λ vs. values_of xs kind ++ vs) (one b)
  where
    one : (c : Bool) → flat_map (λ (x : Attribute). x.values) (cond c (a ∷ []) []) ≡ cond c a.values []
    one true = append-nil a.values
    one false = refl

-- ---- one attribute for each type

-- all values of a type
abbrev gathered : List Attribute → ℕ → Attribute
gathered xs kind = record { kind = kind; values = values_of xs kind }

gathered-push : (xs : List Attribute) (a : Attribute) (kind : ℕ) (b : Bool) → nat_eq a.kind kind ≡ b
    → gathered (xs ++ a ∷ []) kind ≡ record { kind = kind; values = values_of xs kind ++ cond b a.values [] }
gathered-push xs a kind b e = ap (λ vs. record { kind = kind; values = vs }) (values_of-push xs a kind b e)

gathered-push_other : (xs : List Attribute) (a : Attribute) (kind : ℕ) → nat_eq kind a.kind ≡ false → gathered (xs ++ a ∷ []) kind ≡ gathered xs kind
gathered-push_other xs a kind e =
    gathered-push xs a kind false (nat_eq_sym a.kind kind ∙ e) ∙ ap (λ vs. record { kind = kind; values = vs }) (append-nil (values_of xs kind))

map-gathered_other : (xs : List Attribute) (a : Attribute) (ks : List ℕ) → among a.kind ks ≡ false → map (gathered (xs ++ a ∷ [])) ks ≡ map (gathered xs) ks
map-gathered_other xs a [] absent = refl
map-gathered_other xs a (k ∷ ks) absent =
    let first = gathered-push_other xs a k (false_left (nat_eq k a.kind) (among a.kind ks) absent) in
    let rest = map-gathered_other xs a ks (false_right (nat_eq k a.kind) (among a.kind ks) absent) in
    ap (λ y. y ∷ map (gathered (xs ++ a ∷ [])) ks) first ∙ ap (λ ys. gathered xs k ∷ ys) rest

with_values-gathered : (xs : List Attribute) (a : Attribute) (ks : List ℕ) → IsOnce ks
    → with_values (map (gathered xs) ks) a.kind a.values
    ≡ cond (among a.kind ks) (map (gathered (xs ++ a ∷ [])) ks) (map (gathered xs) ks ++ a ∷ [])
with_values-gathered xs a [] once = refl
with_values-gathered xs a (k ∷ ks) once = by (nat_eq k a.kind) refl (with_values-gathered xs a ks once.1)
  where
    more : List Attribute
    more = xs ++ a ∷ []

    later : nat_eq k a.kind ≡ false → (c : Bool)
        → (gathered xs k ∷ cond c (map (gathered more) ks) (map (gathered xs) ks ++ a ∷ []))
        ≡ cond c (gathered more k ∷ map (gathered more) ks) (gathered xs k ∷ (map (gathered xs) ks ++ a ∷ []))
    later e true = ap (λ y. y ∷ map (gathered more) ks) (sym (gathered-push_other xs a k e))
    later e false = refl

    by : (b : Bool) → nat_eq k a.kind ≡ b
        → with_values (map (gathered xs) ks) a.kind a.values ≡ cond (among a.kind ks) (map (gathered more) ks) (map (gathered xs) ks ++ a ∷ [])
        → cond b (record { kind = k; values = values_of xs k ++ a.values } ∷ map (gathered xs) ks) (gathered xs k ∷ with_values (map (gathered xs) ks) a.kind a.values)
        ≡ cond (b || among a.kind ks) (gathered more k ∷ map (gathered more) ks) (gathered xs k ∷ (map (gathered xs) ks ++ a ∷ []))
    by true e ih =
        let absent = ap (λ n. among n ks) (sym (eqb-true k a.kind e)) ∙ once.0 in
        ap (λ ys. record { kind = k; values = values_of xs k ++ a.values } ∷ ys) (sym (map-gathered_other xs a ks absent))
        ∙ ap (λ y. y ∷ map (gathered more) ks) (sym (gathered-push xs a k true (nat_eq_sym a.kind k ∙ e)))
    by false e ih = ap (λ ys. gathered xs k ∷ ys) ih ∙ later e (among a.kind ks)

-- the values of one more attribute go after those of its type
pub joined-push : (xs : List Attribute) (a : Attribute) → joined (xs ++ a ∷ []) ≡ with_values (joined xs) a.kind a.values
joined-push xs a =
    ap (map (gathered more)) (kinds_of-push xs a) ∙ by (among a.kind (kinds_of xs)) refl ∙ sym (with_values-gathered xs a (kinds_of xs) (IsOnce-kinds_of xs))
  where
    more : List Attribute
    more = xs ++ a ∷ []

    by : (c : Bool) → among a.kind (kinds_of xs) ≡ c
        → map (gathered more) (cond c (kinds_of xs) (kinds_of xs ++ a.kind ∷ [])) ≡ cond c (map (gathered more) (kinds_of xs)) (map (gathered xs) (kinds_of xs) ++ a ∷ [])
    by true e = refl
    by false e =
        map-append (gathered more) (kinds_of xs) (a.kind ∷ []) ∙ ap (λ ys. ys ++ gathered more a.kind ∷ []) (map-gathered_other xs a (kinds_of xs) e)
        ∙ ap (λ y. map (gathered xs) (kinds_of xs) ++ y ∷ []) (gathered-push xs a a.kind true (eq-eqb a.kind a.kind refl)
        ∙ ap (λ vs. record { kind = a.kind; values = vs ++ a.values }) (values_of-absent xs a.kind e))
