-- Attributes of which each has a type of its own are joined as they are.
use Rattle.std.proofs.Common.{◌≡◌, ◌≢◌, ℕ, suc, Bool, true, false, not, ◌&&◌, ◌==◌, cond, List, [], ◌∷◌, ◌++◌, map, append-nil, ap, sym, ◌∙◌, refl, arith}
use Rattle.std.specs.List.{All, AllPairs, list_all, filter, flat_map}
use Rattle.std.proofs.lemmas.Bool.{ne_eqb, eq-eqb, eqb-false, and_parts, not-true}
use Rattle.std.proofs.lemmas.List.Elements.{All-head, All-tail}
use Rattle.schema_rules.specs.declared.attributes.Attribute.{Attribute}
use Rattle.schema_rules.specs.Attributes.{kinds_of, values_of, joined, IsAttributeList}

abbrev kind_in : Attribute → ℕ
kind_in a = a.kind

-- none is of that type
abbrev lack : ℕ → List Attribute → Bool
lack kind attrs = list_all (λ a. not (a.kind == kind)) attrs

apart : (kind : ℕ) (attrs : List Attribute) → All (λ a. kind ≢ a.kind) attrs → lack kind attrs ≡ true
apart kind [] all = refl
apart kind (a ∷ attrs) all =
    let here = All-head (λ a. kind ≢ a.kind) a attrs all in
    ap (λ b. not b && lack kind attrs) (ne_eqb a.kind kind (λ same. here (sym same))) ∙ apart kind attrs (All-tail (λ a. kind ≢ a.kind) a attrs all)

-- ---- the types

others_kept : (kind : ℕ) (attrs : List Attribute) → lack kind attrs ≡ true → filter (λ other. not (other == kind)) (map kind_in attrs) ≡ map kind_in attrs
others_kept kind [] none = refl
others_kept kind (a ∷ attrs) none =
    let h = and_parts (not (a.kind == kind)) (lack kind attrs) none in
    let rest = filter (λ other. not (other == kind)) (map kind_in attrs) in
    ap (λ b. cond b (a.kind ∷ rest) rest) h.0 ∙ ap (λ kinds. a.kind ∷ kinds) (others_kept kind attrs h.1)

-- the first is apart from the others, and these from one another
abbrev Once : List Attribute → Type 0
Once [] = Unit {0}
Once (a ∷ attrs) = (lack a.kind attrs ≡ true) × Once attrs

once : (attrs : List Attribute) → AllPairs (λ a b. a.kind ≢ b.kind) attrs → Once attrs
once [] pairs = tt
once (a ∷ attrs) pairs =
    (apart a.kind attrs (λ i d low. pairs 0 (suc i) d (omega arith) (omega arith)), once attrs (λ i j d low high. pairs (suc i) (suc j) d (omega arith) (omega arith)))

kinds_once : (attrs : List Attribute) → Once attrs → kinds_of attrs ≡ map kind_in attrs
kinds_once [] h = refl
kinds_once (a ∷ attrs) h =
    ap (λ kinds. a.kind ∷ filter (λ other. not (other == a.kind)) kinds) (kinds_once attrs h.1) ∙ ap (λ kinds. a.kind ∷ kinds) (others_kept a.kind attrs h.0)

-- ---- the values

no_values : (kind : ℕ) (attrs : List Attribute) → lack kind attrs ≡ true → values_of attrs kind ≡ []
no_values kind [] none = refl
no_values kind (a ∷ attrs) none =
    let h = and_parts (not (a.kind == kind)) (lack kind attrs) none in
    let rest = filter (λ other. other.kind == kind) attrs in
    ap (λ b. flat_map (λ other. other.values) (cond b (a ∷ rest) rest)) (not-true (a.kind == kind) h.0) ∙ no_values kind attrs h.1

abbrev gathered : List Attribute → ℕ → Attribute
gathered attrs kind = record { kind = kind; values = values_of attrs kind }

gathered_first : (a : Attribute) (attrs : List Attribute) → lack a.kind attrs ≡ true → gathered (a ∷ attrs) a.kind ≡ a
gathered_first a attrs none =
    let rest = filter (λ other. other.kind == a.kind) attrs in
    let values : values_of (a ∷ attrs) a.kind ≡ a.values =
    ap (λ b. flat_map (λ other. other.values) (cond b (a ∷ rest) rest)) (eq-eqb a.kind a.kind refl)
    ∙ ap (λ more. a.values ++ more) (no_values a.kind attrs none) ∙ append-nil a.values in
    ap (λ vs. record { kind = a.kind; values = vs }) values

gathered_other : (a : Attribute) (attrs : List Attribute) (kind : ℕ) → (kind == a.kind) ≡ false → gathered (a ∷ attrs) kind ≡ gathered attrs kind
gathered_other a attrs kind other =
    let rest = filter (λ b. b.kind == kind) attrs in
    ap (λ b. record { kind = kind; values = flat_map (λ c. c.values) (cond b (a ∷ rest) rest) })
    (ne_eqb a.kind kind (λ same. eqb-false kind a.kind other (sym same)))

gathered_others : (a : Attribute) (attrs more : List Attribute) → lack a.kind more ≡ true → map (gathered (a ∷ attrs)) (map kind_in more) ≡ map (gathered attrs) (map kind_in more)
gathered_others a attrs [] none = refl
gathered_others a attrs (b ∷ more) none =
    let h = and_parts (not (b.kind == a.kind)) (lack a.kind more) none in
    ap (λ first. first ∷ map (gathered (a ∷ attrs)) (map kind_in more)) (gathered_other a attrs b.kind (not-true (b.kind == a.kind) h.0))
    ∙ ap (λ rest. gathered attrs b.kind ∷ rest) (gathered_others a attrs more h.1)

gathered_once : (attrs : List Attribute) → Once attrs → map (gathered attrs) (map kind_in attrs) ≡ attrs
gathered_once [] h = refl
gathered_once (a ∷ attrs) h =
    ap (λ first. first ∷ map (gathered (a ∷ attrs)) (map kind_in attrs)) (gathered_first a attrs h.0)
    ∙ ap (λ rest. a ∷ rest) (gathered_others a attrs attrs h.0 ∙ gathered_once attrs h.1)

-- joining the attributes of a list that has each type once leaves it
pub joined-once : (attrs : List Attribute) → IsAttributeList attrs → joined attrs ≡ attrs
joined-once attrs is =
    let h = once attrs is.once in
    ap (map (gathered attrs)) (kinds_once attrs h) ∙ gathered_once attrs h
