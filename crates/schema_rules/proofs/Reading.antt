-- Attributes as they came, one after another.
use Rattle.std.proofs.Common.{◌≡◌, ◌≢◌, ℕ, ◌+◌, ◌<◌, Bool, true, false, not, ◌&&◌, cond, nat_eq, List, [], ◌∷◌, ◌++◌, length, take, drop, get_or, Option, None, Some, ap, sym, ◌∙◌, refl}
use Rattle.std.specs.Option.{option_or, option_map}
use Rattle.std.specs.List.{filter_map, list_all}
use Rattle.std.proofs.lemmas.List.{take_more, take-append-drop}
use Rattle.ldap_constants.specs.declared.result_codes.TheConstants.{CONSTRAINT_VIOLATION, INVALID_ATTRIBUTE_SYNTAX}
use Rattle.schema_rules.specs.declared.raw.RawAttribute.{RawAttribute}
use Rattle.schema_rules.specs.declared.fault.SchemaFault.{SchemaFault}
use Rattle.schema_rules.specs.declared.fault.SchemaFault.TheVariants.{Code, NoMemory}
use Rattle.schema_rules.specs.Fault.{HasCode}
use Rattle.schema_rules.specs.Schema.{type_named, is_operational}
use Rattle.schema_rules.specs.Attributes.{raw_code, typed_code, values_code, is_of_syntax, is_given, first_code, typed, joined, with_values}
use Rattle.schema_rules.proofs.Lists.{filter_map_some, option_or-assoc}
use Rattle.schema_rules.proofs.Joined.{joined-push}

first_code-append : (xs ys : List RawAttribute) → first_code (xs ++ ys) ≡ option_or (first_code xs) (first_code ys)
first_code-append [] ys = refl
first_code-append (x ∷ xs) ys = ap (option_or (raw_code x)) (first_code-append xs ys) ∙ sym (option_or-assoc (raw_code x) (first_code xs) (first_code ys))

-- nothing rejects the next attribute either
pub first_code_none : (raws : List RawAttribute) (i : ℕ) (raw : RawAttribute) → i < length raws → raw ≡ get_or raws i raw → first_code (take i raws) ≡ None → raw_code raw ≡ None
    → first_code (take (i + 1) raws) ≡ None
first_code_none raws i raw low at before none =
    ap first_code (take_more raws i raw low ∙ ap (λ r. take i raws ++ r ∷ []) (sym at)) ∙ first_code-append (take i raws) (raw ∷ [])
    ∙ ap (λ o. option_or o (option_or (raw_code raw) None)) before ∙ ap (λ o. option_or o None) none

-- something rejects the next attribute
pub first_code_some : (raws : List RawAttribute) (i : ℕ) (raw : RawAttribute) (n : ℕ) → i < length raws → raw ≡ get_or raws i raw → first_code (take i raws) ≡ None → raw_code raw ≡ Some n
    → first_code raws ≡ Some n
first_code_some raws i raw n low at before some =
    ap first_code (sym (take-append-drop (i + 1) raws)) ∙ first_code-append (take (i + 1) raws) (drop (i + 1) raws)
    ∙ ap (λ o. option_or o (first_code (drop (i + 1) raws)))
    (ap first_code (take_more raws i raw low ∙ ap (λ r. take i raws ++ r ∷ []) (sym at)) ∙ first_code-append (take i raws) (raw ∷ [])
    ∙ ap (λ o. option_or o (option_or (raw_code raw) None)) before ∙ ap (λ o. option_or o None) some)

-- the next attribute joins the others
pub joined_more : (raws : List RawAttribute) (i : ℕ) (raw : RawAttribute) (kind : ℕ) → i < length raws → raw ≡ get_or raws i raw → type_named raw.name ≡ Some kind
    → joined (filter_map typed (take (i + 1) raws)) ≡ with_values (joined (filter_map typed (take i raws))) kind raw.values
joined_more raws i raw kind low at named =
    ap joined (filter_map_some typed raws i raw (record { kind = kind; values = raw.values }) low at
    (ap (option_map (λ k. record { kind = k; values = raw.values })) named))
    ∙ joined-push (filter_map typed (take i raws)) (record { kind = kind; values = raw.values })

-- ---- what is known where nothing rejects an attribute

-- a fault that has the first code of one list has that of another where this begins alike
pub HasCode-same : (one two : Option ℕ) (fault : SchemaFault) → ((n : ℕ) → one ≡ Some n → two ≡ Some n) → HasCode one fault → HasCode two fault
HasCode-same one two (Code n) same shown = same n shown
HasCode-same one two NoMemory same shown = tt

-- an attribute that no code rejects is one that clients may give
pub none_given : (kind : ℕ) (values : List (List ℕ)) → typed_code (Some kind) values ≡ None → is_given (record { kind = kind; values = values }) ≡ true
none_given kind values none = by (is_operational kind) none
  where
    rest : (long all : Bool) → cond {A = Option ℕ} long (Some INVALID_ATTRIBUTE_SYNTAX) (cond {A = Option ℕ} all None (Some INVALID_ATTRIBUTE_SYNTAX)) ≡ None → all ≡ true
    rest true all h = absurd (cc)
    rest false true h = refl
    rest false false h = absurd (cc)

    by : (b : Bool) → cond {A = Option ℕ} b (Some CONSTRAINT_VIOLATION) (values_code kind values) ≡ None → (not b && list_all (is_of_syntax kind) values) ≡ true
    by true h = absurd (cc)
    by false h = rest (nat_eq (length values) 0) (list_all (is_of_syntax kind) values) h

-- and it has a value
pub none_filled : (kind : ℕ) (values : List (List ℕ)) → typed_code (Some kind) values ≡ None → values ≢ []
none_filled kind [] none e = by (is_operational kind) none
  where
    by : (b : Bool) → cond {A = Option ℕ} b (Some CONSTRAINT_VIOLATION) (Some INVALID_ATTRIBUTE_SYNTAX) ≡ None → ⊥
    by true h = cc
    by false h = cc
none_filled kind (v ∷ values) none e = cc
