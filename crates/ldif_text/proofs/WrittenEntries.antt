-- What is written of an entry is read again as the add of that entry.
use Rattle.std.proofs.Common.{◌≡◌, ◌≢◌, ◌<◌, ℕ, suc, Bool, true, false, not, ◌&&◌, Some, None, Ok, List, [], ◌∷◌, ◌++◌, length, map, get_or, refl, ap, sym, subst, ◌∙◌, inl, inr, arith, append_assoc, zero-add}
use Rattle.std.proofs.lemmas.Bool.{cases_Bool, and_parts, not-true}
use Rattle.std.proofs.lemmas.List.{append-nil}
use Rattle.std.proofs.lemmas.List.Folds.{list_any-append}
use Rattle.std.proofs.lemmas.List.FromFn.{get_or-map-range_with_len}
use Rattle.std.proofs.lemmas.Slice.Eq.{bytes_eq-Decides}
use Rattle.std.specs.Prelude.{codes, All, AllPairs}
use Rattle.std.specs.List.{list_all, list_any, flat_map, range_with_len}
use Rattle.std.specs.Str.{bytes_eq, str_eq_ignore_ascii_case, str_to_ascii_lowercase}
use Rattle.base64.specs.GeneralPurpose.{IsBytes}
use Rattle.schema_rules.specs.declared.attributes.Attribute.{Attribute}
use Rattle.schema_rules.specs.declared.raw.RawAttribute.{RawAttribute}
use Rattle.schema_rules.specs.declared.raw.Change.TheVariants.{Add}
use Rattle.schema_rules.specs.Schema.{types, type_name}
use Rattle.schema_rules.proofs.Tables.{found_by_name, type_named-alike}
use Rattle.ldif_text.specs.declared.field.Field.{Field}
use Rattle.ldif_text.specs.Lines.{unfolded, from_content, text_lines}
use Rattle.ldif_text.specs.Record.{with_value, is_of_type}
use Rattle.ldif_text.specs.Reader.{RecordReader, record_from}
use Rattle.schema_rules.specs.Attributes.{raw_of}
use Rattle.ldif_text.specs.Written.{value_text, line_text, attributes_text, entry_text, IsEntry}
use Rattle.ldif_text.proofs.WrittenLines.{in_line, is_good_name, body_of_field, joined_text, lines-joined_text, field_in_line}
use Rattle.ldif_text.proofs.WrittenRecords.{AreGood, numbered, blank_after, unfolded-fields, joined_onto, name_field, after_fields, fields_back, blank_rest}

abbrev field : List ℕ → List ℕ → Field
field name value = record { name = name; value = value }

abbrev raw : List ℕ → List (List ℕ) → RawAttribute
raw name values = record { name = name; values = values }

-- a field for each value, in the order held
abbrev fields_of : List Attribute → List Field
fields_of attrs = flat_map (λ a. map (field (type_name a.kind)) a.values) attrs

-- ---- the text as lines

line_body : (name value : List ℕ) → line_text name value ≡ body_of_field (field name value) ++ 10 ∷ []
unfolding line_text
line_body name value = sym (append_assoc name (value_text value) (10 ∷ []))

attribute_body : (name : List ℕ) (values : List (List ℕ)) → flat_map (line_text name) values ≡ joined_text (map body_of_field (map (field name) values))
attribute_body name [] = refl
attribute_body name (v ∷ values) =
    ap (λ l. l ++ flat_map (line_text name) values) (line_body name v) ∙ ap (λ t. (body_of_field (field name v) ++ 10 ∷ []) ++ t) (attribute_body name values)

joined_append : (xs ys : List (List ℕ)) → joined_text (xs ++ ys) ≡ joined_text xs ++ joined_text ys
joined_append [] ys = refl
joined_append (x ∷ xs) ys = ap (λ t. (x ++ 10 ∷ []) ++ t) (joined_append xs ys) ∙ sym (append_assoc (x ++ 10 ∷ []) (joined_text xs) (joined_text ys))

map_append : (xs ys : List Field) → map body_of_field (xs ++ ys) ≡ map body_of_field xs ++ map body_of_field ys
map_append [] ys = refl
map_append (x ∷ xs) ys = ap (λ t. body_of_field x ∷ t) (map_append xs ys)

attributes_body : (attrs : List Attribute) → attributes_text attrs ≡ joined_text (map body_of_field (fields_of attrs))
attributes_body [] = refl
attributes_body (a ∷ attrs) =
    let here = map (field (type_name a.kind)) a.values in
    ap (λ t. t ++ attributes_text attrs) (attribute_body (type_name a.kind) a.values)
    ∙ ap (λ t. joined_text (map body_of_field here) ++ t) (attributes_body attrs)
    ∙ sym (joined_append (map body_of_field here) (map body_of_field (fields_of attrs)))
    ∙ ap joined_text (sym (map_append here (fields_of attrs)))

entry_body : (name : List ℕ) (attrs : List Attribute) → entry_text name attrs None ≡ joined_text (map body_of_field (name_field name ∷ fields_of attrs) ++ [] ∷ [])
entry_body name attrs =
    ap (λ l. l ++ (attributes_text attrs ++ 10 ∷ [])) (line_body (codes "dn") name)
    ∙ ap (λ t. (body_of_field (name_field name) ++ 10 ∷ []) ++ (t ++ 10 ∷ [])) (attributes_body attrs)
    ∙ ap (λ t. (body_of_field (name_field name) ++ 10 ∷ []) ++ t) (sym (joined_append (map body_of_field (fields_of attrs)) ([] ∷ [])))

-- ---- names of types

all_good : map (λ n. is_good_name (type_name n) && not (bytes_eq (type_name n) (codes "changetype"))) (range_with_len 0 24) ≡ map (λ n. true) (range_with_len 0 24)
unfolding types
all_good = refl

good_type : (kind : ℕ) → kind < 24 → (is_good_name (type_name kind) ≡ true) × (bytes_eq (type_name kind) (codes "changetype") ≡ false)
good_type kind low =
    let test = λ (n : ℕ). is_good_name (type_name n) && not (bytes_eq (type_name n) (codes "changetype")) in
    let passes : (is_good_name (type_name kind) && not (bytes_eq (type_name kind) (codes "changetype"))) ≡ true =
    sym (get_or-map-range_with_len test 0 24 kind kind false low (zero-add kind)) ∙ ap (λ all. get_or all kind false) all_good ∙ get_or-map-range_with_len (λ n. true) 0 24 kind kind false low (zero-add kind) in
    let h = and_parts (is_good_name (type_name kind)) _ passes in
    (h.0, not-true (bytes_eq (type_name kind) (codes "changetype")) h.1)

known_below : (kind : ℕ) → kind < length types → kind < 24
unfolding types
known_below kind low = omega (arith, low)

-- two types have names that differ in more than case
apart : (one other : ℕ) → one < 24 → other < 24 → one ≢ other → str_eq_ignore_ascii_case (type_name one) (type_name other) ≡ false
apart one other low high differ =
    elim (cases_Bool (str_eq_ignore_ascii_case (type_name one) (type_name other))) [
      | inl hit ↦
          let same : Some one ≡ Some other = sym (found_by_name one one refl low) ∙ type_named-alike (type_name one) (type_name other) hit ∙ found_by_name other other refl high in
          absurd (differ cc)
      | inr miss ↦ miss
    ]

same_type : (name : List ℕ) → str_eq_ignore_ascii_case name name ≡ true
same_type name = (bytes_eq-Decides (str_to_ascii_lowercase name) (str_to_ascii_lowercase name)).1 refl

-- ---- values joined by type

new_type : (attrs : List RawAttribute) (name value : List ℕ) → list_any (is_of_type name) attrs ≡ false → with_value attrs name value ≡ attrs ++ raw name (value ∷ []) ∷ []
new_type [] name value e = refl
new_type (a ∷ attrs) name value e =
    elim (cases_Bool (is_of_type name a)) [
      | inl hit ↦ let bad : true ≡ false = rw hit at e in cc
      | inr miss ↦ let e' : list_any (is_of_type name) attrs ≡ false = rw miss at e in rw miss (ap (λ l. a ∷ l) (new_type attrs name value e'))
    ]

more_values : (attrs : List RawAttribute) (name value : List ℕ) (values : List (List ℕ)) → list_any (is_of_type name) attrs ≡ false
    → with_value (attrs ++ raw name values ∷ []) name value ≡ attrs ++ raw name (values ++ value ∷ []) ∷ []
more_values [] name value values e = rw (same_type name) refl
more_values (a ∷ attrs) name value values e =
    elim (cases_Bool (is_of_type name a)) [
      | inl hit ↦ let bad : true ≡ false = rw hit at e in cc
      | inr miss ↦ let e' : list_any (is_of_type name) attrs ≡ false = rw miss at e in rw miss (ap (λ l. a ∷ l) (more_values attrs name value values e'))
    ]

values_joined : (attrs : List RawAttribute) (name : List ℕ) (before values : List (List ℕ)) → list_any (is_of_type name) attrs ≡ false
    → joined_onto (attrs ++ raw name before ∷ []) (map (field name) values) ≡ attrs ++ raw name (before ++ values) ∷ []
values_joined attrs name before [] e = ap (λ vs. attrs ++ raw name vs ∷ []) (sym (append-nil before))
values_joined attrs name before (v ∷ values) e =
    ap (λ rs. joined_onto rs (map (field name) values)) (more_values attrs name v before e)
    ∙ values_joined attrs name (before ++ v ∷ []) values e
    ∙ ap (λ vs. attrs ++ raw name vs ∷ []) (append_assoc before (v ∷ []) values)

attribute_joined : (attrs : List RawAttribute) (name : List ℕ) (values : List (List ℕ)) → values ≢ [] → list_any (is_of_type name) attrs ≡ false
    → joined_onto attrs (map (field name) values) ≡ attrs ++ raw name values ∷ []
attribute_joined attrs name [] filled e = absurd (filled refl)
attribute_joined attrs name (v ∷ values) filled e =
    ap (λ rs. joined_onto rs (map (field name) values)) (new_type attrs name v e) ∙ values_joined attrs name (v ∷ []) values e

joined_onto-append : (attrs : List RawAttribute) (fs gs : List Field) → joined_onto attrs (fs ++ gs) ≡ joined_onto (joined_onto attrs fs) gs
joined_onto-append attrs [] gs = refl
joined_onto-append attrs (f ∷ fs) gs = joined_onto-append (with_value attrs f.name f.value) fs gs

-- what is known of the attributes: types of the table, values of bytes, none without values
abbrev AreKnown : List Attribute → Type 0
AreKnown [] = Unit {0}
AreKnown (a ∷ attrs) = (a.kind < 24) × (a.values ≢ []) × (All IsBytes a.values) × AreKnown attrs

-- no attribute is of a type that is among those
abbrev AreNew : List RawAttribute → List Attribute → Type 0
AreNew done [] = Unit {0}
AreNew done (a ∷ attrs) = (list_any (is_of_type (type_name a.kind)) done ≡ false) × AreNew done attrs

new_beside : (done : List RawAttribute) (a : Attribute) (attrs : List Attribute) → a.kind < 24 → AreKnown attrs → All (λ b. a.kind ≢ b.kind) attrs → AreNew done attrs
    → AreNew (done ++ raw_of a ∷ []) attrs
new_beside done a [] low known differ new = tt
new_beside done a (b ∷ attrs) low known differ new =
    let other = apart a.kind b.kind low known.0 (differ 0 b (omega arith)) in (
      list_any-append (is_of_type (type_name b.kind)) done (raw_of a ∷ []) ∙ rw (new.0, other) refl,
      new_beside done a attrs low known.3 (λ k d l. differ (suc k) d (omega arith)) new.1,
    )

attributes_joined : (done : List RawAttribute) (attrs : List Attribute) → AreKnown attrs → AllPairs (λ a b. a.kind ≢ b.kind) attrs → AreNew done attrs
    → joined_onto done (fields_of attrs) ≡ done ++ map raw_of attrs
attributes_joined done [] known once new = sym (append-nil done)
attributes_joined done (a ∷ attrs) known once new =
    let name = type_name a.kind in
    let differ : All (λ b. a.kind ≢ b.kind) attrs = λ k d l. once 0 (suc k) d (omega arith) (omega arith) in
    let later : AllPairs (λ a b. a.kind ≢ b.kind) attrs = λ i j d l m. once (suc i) (suc j) d (omega arith) (omega arith) in
    joined_onto-append done (map (field name) a.values) (fields_of attrs)
    ∙ ap (λ rs. joined_onto rs (fields_of attrs)) (attribute_joined done name a.values known.1 new.0)
    ∙ attributes_joined (done ++ raw_of a ∷ []) attrs known.3 later (new_beside done a attrs known.0 known.3 differ new.1)
    ∙ append_assoc done (raw_of a ∷ []) (map raw_of attrs)

-- ---- the law

good_values : (name : List ℕ) (values : List (List ℕ)) (rest : List Field) → is_good_name name ≡ true → All IsBytes values → AreGood rest → AreGood (map (field name) values ++ rest)
good_values name [] rest good bytes more = more
good_values name (v ∷ values) rest good bytes more =
    (good, bytes 0 v (omega arith), good_values name values rest good (λ k d l. bytes (suc k) d (omega arith)) more)

good_fields : (attrs : List Attribute) → AreKnown attrs → AreGood (fields_of attrs)
good_fields [] known = tt
good_fields (a ∷ attrs) known = good_values (type_name a.kind) a.values (fields_of attrs) (good_type a.kind known.0).0 known.2 (good_fields attrs known.3)

-- the fields begin with one that is no kind of change
abbrev HasFirst : List Field → Type 0
HasFirst fields = (f : Field) × (rest : List Field) × (fields ≡ f ∷ rest) × (bytes_eq f.name (codes "changetype") ≡ false)

first_of : (name : List ℕ) (values : List (List ℕ)) (rest : List Field) → values ≢ [] → bytes_eq name (codes "changetype") ≡ false → HasFirst (map (field name) values ++ rest)
first_of name [] rest filled other = absurd (filled refl)
first_of name (v ∷ values) rest filled other = (field name v, map (field name) values ++ rest, refl, other)

first_field : (attrs : List Attribute) → attrs ≢ [] → AreKnown attrs → HasFirst (fields_of attrs)
first_field [] some known = absurd (some refl)
first_field (a ∷ attrs) some known = first_of (type_name a.kind) a.values (fields_of attrs) known.1 (good_type a.kind known.0).1

all_in_line : (fields : List Field) → AreGood fields → list_all (list_all in_line) (map body_of_field fields ++ [] ∷ []) ≡ true
all_in_line [] good = refl
all_in_line (f ∷ fields) good = rw (field_in_line f good.0) (all_in_line fields good.2)

known_from : (attrs : List Attribute) → All (λ a. a.kind < length types) attrs → All (λ a. a.values ≢ []) attrs → All (λ a. All IsBytes a.values) attrs → AreKnown attrs
known_from [] kinds filled bytes = tt
known_from (a ∷ attrs) kinds filled bytes = (
  known_below a.kind (kinds 0 a (omega arith)),
  filled 0 a (omega arith),
  bytes 0 a (omega arith),
  known_from attrs (λ k d l. kinds (suc k) d (omega arith)) (λ k d l. filled (suc k) d (omega arith)) (λ k d l. bytes (suc k) d (omega arith)),
)

new_all : (attrs : List Attribute) → AreNew [] attrs
new_all [] = tt
new_all (a ∷ attrs) = (refl, new_all attrs)

-- the lines of the text are those of its fields
lines_back : (number : ℕ) (name : List ℕ) (attrs : List Attribute) → IsBytes name → AreKnown attrs
    → text_lines number (entry_text name attrs None) ≡ numbered number (name_field name ∷ fields_of attrs) ++ blank_after number (name_field name ∷ fields_of attrs) ∷ []
lines_back number name attrs bytes known =
    let all = name_field name ∷ fields_of attrs in
    let good : AreGood all = (refl, bytes, good_fields attrs known) in
    ap (text_lines number) (entry_body name attrs)
    ∙ ap (unfolded number) (lines-joined_text (map body_of_field all ++ [] ∷ []) (all_in_line all good))
    ∙ unfolded-fields number all good

entry_back : (begun : Bool) (number : ℕ) (name : List ℕ) (attrs : List Attribute) (first : HasFirst (fields_of attrs)) → IsBytes name → AreKnown attrs → AllPairs (λ a b. a.kind ≢ b.kind) attrs
    → record_from begun (from_content (text_lines number (entry_text name attrs None)))
    ≡ Ok (Some (record { change = Add name (map raw_of attrs); after = after_fields number number (name_field name ∷ fields_of attrs) }))
entry_back begun number name attrs first bytes known once =
    let good : AreGood (first.0 ∷ first.1) = subst AreGood first.2 (good_fields attrs known) in
    let Says : List Field → Type 0 = λ fields. record_from begun (numbered number (name_field name ∷ fields) ++ blank_after number (name_field name ∷ fields) ∷ [])
    ≡ Ok (Some (record { change = Add name (joined_onto [] fields); after = after_fields number number (name_field name ∷ fields) })) in
    let read = subst Says (sym first.2) (fields_back begun number name first.0 first.1 bytes good first.3) in
    ap (λ ls. record_from begun (from_content ls)) (lines_back number name attrs bytes known)
    ∙ read
    ∙ ap (λ rs. Ok (Some (record { change = Add name rs; after = after_fields number number (name_field name ∷ fields_of attrs) }))) (attributes_joined [] attrs known once (new_all attrs))

-- the text of an entry is read as its add
pub written_back : (begun : Bool) (number : ℕ) (name : List ℕ) (attrs : List Attribute) → IsEntry name attrs
    → (after : RecordReader) × (record_from begun (from_content (text_lines number (entry_text name attrs None))) ≡ Ok (Some (record { change = Add name (map raw_of attrs); after = after }))) × (from_content after.lines ≡ [])
written_back begun number name attrs is =
    let known = known_from attrs is.kinds is.list.filled is.values in
    let fields = name_field name ∷ fields_of attrs in
    (after_fields number number fields, entry_back begun number name attrs (first_field attrs is.some known) is.named known is.list.once, blank_rest number number fields)
