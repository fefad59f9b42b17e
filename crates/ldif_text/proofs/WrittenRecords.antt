-- The lines of a written entry, and the record that they are.
use Rattle.std.proofs.Common.{◌≡◌, ℕ, Bool, true, false, Some, Result, Ok, List, [], ◌∷◌, ◌++◌, map, refl, ap, ◌∙◌}
use Rattle.std.specs.Prelude.{codes, if◌then◌else◌}
use Rattle.std.specs.Str.{bytes_eq}
use Rattle.base64.specs.GeneralPurpose.{IsBytes}
use Rattle.schema_rules.specs.declared.raw.RawAttribute.{RawAttribute}
use Rattle.schema_rules.specs.declared.raw.Change.TheVariants.{Add}
use Rattle.ldif_text.specs.declared.fault.LdifFault.{LdifFault}
use Rattle.ldif_text.specs.declared.field.Field.{Field}
use Rattle.ldif_text.specs.declared.lines.Line.{Line}
use Rattle.ldif_text.specs.Fault.{◌>>=◌}
use Rattle.ldif_text.specs.Lines.{is_empty, is_continued, next_number, onto, unfolded, from_content, record_lines, after_record, last_number}
use Rattle.ldif_text.specs.Field.{keyword}
use Rattle.ldif_text.specs.Record.{with_value, attributes_of, add_of, change_of_kind, body_of, change_of}
use Rattle.ldif_text.specs.Reader.{RecordReader, is_version, record_at, record_from}
use Rattle.ldif_text.proofs.Joined.{unfolded_cons, unfolded_nil, onto_end}
use Rattle.ldif_text.proofs.WrittenLines.{is_good_name, body_of_field, value_text_after, field_not_continued, field_not_comment, field_back}

-- names that lines may begin with, and values of bytes
abbrev pub AreGood : List Field → Type 0
AreGood [] = Unit {0}
AreGood (f ∷ fields) = (is_good_name f.name ≡ true) × (IsBytes f.value) × AreGood fields

abbrev pub line_at : ℕ → List ℕ → Line
line_at number text = record { first = number; last = number; text = text }

-- the lines of these fields
abbrev pub numbered : ℕ → List Field → List Line
numbered number [] = []
numbered number (f ∷ fields) = line_at number (body_of_field f) ∷ numbered (next_number number) fields

-- the empty line after them
abbrev pub blank_after : ℕ → List Field → Line
blank_after number [] = line_at number []
blank_after number (f ∷ fields) = blank_after (next_number number) fields

not_continued : (fields : List Field) → AreGood fields → is_continued (map body_of_field fields ++ [] ∷ []) ≡ false
not_continued [] good = refl
not_continued (f ∷ fields) good = field_not_continued f good.0

-- written fields are lines with their numbers
pub unfolded-fields : (number : ℕ) (fields : List Field) → AreGood fields → unfolded number (map body_of_field fields ++ [] ∷ []) ≡ numbered number fields ++ blank_after number fields ∷ []
unfolded-fields number [] good = unfolded_cons number [] [] ∙ ap (onto (line_at number [])) (unfolded_nil (next_number number))
unfolded-fields number (f ∷ fields) good =
    unfolded_cons number (body_of_field f) (map body_of_field fields ++ [] ∷ [])
    ∙ onto_end (line_at number (body_of_field f)) (next_number number) (map body_of_field fields ++ [] ∷ []) (not_continued fields good.2)
    ∙ ap (λ l. line_at number (body_of_field f) ∷ l) (unfolded-fields (next_number number) fields good.2)

filled_before : (prefix text : List ℕ) (c : ℕ) → is_empty (prefix ++ c ∷ text) ≡ false
filled_before [] text c = refl
filled_before (b ∷ prefix) text c = refl

field_filled : (f : Field) → is_empty (body_of_field f) ≡ false
field_filled f = rw value_text_after (filled_before f.name _ 58)

blank_empty : (number : ℕ) (fields : List Field) → is_empty (blank_after number fields).text ≡ true
blank_empty number [] = refl
blank_empty number (f ∷ fields) = blank_empty (next_number number) fields

blank_ends : (line : Line) → is_empty line.text ≡ true → (record_lines (line ∷ []) ≡ []) × (after_record (line ∷ []) ≡ line ∷ [])
blank_ends line e = (rw e refl, rw e refl)

fields_first : (number : ℕ) (fields : List Field) (blank : Line) → AreGood fields → is_empty blank.text ≡ true → record_lines (numbered number fields ++ blank ∷ []) ≡ numbered number fields
fields_first number [] blank good e = (blank_ends blank e).0
fields_first number (f ∷ fields) blank good e =
    rw (field_filled f, field_not_comment f good.0) (ap (λ l. line_at number (body_of_field f) ∷ l) (fields_first (next_number number) fields blank good.2 e))

blank_left : (number : ℕ) (fields : List Field) (blank : Line) → is_empty blank.text ≡ true → after_record (numbered number fields ++ blank ∷ []) ≡ blank ∷ []
blank_left number [] blank e = (blank_ends blank e).1
blank_left number (f ∷ fields) blank e = rw (field_filled f) (blank_left (next_number number) fields blank e)

-- the values of the fields, each last in its type's attribute
abbrev pub joined_onto : List RawAttribute → List Field → List RawAttribute
joined_onto attrs [] = attrs
joined_onto attrs (f ∷ fields) = joined_onto (with_value attrs f.name f.value) fields

attributes_back : (number : ℕ) (attrs : List RawAttribute) (fields : List Field) → AreGood fields → attributes_of attrs (numbered number fields) ≡ Ok (joined_onto attrs fields)
attributes_back number attrs [] good = refl
attributes_back number attrs (f ∷ fields) good =
    rw (field_back number number f good.0 good.1) (attributes_back (next_number number) (with_value attrs f.name f.value) fields good.2)

keyword_back : (first last : ℕ) (word : List ℕ) (f : Field) → is_good_name f.name ≡ true → IsBytes f.value → bytes_eq f.name word ≡ true → keyword word (record { first = first; last = last; text = body_of_field f }) ≡ Ok f.value
unfolding keyword
keyword_back first last word f good bytes named = rw (field_back first last f good bytes, named) refl

no_version : (first last : ℕ) (f : Field) → is_good_name f.name ≡ true → IsBytes f.value → bytes_eq f.name (codes "version") ≡ false → is_version (record { first = first; last = last; text = body_of_field f }) ≡ Ok false
unfolding is_version
no_version first last f good bytes named = rw (field_back first last f good bytes, named) refl

-- the field that names an entry
abbrev pub name_field : List ℕ → Field
name_field name = record { name = codes "dn"; value = name }

-- the lines of an entry are its record
pub change_back : (last number : ℕ) (name : List ℕ) (f : Field) (fields : List Field) → IsBytes name → AreGood (f ∷ fields) → bytes_eq f.name (codes "changetype") ≡ false
    → change_of last (numbered number (name_field name ∷ f ∷ fields)) ≡ Ok (Add name (joined_onto [] (f ∷ fields)))
change_back last number name f fields bytes good other =
    let second = next_number number in
    let lines = numbered second (f ∷ fields) in
    let rest = numbered (next_number second) fields in
    ap (λ r. r >>= λ n. body_of last n lines) (keyword_back number number (codes "dn") (name_field name) refl bytes refl)
    ∙ ap (λ (r : Result Field LdifFault). r >>= λ field. if bytes_eq field.name (codes "changetype") then change_of_kind last second name field.value rest else add_of last name lines) (field_back second second f good.0 good.1)
    ∙ ap (λ kind. if kind then change_of_kind last second name f.value rest else add_of last name lines) other
    ∙ ap (λ r. r >>= λ attrs. Ok (Add name attrs)) (attributes_back second [] (f ∷ fields) good)

-- where the lines of a record are read up to
abbrev pub after_fields : ℕ → ℕ → List Field → RecordReader
after_fields last number fields = record { lines = blank_after number fields ∷ []; line = last_number last (numbered number fields); begun = true }

record_back : (last number : ℕ) (name : List ℕ) (f : Field) (fields : List Field) → IsBytes name → AreGood (f ∷ fields) → bytes_eq f.name (codes "changetype") ≡ false
    → record_at last (numbered number (name_field name ∷ f ∷ fields) ++ blank_after number (name_field name ∷ f ∷ fields) ∷ [])
    ≡ Ok (record { change = Add name (joined_onto [] (f ∷ fields)); after = after_fields last number (name_field name ∷ f ∷ fields) })
record_back last number name f fields bytes good other =
    let all = name_field name ∷ f ∷ fields in
    let blank = blank_after number all in
    let end = blank_empty number all in
    let whole : AreGood all = (refl, bytes, good) in
    ap (λ (ls : List Line). change_of (last_number last ls) ls >>= λ change. Ok (record { change = change; after = record { lines = after_record (numbered number all ++ blank ∷ []); line = last_number last ls; begun = true } }))
    (fields_first number all blank whole end)
    ∙ ap (λ r. r >>= λ change. Ok (record { change = change; after = record { lines = after_record (numbered number all ++ blank ∷ []); line = last_number last (numbered number all); begun = true } }))
    (change_back (last_number last (numbered number all)) number name f fields bytes good other)
    ∙ ap (λ (ls : List Line). Ok (record { change = Add name (joined_onto [] (f ∷ fields)); after = record { lines = ls; line = last_number last (numbered number all); begun = true } }))
    (blank_left number all blank end)

-- they are read as one record
pub fields_back : (begun : Bool) (number : ℕ) (name : List ℕ) (f : Field) (fields : List Field) → IsBytes name → AreGood (f ∷ fields) → bytes_eq f.name (codes "changetype") ≡ false
    → record_from begun (numbered number (name_field name ∷ f ∷ fields) ++ blank_after number (name_field name ∷ f ∷ fields) ∷ [])
    ≡ Ok (Some (record { change = Add name (joined_onto [] (f ∷ fields)); after = after_fields number number (name_field name ∷ f ∷ fields) }))
fields_back true number name f fields bytes good other =
    ap (λ r. r >>= λ found. Ok (Some found)) (record_back number number name f fields bytes good other)
fields_back false number name f fields bytes good other =
    rw (no_version number number (name_field name) refl bytes refl) (ap (λ r. r >>= λ found. Ok (Some found)) (record_back number number name f fields bytes good other))

-- after it nothing is left
pub blank_rest : (last number : ℕ) (fields : List Field) → from_content (after_fields last number fields).lines ≡ []
blank_rest last number fields = rw (blank_empty number fields) refl
