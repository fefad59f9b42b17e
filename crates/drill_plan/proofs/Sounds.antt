-- A client may ask for each operation of a drill: each value is of its type's syntax.
use Rattle.std.proofs.Common.{◌≡◌, ℕ, ◌+◌, ◌%◌, ◌^◌, ◌<◌, ◌≤◌, Bool, true, false, not, ◌&&◌, List, [], ◌∷◌, ◌++◌, length, Some, is_some, inl, inr, refl, sym, ap, ◌∙◌, arith, length-append}
use Rattle.std.specs.Prelude.{codes}
use Rattle.std.specs.Fmt.{decimal}
use Rattle.std.specs.List.{list_all, cons_option}
use Rattle.std.proofs.lemmas.Bool.{and_from}
use Rattle.std.proofs.lemmas.Fmt.{decimal_by_steps}
use Rattle.schema_rules.specs.Attributes.{has_duplicates, is_given, is_of_syntax, is_sound, repeats_value}
use Rattle.schema_rules.specs.Keys.{key_of, keys_of}
use Rattle.schema_rules.specs.Schema.{types, classes, class_named, type_rule, is_operational}
use Rattle.schema_rules.specs.declared.attributes.Attribute.{Attribute}
use Rattle.schema_rules.specs.declared.types.Rule.TheVariants.{Folded}
use Rattle.entry_writes.specs.Sound.{is_sound_edit}
use Rattle.drill_plan.specs.Names.{of_one, suffix_attributes, unit_attributes, unit_text, entry_attributes, entry_text}
use Rattle.drill_plan.specs.Operations.{replacing}
use Rattle.drill_plan.proofs.PlainKeys.{IsWord, unit_rule, common_rule, word_key, folded_word}
use Rattle.drill_plan.proofs.ReadNames.{component_key, word_is_ascii, drill_word, slot_word}
use Rattle.drill_plan.proofs.UnitTexts.{digits, text_word}

-- ---- the types

organization_rule : type_rule 10 ≡ Folded
unfolding types
organization_rule = refl

surname_rule : type_rule 2 ≡ Folded
unfolding types
surname_rule = refl

department_rule : type_rule 14 ≡ Folded
unfolding types
department_rule = refl

common_kept : is_operational 1 ≡ false
unfolding types
common_kept = refl

surname_kept : is_operational 2 ≡ false
unfolding types
surname_kept = refl

unit_kept : is_operational 9 ≡ false
unfolding types
unit_kept = refl

organization_kept : is_operational 10 ≡ false
unfolding types
organization_kept = refl

component_kept : is_operational 12 ≡ false
unfolding types
component_kept = refl

department_kept : is_operational 14 ≡ false
unfolding types
department_kept = refl

-- ---- words

word_some : (kind : ℕ) → type_rule kind ≡ Folded → (value : List ℕ) → IsWord value → 1 ≤ length value → key_of kind value ≡ Some value
word_some kind is [] word some = absurd (omega (arith, some))
word_some kind is (c ∷ cs) word some = word_key kind c cs is word

word_append : (xs ys : List ℕ) → IsWord xs → IsWord ys → IsWord (xs ++ ys)
word_append [] ys first second = second
word_append (x ∷ xs) ys first second = (first.0, word_append xs ys first.1 second)

-- a number is written in digits, one at least
abbrev IsNumberText : ℕ → List ℕ → Type 0
IsNumberText n text = IsWord text × (1 ≤ length text)

number_word : (n : ℕ) → n < 2 ^ 64 → IsNumberText n (decimal n)
number_word n small =
    decimal_by_steps IsNumberText
    (λ k low. ((inl (omega arith, omega (arith, low)), tt), omega arith))
    (λ k ds high has.
    let digit : k % 10 < 10 = omega arith in
    let count : length (ds ++ (48 + k % 10) ∷ []) ≡ length ds + 1 = length-append ds ((48 + k % 10) ∷ []) in
    let some : 1 ≤ length ds = has.1 in (
      word_append ds ((48 + k % 10) ∷ []) has.0 (inl (omega arith, omega (arith, digit)), tt),
      omega (arith, count, some),
    ))
    n small

-- ---- attributes

sound_of_one : (kind : ℕ) (value : List ℕ) → is_operational kind ≡ false → key_of kind value ≡ Some value
    → is_sound (of_one kind value) ≡ true
sound_of_one kind value kept key =
    let a : Attribute = of_one kind value in
    let has : is_of_syntax kind value ≡ true = ap is_some key in
    let keys : keys_of kind (value ∷ []) ≡ value ∷ [] = ap (λ found. cons_option found []) key in
    let once : repeats_value a ≡ false = ap has_duplicates keys in
    and_from (is_given a) (not (repeats_value a))
    (and_from (not (is_operational kind)) (is_of_syntax kind value && true) (ap not kept)
    (and_from (is_of_syntax kind value) true has refl))
    (ap not once)

number_sound : (kind n : ℕ) → type_rule kind ≡ Folded → is_operational kind ≡ false → n < 2 ^ 64 → is_sound (of_one kind (decimal n)) ≡ true
number_sound kind n is kept small =
    let its = number_word n small in
    sound_of_one kind (decimal n) kept (word_some kind is (decimal n) its.0 its.1)

-- the classes are classes of the schema
organization_classes : is_sound (record { kind = 0; values = codes "organization" ∷ codes "dcObject" ∷ [] }) ≡ true
unfolding key_of types class_named classes
organization_classes = refl

unit_class : is_sound (of_one 0 (codes "organizationalUnit")) ≡ true
unfolding key_of types class_named classes
unit_class = refl

person_class : is_sound (of_one 0 (codes "inetOrgPerson")) ≡ true
unfolding key_of types class_named classes
person_class = refl

-- the attributes of the suffix are sound
pub suffix_sound : list_all is_sound suffix_attributes ≡ true
suffix_sound =
    let name = codes "drill" in
    let last : list_all is_sound (of_one 12 name ∷ []) ≡ true =
    and_from (is_sound (of_one 12 name)) true
    (sound_of_one 12 name component_kept
    (component_key name (word_is_ascii name drill_word) ∙ folded_word 100 (codes "rill") drill_word)) refl in
    and_from (is_sound (record { kind = 0; values = codes "organization" ∷ codes "dcObject" ∷ [] }))
    (list_all is_sound (of_one 10 name ∷ of_one 12 name ∷ [])) organization_classes
    (and_from (is_sound (of_one 10 name)) (list_all is_sound (of_one 12 name ∷ []))
    (sound_of_one 10 name organization_kept (word_key 10 100 (codes "rill") organization_rule drill_word)) last)

-- so are those of a unit
pub unit_sound : (writer : ℕ) → writer < 8 → list_all is_sound (unit_attributes writer) ≡ true
unit_sound writer small =
    let value = unit_text writer false in
    let key : key_of 9 value ≡ Some value =
    ap (key_of 9) (digits writer false small)
    ∙ word_key 9 119 ((48 + writer) ∷ []) unit_rule (text_word writer false small)
    ∙ ap (λ text. Some text) (sym (digits writer false small)) in
    and_from (is_sound (of_one 0 (codes "organizationalUnit"))) (is_sound (of_one 9 value) && true) unit_class
    (and_from (is_sound (of_one 9 value)) true (sound_of_one 9 value unit_kept key) refl)

-- and those of an entry below it
pub entry_sound : (slot step kind : ℕ) → slot < 64 → step < 2 ^ 64 → kind < 2 ^ 64
    → list_all is_sound (entry_attributes slot step kind) ≡ true
entry_sound slot step kind few first second =
    let name = entry_text slot in
    let word : IsWord name = (inr (omega arith, omega arith), (slot_word slot few).0) in
    let a : Bool = is_sound (of_one 0 (codes "inetOrgPerson")) in
    let b : Bool = is_sound (of_one 1 name) in
    let c : Bool = is_sound (of_one 2 (decimal step)) in
    let d : Bool = is_sound (of_one 14 (decimal kind)) in
    and_from a (b && (c && (d && true))) person_class
    (and_from b (c && (d && true)) (sound_of_one 1 name common_kept (word_key 1 101 (decimal slot) common_rule word))
    (and_from c (d && true) (number_sound 2 step surname_rule surname_kept first)
    (and_from d true (number_sound 14 kind department_rule department_kept second) refl)))

-- ---- edits

edit_sound : (kind n : ℕ) → type_rule kind ≡ Folded → is_operational kind ≡ false → n < 2 ^ 64
    → list_all is_sound_edit (replacing kind (decimal n)) ≡ true
edit_sound kind n is kept small =
    let its = number_word n small in
    let has : is_of_syntax kind (decimal n) ≡ true = ap is_some (word_some kind is (decimal n) its.0 its.1) in
    and_from (not (is_operational kind) && ((is_of_syntax kind (decimal n) && true) && true)) true
    (and_from (not (is_operational kind)) ((is_of_syntax kind (decimal n) && true) && true) (ap not kept)
    (and_from (is_of_syntax kind (decimal n) && true) true (and_from (is_of_syntax kind (decimal n)) true has refl) refl))
    refl

-- the edit of a surname is sound
pub surname_edit_sound : (n : ℕ) → n < 2 ^ 64 → list_all is_sound_edit (replacing 2 (decimal n)) ≡ true
surname_edit_sound n small = edit_sound 2 n surname_rule surname_kept small

-- so is that of a department number
pub department_edit_sound : (n : ℕ) → n < 2 ^ 64 → list_all is_sound_edit (replacing 14 (decimal n)) ≡ true
department_edit_sound n small = edit_sound 14 n department_rule department_kept small
