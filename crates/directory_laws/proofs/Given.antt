-- Edits keep attributes that a client may give.
use Rattle.std.proofs.Common.{◌≡◌, ℕ, Bool, true, false, not, cond, nat_eq, List, [], ◌∷◌, ◌++◌, length, refl, sym, subst, ◌∙◌}
use Rattle.std.specs.List.{list_all}
use Rattle.std.proofs.lemmas.Bool.{and_parts, and_from, cond_both, eqb-true}
use Rattle.std.proofs.lemmas.List.Folds.{list_all-append}
use Rattle.schema_rules.specs.declared.attributes.Attribute.{Attribute}
use Rattle.schema_rules.specs.declared.raw.How.{How}
use Rattle.schema_rules.specs.declared.raw.How.TheVariants as how
use Rattle.schema_rules.specs.Attributes.{is_given, is_of_syntax, has_kind}
use Rattle.schema_rules.specs.Keys.{keys_of}
use Rattle.schema_rules.specs.Schema.{is_operational}
use Rattle.schema_rules.proofs.Joining.{is_given-with_values}
use Rattle.entry_tree.specs.declared.edit.Edit.{Edit}
use Rattle.entry_tree.specs.Edits.{matches, change_of, with_change, unmatched, without_kind, without_values, with_only, deleted, replaced, changed, after_edit, after_edits}
use Rattle.entry_tree.specs.Sound.{is_sound_edit}
use Rattle.entry_tree.proofs.Passing.{list_all-filter}

-- ---- other values of one type

-- the change leaves values of each syntax of the type
abbrev KeepsSyntax : (List (List ℕ) → List (List ℕ)) → ℕ → Type 0
KeepsSyntax change kind = (values : List (List ℕ)) → list_all (is_of_syntax kind) values ≡ true → list_all (is_of_syntax kind) (change values) ≡ true

given-change_of : (change : List (List ℕ) → List (List ℕ)) (kind : ℕ) → KeepsSyntax change kind → (a : Attribute) → is_given a ≡ true → is_given (change_of change kind a) ≡ true
given-change_of change kind keeps a given = by (nat_eq a.kind kind) refl
  where
    parts : (not (is_operational a.kind) ≡ true) × (list_all (is_of_syntax a.kind) a.values ≡ true)
    parts = and_parts (not (is_operational a.kind)) (list_all (is_of_syntax a.kind) a.values) given

    by : (b : Bool) → nat_eq a.kind kind ≡ b → is_given (cond b (let new : Attribute = record { kind = a.kind; values = change a.values } in new) a) ≡ true
    by true e =
        let same : a.kind ≡ kind = eqb-true a.kind kind e in
        let P : ℕ → Type 0 = λ k. list_all (is_of_syntax k) a.values ≡ true in
        let Q : ℕ → Type 0 = λ k. list_all (is_of_syntax k) (change a.values) ≡ true in
        and_from (not (is_operational a.kind)) (list_all (is_of_syntax a.kind) (change a.values)) parts.0
        (subst Q (sym same) (keeps a.values (subst P same parts.1)))
    by false e = given

given-with_change : (change : List (List ℕ) → List (List ℕ)) (attrs : List Attribute) (kind : ℕ) → KeepsSyntax change kind → list_all is_given attrs ≡ true
    → list_all is_given (with_change change attrs kind) ≡ true
given-with_change change [] kind keeps all = refl
given-with_change change (a ∷ attrs) kind keeps all =
    let parts = and_parts (is_given a) (list_all is_given attrs) all in
    and_from (is_given (change_of change kind a)) (list_all is_given (with_change change attrs kind))
    (given-change_of change kind keeps a parts.0) (given-with_change change attrs kind keeps parts.1)

-- ---- what an edit leaves

-- attributes without some values are those that a client may give
pub given-without_values : (attrs : List Attribute) (kind : ℕ) (values : List (List ℕ)) → list_all is_given attrs ≡ true → list_all is_given (without_values attrs kind values) ≡ true
given-without_values attrs kind values all =
    let keys = keys_of kind values in
    list_all-filter is_given (λ a. not (nat_eq (length a.values) 0)) (with_change (unmatched kind keys) attrs kind)
    (given-with_change (unmatched kind keys) attrs kind (λ held. list_all-filter (is_of_syntax kind) (λ value. not (matches kind keys value)) held) all)

given-without_kind : (attrs : List Attribute) (kind : ℕ) → list_all is_given attrs ≡ true → list_all is_given (without_kind attrs kind) ≡ true
given-without_kind attrs kind all = list_all-filter is_given (λ a. not (nat_eq a.kind kind)) attrs all

abbrev fresh : ℕ → List (List ℕ) → Attribute
fresh kind values = record { kind = kind; values = values }

given-with_only : (attrs : List Attribute) (kind : ℕ) (values : List (List ℕ)) → is_given (fresh kind values) ≡ true → list_all is_given attrs ≡ true
    → list_all is_given (with_only attrs kind values) ≡ true
given-with_only attrs kind values given all =
    cond_both (has_kind attrs kind) (with_change (λ _. values) attrs kind) (attrs ++ fresh kind values ∷ []) (λ new. list_all is_given new ≡ true)
    (λ _. given-with_change (λ _. values) attrs kind (λ held _. (and_parts (not (is_operational kind)) (list_all (is_of_syntax kind) values) given).1) all)
    (λ _. list_all-append is_given attrs (fresh kind values ∷ [])
    ∙ and_from (list_all is_given attrs) (list_all is_given (fresh kind values ∷ [])) all (and_from (is_given (fresh kind values)) true given refl))

given-deleted : (attrs : List Attribute) (kind : ℕ) (values : List (List ℕ)) → list_all is_given attrs ≡ true → list_all is_given (deleted attrs kind values) ≡ true
given-deleted attrs kind values all =
    cond_both (nat_eq (length values) 0) (without_kind attrs kind) (without_values attrs kind values) (λ new. list_all is_given new ≡ true)
    (λ _. given-without_kind attrs kind all) (λ _. given-without_values attrs kind values all)

given-replaced : (attrs : List Attribute) (kind : ℕ) (values : List (List ℕ)) → is_given (fresh kind values) ≡ true → list_all is_given attrs ≡ true
    → list_all is_given (replaced attrs kind values) ≡ true
given-replaced attrs kind values given all =
    cond_both (nat_eq (length values) 0) (without_kind attrs kind) (with_only attrs kind values) (λ new. list_all is_given new ≡ true)
    (λ _. given-without_kind attrs kind all) (λ _. given-with_only attrs kind values given all)

given-changed : (one : How) (attrs : List Attribute) (kind : ℕ) (values : List (List ℕ)) → is_given (fresh kind values) ≡ true → list_all is_given attrs ≡ true
    → list_all is_given (changed one attrs kind values) ≡ true
given-changed how.Add attrs kind values given all = is_given-with_values attrs kind values all given
given-changed how.Delete attrs kind values given all = given-deleted attrs kind values all
given-changed how.Replace attrs kind values given all = given-replaced attrs kind values given all

-- ---- edits, one after another

given-after_edit : (attrs : List Attribute) (edit : Edit) → is_sound_edit edit ≡ true → list_all is_given attrs ≡ true → list_all is_given (after_edit attrs edit) ≡ true
given-after_edit attrs edit sound all =
    let user = and_parts (not (is_operational edit.kind)) _ sound in
    let syntax = and_parts (list_all (is_of_syntax edit.kind) edit.values) _ user.1 in
    given-changed edit.how attrs edit.kind edit.values (and_from (not (is_operational edit.kind)) (list_all (is_of_syntax edit.kind) edit.values) user.0 syntax.0) all

-- attributes after edits are those that a client may give
pub given-after_edits : (attrs : List Attribute) (edits : List Edit) → list_all is_sound_edit edits ≡ true → list_all is_given attrs ≡ true
    → list_all is_given (after_edits attrs edits) ≡ true
given-after_edits attrs [] sound all = all
given-after_edits attrs (edit ∷ edits) sound all =
    let parts = and_parts (is_sound_edit edit) (list_all is_sound_edit edits) sound in
    given-after_edits (after_edit attrs edit) edits parts.1 (given-after_edit attrs edit parts.0 all)
