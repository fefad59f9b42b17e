-- Edits, one after another.
use Rattle.std.proofs.Common.{◌≡◌, ℕ, ◌+◌, ◌<◌, List, [], ◌∷◌, ◌++◌, length, take, drop, get_or, None, Some, ap, sym, ◌∙◌, refl}
use Rattle.std.specs.Option.{option_or}
use Rattle.std.proofs.lemmas.List.{take_more, take-append-drop}
use Rattle.schema_rules.specs.declared.attributes.Attribute.{Attribute}
use Rattle.schema_rules.proofs.Lists.{option_or-assoc}
use Rattle.entry_writes.specs.declared.edit.Edit.{Edit}
use Rattle.entry_writes.specs.Edits.{after_edit, after_edits, edit_code, edits_code}

after_edits-push : (attrs : List Attribute) (xs : List Edit) (e : Edit) → after_edits attrs (xs ++ e ∷ []) ≡ after_edit (after_edits attrs xs) e
after_edits-push attrs [] e = refl
after_edits-push attrs (x ∷ xs) e = after_edits-push (after_edit attrs x) xs e

edits_code-append : (attrs : List Attribute) (xs ys : List Edit) → edits_code attrs (xs ++ ys) ≡ option_or (edits_code attrs xs) (edits_code (after_edits attrs xs) ys)
edits_code-append attrs [] ys = refl
edits_code-append attrs (x ∷ xs) ys =
    ap (option_or (edit_code attrs x)) (edits_code-append (after_edit attrs x) xs ys)
    ∙ sym (option_or-assoc (edit_code attrs x) (edits_code (after_edit attrs x) xs) (edits_code (after_edits (after_edit attrs x) xs) ys))

next : (edits : List Edit) (i : ℕ) (e : Edit) → i < length edits → e ≡ get_or edits i e → take (i + 1) edits ≡ take i edits ++ e ∷ []
next edits i e low at = take_more edits i e low ∙ ap (λ x. take i edits ++ x ∷ []) (sym at)

-- one more edit is made
pub after_edits_more : (attrs : List Attribute) (edits : List Edit) (i : ℕ) (e : Edit) → i < length edits → e ≡ get_or edits i e
    → after_edits attrs (take (i + 1) edits) ≡ after_edit (after_edits attrs (take i edits)) e
after_edits_more attrs edits i e low at = ap (after_edits attrs) (next edits i e low at) ∙ after_edits-push attrs (take i edits) e

edits_code_next : (attrs : List Attribute) (edits : List Edit) (i : ℕ) (e : Edit) → i < length edits → e ≡ get_or edits i e → edits_code attrs (take i edits) ≡ None
    → edits_code attrs (take (i + 1) edits) ≡ option_or (edit_code (after_edits attrs (take i edits)) e) None
edits_code_next attrs edits i e low at before =
    ap (edits_code attrs) (next edits i e low at) ∙ edits_code-append attrs (take i edits) (e ∷ [])
    ∙ ap (λ o. option_or o (option_or (edit_code (after_edits attrs (take i edits)) e) None)) before

-- nothing rejects the next edit either
pub edits_code_none : (attrs : List Attribute) (edits : List Edit) (i : ℕ) (e : Edit) → i < length edits → e ≡ get_or edits i e → edits_code attrs (take i edits) ≡ None
    → edit_code (after_edits attrs (take i edits)) e ≡ None → edits_code attrs (take (i + 1) edits) ≡ None
edits_code_none attrs edits i e low at before none = edits_code_next attrs edits i e low at before ∙ ap (λ o. option_or o None) none

-- something rejects the next edit
pub edits_code_some : (attrs : List Attribute) (edits : List Edit) (i : ℕ) (e : Edit) (n : ℕ) → i < length edits → e ≡ get_or edits i e → edits_code attrs (take i edits) ≡ None
    → edit_code (after_edits attrs (take i edits)) e ≡ Some n → edits_code attrs edits ≡ Some n
edits_code_some attrs edits i e n low at before some =
    ap (edits_code attrs) (sym (take-append-drop (i + 1) edits)) ∙ edits_code-append attrs (take (i + 1) edits) (drop (i + 1) edits)
    ∙ ap (λ o. option_or o (edits_code (after_edits attrs (take (i + 1) edits)) (drop (i + 1) edits)))
    (edits_code_next attrs edits i e low at before ∙ ap (λ o. option_or o None) some)
