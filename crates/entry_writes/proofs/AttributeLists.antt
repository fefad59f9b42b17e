-- Changes keep a list of attributes one: each type once, and none without values.
use Rattle.std.proofs.Common.{◌≡◌, ◌≢◌, ◌<◌, ℕ, zero, suc, Bool, true, false, not, ◌||◌, cond, nat_eq, List, [], ◌∷◌, ◌++◌, length, map, get_or, All, AllPairs, ap, sym, ◌∙◌, refl, arith}
use Rattle.std.specs.List.{list_all}
use Rattle.std.proofs.lemmas.Bool.{false≢true, cond_both, eq-eqb, and_parts, or_parts}
use Rattle.std.proofs.lemmas.List.{get_or-map, length-map}
use Rattle.std.proofs.lemmas.List.Elements.{All-nil, All-filter, All-push, All-cons}
use Rattle.std.proofs.lemmas.List.Kept.{AllPairs-filter}
use Rattle.std.proofs.lemmas.List.Quantifiers.{all_pairs_push}
use Rattle.schema_rules.specs.declared.attributes.Attribute.{Attribute}
use Rattle.schema_rules.specs.declared.raw.How.{How}
use Rattle.schema_rules.specs.declared.raw.How.TheVariants as how
use Rattle.schema_rules.specs.Attributes.{IsAttributeList, is_of_syntax, with_values, has_kind}
use Rattle.schema_rules.specs.Keys.{keys_of}
use Rattle.schema_rules.specs.Schema.{is_operational}
use Rattle.schema_rules.proofs.Joining.{IsAttributeList-with_values}
use Rattle.entry_writes.specs.declared.edit.Edit.{Edit}
use Rattle.entry_writes.specs.Edits.{filled, change_of, with_change, unmatched, without_kind, without_values, with_only, deleted, replaced, changed, after_edit, after_edits}
use Rattle.entry_writes.specs.Sound.{may_be_empty, is_sound_edit}

abbrev differ : Attribute → Attribute → Type 0
differ a b = a.kind ≢ b.kind

abbrev has_values : Attribute → Type 0
has_values a = a.values ≢ []

-- ---- some of the attributes

-- without one type
pub IsAttributeList-without_kind : (attrs : List Attribute) (kind : ℕ) → IsAttributeList attrs → IsAttributeList (without_kind attrs kind)
IsAttributeList-without_kind attrs kind list = record {
  once = AllPairs-filter differ (λ a. not (nat_eq a.kind kind)) attrs list.once;
  filled = All-filter (λ a. not (nat_eq a.kind kind)) has_values attrs list.filled;
}

some : (values : List (List ℕ)) → not (nat_eq (length values) 0) ≡ true → values ≢ []
some [] long = absurd (false≢true long)
some (value ∷ values) long = λ e. cc

All-filled : (attrs : List Attribute) → All has_values (filled attrs)
All-filled [] = All-nil has_values
All-filled (a ∷ attrs) =
    cond_both (not (nat_eq (length a.values) 0)) (a ∷ filled attrs) (filled attrs) (All has_values)
    (λ long. All-cons has_values a (filled attrs) (some a.values long) (All-filled attrs)) (λ _. All-filled attrs)

-- ---- other values of one type

kind_same : (change : List (List ℕ) → List (List ℕ)) (kind : ℕ) (a : Attribute) → (change_of change kind a).kind ≡ a.kind
kind_same change kind a = by (nat_eq a.kind kind)
  where
    by : (b : Bool) → (cond b (let new : Attribute = record { kind = a.kind; values = change a.values } in new) a).kind ≡ a.kind
    by true = refl
    by false = refl

AllPairs-with_change : (change : List (List ℕ) → List (List ℕ)) (attrs : List Attribute) (kind : ℕ) → AllPairs differ attrs → AllPairs differ (with_change change attrs kind)
AllPairs-with_change change attrs kind once i j d before within e =
    let long : length (map (change_of change kind) attrs) ≡ length attrs = length-map attrs (change_of change kind) in
    once i j d before (omega arith) (sym (at i (omega arith)) ∙ e ∙ at j (omega arith))
  where
    at : (k : ℕ) → k < length attrs → (get_or (map (change_of change kind) attrs) k d).kind ≡ (get_or attrs k d).kind
    at k low = ap (λ (a : Attribute). a.kind) (get_or-map (change_of change kind) attrs k d d low) ∙ kind_same change kind (get_or attrs k d)

-- a list of attributes without some values is one
pub IsAttributeList-without_values : (attrs : List Attribute) (kind : ℕ) (values : List (List ℕ)) → IsAttributeList attrs → IsAttributeList (without_values attrs kind values)
IsAttributeList-without_values attrs kind values list =
    let left = with_change (unmatched kind (keys_of kind values)) attrs kind in
    record {
      once = AllPairs-filter differ (λ a. not (nat_eq (length a.values) 0)) left (AllPairs-with_change (unmatched kind (keys_of kind values)) attrs kind list.once);
      filled = All-filled left;
    }

-- ---- these values of one type alone

values_there : (values : List (List ℕ)) (kind : ℕ) (a : Attribute) → values ≢ [] → a.values ≢ [] → (change_of (λ _. values) kind a).values ≢ []
values_there values kind a new old = by (nat_eq a.kind kind)
  where
    by : (b : Bool) → (cond b (let new : Attribute = record { kind = a.kind; values = values } in new) a).values ≢ []
    by true = new
    by false = old

other_kind : (attrs : List Attribute) (kind k : ℕ) (d : Attribute) → has_kind attrs kind ≡ false → k < length attrs → (get_or attrs k d).kind ≢ kind
other_kind [] kind k d none low = absurd (omega arith)
other_kind (a ∷ attrs) kind zero d none low = λ same. false≢true (sym (or_parts (nat_eq a.kind kind) (has_kind attrs kind) none).0 ∙ eq-eqb a.kind kind same)
other_kind (a ∷ attrs) kind (suc k) d none low = other_kind attrs kind k d (or_parts (nat_eq a.kind kind) (has_kind attrs kind) none).1 (omega arith)

-- the others stay as they are
pub IsAttributeList-with_only : (attrs : List Attribute) (kind : ℕ) (values : List (List ℕ)) → IsAttributeList attrs → values ≢ [] → IsAttributeList (with_only attrs kind values)
IsAttributeList-with_only attrs kind values list new =
    cond_both (has_kind attrs kind) (with_change (λ _. values) attrs kind) (attrs ++ fresh ∷ []) IsAttributeList (λ _. there) absent
  where
    fresh : Attribute
    fresh = record { kind = kind; values = values }

    there : IsAttributeList (with_change (λ _. values) attrs kind)
    there = record {
      once = AllPairs-with_change (λ _. values) attrs kind list.once;
      filled = λ k d low.
          let long : length (map (change_of (λ _. values) kind) attrs) ≡ length attrs = length-map attrs (change_of (λ _. values) kind) in
          let held : k < length attrs = omega arith in
          let at = get_or-map (change_of (λ _. values) kind) attrs k d d held in
          rw at (values_there values kind (get_or attrs k d) new (list.filled k d held));
    }

    absent : has_kind attrs kind ≡ false → IsAttributeList (attrs ++ fresh ∷ [])
    absent none = record {
      once = all_pairs_push differ attrs fresh list.once (λ k d low. other_kind attrs kind k d none low);
      filled = All-push has_values attrs fresh list.filled new;
    }

-- ---- edits that clients may ask for

-- after values are deleted
pub IsAttributeList-deleted : (attrs : List Attribute) (kind : ℕ) (values : List (List ℕ)) → IsAttributeList attrs → IsAttributeList (deleted attrs kind values)
IsAttributeList-deleted attrs kind values list =
    cond_both (nat_eq (length values) 0) (without_kind attrs kind) (without_values attrs kind values) IsAttributeList
    (λ _. IsAttributeList-without_kind attrs kind list) (λ _. IsAttributeList-without_values attrs kind values list)

-- after values are replaced
pub IsAttributeList-replaced : (attrs : List Attribute) (kind : ℕ) (values : List (List ℕ)) → IsAttributeList attrs → IsAttributeList (replaced attrs kind values)
IsAttributeList-replaced attrs kind values list =
    cond_both (nat_eq (length values) 0) (without_kind attrs kind) (with_only attrs kind values) IsAttributeList
    (λ _. IsAttributeList-without_kind attrs kind list) (λ long. IsAttributeList-with_only attrs kind values list (some values (ap not long)))

IsAttributeList-changed : (one : How) (attrs : List Attribute) (kind : ℕ) (values : List (List ℕ)) → (may_be_empty one || not (nat_eq (length values) 0)) ≡ true → IsAttributeList attrs
    → IsAttributeList (changed one attrs kind values)
IsAttributeList-changed how.Add attrs kind values long list = IsAttributeList-with_values attrs kind values list (some values long)
IsAttributeList-changed how.Delete attrs kind values long list = IsAttributeList-deleted attrs kind values list
IsAttributeList-changed how.Replace attrs kind values long list = IsAttributeList-replaced attrs kind values list

-- a list of attributes after a sound edit is one
pub IsAttributeList-after_edit : (attrs : List Attribute) (edit : Edit) → is_sound_edit edit ≡ true → IsAttributeList attrs → IsAttributeList (after_edit attrs edit)
IsAttributeList-after_edit attrs edit sound list =
    let parts = and_parts (not (is_operational edit.kind)) _ sound in
    IsAttributeList-changed edit.how attrs edit.kind edit.values (and_parts (list_all (is_of_syntax edit.kind) edit.values) _ parts.1).1 list

-- after any sound edits
pub IsAttributeList-after_edits : (attrs : List Attribute) (edits : List Edit) → list_all is_sound_edit edits ≡ true → IsAttributeList attrs → IsAttributeList (after_edits attrs edits)
IsAttributeList-after_edits attrs [] sound list = list
IsAttributeList-after_edits attrs (edit ∷ edits) sound list =
    let parts = and_parts (is_sound_edit edit) (list_all is_sound_edit edits) sound in
    IsAttributeList-after_edits (after_edit attrs edit) edits parts.1 (IsAttributeList-after_edit attrs edit parts.0 list)

-- ---- a new RDN

-- a list of attributes with one more value is one
pub IsAttributeList-with_value : (attrs : List Attribute) (kind : ℕ) (value : List ℕ) → IsAttributeList attrs → IsAttributeList (with_values attrs kind (value ∷ []))
IsAttributeList-with_value attrs kind value list = IsAttributeList-with_values attrs kind (value ∷ []) list (λ e. cc)
