-- What a write has that no code rejects.
use Rattle.std.proofs.Common.{◌≡◌, ◌≤◌, ℕ, Bool, true, false, ◌||◌, cond, nat_lt, nat_le, List, length, ◌+◌, Option, Some, None, refl}
use Rattle.std.proofs.lemmas.Bool.{or_parts, ltb-false}
use Rattle.ldap_constants.specs.declared.result_codes.TheConstants.{ADMIN_LIMIT_EXCEEDED}
use Rattle.schema_rules.specs.declared.attributes.Attribute.{Attribute}
use Rattle.schema_rules.specs.Attributes.{entry_code, weight_of}
use Rattle.dn_names.specs.Names.{TypeAndValue}
use Rattle.entry_tree.specs.declared.edit.Edit.{Edit}
use Rattle.entry_tree.specs.declared.entry.Entry.{Entry}
use Rattle.entry_tree.specs.Codes.{weight_code, limit_code, naming_code, add_target_code, add_code, rdn_kept_code, edited_code, modify_code, target_code, has_too_long, length_code, moved_code}
use Rattle.entry_tree.specs.Edits.{after_edits, edits_code}
use Rattle.entry_tree.specs.State.{most_entry_weight, most_weight, most_entries, total_weight, weight_with}
use Rattle.directory_laws.proofs.Results.{none_first, none_second}

-- where a test gives no code it does not hold
pub no_test : (b : Bool) (code : ℕ) (other : Option ℕ) → cond b (Some code) other ≡ None → b ≡ false
no_test true code other e = absurd (cc)
no_test false code other e = refl

-- where a test gives no code what comes after it gives none
pub no_other : (b : Bool) (code : ℕ) (other : Option ℕ) → cond b (Some code) other ≡ None → other ≡ None
no_other true code other e = absurd (cc)
no_other false code other e = e

light-weight_code : (weight total : ℕ) → weight_code weight total ≡ None → weight ≤ most_entry_weight
light-weight_code weight total none =
    ltb-false most_entry_weight weight
    (or_parts (nat_lt most_entry_weight weight) (nat_lt most_weight total) (no_test (nat_lt most_entry_weight weight || nat_lt most_weight total) ADMIN_LIMIT_EXCEEDED None none)).0

-- an entry that an Add may add is no heavier than an entry may be
pub light-added : (suffix : List (List TypeAndValue)) (entries : List Entry) (name : List (List TypeAndValue)) (attrs : List Attribute) → add_code suffix entries name attrs ≡ None
    → weight_of attrs ≤ most_entry_weight
light-added suffix entries name attrs none =
    let weight = weight_of attrs in
    let checked = none_second (add_target_code suffix entries name) _ none in
    let named = none_second (entry_code attrs) _ checked in
    let room : limit_code entries weight ≡ None = none_second (naming_code name attrs) (limit_code entries weight) named in
    light-weight_code weight (total_weight entries + weight) (no_other (nat_le most_entries (length entries)) ADMIN_LIMIT_EXCEEDED (weight_code weight (total_weight entries + weight)) room)

-- an entry that a Modify may edit is no heavier than an entry may be
pub light-edited : (entries : List Entry) (e : Entry) (edits : List Edit) → modify_code entries (Some e) edits ≡ None → weight_of (after_edits e.attrs edits) ≤ most_entry_weight
light-edited entries e edits none =
    let attrs = after_edits e.attrs edits in
    let checked = none_second (edits_code e.attrs edits) (edited_code entries e attrs) none in
    let kept = none_second (entry_code attrs) _ checked in
    light-weight_code (weight_of attrs) (weight_with entries e (weight_of attrs)) (none_second (rdn_kept_code e.dn attrs) _ kept)

-- what no code rejects of an entry that gets another name
pub record IsMovable (entries : List Entry) (e : Entry) (name : List (List TypeAndValue)) (attrs : List Attribute) : Type 0 where
  pub light : weight_of attrs ≤ most_entry_weight
  pub short : has_too_long entries e name ≡ false

-- what holds of an entry that a Rename may move
pub IsMovable-moved : (suffix : List (List TypeAndValue)) (entries : List Entry) (e : Entry) (name : List (List TypeAndValue)) (attrs : List Attribute) (superior : Option (List (List TypeAndValue)))
    → moved_code suffix entries e name attrs superior ≡ None → IsMovable entries e name attrs
IsMovable-moved suffix entries e name attrs superior none =
    let total = weight_with entries e (weight_of attrs) in
    let checked = none_second (target_code suffix entries e name superior) _ none in
    let weighed = none_second (entry_code attrs) _ checked in
    record {
      light = light-weight_code (weight_of attrs) total (none_first (weight_code (weight_of attrs) total) (length_code entries e name) weighed);
      short = no_test (has_too_long entries e name) ADMIN_LIMIT_EXCEEDED None (none_second (weight_code (weight_of attrs) total) (length_code entries e name) weighed);
    }
