-- What a Modify does where the entry of its name has this place.
use Rattle.std.proofs.Common.{◌≡◌, ◌<◌, ◌+◌, ℕ, suc, Bool, true, false, not, cond, List, ◌∷◌, [], length, map, get_or, set, Some, refl, ap, sym, ◌∙◌, arith}
use Rattle.std.specs.List.{filter, find, sum_by}
use Rattle.std.specs.Option.{option_or}
use Rattle.schema_rules.specs.Attributes.{entry_code, weight_of}
use Rattle.csn_cookie.specs.Csn.{CsnValue}
use Rattle.dn_names.specs.Names.{TypeAndValue}
use Rattle.entry_writes.specs.declared.edit.Edit.{Edit}
use Rattle.entry_writes.specs.declared.entry.Entry.{Entry}
use Rattle.entry_writes.specs.Codes.{modify_code, rdn_kept_code, weight_code}
use Rattle.entry_writes.specs.Edits.{after_edits, edits_code}
use Rattle.entry_writes.specs.Effects.{edited, modified}
use Rattle.entry_writes.specs.State.{ascends, is_identified, is_named, entry_named, total_weight}
use Rattle.entry_writes.specs.Touched.{is_change, touched}
use Rattle.entry_tree.proofs.Replacing.{set_replaces, sum_others, change_from, touched_replaced}

-- the entry is the first of that name, and in this place
pub record IsPlaced (es : List Entry) (name : List (List TypeAndValue)) (place : ℕ) (e : Entry) : Type 0 where
  pub ascends : ascends es ≡ true
  pub named : entry_named es name ≡ Some e
  pub within : place < length es
  pub at : e ≡ get_or es place e

-- an entry that is found has a place
found_place : (p : Entry → Bool) (es : List Entry) (e : Entry) → find p es ≡ Some e → (place : ℕ) × (place < length es) × (e ≡ get_or es place e)
found_place p [] e found = absurd (cc)
found_place p (x ∷ es) e found = by (found_place p es e) (p x) refl found
  where
    by : (find p es ≡ Some e → (place : ℕ) × (place < length es) × (e ≡ get_or es place e)) → (b : Bool) → p x ≡ b → cond b (Some x) (find p es) ≡ Some e → (place : ℕ) × (place < length (x ∷ es)) × (e ≡ get_or (x ∷ es) place e)
    by later true passes here = let same : x ≡ e = cc in (0, omega arith, sym same)
    by later false fails there = let rest = later there in (suc rest.0, omega (arith, rest.1), rest.2)

-- the first entry of a name is in some place
pub placed : (es : List Entry) (name : List (List TypeAndValue)) (e : Entry) → ascends es ≡ true → entry_named es name ≡ Some e → (place : ℕ) × IsPlaced es name place e
placed es name e asc found =
    let there = found_place (is_named name) es e found in
    (there.0, record { ascends = asc; named = found; within = there.1; at = there.2 })

-- ---- the code against it

-- where the other entries weigh so much
pub code_placed : (es : List Entry) (name : List (List TypeAndValue)) (place : ℕ) (e : Entry) (others : ℕ) (edits : List Edit) → IsPlaced es name place e
    → others + weight_of e.attrs ≡ total_weight es
    → modify_code es (entry_named es name) edits
    ≡ option_or (edits_code e.attrs edits)
    (option_or (entry_code (after_edits e.attrs edits))
    (option_or (rdn_kept_code e.dn (after_edits e.attrs edits))
    (weight_code (weight_of (after_edits e.attrs edits)) (others + weight_of (after_edits e.attrs edits)))))
code_placed es name place e others edits placed rest =
    let f = λ (x : Entry). weight_of x.attrs in
    let after = after_edits e.attrs edits in
    let sums : sum_by f (filter (λ x. not (is_identified e.uuid x)) es) + weight_of e.attrs ≡ total_weight es =
    ap (λ (y : Entry). sum_by f (filter (λ x. not (is_identified y.uuid x)) es) + weight_of y.attrs) placed.at
    ∙ sum_others f es place e placed.ascends placed.within
    in
    let same : sum_by f (filter (λ x. not (is_identified e.uuid x)) es) ≡ others = omega (arith, sums, rest) in
    ap (λ o. modify_code es o edits) placed.named
    ∙ ap (λ n. option_or (edits_code e.attrs edits) (option_or (entry_code after) (option_or (rdn_kept_code e.dn after) (weight_code (weight_of after) (n + weight_of after))))) same

-- ---- its effect

-- editing the entry at its place is the effect of the Modify
pub effect_placed : (es : List Entry) (name : List (List TypeAndValue)) (place : ℕ) (e : Entry) (edits : List Edit) (csn : CsnValue) → IsPlaced es name place e
    → set es place (edited e edits csn) ≡ modified es (entry_named es name) edits csn
effect_placed es name place e edits csn placed =
    let new = edited e edits csn in
    set_replaces es place e new placed.ascends placed.within
    ∙ ap (λ (y : Entry). map (λ x. cond (is_identified y.uuid x) new x) es) (sym placed.at)
    ∙ ap (λ o. modified es o edits csn) (sym placed.named)

-- replacing the entry at its place touches it alone
pub touched_placed : (es : List Entry) (name : List (List TypeAndValue)) (place : ℕ) (e new : Entry) → IsPlaced es name place e → new.uuid ≡ e.uuid
    → touched es (set es place new) ≡ filter is_change (change_from e new ∷ [])
touched_placed es name place e new placed same =
    touched_replaced es place e new placed.ascends placed.within (same ∙ ap (λ (x : Entry). x.uuid) placed.at)
    ∙ ap (λ (x : Entry). filter is_change (change_from x new ∷ [])) (sym placed.at)
