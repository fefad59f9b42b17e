-- What a write does to the names and the attributes of entries depends on these alone.
use Rattle.std.proofs.Common.{◌≡◌, ◌<◌, ℕ, Bool, true, false, not, ◌==◌, nat_lt, if◌then◌else◌, List, [], ◌∷◌, ◌++◌, map, filter, find, Option, Some, None, option_map, refl, sym, ap, ◌∙◌, arith}
use Rattle.std.specs.Prelude.{unwrap_or}
use Rattle.std.specs.List.{list_all}
use Rattle.std.proofs.lemmas.Bool.{and_parts, false≢true, ltb-true, le-ltb}
use Rattle.std.proofs.lemmas.List.{map-append}
use Rattle.schema_rules.specs.declared.attributes.Attribute.{Attribute}
use Rattle.csn_cookie.specs.Csn.{CsnValue}
use Rattle.dn_names.specs.Names.{TypeAndValue, same_name, is_at_or_below, parent_of, moved_name}
use Rattle.entry_writes.specs.declared.edit.Edit.{Edit}
use Rattle.entry_writes.specs.declared.entry.Entry.{Entry}
use Rattle.entry_writes.specs.declared.op.Op.{Op}
use Rattle.entry_writes.specs.declared.op.Op.TheVariants.{Add, Delete, Modify, Rename, Commit}
use Rattle.entry_writes.specs.Edits.{after_edits, with_rdn}
use Rattle.entry_writes.specs.Effects.{edited, modified, moved, new_name, new_attributes, renamed, effect}
use Rattle.entry_writes.specs.Sound.{is_commit}
use Rattle.entry_writes.specs.State.{ascends, put, is_named, entry_named, own_pairs}
use Rattle.drill_plan.specs.Plain.{PlainEntry, plain}
use Rattle.drill_plan.proofs.Firsts.{with_first, mapped_same, filter_mapped, find_mapped, with_first_found, with_first_none, with_first_mapped, made_by, first_identified}

abbrev pub Name : Type 0
Name = List (List TypeAndValue)

abbrev pub is_called : Name → PlainEntry → Bool
is_called name p = same_name p.dn name

-- an entry, where one with the name `top` gets this name; it has then these attributes
abbrev plain_moved : Name → Name → List Attribute → PlainEntry → PlainEntry
plain_moved top name attrs p =
    if is_at_or_below p.dn top then record { dn = moved_name p.dn top name; attrs = attrs } else p

abbrev plain_renamed : List PlainEntry → Name → Option PlainEntry → List TypeAndValue → Bool → Option Name → List PlainEntry
plain_renamed ps name None rdn deletes superior = ps
plain_renamed ps name (Some top) rdn deletes superior =
    with_first (is_called name)
    (λ p. plain_moved top.dn (rdn ∷ unwrap_or superior (parent_of top.dn)) (with_rdn top.attrs (own_pairs top.dn) rdn deletes) p)
    (λ p. plain_moved top.dn (rdn ∷ unwrap_or superior (parent_of top.dn)) p.attrs p)
    ps

-- what an operation does, where an entry that is added comes last
abbrev pub plain_effect : List PlainEntry → Op → List PlainEntry
plain_effect ps (Add name attrs) = ps ++ record { dn = name; attrs = attrs } ∷ []
plain_effect ps (Delete name) = filter (λ p. not (is_called name p)) ps
plain_effect ps (Modify name edits) =
    with_first (is_called name) (λ p. record { dn = p.dn; attrs = after_edits p.attrs edits }) (λ p. p) ps
plain_effect ps (Rename name rdn deletes superior) =
    plain_renamed ps name (find (is_called name) ps) rdn deletes superior
plain_effect ps (Commit puts drops) = ps

-- each is below the identity
abbrev pub all_before : ℕ → List Entry → Bool
all_before uuid entries = list_all (λ e. nat_lt e.uuid uuid) entries

-- ---- an entry that is added

kept_before : (uuid : ℕ) (entries : List Entry) → all_before uuid entries ≡ true
    → filter (λ e. nat_lt e.uuid uuid) entries ≡ entries
kept_before uuid [] low = refl
kept_before uuid (x ∷ xs) low =
    let both = and_parts (nat_lt x.uuid uuid) (all_before uuid xs) low in
    rw both.0 (ap (λ ys. x ∷ ys) (kept_before uuid xs both.1))

not_after : (n m : ℕ) → nat_lt n m ≡ true → nat_lt m n ≡ false
not_after n m less = let low : n < m = ltb-true n m less in le-ltb m n (omega (arith, low))

none_after : (uuid : ℕ) (entries : List Entry) → all_before uuid entries ≡ true
    → filter (λ e. nat_lt uuid e.uuid) entries ≡ []
none_after uuid [] low = refl
none_after uuid (x ∷ xs) low =
    let both = and_parts (nat_lt x.uuid uuid) (all_before uuid xs) low in
    rw (not_after x.uuid uuid both.0) (none_after uuid xs both.1)

-- an entry of a new identity comes last
pub put_last : (e : Entry) (entries : List Entry) → all_before e.uuid entries ≡ true → put e entries ≡ entries ++ e ∷ []
put_last e entries low =
    ap (λ front. front ++ e ∷ filter (λ x. nat_lt e.uuid x.uuid) entries) (kept_before e.uuid entries low)
    ∙ ap (λ back. entries ++ e ∷ back) (none_after e.uuid entries low)

-- ---- a modification

modified_plain : (name : Name) (edits : List Edit) (csn : CsnValue) (entries : List Entry) (found : Option Entry)
    → ascends entries ≡ true → entry_named entries name ≡ found
    → map plain (modified entries found edits csn) ≡ plain_effect (map plain entries) (Modify name edits)
modified_plain name edits csn entries None rise found =
    let none : find (is_called name) (map plain entries) ≡ None =
    find_mapped plain (is_named name) (is_called name) (λ e. refl) entries ∙ ap (option_map plain) found in
    sym (with_first_none (is_called name) (λ p. record { dn = p.dn; attrs = after_edits p.attrs edits }) (λ p. p) (map plain entries) none
    ∙ unchanged (map plain entries))
  where
    unchanged : (ps : List PlainEntry) → map (λ p. p) ps ≡ ps
    unchanged [] = refl
    unchanged (p ∷ ps) = ap (λ qs. p ∷ qs) (unchanged ps)
modified_plain name edits csn entries (Some top) rise found =
    let one : Entry → Entry = λ e. edited top edits csn in
    let own : Entry → Entry = λ e. edited e edits csn in
    let stays : Entry → Entry = λ e. e in
    ap (map plain) (first_identified (is_named name) one stays entries top rise found
    ∙ with_first_found (is_named name) one own stays entries top found refl)
    ∙ with_first_mapped plain (is_named name) own stays (is_called name)
    (λ p. record { dn = p.dn; attrs = after_edits p.attrs edits }) (λ p. p) (λ e. refl) (λ e. refl) (λ e. refl) entries

-- ---- a new name

-- an entry that moves, with these attributes
abbrev pub moved_with : Entry → Name → CsnValue → List Attribute → Entry → Entry
moved_with top name csn attrs e =
    if is_at_or_below e.dn top.dn
    then record { uuid = e.uuid; csn = csn; dn = moved_name e.dn top.dn name; attrs = attrs }
    else e

-- an entry that is moved has its new name, and keeps its attributes but for the named one's
pub moved_parts : (top : Entry) (name : Name) (attrs : List Attribute) (csn : CsnValue) (e : Entry)
    → moved top name attrs csn e ≡ made_by (moved_with top name csn attrs) (λ x. moved_with top name csn x.attrs x) top.uuid e
moved_parts top name attrs csn e =
    elim (e.uuid == top.uuid) as (λ b.
    (if is_at_or_below e.dn top.dn
    then record { uuid = e.uuid; csn = csn; dn = moved_name e.dn top.dn name; attrs = if b then attrs else e.attrs }
    else e)
    ≡ (if b then moved_with top name csn attrs e else moved_with top name csn e.attrs e))
    [ true ↦ refl | false ↦ refl ]

plain_of_moved : (top : Entry) (name : Name) (csn : CsnValue) (attrs : List Attribute) (e : Entry)
    → plain (moved_with top name csn attrs e) ≡ plain_moved top.dn name attrs (plain e)
plain_of_moved top name csn attrs e =
    elim (is_at_or_below e.dn top.dn) as (λ b.
    plain (if b then record { uuid = e.uuid; csn = csn; dn = moved_name e.dn top.dn name; attrs = attrs } else e)
    ≡ (if b then record { dn = moved_name e.dn top.dn name; attrs = attrs } else plain e))
    [ true ↦ refl | false ↦ refl ]

renamed_plain : (name : Name) (rdn : List TypeAndValue) (deletes : Bool) (superior : Option Name) (csn : CsnValue) (entries : List Entry)
    (found : Option Entry) → ascends entries ≡ true → entry_named entries name ≡ found
    → map plain (renamed entries found rdn deletes superior csn)
    ≡ plain_renamed (map plain entries) name (option_map plain found) rdn deletes superior
renamed_plain name rdn deletes superior csn entries None rise found = refl
renamed_plain name rdn deletes superior csn entries (Some top) rise found =
    let to = new_name top rdn superior in
    let attrs = new_attributes top rdn deletes in
    let one = moved_with top to csn attrs in
    let other : Entry → Entry = λ x. moved_with top to csn x.attrs x in
    ap (map plain) (mapped_same (moved top to attrs csn) (made_by one other top.uuid) (moved_parts top to attrs csn) entries
    ∙ first_identified (is_named name) one other entries top rise found)
    ∙ with_first_mapped plain (is_named name) one other (is_called name)
    (λ p. plain_moved top.dn to attrs p) (λ p. plain_moved top.dn to p.attrs p)
    (λ e. refl) (λ e. plain_of_moved top to csn attrs e) (λ e. plain_of_moved top to csn e.attrs e) entries

-- ---- any write but a commit

-- the names and attributes after a write are those of the write on names and attributes
pub effect_plain : (op : Op) (entries : List Entry) (uuid : ℕ) (csn : CsnValue) → is_commit op ≡ false
    → ascends entries ≡ true → all_before uuid entries ≡ true
    → map plain (effect entries op uuid csn) ≡ plain_effect (map plain entries) op
effect_plain (Add name attrs) entries uuid csn asked rise low =
    ap (map plain) (put_last (record { uuid = uuid; csn = csn; dn = name; attrs = attrs }) entries low)
    ∙ map-append plain entries (record { uuid = uuid; csn = csn; dn = name; attrs = attrs } ∷ [])
effect_plain (Delete name) entries uuid csn asked rise low =
    filter_mapped plain (λ e. not (is_named name e)) (λ p. not (is_called name p)) (λ e. refl) entries
effect_plain (Modify name edits) entries uuid csn asked rise low =
    modified_plain name edits csn entries (entry_named entries name) rise refl
effect_plain (Rename name rdn deletes superior) entries uuid csn asked rise low =
    renamed_plain name rdn deletes superior csn entries (entry_named entries name) rise refl
    ∙ ap (λ found. plain_renamed (map plain entries) name found rdn deletes superior)
    (sym (find_mapped plain (is_named name) (is_called name) (λ e. refl) entries))
effect_plain (Commit puts drops) entries uuid csn asked rise low = absurd (false≢true (sym asked))
