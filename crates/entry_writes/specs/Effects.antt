-- The entries after a write (RFC 4511, sections 4.6 to 4.9).
use Rattle.std.specs.Prelude.{ℕ, Bool, not, ◌==◌, if◌then◌else◌, List, ◌∷◌, map, filter, fold, Option, Some, None, unwrap_or}
use Rattle.std.specs.List.{list_any}
use Rattle.schema_rules.specs.declared.attributes.Attribute.{Attribute}
use Rattle.csn_cookie.specs.Csn.{CsnValue}
use Rattle.dn_names.specs.Names.{TypeAndValue, is_at_or_below, parent_of, moved_name}
use Rattle.entry_writes.specs.declared.edit.Edit.{Edit}
use Rattle.entry_writes.specs.declared.entry.Entry.{Entry}
use Rattle.entry_writes.specs.declared.op.Op.{Op}
use Rattle.entry_writes.specs.declared.op.Op.TheVariants.{Add, Delete, Modify, Rename, Commit}
use Rattle.entry_writes.specs.Edits.{after_edits, with_rdn}
use Rattle.entry_writes.specs.State.{put, is_identified, is_named, entry_named, own_pairs}

-- an edited entry has the CSN of the write
abbrev pub edited : Entry → List Edit → CsnValue → Entry
edited e edits csn =
    record { uuid = e.uuid; csn = csn; dn = e.dn; attrs = after_edits e.attrs edits }

-- and is in the place of the entry
abbrev pub modified : List Entry → Option Entry → List Edit → CsnValue → List Entry
modified entries None edits csn = entries
modified entries (Some e) edits csn =
    map (λ other. if is_identified e.uuid other then edited e edits csn else other) entries

-- the new RDN before the new superior, or before the old parent
abbrev pub new_name :
    Entry → List TypeAndValue → Option (List (List TypeAndValue)) → List (List TypeAndValue)
new_name e rdn superior = rdn ∷ unwrap_or superior (parent_of e.dn)

abbrev pub new_attributes : Entry → List TypeAndValue → Bool → List Attribute
new_attributes e rdn deletes = with_rdn e.attrs (own_pairs e.dn) rdn deletes

-- an entry, where `top` gets this name and these attributes: each at or below it is moved, and has
-- the CSN of the write; the others stay
abbrev pub moved : Entry → List (List TypeAndValue) → List Attribute → CsnValue → Entry → Entry
moved top name attrs csn e =
    if is_at_or_below e.dn top.dn
    then record {
      uuid = e.uuid;
      csn = csn;
      dn = moved_name e.dn top.dn name;
      attrs = if e.uuid == top.uuid then attrs else e.attrs;
    }
    else e

abbrev pub renamed :
    List Entry → Option Entry → List TypeAndValue → Bool → Option (List (List TypeAndValue))
    → CsnValue
    → List Entry
renamed entries None rdn deletes superior csn = entries
renamed entries (Some top) rdn deletes superior csn =
    map (moved top (new_name top rdn superior) (new_attributes top rdn deletes) csn) entries

-- the identity is one of these
abbrev pub is_one_of : List ℕ → Entry → Bool
is_one_of uuids e = list_any (λ uuid. is_identified uuid e) uuids

-- the entries without these identities, and then with each of these entries in the place
-- of one of its identity
abbrev pub committed : List Entry → List Entry → List ℕ → List Entry
committed entries puts drops =
    fold (λ held entry. put entry held) (filter (λ e. not (is_one_of drops e)) entries) puts

-- the entries after a write that has no code against it; an entry that it adds has the identity,
-- and each entry that it adds or changes the CSN
abbrev pub effect : List Entry → Op → ℕ → CsnValue → List Entry
effect entries (Add name attrs) uuid csn =
    put (record { uuid = uuid; csn = csn; dn = name; attrs = attrs }) entries
effect entries (Delete name) uuid csn = filter (λ e. not (is_named name e)) entries
effect entries (Modify name edits) uuid csn = modified entries (entry_named entries name) edits csn
effect entries (Rename name rdn deletes superior) uuid csn =
    renamed entries (entry_named entries name) rdn deletes superior csn
effect entries (Commit puts drops) uuid csn = committed entries puts drops
