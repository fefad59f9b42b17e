-- A Rename leaves entries that can be sent.
use Rattle.std.proofs.Common.{◌≡◌, ◌≤◌, Bool, true, false, ◌&&◌, cond, nat_eq, nat_lt, List, [], ◌∷◌, length, map, Option, Some, None}
use Rattle.std.specs.Prelude.{IfSome}
use Rattle.std.specs.List.{All, AllPass}
use Rattle.std.proofs.lemmas.Bool.{cond_both, or_parts, ltb-false}
use Rattle.std.proofs.lemmas.List.Elements.{All-nil, All-cons, All-head, All-tail}
use Rattle.schema_rules.specs.declared.attributes.Attribute.{Attribute}
use Rattle.schema_rules.specs.Attributes.{weight_of}
use Rattle.csn_cookie.specs.Csn.{CsnValue, IsCsn}
use Rattle.dn_names.specs.Names.{TypeAndValue, is_at_or_below, moved_name}
use Rattle.dn_names.specs.Sound.{IsName, is_rdn, most_rdns}
use Rattle.entry_tree.specs.declared.entry.Entry.{Entry}
use Rattle.entry_tree.specs.Codes.{has_too_long, rename_code}
use Rattle.entry_tree.specs.Effects.{moved, new_name, new_attributes, renamed}
use Rattle.entry_tree.specs.State.{most_entry_weight, own_pairs}
use Rattle.sync_wire.specs.CanBeSent.{CanBeSent}
use Rattle.directory_laws.proofs.Codes.{IsMovable-moved}
use Rattle.directory_laws.proofs.Names.{AllPass-new_name, IsName-moved_name}
use Rattle.directory_laws.proofs.NewRdn.{IsGivenList, IsGivenList-with_rdn}

-- attributes that an entry may have
record AreSound (attrs : List Attribute) : Type 0 where
  held : IsGivenList attrs
  light : weight_of attrs ≤ most_entry_weight

of_entry : (e : Entry) → CanBeSent e → AreSound e.attrs
of_entry e sound = record {
  held = record { list = sound.listed; given = sound.given };
  light = sound.light;
}

right_false : (a b : Bool) → a ≡ true → (a && b) ≡ false → b ≡ false
right_false true b here e = e
right_false false b here e = absurd (cc)

-- an entry that is not moved to too long a name
CanBeSent-moved : (top : Entry) (name : List (List TypeAndValue)) (attrs : List Attribute) (csn : CsnValue) (e : Entry)
    → AllPass is_rdn name → AreSound attrs → IsCsn csn → CanBeSent e
    → (is_at_or_below e.dn top.dn && nat_lt most_rdns (length (moved_name e.dn top.dn name))) ≡ false → CanBeSent (moved top name attrs csn e)
CanBeSent-moved top name attrs csn e all fresh is_csn sound short =
    cond_both (is_at_or_below e.dn top.dn)
    (let new : Entry = record { uuid = e.uuid; csn = csn; dn = moved_name e.dn top.dn name; attrs = cond (nat_eq e.uuid top.uuid) attrs e.attrs } in new)
    e CanBeSent below (λ _. sound)
  where
    has : AreSound (cond (nat_eq e.uuid top.uuid) attrs e.attrs)
    has = cond_both (nat_eq e.uuid top.uuid) attrs e.attrs AreSound (λ _. fresh) (λ _. of_entry e sound)

    below : is_at_or_below e.dn top.dn ≡ true
        → CanBeSent (let new : Entry = record { uuid = e.uuid; csn = csn; dn = moved_name e.dn top.dn name; attrs = cond (nat_eq e.uuid top.uuid) attrs e.attrs } in new)
    below is_below = record {
      name = IsName-moved_name e.dn top.dn name sound.name all
          (ltb-false most_rdns (length (moved_name e.dn top.dn name)) (right_false (is_at_or_below e.dn top.dn) _ is_below short));
      listed = has.held.list;
      given = has.held.given;
      light = has.light;
      is_csn = is_csn;
      identity = sound.identity;
    }

all-moved : (top : Entry) (name : List (List TypeAndValue)) (attrs : List Attribute) (csn : CsnValue) (entries : List Entry)
    → AllPass is_rdn name → AreSound attrs → IsCsn csn → All CanBeSent entries → has_too_long entries top name ≡ false
    → All CanBeSent (map (moved top name attrs csn) entries)
all-moved top name attrs csn [] all fresh is_csn sound short = All-nil CanBeSent
all-moved top name attrs csn (e ∷ entries) all fresh is_csn sound short =
    let parts = or_parts (is_at_or_below e.dn top.dn && nat_lt most_rdns (length (moved_name e.dn top.dn name))) (has_too_long entries top name) short in
    All-cons CanBeSent (moved top name attrs csn e) (map (moved top name attrs csn) entries)
    (CanBeSent-moved top name attrs csn e all fresh is_csn (All-head CanBeSent e entries sound) parts.0)
    (all-moved top name attrs csn entries all fresh is_csn (All-tail CanBeSent e entries sound) parts.1)

-- entries can be sent after a Rename
pub sent-renamed : (suffix : List (List TypeAndValue)) (entries : List Entry) (found : Option Entry) (rdn : List TypeAndValue) (deletes : Bool)
    (superior : Option (List (List TypeAndValue))) (csn : CsnValue) → All CanBeSent entries → IfSome found CanBeSent → is_rdn rdn ≡ true → IfSome superior IsName
    → IsCsn csn → rename_code suffix entries found rdn deletes superior ≡ None → All CanBeSent (renamed entries found rdn deletes superior csn)
sent-renamed suffix entries None rdn deletes superior csn sound here is above is_csn none = sound
sent-renamed suffix entries (Some top) rdn deletes superior csn sound here is above is_csn none =
    let name = new_name top rdn superior in
    let attrs = new_attributes top rdn deletes in
    let movable = IsMovable-moved suffix entries top name attrs superior none in
    all-moved top name attrs csn entries (AllPass-new_name top rdn superior here.name is above)
    (record {
      held = IsGivenList-with_rdn top.attrs (own_pairs top.dn) rdn deletes is (of_entry top here).held;
      light = movable.light;
    }) is_csn sound movable.short
