-- Whether two entries are one, byte for byte.
use Rattle.std.specs.Prelude.{Bool, true, false, ◌&&◌, ◌==◌, List, length, Option, Some, None, bytes_eq}
use Rattle.std.specs.List.{list_all, zip}
use Rattle.ldap_ber.specs.Octets.{lists_eq}
use Rattle.schema_rules.specs.declared.attributes.Attribute.{Attribute}
use Rattle.csn_cookie.specs.Csn.{CsnValue}
use Rattle.dn_names.specs.Names.{TypeAndValue}
use Rattle.entry_writes.specs.declared.entry.Entry.{Entry}

abbrev pub is_one_csn : CsnValue → CsnValue → Bool
is_one_csn one other =
    (one.micros == other.micros)
    && ((one.count == other.count) && ((one.sid == other.sid) && (one.part == other.part)))

-- as many items, and each is one with the other list's
abbrev pub each_one : {X : Type 0} → (X → X → Bool) → List X → List X → Bool
each_one is_one one other =
    (length one == length other) && list_all (λ items. is_one items.0 items.1) (zip one other)

abbrev pub is_one_pair : TypeAndValue → TypeAndValue → Bool
is_one_pair one other = (one.kind == other.kind) && bytes_eq one.value other.value

abbrev pub is_one_rdn : List TypeAndValue → List TypeAndValue → Bool
is_one_rdn one other = each_one is_one_pair one other

abbrev pub is_one_name : List (List TypeAndValue) → List (List TypeAndValue) → Bool
is_one_name one other = each_one is_one_rdn one other

abbrev pub is_one_attribute : Attribute → Attribute → Bool
is_one_attribute one other = (one.kind == other.kind) && lists_eq one.values other.values

abbrev pub is_one_list : List Attribute → List Attribute → Bool
is_one_list one other = each_one is_one_attribute one other

abbrev pub is_one_entry : Entry → Entry → Bool
is_one_entry one other =
    (one.uuid == other.uuid)
    && (is_one_csn one.csn other.csn
    && (is_one_name one.dn other.dn && is_one_list one.attrs other.attrs))

-- neither is there, or both are and are one
abbrev pub is_one_found : Option Entry → Option Entry → Bool
is_one_found None None = true
is_one_found None (Some other) = false
is_one_found (Some one) None = false
is_one_found (Some one) (Some other) = is_one_entry one other
