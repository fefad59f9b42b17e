-- Which attributes of an entry a search without content synchronisation is sent
-- (RFC 4511, section 4.5.1.8).
use Rattle.std.specs.Prelude.{ℕ, Bool, false, not, ◌&&◌, ◌||◌, ◌==◌, List, [], ◌++◌, map, filter, length, Option, Some, None, if◌then◌else◌, codes}
use Rattle.std.specs.List.{list_any, flat_map}
use Rattle.std.specs.Str.{bytes_eq}
use Rattle.dn_names.specs.Writing.{name_text}
use Rattle.entry_tree.specs.declared.entry.Entry.{Entry}
use Rattle.ldap_messages.specs.Operation.{entry}
use Rattle.ldap_messages.specs.Whole.{MessageValue, message_octets}
use Rattle.schema_rules.specs.declared.raw.RawAttribute.{RawAttribute}
use Rattle.schema_rules.specs.Schema.{type_named, is_operational}
use Rattle.sync_wire.specs.Sending.{attributes_of}
use Rattle.ldap_server.specs.Encoding.{response_octets}
use Rattle.ldap_server.specs.declared.response.Response.TheVariants.{SearchDone}

-- the two types are the same one of the schema
abbrev pub is_type : Option ℕ → Option ℕ → Bool
is_type None other = false
is_type (Some kind) None = false
is_type (Some kind) (Some other) = kind == other

-- a type of the schema that is operational
abbrev pub has_operational : Option ℕ → Bool
has_operational None = false
has_operational (Some kind) = is_operational kind

-- every user attribute, every operational one
unfoldable pub all_user : List ℕ
all_user = codes "*"

unfoldable pub all_operational : List ℕ
all_operational = codes "+"

-- what a selector selects: `*` the user attributes, `+` the operational ones, a name its type; what
-- names no type, as `1.1` does, selects nothing
abbrev pub selects_type : Option ℕ → List ℕ → Bool
selects_type kind selector =
    (bytes_eq selector all_user && not (has_operational kind))
    || ((bytes_eq selector all_operational && has_operational kind)
    || is_type (type_named selector) kind)

-- no selector stands for the user attributes
abbrev pub is_chosen : List (List ℕ) → Option ℕ → Bool
is_chosen selectors kind =
    if length selectors == 0 then not (has_operational kind)
    else list_any (selects_type kind) selectors

abbrev pub is_selected : List (List ℕ) → RawAttribute → Bool
is_selected selectors attribute = is_chosen selectors (type_named attribute.name)

-- the values that are sent of an attribute: none where types alone are wanted
abbrev pub values_sent : Bool → List (List ℕ) → List (List ℕ)
values_sent types_only values = if types_only then [] else values

abbrev pub as_sent : Bool → RawAttribute → RawAttribute
as_sent types_only attribute = record {
  name = attribute.name;
  values = values_sent types_only attribute.values;
}

-- what is sent of these attributes
abbrev pub sent_of : List (List ℕ) → Bool → List RawAttribute → List RawAttribute
sent_of selectors types_only attributes =
    map (as_sent types_only) (filter (is_selected selectors) attributes)

abbrev pub selected_of : List (List ℕ) → Bool → Entry → List RawAttribute
selected_of selectors types_only e = sent_of selectors types_only (attributes_of e)

-- an entry as a search is sent it
abbrev pub entry_whole : ℕ → List (List ℕ) → Bool → Entry → MessageValue
entry_whole id selectors types_only e =
    (id, (entry (name_text e.dn, selected_of selectors types_only e), []))

abbrev pub entry_octets : ℕ → List (List ℕ) → Bool → Entry → List ℕ
entry_octets id selectors types_only e =
    message_octets (entry_whole id selectors types_only e)

-- these entries, and the end with this code
abbrev pub entries_and_done : ℕ → List (List ℕ) → Bool → List Entry → ℕ → List ℕ
entries_and_done id selectors types_only entries code =
    flat_map (entry_octets id selectors types_only) entries
    ++ response_octets id SearchDone code
