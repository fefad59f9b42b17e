-- Changes of the attributes of an entry: edits (RFC 4511, section 4.6), and those of a
-- new RDN (section 4.9).
use Rattle.std.specs.Prelude.{ℕ, Bool, false, not, ◌&&◌, ◌==◌, if◌then◌else◌, List, [], ◌∷◌, ◌++◌, length, map, filter, fold, Option, Some, None}
use Rattle.std.specs.Option.{option_or}
use Rattle.std.specs.List.{list_any, list_all, flat_map}
use Rattle.ldap_constants.specs.declared.result_codes.TheConstants.{NO_SUCH_ATTRIBUTE, ATTRIBUTE_OR_VALUE_EXISTS}
use Rattle.schema_rules.specs.declared.attributes.Attribute.{Attribute}
use Rattle.schema_rules.specs.declared.raw.How.{How}
use Rattle.schema_rules.specs.declared.raw.How.TheVariants as how
use Rattle.schema_rules.specs.Attributes.{with_values, has_duplicates, has_kind}
use Rattle.schema_rules.specs.Keys.{key_of, keys_of}
use Rattle.schema_rules.specs.Schema.{is_among}
use Rattle.dn_names.specs.Names.{TypeAndValue, has_pair}
use Rattle.entry_writes.specs.declared.edit.Edit.{Edit}

-- ---- what attributes have

abbrev pub is_key_among : List (List ℕ) → Option (List ℕ) → Bool
is_key_among keys None = false
is_key_among keys (Some key) = is_among key keys

-- the key of the value is one of the keys: values match where their keys are equal (RFC
-- 4512, section 2.5.1)
abbrev pub matches : ℕ → List (List ℕ) → List ℕ → Bool
matches kind keys value = is_key_among keys (key_of kind value)

-- the keys of the values that are there of a type
abbrev pub keys_there : List Attribute → ℕ → List (List ℕ)
keys_there attrs kind = flat_map (λ a. keys_of kind a.values) (filter (λ a. a.kind == kind) attrs)

abbrev pub has_some : List Attribute → ℕ → List (List ℕ) → Bool
has_some attrs kind values = list_any (matches kind (keys_there attrs kind)) values

abbrev pub has_each : List Attribute → ℕ → List (List ℕ) → Bool
has_each attrs kind values = list_all (matches kind (keys_there attrs kind)) values

-- this is the key of the value
abbrev pub has_key : ℕ → List ℕ → List ℕ → Bool
has_key kind key value = is_among key (keys_of kind (value ∷ []))

-- the attribute is of the type, and this is the key of one of its values
abbrev pub holds_key : ℕ → List ℕ → Attribute → Bool
holds_key kind key a = (a.kind == kind) && list_any (has_key kind key) a.values

-- the value of the pair is there
abbrev pub has_pair_value : List Attribute → TypeAndValue → Bool
has_pair_value attrs pair = matches pair.kind (keys_there attrs pair.kind) pair.value

-- ---- changes

-- an attribute that lost its last value is removed
abbrev pub filled : List Attribute → List Attribute
filled attrs = filter (λ a. not (length a.values == 0)) attrs

-- the attribute, with other values where it is of the type
abbrev pub change_of : (List (List ℕ) → List (List ℕ)) → ℕ → Attribute → Attribute
change_of change kind a =
    if a.kind == kind then record { kind = a.kind; values = change a.values } else a

-- the attributes, with other values of one type
abbrev pub with_change : (List (List ℕ) → List (List ℕ)) → List Attribute → ℕ → List Attribute
with_change change attrs kind = map (change_of change kind) attrs

-- the values that match none of these keys
abbrev pub unmatched : ℕ → List (List ℕ) → List (List ℕ) → List (List ℕ)
unmatched kind keys held = filter (λ value. not (matches kind keys value)) held

-- without the type
abbrev pub without_kind : List Attribute → ℕ → List Attribute
without_kind attrs kind = filter (λ a. not (a.kind == kind)) attrs

-- without the values of the type that match one of these
abbrev pub without_values : List Attribute → ℕ → List (List ℕ) → List Attribute
without_values attrs kind values =
    filled (with_change (unmatched kind (keys_of kind values)) attrs kind)

-- with these values of the type alone, in its place, or last where the type is new
abbrev pub with_only : List Attribute → ℕ → List (List ℕ) → List Attribute
with_only attrs kind values =
    if has_kind attrs kind then with_change (λ held. values) attrs kind
    else attrs ++ record { kind = kind; values = values } ∷ []

abbrev pub deleted : List Attribute → ℕ → List (List ℕ) → List Attribute
deleted attrs kind values =
    if length values == 0 then without_kind attrs kind else without_values attrs kind values

abbrev pub replaced : List Attribute → ℕ → List (List ℕ) → List Attribute
replaced attrs kind values =
    if length values == 0 then without_kind attrs kind else with_only attrs kind values

-- ---- edits (RFC 4511, section 4.6)

abbrev pub changed : How → List Attribute → ℕ → List (List ℕ) → List Attribute
changed how.Add attrs kind values = with_values attrs kind values
changed how.Delete attrs kind values = deleted attrs kind values
changed how.Replace attrs kind values = replaced attrs kind values

-- the attributes after an edit
abbrev pub after_edit : List Attribute → Edit → List Attribute
after_edit attrs edit = changed edit.how attrs edit.kind edit.values

abbrev pub how_code : How → List Attribute → ℕ → List (List ℕ) → Option ℕ
how_code how.Add attrs kind values =
    if has_some attrs kind values then Some ATTRIBUTE_OR_VALUE_EXISTS else None
how_code how.Delete attrs kind values =
    if has_kind attrs kind && has_each attrs kind values then None else Some NO_SUCH_ATTRIBUTE
how_code how.Replace attrs kind values = None

-- the code of an edit: attributeOrValueExists where two of its values have one key or it adds
-- a value that is there, noSuchAttribute where it deletes a value or a type that is not there
abbrev pub edit_code : List Attribute → Edit → Option ℕ
edit_code attrs edit =
    if has_duplicates (keys_of edit.kind edit.values) then Some ATTRIBUTE_OR_VALUE_EXISTS
    else how_code edit.how attrs edit.kind edit.values

-- edits are made one after the other
abbrev pub after_edits : List Attribute → List Edit → List Attribute
after_edits attrs edits = fold after_edit attrs edits

-- and each is judged by the attributes that it finds
abbrev pub edits_code : List Attribute → List Edit → Option ℕ
edits_code attrs [] = None
edits_code attrs (edit ∷ edits) =
    option_or (edit_code attrs edit) (edits_code (after_edit attrs edit) edits)

-- ---- a new RDN (RFC 4511, section 4.9)

-- the pair's value goes last, where none that matches is there
abbrev pub with_pair : List Attribute → TypeAndValue → List Attribute
with_pair attrs pair =
    if has_pair_value attrs pair then attrs else with_values attrs pair.kind (pair.value ∷ [])

abbrev pub without_pair : List Attribute → TypeAndValue → List Attribute
without_pair attrs pair = without_values attrs pair.kind (pair.value ∷ [])

-- the pairs of the one RDN that are not in the other
abbrev pub pairs_gone : List TypeAndValue → List TypeAndValue → List TypeAndValue
pairs_gone old new = filter (λ pair. not (has_pair new pair)) old

-- with the values of the new RDN, and without those of the old one that are not in the new,
-- where these are to go
abbrev pub with_rdn : List Attribute → List TypeAndValue → List TypeAndValue → Bool → List Attribute
with_rdn attrs old new deletes =
    if deletes then fold without_pair (fold with_pair attrs new) (pairs_gone old new)
    else fold with_pair attrs new
