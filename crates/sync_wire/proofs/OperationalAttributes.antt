-- The attributes of an entry as they are sent, read again.
use Rattle.std.proofs.Common.{◌≡◌, ◌≢◌, ℕ, zero, suc, ◌<◌, ◌≤◌, ◌^◌, Bool, true, false, not, ◌&&◌, ◌||◌, ◌==◌, cond, if◌then◌else◌, List, [], ◌∷◌, ◌++◌, map, length, codes, append-nil, get_or, Option, None, Some, is_some, Result, Ok, Err, inl, inr, true≢false, ap, sym, ◌∙◌, refl, zero-add, arith}
use Rattle.std.specs.Prelude.{find, All}
use Rattle.std.specs.Option.{option_map}
use Rattle.std.specs.List.{list_all, filter, filter_map, flat_map, range_with_len}
use Rattle.std.specs.Int.{w128, from_be_bytes, to_be_bytes, byte_at, bytes_high_first}
use Rattle.std.specs.Str.{str_eq_ignore_ascii_case}
use Rattle.std.proofs.lemmas.Bool.{cases_lt, le-ltb, eq-eqb, and_parts, not-true}
use Rattle.std.proofs.lemmas.List.{get_or_past}
use Rattle.std.proofs.lemmas.List.Concat.{flat_map-append}
use Rattle.std.proofs.lemmas.List.Elements.{All-nil, All-cons, All-head, All-tail, filter-append, filter_map-append}
use Rattle.std.proofs.lemmas.List.FromFn.{get_or-map-range_with_len}
use Rattle.ldap_constants.specs.declared.result_codes.TheConstants.{ADMIN_LIMIT_EXCEEDED, INVALID_ATTRIBUTE_SYNTAX}
use Rattle.uuid.specs.Text.{parsed, hyphenated_text, lower}
use Rattle.uuid.proofs.RoundTrips.{parses_hyphenated}
use Rattle.uuid.proofs.TextLemmas.{by_index_length}
use Rattle.csn_cookie.specs.Csn.{CsnValue, csn_text}
use Rattle.csn_cookie.proofs.SpellingLemmas.{csn_of_text-csn_text}
use Rattle.schema_rules.specs.declared.attributes.Attribute.{Attribute}
use Rattle.schema_rules.specs.declared.raw.RawAttribute.{RawAttribute}
use Rattle.schema_rules.specs.declared.types.Rule.{Rule}
use Rattle.schema_rules.specs.declared.types.Rule.TheVariants.{Class, Folded, FoldedAscii, ExactAscii, Whole, Flag, Time, Operational}
use Rattle.schema_rules.specs.Attributes.{is_given, is_of_syntax, joined, weight_of, raw_of}
use Rattle.schema_rules.specs.Keys.{key_by, key_of}
use Rattle.schema_rules.specs.Schema.{TypeRow, types, no_type, type_name, type_rule, type_named, is_operational, is_operational_rule, class_named}
use Rattle.schema_rules.proofs.Tables.{found_by_name}
use Rattle.dn_names.specs.Writing.{name_text}
use Rattle.dn_names.proofs.Rereading.{name_read_again}
use Rattle.entry_tree.specs.declared.entry.Entry.{Entry}
use Rattle.entry_tree.specs.State.{most_entry_weight}
use Rattle.sync_messages.proofs.UuidLemmas.{from_be_bytes-to_be_bytes_16}
use Rattle.sync_wire.specs.declared.fault.DecodeFault.{DecodeFault}
use Rattle.sync_wire.specs.Refusals.{and_then, bad_entry}
use Rattle.sync_wire.specs.CanBeSent.{CanBeSent}
use Rattle.sync_wire.specs.Sending.{uuid_text, operational_attributes_of, attributes_of as sent_attributes}
use Rattle.sync_wire.specs.WireEntry.{values_named, uuid_of, uuid_values, first_other, same_or_refused, checked_uuid, are_uuids, or_object_class_violation, one_csn, entry_csn, is_kept_by, kept_values, unless_empty, kept_of, kept, attributes_of, is_of_its_syntax, or_invalid_dn_syntax, checked_syntax, checked_weight, entry_of}
use Rattle.sync_wire.proofs.Listed.{joined-once}
use Rattle.sync_wire.proofs.Keeping.{some_if}

-- ---- types that a client may give

table_size : length types ≡ 24
unfolding types
table_size = refl

known : (kind : ℕ) → is_operational kind ≡ false → kind < 24
known kind given =
    elim (cases_lt kind 24) [
      | inl low ↦ low
      | inr high ↦
          let past = get_or_past types kind no_type (rw table_size high) in
          absurd (true≢false (sym (ap (λ (row : TypeRow). is_operational_rule row.rule) past) ∙ given))
    ]

-- what such a type has in the table
at_type : (test : ℕ → Bool) (kind : ℕ) → map test (range_with_len 0 24) ≡ map (λ n. true) (range_with_len 0 24) → kind < 24 → test kind ≡ true
at_type test kind all low =
    sym (get_or-map-range_with_len test 0 24 kind kind true low (zero-add kind))
    ∙ ap (λ found. get_or found kind true) all
    ∙ get_or-map-range_with_len (λ n. true) 0 24 kind kind true low (zero-add kind)

-- its name is that of no operational one
abbrev differs : List ℕ → ℕ → Bool
differs name n = is_operational n || not (str_eq_ignore_ascii_case (type_name n) name)

abbrev IsOperationalName : List ℕ → Type 0
IsOperationalName name = map (differs name) (range_with_len 0 24) ≡ map (λ n. true) (range_with_len 0 24)

uuid_is_operational : IsOperationalName (codes "entryUUID")
unfolding types
uuid_is_operational = refl

csn_is_operational : IsOperationalName (codes "entryCSN")
unfolding types
csn_is_operational = refl

not_operational : (name : List ℕ) (kind : ℕ) → IsOperationalName name → is_operational kind ≡ false → str_eq_ignore_ascii_case (type_name kind) name ≡ false
not_operational name kind named given =
    let other = at_type (differs name) kind named (known kind given) in
    not-true (str_eq_ignore_ascii_case (type_name kind) name) (sym (ap (λ b. b || not (str_eq_ignore_ascii_case (type_name kind) name)) given) ∙ other)

-- ---- the values of the operational attributes

given_of : (a : Attribute) (attrs : List Attribute) → list_all is_given (a ∷ attrs) ≡ true
    → (is_operational a.kind ≡ false) × (list_all (is_of_syntax a.kind) a.values ≡ true) × (list_all is_given attrs ≡ true)
given_of a attrs given =
    let h = and_parts (is_given a) (list_all is_given attrs) given in
    let k = and_parts (not (is_operational a.kind)) (list_all (is_of_syntax a.kind) a.values) h.0 in
    (not-true (is_operational a.kind) k.0, k.1, h.1)

abbrev has_name : List ℕ → RawAttribute → Bool
has_name name raw = str_eq_ignore_ascii_case raw.name name

none_named : (name : List ℕ) → IsOperationalName name → (attrs : List Attribute) → list_all is_given attrs ≡ true → values_named name (map raw_of attrs) ≡ []
none_named name named [] given = refl
none_named name named (a ∷ attrs) given =
    let h = given_of a attrs given in
    let rest = filter (has_name name) (map raw_of attrs) in
    ap (λ b. flat_map (λ raw. raw.values) (cond b (raw_of a ∷ rest) rest)) (not_operational name a.kind named h.0) ∙ none_named name named attrs h.2

values_named-append : (name : List ℕ) (xs ys : List RawAttribute) → values_named name (xs ++ ys) ≡ values_named name xs ++ values_named name ys
values_named-append name xs ys =
    ap (flat_map (λ raw. raw.values)) (filter-append (has_name name) xs ys) ∙ flat_map-append (λ raw. raw.values) (filter (has_name name) xs) (filter (has_name name) ys)

-- among the attributes of an entry only the operational ones have such a name
operational_named : (name : List ℕ) → IsOperationalName name → (e : Entry) → list_all is_given e.attrs ≡ true → values_named name (sent_attributes e) ≡ values_named name (operational_attributes_of e)
operational_named name named e given =
    values_named-append name (map raw_of e.attrs) (operational_attributes_of e) ∙ ap (λ values. values ++ values_named name (operational_attributes_of e)) (none_named name named e.attrs given)

uuids_of : (e : Entry) → list_all is_given e.attrs ≡ true → uuid_values (sent_attributes e) ≡ uuid_text e.uuid ∷ []
uuids_of e given = operational_named (codes "entryUUID") uuid_is_operational e given

csns_of : (e : Entry) → list_all is_given e.attrs ≡ true → values_named (codes "entryCSN") (sent_attributes e) ≡ csn_text e.csn ∷ []
csns_of e given = operational_named (codes "entryCSN") csn_is_operational e given

-- ---- the identity

byte_small : (i n : ℕ) → byte_at i n < 256
byte_small zero n = omega arith
byte_small (suc i) n = omega arith

bytes_small : (k n : ℕ) → All (λ b. b < 256) (bytes_high_first k n)
bytes_small zero n = All-nil (λ b. b < 256)
bytes_small (suc k) n = All-cons (λ b. b < 256) (byte_at k n) (bytes_high_first k n) (byte_small k n) (bytes_small k n)

octets_small : (uuid : ℕ) → All (λ b. b < 256) (to_be_bytes w128 uuid)
octets_small uuid = bytes_small 16 uuid

identity_in : (b : Bool) (found : Option (List ℕ)) (bytes : List ℕ) (uuid : ℕ) → b ≡ true → Some bytes ≡ found → from_be_bytes w128 bytes ≡ uuid
    → (if b then option_map (from_be_bytes w128) found else None) ≡ Some uuid
identity_in b found bytes uuid long is same = rw (long, ← is) (ap Some same)

uuid_again : (uuid : ℕ) → uuid < 2 ^ 128 → uuid_of (uuid_text uuid) ≡ Some uuid
unfolding uuid_text
uuid_again uuid small =
    let bytes = to_be_bytes w128 uuid in
    let text = hyphenated_text lower bytes in
    let size : length text ≡ 36 = by_index_length 36 _ in
    identity_in (length text == 36) (parsed text) bytes uuid (eq-eqb (length text) 36 size) (parses_hyphenated lower bytes (inl refl) refl (octets_small uuid)) (from_be_bytes-to_be_bytes_16 uuid small)

no_other : (spelled : List ℕ → Option ℕ) (uuid : ℕ) (text : List ℕ) → spelled text ≡ Some uuid → find (λ other. not (other == uuid)) (filter_map spelled (text ∷ [])) ≡ None
no_other spelled uuid text same = rw (same, eq-eqb uuid uuid refl) refl

all_spelled : (spelled : List ℕ → Option ℕ) (uuid : ℕ) (text : List ℕ) → spelled text ≡ Some uuid → list_all (λ value. is_some (spelled value)) (text ∷ []) ≡ true
all_spelled spelled uuid text same = rw same refl

-- the entryUUID that is sent is that of the entry
pub uuid_agrees : (e : Entry) → CanBeSent e → checked_uuid e.uuid (sent_attributes e) ≡ Ok tt
uuid_agrees e can =
    ap (λ values. same_or_refused e.uuid (first_other e.uuid values)) (uuids_of e can.given)
    ∙ ap (same_or_refused e.uuid) (no_other uuid_of e.uuid (uuid_text e.uuid) (uuid_again e.uuid can.identity))

uuids_agree : (e : Entry) → CanBeSent e → are_uuids (sent_attributes e) ≡ true
uuids_agree e can =
    ap (list_all (λ value. is_some (uuid_of value))) (uuids_of e can.given) ∙ all_spelled uuid_of e.uuid (uuid_text e.uuid) (uuid_again e.uuid can.identity)

-- ---- the CSN

csn_agrees : (e : Entry) → CanBeSent e → entry_csn (sent_attributes e) ≡ Ok e.csn
csn_agrees e can = ap one_csn (csns_of e can.given) ∙ ap or_object_class_violation (csn_of_text-csn_text e.csn can.is_csn)

-- ---- the other attributes

kept_by_syntax : (rule : Rule) (value : List ℕ) → is_some (key_by rule value) ≡ true → is_kept_by rule value ≡ true
kept_by_syntax Class value has = sym (some_if (is_some (class_named value)) _) ∙ has
kept_by_syntax Folded value has = refl
kept_by_syntax FoldedAscii value has = refl
kept_by_syntax ExactAscii value has = refl
kept_by_syntax Whole value has = refl
kept_by_syntax Flag value has = refl
kept_by_syntax Time value has = refl
kept_by_syntax Operational value has = refl

value_kept : (kind : ℕ) (value : List ℕ) → is_of_syntax kind value ≡ true → is_kept_by (type_rule kind) value ≡ true
unfolding key_of
value_kept kind value has = kept_by_syntax (type_rule kind) value has

values_kept : (kind : ℕ) (values : List (List ℕ)) → list_all (is_of_syntax kind) values ≡ true → kept_values kind values ≡ values
values_kept kind [] all = refl
values_kept kind (value ∷ values) all =
    let h = and_parts (is_of_syntax kind value) (list_all (is_of_syntax kind) values) all in
    ap (λ b. cond b (value ∷ kept_values kind values) (kept_values kind values)) (value_kept kind value h.0) ∙ ap (λ rest. value ∷ rest) (values_kept kind values h.1)

not_empty : (a : Attribute) → a.values ≢ [] → unless_empty a.kind a.values ≡ Some a
not_empty a filled = by a.values refl
  where
    by : (values : List (List ℕ)) → a.values ≡ values → unless_empty a.kind a.values ≡ Some a
    by [] none = absurd (filled none)
    by (value ∷ values) some = rw some refl

attribute_kept : (a : Attribute) → is_operational a.kind ≡ false → list_all (is_of_syntax a.kind) a.values ≡ true → a.values ≢ [] → kept (raw_of a) ≡ Some a
attribute_kept a given syntax filled =
    ap (λ named. kept_of named a.values) (found_by_name a.kind a.kind refl (known a.kind given))
    ∙ ap (λ b. cond b None (unless_empty a.kind (kept_values a.kind a.values))) given
    ∙ ap (unless_empty a.kind) (values_kept a.kind a.values syntax) ∙ not_empty a filled

each_kept : (attrs : List Attribute) → list_all is_given attrs ≡ true → All (λ a. a.values ≢ []) attrs → filter_map kept (map raw_of attrs) ≡ attrs
each_kept [] given filled = refl
each_kept (a ∷ attrs) given filled =
    let h = given_of a attrs given in
    first kept (raw_of a) (map raw_of attrs) a (attribute_kept a h.0 h.1 (All-head (λ b. b.values ≢ []) a attrs filled))
    ∙ ap (λ rest. a ∷ rest) (each_kept attrs h.2 (All-tail (λ b. b.values ≢ []) a attrs filled))
  where
    first : (f : RawAttribute → Option Attribute) (raw : RawAttribute) (raws : List RawAttribute) (b : Attribute) → f raw ≡ Some b → filter_map f (raw ∷ raws) ≡ b ∷ filter_map f raws
    first f raw raws b some = rw some refl

operational_dropped : (e : Entry) → filter_map kept (operational_attributes_of e) ≡ []
unfolding types type_named
operational_dropped e = refl

attributes_agree : (e : Entry) → CanBeSent e → attributes_of (sent_attributes e) ≡ e.attrs
attributes_agree e can =
    ap joined (filter_map-append kept (map raw_of e.attrs) (operational_attributes_of e)
    ∙ ap (λ rest. filter_map kept (map raw_of e.attrs) ++ rest) (operational_dropped e) ∙ append-nil (filter_map kept (map raw_of e.attrs))
    ∙ each_kept e.attrs can.given can.listed.filled)
    ∙ joined-once e.attrs can.listed

all_of_syntax : (attrs : List Attribute) → list_all is_given attrs ≡ true → list_all is_of_its_syntax attrs ≡ true
all_of_syntax [] given = refl
all_of_syntax (a ∷ attrs) given =
    let h = given_of a attrs given in
    ap (λ b. b && list_all is_of_its_syntax attrs) h.1 ∙ all_of_syntax attrs h.2

abbrev by_syntax : Bool → Result (Unit {0}) DecodeFault
by_syntax b = if b then Ok tt else Err (bad_entry INVALID_ATTRIBUTE_SYNTAX)

syntax_agrees : (e : Entry) → CanBeSent e → checked_syntax (sent_attributes e) e.attrs ≡ Ok tt
syntax_agrees e can =
    ap (λ b. by_syntax (b && list_all is_of_its_syntax e.attrs)) (uuids_agree e can) ∙ ap by_syntax (all_of_syntax e.attrs can.given)

-- ---- the entry

weight_agrees : (e : Entry) → weight_of e.attrs ≤ most_entry_weight → checked_weight e ≡ Ok e
weight_agrees e light = ap (λ b. if b then Err (bad_entry ADMIN_LIMIT_EXCEEDED) else Ok e) (le-ltb most_entry_weight (weight_of e.attrs) light)

-- the attributes that are sent of an entry are read as that entry
pub entry_agrees : (e : Entry) → CanBeSent e → entry_of e.uuid (name_text e.dn) (sent_attributes e) ≡ Ok e
entry_agrees e can =
    let raws = sent_attributes e in
    let made : CsnValue → List Attribute → Entry = λ csn attrs. record { uuid = e.uuid; csn = csn; dn = e.dn; attrs = attrs } in
    let beyond = λ (attrs : List Attribute). λ (checked : Unit {0}). and_then (entry_csn raws) (λ csn. checked_weight (made csn attrs)) in
    ap (λ read. and_then (or_invalid_dn_syntax read) (λ dn. and_then (checked_syntax raws (attributes_of raws)) (λ checked. and_then (entry_csn raws) (λ csn.
    checked_weight (record { uuid = e.uuid; csn = csn; dn = dn; attrs = attributes_of raws }))))) (name_read_again e.dn can.name)
    ∙ ap (λ attrs. and_then (checked_syntax raws attrs) (beyond attrs)) (attributes_agree e can)
    ∙ ap (λ checked. and_then checked (beyond e.attrs)) (syntax_agrees e can)
    ∙ ap (λ is_csn. and_then is_csn (λ csn. checked_weight (made csn e.attrs))) (csn_agrees e can)
    ∙ weight_agrees e can.light
