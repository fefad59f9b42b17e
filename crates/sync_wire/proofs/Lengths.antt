-- How many octets a message of a search has in its canonical spelling.
use Rattle.std.proofs.Common.{◌≡◌, ◌≢◌, ℕ, ◌+◌, ◌*◌, ◌≤◌, Bool, true, false, Option, List, [], ◌∷◌, ◌++◌, map, length, length-append, Some, None, ap, refl, arith}
use Rattle.std.specs.Prelude.{All, pos, codes}
use Rattle.std.specs.Int.{w128, to_be_bytes}
use Rattle.std.specs.List.{list_all, flat_map}
use Rattle.std.proofs.lemmas.Bool.{and_parts}
use Rattle.std.proofs.lemmas.List.Concat.{flat_map-append}
use Rattle.std.proofs.lemmas.List.Elements.{All-head, All-tail}
use Rattle.std.proofs.lemmas.List.Sums.{sum_by-cons}
use Rattle.uuid.proofs.TextLemmas.{by_index_length}
use Rattle.ldap_ber.specs.Canonical.{element, integer_octets, flag_octets}
use Rattle.ldap_ber.proofs.ElementLemmas.{element_size}
use Rattle.ldap_constants.specs.declared.result_codes.TheConstants.{SUCCESS, BUSY}
use Rattle.csn_cookie.specs.Cookie.{cookie_text}
use Rattle.csn_cookie.specs.Csn.{csn_text}
use Rattle.csn_cookie.specs.declared.cookie.Cookie.{Cookie}
use Rattle.csn_cookie.proofs.SizeLemmas.{csn_size, text_size, IsText, cookie_size}
use Rattle.sync_messages.specs.Done.{done_octets}
use Rattle.sync_messages.specs.Info.{info_octets}
use Rattle.sync_messages.specs.Parts.{cookie_octets, uuid_octets}
use Rattle.sync_messages.specs.State.{kind_number, state_octets}
use Rattle.sync_messages.specs.declared.info.SyncInfo.TheVariants as info
use Rattle.sync_messages.specs.declared.state.State.{State}
use Rattle.sync_messages.specs.declared.state.State.TheVariants as state
use Rattle.schema_rules.specs.Attributes.{is_given, values_weight, weight_of, raw_of}
use Rattle.schema_rules.specs.Schema.{type_name}
use Rattle.schema_rules.specs.declared.attributes.Attribute.{Attribute}
use Rattle.dn_names.specs.Writing.{name_text}
use Rattle.dn_names.proofs.Sizes.{type_has_name, name_size}
use Rattle.ldap_parts.specs.Attributes.{attribute_octets}
use Rattle.ldap_parts.proofs.SizeLemmas.{attribute_size}
use Rattle.ldap_messages.specs.Operation.{entry, search_done, intermediate, operation_octets}
use Rattle.ldap_messages.specs.Whole.{message_octets}
use Rattle.ldap_messages.proofs.SizeLemmas.{message_size, bare_size, plain_size}
use Rattle.entry_tree.specs.declared.entry.Entry.{Entry}
use Rattle.sync_model.specs.Message.{phase_end}
use Rattle.sync_model.specs.Message.SyncMessage.{AddOrModify, Delete, IdSet, Done}
use Rattle.sync_wire.specs.CanBeSent.{CanBeSent}
use Rattle.sync_wire.specs.Sending.{single, uuid_text, operational_attributes_of, attributes_of, entry_of, kind_of, result_of, state_name, done_name, info_name, sent}
use Rattle.sync_wire.proofs.Sizes.{flag_size, kind_size, uuids_size}

attributes_size : (attrs : List Attribute) → All (λ a. a.values ≢ []) attrs → list_all is_given attrs ≡ true
    → length (flat_map attribute_octets (map raw_of attrs)) ≤ 25 * weight_of attrs
attributes_size [] filled given = omega arith
attributes_size (a ∷ attrs) filled given =
    let some = All-head (λ (x : Attribute). x.values ≢ []) a attrs filled in
    let both = and_parts (is_given a) (list_all is_given attrs) given in
    omega (
      arith,
      length-append (attribute_octets (raw_of a)) (flat_map attribute_octets (map raw_of attrs)),
      attribute_size (raw_of a) (type_has_name a some both.0) some,
      sum_by-cons (λ (x : Attribute). values_weight (type_name x.kind) x.values) a attrs,
      attributes_size attrs (All-tail (λ (x : Attribute). x.values ≢ []) a attrs filled) both.1,
    )

-- ---- an entry with the control of its state

uuid_size : (uuid : ℕ) → length (uuid_text uuid) ≡ 36
unfolding uuid_text
uuid_size uuid = by_index_length 36 _

operational_one_size : (name value : List ℕ) → 1 ≤ length name → length (attribute_octets (single name value)) ≤ 25 * (length name + length value)
operational_one_size name value some = omega (arith, attribute_size (single name value) some (λ none. cc))

operational_size : (e : Entry) → length (flat_map attribute_octets (operational_attributes_of e)) ≤ 2325
operational_size e =
    let identity = attribute_octets (single (codes "entryUUID") (uuid_text e.uuid)) in
    let is_csn = attribute_octets (single (codes "entryCSN") (csn_text e.csn)) in
    omega (
      arith,
      length-append identity (is_csn ++ []),
      length-append is_csn [],
      operational_one_size (codes "entryUUID") (uuid_text e.uuid) (omega arith),
      operational_one_size (codes "entryCSN") (csn_text e.csn) (omega arith),
      uuid_size e.uuid,
      csn_size e.csn,
    )

sent_attributes_size : (e : Entry) → CanBeSent e → length (flat_map attribute_octets (attributes_of e)) ≤ 1640725
sent_attributes_size e can =
    let octets = flat_map attribute_octets (map raw_of e.attrs) in
    let operational_attributes = flat_map attribute_octets (operational_attributes_of e) in
    let apart : length (flat_map attribute_octets (attributes_of e)) ≡ length (octets ++ operational_attributes) = ap (λ (x : List ℕ). length x) (flat_map-append attribute_octets (map raw_of e.attrs) (operational_attributes_of e)) in
    omega (arith, apart, length-append octets operational_attributes, attributes_size e.attrs can.listed.filled can.given, operational_size e, can.light)

entry_size : (e : Entry) → CanBeSent e → length (operation_octets (entry_of e)) ≤ 1673543
entry_size e can =
    let name = element 4 (name_text e.dn) in
    let attributes = flat_map attribute_octets (attributes_of e) in
    omega (
      arith,
      element_size 100 (name ++ element 48 attributes),
      length-append name (element 48 attributes),
      element_size 4 (name_text e.dn),
      element_size 48 attributes,
      name_size e.dn can.name,
      sent_attributes_size e can,
    )

text_octets_size : (cookie : Option (List ℕ)) → IsText cookie → length (cookie_octets cookie) ≤ 103
text_octets_size None is = omega arith
text_octets_size (Some text) is = omega (arith, element_size 4 text, text_size text is)

state_size : (kind : State) (uuid : ℕ) (cookie : Option (List ℕ)) → IsText cookie → length (state_octets (record { state = kind; uuid = uuid; cookie = cookie })) ≤ 138
unfolding state_octets
state_size kind uuid cookie is =
    let number = element 10 (integer_octets (kind_number kind)) in
    let identity = element 4 (to_be_bytes w128 uuid) in
    let long : length (to_be_bytes w128 uuid) ≡ 16 = refl in
    omega (
      arith,
      element_size 48 (number ++ (identity ++ cookie_octets cookie)),
      length-append number (identity ++ cookie_octets cookie),
      element_size 10 (integer_octets (kind_number kind)),
      kind_size kind,
      length-append identity (cookie_octets cookie),
      element_size 4 (to_be_bytes w128 uuid),
      text_octets_size cookie is,
      long,
    )

-- the message of an entry is within the limit of a message
pub put_size : (adds : Bool) (e : Entry) (cookie : Option (List ℕ)) → CanBeSent e → IsText cookie → length (message_octets (sent 1 (AddOrModify adds e cookie))) ≤ 4194304
put_size adds e cookie can is =
    let value = state_octets (record { state = kind_of adds; uuid = e.uuid; cookie = cookie }) in
    let named : length state_name ≡ 24 = refl in
    omega (arith, message_size (entry_of e) state_name value, named, entry_size e can, state_size (kind_of adds) e.uuid cookie is)

-- so is that of an entry that is gone
pub gone_size : (uuid : ℕ) (name : List ℕ) (cookie : Option (List ℕ)) → length name ≤ 32800 → IsText cookie → length (message_octets (sent 1 (Delete uuid name cookie))) ≤ 4194304
gone_size uuid name cookie short is =
    let value = state_octets (record { state = state.Delete; uuid = uuid; cookie = cookie }) in
    let named : length state_name ≡ 24 = refl in
    omega (arith, message_size (entry (name, [])) state_name value, named, bare_size name, short, state_size state.Delete uuid cookie is)

info_size : (deletes : Bool) (uuids : List ℕ) → length (info_octets (info.IdSet None deletes uuids)) ≤ 22 * length uuids + 19
unfolding info_octets
info_size deletes uuids =
    let ids = flat_map uuid_octets uuids in
    let flag = flag_octets 1 false deletes in
    omega (
      arith,
      element_size 163 (flag ++ element 49 ids),
      length-append flag (element 49 ids),
      flag_size false deletes,
      element_size 49 ids,
      uuids_size uuids,
    )

set_operation_size : (value : List ℕ) → length (operation_octets (intermediate (Some info_name, Some value))) ≤ length value + 42
set_operation_size value =
    let named : length info_name ≡ 24 = refl in
    omega (
      arith,
      element_size 121 (element 128 info_name ++ element 129 value),
      length-append (element 128 info_name) (element 129 value),
      element_size 128 info_name,
      element_size 129 value,
      named,
    )

-- that of a set of at most 256 identities
pub set_size : (deletes : Bool) (uuids : List ℕ) → length uuids ≤ 256 → length (message_octets (sent 1 (IdSet deletes uuids None))) ≤ 4194304
set_size deletes uuids few =
    let value = info_octets (info.IdSet None deletes uuids) in
    omega (arith, plain_size (intermediate (Some info_name, Some value)), set_operation_size value, info_size deletes uuids, few)

-- ---- the end of a refresh with its control

end_size : length (operation_octets (search_done (result_of (pos SUCCESS)))) ≡ 9
unfolding element integer_octets
end_size = refl

notified_size : (text : List ℕ) (deletes : Bool) → length (done_octets (record { cookie = Some text; refresh_deletes = deletes })) ≤ length text + 19
unfolding done_octets
notified_size text deletes =
    let flag = flag_octets 1 false deletes in
    omega (arith, element_size 48 (element 4 text ++ flag), length-append (element 4 text) flag, element_size 4 text, flag_size false deletes)

-- that of the end of a search with its cookie
pub done_size : (deletes : Bool) (cookie : Cookie) → length (message_octets (sent 1 (Done (pos SUCCESS) (Some (deletes, Some (cookie_text cookie)))))) ≤ 4194304
done_size deletes cookie =
    let value = done_octets (record { cookie = Some (cookie_text cookie); refresh_deletes = deletes }) in
    let named : length done_name ≡ 24 = refl in
    omega (arith, message_size (search_done (result_of (pos SUCCESS))) done_name value, named, end_size, notified_size (cookie_text cookie) deletes, cookie_size cookie)

-- ---- the end of a refresh of a search that goes on

delete_value_size : (done : Bool) (cookie : Option (List ℕ)) → IsText cookie → length (info_octets (info.RefreshDelete cookie done)) ≤ 116
unfolding info_octets
delete_value_size done cookie is =
    let flag = flag_octets 1 true done in
    omega (arith, element_size 161 (cookie_octets cookie ++ flag), length-append (cookie_octets cookie) flag, text_octets_size cookie is, flag_size true done)

present_value_size : (done : Bool) (cookie : Option (List ℕ)) → IsText cookie → length (info_octets (info.RefreshPresent cookie done)) ≤ 116
unfolding info_octets
present_value_size done cookie is =
    let flag = flag_octets 1 true done in
    omega (arith, element_size 162 (cookie_octets cookie ++ flag), length-append (cookie_octets cookie) flag, text_octets_size cookie is, flag_size true done)

-- that of the end of a refresh of a search that goes on
pub phase_size : (deletes done : Bool) (cookie : Option (List ℕ)) → IsText cookie → length (message_octets (sent 1 (phase_end deletes done cookie))) ≤ 4194304
phase_size true done cookie is =
    let value = info_octets (info.RefreshDelete cookie done) in
    omega (arith, plain_size (intermediate (Some info_name, Some value)), set_operation_size value, delete_value_size done cookie is)
phase_size false done cookie is =
    let value = info_octets (info.RefreshPresent cookie done) in
    omega (arith, plain_size (intermediate (Some info_name, Some value)), set_operation_size value, present_value_size done cookie is)

-- ---- the end with busy

busy_end_size : length (operation_octets (search_done (result_of (pos BUSY)))) ≡ 9
unfolding element integer_octets
busy_end_size = refl

-- and that of the end with the code busy
pub busy_size : length (message_octets (sent 1 (Done (pos BUSY) None))) ≤ 4194304
busy_size = omega (arith, plain_size (search_done (result_of (pos BUSY))), busy_end_size)
