-- What the provider puts into a link as bytes is decoded by the consumer as the message that it was sent for.
use Rattle.std.proofs.Common.{◌≡◌, ◌<◌, ◌≤◌, ◌^◌, ◌==◌, if◌then◌else◌, ℕ, Bool, true, false, cond, Option, List, [], ◌∷◌, ◌++◌, length, append-nil, Some, None, Ok, ap, sym, ◌∙◌, refl, arith}
use Rattle.std.specs.Prelude.{All, pos, codes}
use Rattle.std.proofs.lemmas.List.Elements.{All-nil, All-cons}
use Rattle.ldap_constants.specs.declared.result_codes.TheConstants.{SUCCESS, BUSY}
use Rattle.csn_cookie.specs.Cookie.{cookie_text}
use Rattle.csn_cookie.specs.declared.cookie.Cookie.{Cookie}
use Rattle.csn_cookie.proofs.SizeLemmas.{IsText, cookie_size}
use Rattle.entry_tree.specs.declared.entry.Entry.{Entry}
use Rattle.ldap_messages.specs.declared.message.Message.{Message}
use Rattle.ldap_messages.specs.declared.protocol.Protocol.TheVariants.{SearchResultEntry, SearchResultDone, IntermediateResponse}
use Rattle.ldap_messages.specs.Frame.{read_of, message}
use Rattle.ldap_messages.specs.Operation.{IsHeld}
use Rattle.ldap_messages.specs.Whole.{MessageValue, message_octets, HasSpelling}
use Rattle.ldap_messages.proofs.MessageSpellings.{message_read_again}
use Rattle.dn_names.specs.Names.{TypeAndValue}
use Rattle.dn_names.specs.Sound.{IsName}
use Rattle.dn_names.specs.Writing.{name_text}
use Rattle.sync_model.specs.Copy.{Copy, SyncSession}
use Rattle.sync_model.specs.Message.{SyncMessage, phase_end}
use Rattle.sync_model.specs.Message.SyncMessage.{AddOrModify, Delete, IdSet, RefreshDelete, RefreshPresent, Done}
use Rattle.sync_messages.specs.declared.info.SyncInfo.TheVariants as info
use Rattle.sync_messages.specs.Info.{info_octets}
use Rattle.sync_model.proofs.Gather.{Each}
use Rattle.sync_model.specs.Within.{taken_within}
use Rattle.sync_wire.specs.CanBeSent.{CanBeSent}
use Rattle.sync_wire.specs.Sending as wire
use Rattle.sync_wire.specs.Law.{IsIdentity}
use Rattle.sync_wire.proofs.Operations.{entry_operation, done_operation, info_operation}
use Rattle.sync_wire.proofs.Notified.{sent_round_trip}
use Rattle.sync_wire.proofs.Lengths.{put_size, set_size, phase_size, done_size, busy_size}
use Rattle.sync_wire.proofs.OfSearch.{IsOfSearch, end_with, of_each, gone_short, short_text}
use Rattle.cascade_world.specs.Reception.{whole_in, decoded, whole_said, came_of, refused_for, received_as, received_by, received_of, received_next, received, ends_without_cookie, says_end_without_cookie}

-- ---- what its bytes are decoded to

-- a message that is not too long is decoded as it was written
decoded_again : (whole : MessageValue) → HasSpelling whole → IsHeld whole.1.0 → length (message_octets whole) ≤ 4194304 → decoded (message_octets whole) ≡ Some whole
decoded_again whole has held short =
    let octets = message_octets whole in
    let again : read_of (octets ++ []) ≡ message whole (length octets) = message_read_again {E = Unit {0}} (Ok octets) whole has refl (omega (arith, short)) held short [] in
    ap whole_in (ap read_of (sym (append-nil octets)) ∙ again)

abbrev IsDecoded : SyncMessage → Type 0
IsDecoded m = decoded (message_octets (wire.sent 1 m)) ≡ Some (wire.sent 1 m)

put_decoded : (adds : Bool) (e : Entry) (cookie : Option (List ℕ)) → CanBeSent e → IsText cookie → IsDecoded (AddOrModify adds e cookie)
put_decoded adds e cookie can text = decoded_again (wire.sent 1 (AddOrModify adds e cookie)) (omega arith, tt) tt (put_size adds e cookie can text)

gone_decoded : (uuid : ℕ) (dn : List (List TypeAndValue)) (cookie : Option (List ℕ)) → IsIdentity uuid → IsName dn → IsText cookie → IsDecoded (Delete uuid (name_text dn) cookie)
gone_decoded uuid dn cookie range name text = decoded_again (wire.sent 1 (Delete uuid (name_text dn) cookie)) (omega arith, tt) tt (gone_short uuid dn cookie range name text)

set_decoded : (deletes : Bool) (uuids : List ℕ) → Each IsIdentity uuids → length uuids ≤ 256 → IsDecoded (IdSet deletes uuids None)
set_decoded deletes uuids range few = decoded_again (wire.sent 1 (IdSet deletes uuids None)) (omega arith, tt) tt (set_size deletes uuids few)

phase_decoded : (deletes done : Bool) (cookie : Option (List ℕ)) → IsText cookie → IsDecoded (phase_end deletes done cookie)
phase_decoded true done cookie text = decoded_again (wire.sent 1 (RefreshDelete done cookie)) (omega arith, tt) tt (phase_size true done cookie text)
phase_decoded false done cookie text = decoded_again (wire.sent 1 (RefreshPresent done cookie)) (omega arith, tt) tt (phase_size false done cookie text)

end_decoded : (deletes : Bool) (cookie : Cookie) → IsDecoded (end_with deletes cookie)
end_decoded deletes cookie = decoded_again (wire.sent 1 (end_with deletes cookie)) (omega arith, tt) (omega arith) (done_size deletes cookie)

busy_decoded : IsDecoded (Done (pos BUSY) None)
busy_decoded = decoded_again (wire.sent 1 (Done (pos BUSY) None)) (omega arith, tt) (omega arith) busy_size

-- the octets of a message of a search are decoded as what it was sent for
pub sent_decoded : (m : SyncMessage) → IsOfSearch m → IsDecoded m
sent_decoded m is =
    of_each IsDecoded (record { puts = put_decoded; gones = gone_decoded; sets = set_decoded; phases = phase_decoded; ends = end_decoded; busy = busy_decoded }) m is

module _ (persisting : Bool) where
  abbrev IsSaid : SyncMessage → Type 0
  IsSaid m = whole_said persisting (wire.sent 1 m) ≡ Ok m

  put_said : (adds : Bool) (e : Entry) (cookie : Option (List ℕ)) → CanBeSent e → IsText cookie → IsSaid (AddOrModify adds e cookie)
  put_said adds e cookie can text =
      let controls = (wire.parts_of (AddOrModify adds e cookie)).1 in
      let held : Message = record { id = 1; op = SearchResultEntry (name_text e.dn) (wire.attributes_of e); controls = controls } in
      sent_round_trip persisting 1 (AddOrModify adds e cookie) held (can, short_text cookie text) (ap (λ op. (1, (op, controls))) (entry_operation (name_text e.dn) (wire.attributes_of e)))

  gone_said : (uuid : ℕ) (dn : List (List TypeAndValue)) (cookie : Option (List ℕ)) → IsIdentity uuid → IsName dn → IsText cookie → IsSaid (Delete uuid (name_text dn) cookie)
  gone_said uuid dn cookie range name text =
      let controls = (wire.parts_of (Delete uuid (name_text dn) cookie)).1 in
      let held : Message = record { id = 1; op = SearchResultEntry (name_text dn) []; controls = controls } in
      sent_round_trip persisting 1 (Delete uuid (name_text dn) cookie) held (range, short_text cookie text) (ap (λ op. (1, (op, controls))) (entry_operation (name_text dn) []))

  all_of : (uuids : List ℕ) → Each IsIdentity uuids → All IsIdentity uuids
  all_of [] each = All-nil IsIdentity
  all_of (u ∷ us) each = All-cons IsIdentity u us each.0 (all_of us each.1)

  set_said : (deletes : Bool) (uuids : List ℕ) → Each IsIdentity uuids → length uuids ≤ 256 → IsSaid (IdSet deletes uuids None)
  set_said deletes uuids range few =
      let value = info_octets (info.IdSet None deletes uuids) in
      let held : Message = record { id = 1; op = IntermediateResponse (Some wire.info_name) (Some value); controls = [] } in
      sent_round_trip persisting 1 (IdSet deletes uuids None) held (all_of uuids range, omega (arith, few), tt) (ap (λ op. (1, (op, []))) (info_operation (Some wire.info_name) (Some value)))

  phase_said : (deletes done : Bool) (cookie : Option (List ℕ)) → IsText cookie → IsSaid (phase_end deletes done cookie)
  phase_said true done cookie text =
      let value = info_octets (info.RefreshDelete cookie done) in
      let held : Message = record { id = 1; op = IntermediateResponse (Some wire.info_name) (Some value); controls = [] } in
      sent_round_trip persisting 1 (RefreshDelete done cookie) held (short_text cookie text) (ap (λ op. (1, (op, []))) (info_operation (Some wire.info_name) (Some value)))
  phase_said false done cookie text =
      let value = info_octets (info.RefreshPresent cookie done) in
      let held : Message = record { id = 1; op = IntermediateResponse (Some wire.info_name) (Some value); controls = [] } in
      sent_round_trip persisting 1 (RefreshPresent done cookie) held (short_text cookie text) (ap (λ op. (1, (op, []))) (info_operation (Some wire.info_name) (Some value)))

  end_said : (deletes : Bool) (cookie : Cookie) → IsSaid (end_with deletes cookie)
  end_said deletes cookie =
      let controls = (wire.parts_of (end_with deletes cookie)).1 in
      let held : Message = record { id = 1; op = SearchResultDone (wire.result_of (pos SUCCESS)); controls = controls } in
      let short : length (cookie_text cookie) < 2 ^ 24 = omega (arith, cookie_size cookie) in
      sent_round_trip persisting 1 (end_with deletes cookie) held short (ap (λ op. (1, (op, controls))) (done_operation (wire.result_of (pos SUCCESS))))

  busy_said : IsSaid (Done (pos BUSY) None)
  busy_said =
      let held : Message = record { id = 1; op = SearchResultDone (wire.result_of (pos BUSY)); controls = [] } in
      sent_round_trip persisting 1 (Done (pos BUSY) None) held tt (ap (λ op. (1, (op, []))) (done_operation (wire.result_of (pos BUSY))))

  -- and so they are by a search in either phase
  pub sent_said : (m : SyncMessage) → IsOfSearch m → IsSaid m
  sent_said m is = of_each IsSaid (record { puts = put_said; gones = gone_said; sets = set_said; phases = phase_said; ends = end_said; busy = busy_said }) m is

-- ---- what the consumer makes of it

-- a consumer makes of these octets what its copy makes of the message
pub received_sent : (copy : Copy) (session : SyncSession) (m : SyncMessage) → copy.session ≡ Some session → session.id ≡ 1 → IsOfSearch m → ends_without_cookie m ≡ false
    → received copy (message_octets (wire.sent 1 m)) ≡ ((taken_within 1 copy m).0, came_of (taken_within 1 copy m).1)
received_sent copy session m runs same is cookied =
    let whole = wire.sent 1 m in
    ap (received_next copy) (sent_decoded m is)
    ∙ ap (λ no_cookie. cond no_cookie (refused_for copy (codes "OutOfPlace")) (received_of copy (Some whole))) (ap says_end_without_cookie (sent_said false m is) ∙ cookied)
    ∙ ap (λ found. received_by found copy whole) runs
    ∙ ap (λ id. if 1 == id then received_as 1 copy (whole_said session.persisting whole) else refused_for copy (codes "OutOfPlace")) same
    ∙ ap (received_as 1 copy) (sent_said session.persisting m is)
