-- How long values of controls and of Sync Info messages are, and that they are read again.
use Rattle.std.proofs.Common.{◌≡◌, ℕ, ◌+◌, ◌*◌, ◌^◌, ◌<◌, ◌≤◌, Bool, true, false, List, [], ◌∷◌, ◌++◌, length, length-append, Option, None, Some, Ok, refl, arith}
use Rattle.std.specs.Prelude.{All}
use Rattle.std.specs.List.{flat_map, AllByRecursion}
use Rattle.std.specs.Int.{w128, to_be_bytes}
use Rattle.std.proofs.lemmas.List.Elements.{All-head, All-tail}
use Rattle.ldap_ber.specs.Canonical.{element, integer_octets, flag_octets}
use Rattle.ldap_ber.specs.Writer.{IsSmall}
use Rattle.ldap_ber.proofs.ElementLemmas.{element_size}
use Rattle.sync_messages.specs.declared.state.State.{State}
use Rattle.sync_messages.specs.declared.state.State.TheVariants as state
use Rattle.sync_messages.specs.declared.state.SyncState.{SyncState}
use Rattle.sync_messages.specs.declared.done.SyncDone.{SyncDone}
use Rattle.sync_messages.specs.declared.info.SyncInfo.{SyncInfo}
use Rattle.sync_messages.specs.declared.info.SyncInfo.TheVariants as info
use Rattle.sync_messages.specs.Parts.{cookie_octets, uuid_octets, refresh_octets}
use Rattle.sync_messages.specs.State.{kind_number, state_of, state_octets}
use Rattle.sync_messages.specs.Done.{done_of, done_octets}
use Rattle.sync_messages.specs.Info.{info_of, info_octets, uuids_octets, IsInRange}
use Rattle.sync_messages.proofs.StateLemmas.{state_read_again}
use Rattle.sync_messages.proofs.DoneLemmas.{done_read_again}
use Rattle.sync_messages.proofs.InfoLemmas.{info_read_again}
use Rattle.sync_model.specs.Message.{CookieText}
use Rattle.sync_wire.specs.Law.{IsIdentity, IsShort}

-- ---- parts

cookie_size : (cookie : Option CookieText) → IsShort cookie → length (cookie_octets cookie) < 2 ^ 24 + 6
cookie_size None short = omega arith
cookie_size (Some cookie) short = omega (arith, element_size 4 cookie, short)

-- what the octets of a flag are at most
pub flag_size : (usual flag : Bool) → length (flag_octets 1 usual flag) ≤ 7
flag_size false false = omega arith
flag_size true true = omega arith
flag_size false true = omega (arith, element_size 1 (255 ∷ []))
flag_size true false = omega (arith, element_size 1 (0 ∷ []))

-- the number of a kind takes an octet
pub kind_size : (kind : State) → length (integer_octets (kind_number kind)) ≡ 1
unfolding integer_octets
kind_size state.Present = refl
kind_size state.Add = refl
kind_size state.Modify = refl
kind_size state.Delete = refl

uuid_size : (uuid : ℕ) → length (uuid_octets uuid) ≤ 22
uuid_size uuid =
    let long : length (to_be_bytes w128 uuid) ≡ 16 = refl in
    omega (arith, element_size 4 (to_be_bytes w128 uuid), long)

-- an identity takes 22 octets at most
pub uuids_size : (uuids : List ℕ) → length (flat_map uuid_octets uuids) ≤ 22 * length uuids
uuids_size [] = omega arith
uuids_size (uuid ∷ uuids) =
    omega (arith, length-append (uuid_octets uuid) (flat_map uuid_octets uuids), uuid_size uuid, uuids_size uuids)

refresh_size : (usual flag : Bool) (cookie : Option CookieText) → IsShort cookie → length (refresh_octets usual (cookie, flag)) < 2 ^ 24 + 13
refresh_size usual flag cookie short =
    omega (arith, length-append (cookie_octets cookie) (flag_octets 1 usual flag), cookie_size cookie short, flag_size usual flag)

-- ---- the Sync State control

state_small : (kind : State) (uuid : ℕ) (cookie : Option CookieText) → IsShort cookie → IsSmall (state_octets (record { state = kind; uuid = uuid; cookie = cookie }))
unfolding state_octets
state_small kind uuid cookie short =
    let number = element 10 (integer_octets (kind_number kind)) in
    let rest = uuid_octets uuid ++ cookie_octets cookie in
    omega (
      arith,
      element_size 48 (number ++ rest),
      length-append number rest,
      element_size 10 (integer_octets (kind_number kind)),
      kind_size kind,
      length-append (uuid_octets uuid) (cookie_octets cookie),
      uuid_size uuid,
      cookie_size cookie short,
    )

-- the value of a Sync State control is read again as it was written
pub state_again : (kind : State) (uuid : ℕ) (cookie : Option CookieText) → IsIdentity uuid → IsShort cookie
    → state_of (state_octets (record { state = kind; uuid = uuid; cookie = cookie })) ≡ Ok (record { state = kind; uuid = uuid; cookie = cookie })
state_again kind uuid cookie identity short =
    let value : SyncState = record { state = kind; uuid = uuid; cookie = cookie } in
    state_read_again {E = Unit {0}} (Ok (state_octets value)) value refl (state_small kind uuid cookie short) identity

-- ---- the Sync Done control

done_small : (deletes : Bool) (cookie : Option CookieText) → IsShort cookie → IsSmall (done_octets (record { cookie = cookie; refresh_deletes = deletes }))
unfolding done_octets
done_small deletes cookie short = omega (arith, element_size 48 (refresh_octets false (cookie, deletes)), refresh_size false deletes cookie short)

-- the value of a Sync Done control is read again as it was written
pub done_again : (deletes : Bool) (cookie : Option CookieText) → IsShort cookie
    → done_of (done_octets (record { cookie = cookie; refresh_deletes = deletes })) ≡ Ok (record { cookie = cookie; refresh_deletes = deletes })
done_again deletes cookie short =
    let value : SyncDone = record { cookie = cookie; refresh_deletes = deletes } in
    done_read_again {E = Unit {0}} (Ok (done_octets value)) value refl (done_small deletes cookie short)

-- ---- Sync Info messages

-- each value of a Sync Info message by itself
abbrev pub IsMedium : SyncInfo → Type 0
IsMedium (info.NewCookie cookie) = IsShort (Some cookie)
IsMedium (info.RefreshDelete cookie done) = IsShort cookie
IsMedium (info.RefreshPresent cookie done) = IsShort cookie
IsMedium (info.IdSet cookie deletes uuids) = All IsIdentity uuids × (length uuids < 2 ^ 24) × IsShort cookie

info_small : (value : SyncInfo) → IsMedium value → IsSmall (info_octets value)
unfolding info_octets
info_small (info.NewCookie cookie) short = omega (arith, element_size 128 cookie, short)
info_small (info.RefreshDelete cookie done) short = omega (arith, element_size 161 (refresh_octets true (cookie, done)), refresh_size true done cookie short)
info_small (info.RefreshPresent cookie done) short = omega (arith, element_size 162 (refresh_octets true (cookie, done)), refresh_size true done cookie short)
info_small (info.IdSet cookie deletes uuids) h =
    let rest = flag_octets 1 false deletes ++ uuids_octets uuids in
    omega (
      arith,
      element_size 163 (cookie_octets cookie ++ rest),
      length-append (cookie_octets cookie) rest,
      length-append (flag_octets 1 false deletes) (uuids_octets uuids),
      element_size 49 (flat_map uuid_octets uuids),
      uuids_size uuids,
      h.1,
      cookie_size cookie h.2,
      flag_size false deletes,
    )

each : (uuids : List ℕ) → All IsIdentity uuids → AllByRecursion (λ id. id < 2 ^ 128) uuids
each [] all = tt
each (uuid ∷ uuids) all = (All-head IsIdentity uuid uuids all, each uuids (All-tail IsIdentity uuid uuids all))

in_range : (value : SyncInfo) → IsMedium value → IsInRange value
in_range (info.NewCookie cookie) h = tt
in_range (info.RefreshDelete cookie done) h = tt
in_range (info.RefreshPresent cookie done) h = tt
in_range (info.IdSet cookie deletes uuids) h = each uuids h.0

-- the value of a Sync Info message is read again as it was written
pub info_again : (value : SyncInfo) → IsMedium value → info_of (info_octets value) ≡ Ok value
info_again value h = info_read_again {E = Unit {0}} (Ok (info_octets value)) value refl (info_small value h) (in_range value h)
