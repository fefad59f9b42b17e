-- The value of the Sync Info message (RFC 4533, section 2.5).
use Rattle.std.specs.Prelude.{ℕ, List, ◌++◌, ◌<◌, ◌^◌, Bool, true, false, if◌then◌else◌, Option, Result}
use Rattle.std.specs.List.{flat_map, AllByRecursion}
use Rattle.ldap_ber.specs.Reader.{has_tag}
use Rattle.ldap_ber.specs.Form.{Form, OctetString, Both, Sequence, ListOf}
use Rattle.ldap_ber.specs.Reading.{Reading, both_at, made_at, sequence_at, list_at, whole_at}
use Rattle.ldap_ber.specs.Canonical.{element, flag_octets}
use Rattle.sync_messages.specs.declared.fault.SyncFault.{SyncFault}
use Rattle.sync_messages.specs.declared.fault.SyncFault.TheVariants.{Ber}
use Rattle.sync_messages.specs.declared.info.SyncInfo.{SyncInfo}
use Rattle.sync_messages.specs.declared.info.SyncInfo.TheVariants.{NewCookie, RefreshDelete, RefreshPresent, IdSet}
use Rattle.sync_messages.specs.Parts.{CookieForm, FlagWithDefault, UuidForm, octet_string_at, cookie_at, flag_at, uuid_at, cookie_octets, uuid_octets, refresh_octets}

-- refreshDelete and refreshPresent
abbrev pub RefreshForm : ℕ → Form (Option (List ℕ) × Bool)
RefreshForm tag = Sequence tag (Both CookieForm (FlagWithDefault true))

-- syncIdSet
abbrev pub SetForm : Form (Option (List ℕ) × (Bool × List ℕ))
SetForm = Sequence 163 (Both CookieForm (Both (FlagWithDefault false) (ListOf 49 UuidForm)))

unfoldable pub InfoForm : Form SyncInfo
InfoForm bytes (NewCookie cookie) rest = OctetString 128 bytes cookie rest
InfoForm bytes (RefreshDelete cookie refresh_done) rest =
    RefreshForm 161 bytes (cookie, refresh_done) rest
InfoForm bytes (RefreshPresent cookie refresh_done) rest =
    RefreshForm 162 bytes (cookie, refresh_done) rest
InfoForm bytes (IdSet cookie refresh_deletes ids) rest =
    SetForm bytes (cookie, (refresh_deletes, ids)) rest

-- ---- how it is read

abbrev pub refresh_at : ℕ → Reading SyncFault (Option (List ℕ) × Bool)
refresh_at tag = sequence_at Ber tag (both_at cookie_at (flag_at true))

abbrev pub uuids_at : Reading SyncFault (List ℕ)
uuids_at = list_at Ber 49 uuid_at

abbrev pub set_at : Reading SyncFault (Option (List ℕ) × (Bool × List ℕ))
set_at = sequence_at Ber 163 (both_at cookie_at (both_at (flag_at false) uuids_at))

abbrev pub deletes_with : Option (List ℕ) × Bool → SyncInfo
deletes_with parts = RefreshDelete parts.0 parts.1

abbrev pub presents_with : Option (List ℕ) × Bool → SyncInfo
presents_with parts = RefreshPresent parts.0 parts.1

abbrev pub set_with : Option (List ℕ) × (Bool × List ℕ) → SyncInfo
set_with parts = IdSet parts.0 parts.1.0 parts.1.1

abbrev pub info_at : Reading SyncFault SyncInfo
info_at stop bytes =
    if has_tag 128 bytes then made_at NewCookie (octet_string_at 128) stop bytes else
    if has_tag 161 bytes then made_at deletes_with (refresh_at 161) stop bytes else
    if has_tag 162 bytes then made_at presents_with (refresh_at 162) stop bytes else
    made_at set_with set_at stop bytes

-- the value that all of the bytes spell, or the first fault
unfoldable pub info_of : List ℕ → Result SyncInfo SyncFault
info_of bytes = whole_at Ber info_at bytes

-- ---- how it is written

abbrev pub uuids_octets : List ℕ → List ℕ
uuids_octets ids = element 49 (flat_map uuid_octets ids)

unfoldable pub info_octets : SyncInfo → List ℕ
info_octets (NewCookie cookie) = element 128 cookie
info_octets (RefreshDelete cookie refresh_done) =
    element 161 (refresh_octets true (cookie, refresh_done))
info_octets (RefreshPresent cookie refresh_done) =
    element 162 (refresh_octets true (cookie, refresh_done))
info_octets (IdSet cookie refresh_deletes ids) =
    element 163 (cookie_octets cookie ++ (flag_octets 1 false refresh_deletes ++ uuids_octets ids))

-- each identity has at most sixteen octets
abbrev pub IsInRange : SyncInfo → Type 0
IsInRange (NewCookie cookie) = Unit {0}
IsInRange (RefreshDelete cookie refresh_done) = Unit {0}
IsInRange (RefreshPresent cookie refresh_done) = Unit {0}
IsInRange (IdSet cookie refresh_deletes ids) = AllByRecursion (λ id. id < 2 ^ 128) ids
