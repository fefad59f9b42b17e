-- The value of the Sync Request control (RFC 4533, section 2.2).
use Rattle.std.specs.Prelude.{◌≡◌, ℕ, List, ◌++◌, Bool, false, if◌then◌else◌, Option, Result, Ok, Err, ℤ, pos}
use Rattle.std.specs.Ordering.{int_eq}
use Rattle.ldap_ber.specs.Form.{Form, Integer, Both, Meaning, MadeOf, Sequence}
use Rattle.ldap_ber.specs.Reading.{Reading, both_at, meaning_at, made_at, sequence_at, whole_at}
use Rattle.ldap_ber.specs.Canonical.{element, integer_octets}
use Rattle.sync_messages.specs.declared.fault.SyncFault.{SyncFault}
use Rattle.sync_messages.specs.declared.fault.SyncFault.TheVariants.{Ber, BadMode}
use Rattle.sync_messages.specs.declared.request.Mode.{Mode}
use Rattle.sync_messages.specs.declared.request.Mode.TheVariants.{RefreshOnly, RefreshAndPersist}
use Rattle.sync_messages.specs.declared.request.SyncRequest.{SyncRequest}
use Rattle.sync_messages.specs.Parts.{CookieForm, FlagWithDefault, enumerated_at, cookie_at, flag_at, refresh_octets}

abbrev pub mode_number : Mode → ℤ
mode_number RefreshOnly = pos 1
mode_number RefreshAndPersist = pos 3

abbrev pub mode_of : ℤ → Result Mode SyncFault
mode_of number =
    if int_eq number (pos 1) then Ok RefreshOnly else
    if int_eq number (pos 3) then Ok RefreshAndPersist else
    Err (BadMode number)

abbrev pub IsMode : ℤ → Mode → Type 0
IsMode number mode = number ≡ mode_number mode

-- mode ENUMERATED
abbrev pub ModeForm : Form Mode
ModeForm = Meaning IsMode (Integer 10)

abbrev pub mode_at : Reading SyncFault Mode
mode_at = meaning_at (λ at number. mode_of number) enumerated_at

abbrev pub request_parts : SyncRequest → Mode × (Option (List ℕ) × Bool)
request_parts request = (request.mode, (request.cookie, request.reload_hint))

abbrev pub request_with : Mode × (Option (List ℕ) × Bool) → SyncRequest
request_with parts = record { mode = parts.0; cookie = parts.1.0; reload_hint = parts.1.1 }

unfoldable pub RequestForm : Form SyncRequest
RequestForm = MadeOf request_parts
    (Sequence 48 (Both ModeForm (Both CookieForm (FlagWithDefault false))))

abbrev pub request_at : Reading SyncFault SyncRequest
request_at =
    made_at request_with (sequence_at Ber 48 (both_at mode_at (both_at cookie_at (flag_at false))))

-- the value that all of the bytes spell, or the first fault
unfoldable pub request_of : List ℕ → Result SyncRequest SyncFault
request_of bytes = whole_at Ber request_at bytes

unfoldable pub request_octets : SyncRequest → List ℕ
request_octets request =
    element 48
    (element 10 (integer_octets (mode_number request.mode))
    ++ refresh_octets false (request.cookie, request.reload_hint))
