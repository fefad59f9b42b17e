-- The value of the Sync State control (RFC 4533, section 2.3).
use Rattle.std.specs.Prelude.{◌≡◌, ℕ, List, ◌++◌, if◌then◌else◌, Option, Result, Ok, Err, ℤ, pos}
use Rattle.std.specs.Ordering.{int_eq}
use Rattle.ldap_ber.specs.Form.{Form, Integer, Both, Meaning, MadeOf, Sequence}
use Rattle.ldap_ber.specs.Reading.{Reading, both_at, meaning_at, made_at, sequence_at, whole_at}
use Rattle.ldap_ber.specs.Canonical.{element, integer_octets}
use Rattle.sync_messages.specs.declared.fault.SyncFault.{SyncFault}
use Rattle.sync_messages.specs.declared.fault.SyncFault.TheVariants.{Ber, BadState}
use Rattle.sync_messages.specs.declared.state.State.{State}
use Rattle.sync_messages.specs.declared.state.State.TheVariants.{Present, Add, Modify, Delete}
use Rattle.sync_messages.specs.declared.state.SyncState.{SyncState}
use Rattle.sync_messages.specs.Parts.{CookieForm, UuidForm, enumerated_at, cookie_at, uuid_at, cookie_octets, uuid_octets}

abbrev pub kind_number : State → ℤ
kind_number Present = pos 0
kind_number Add = pos 1
kind_number Modify = pos 2
kind_number Delete = pos 3

abbrev pub kind_of : ℤ → Result State SyncFault
kind_of number =
    if int_eq number (pos 0) then Ok Present else
    if int_eq number (pos 1) then Ok Add else
    if int_eq number (pos 2) then Ok Modify else
    if int_eq number (pos 3) then Ok Delete else
    Err (BadState number)

abbrev pub IsKind : ℤ → State → Type 0
IsKind number kind = number ≡ kind_number kind

-- state ENUMERATED
abbrev pub KindForm : Form State
KindForm = Meaning IsKind (Integer 10)

abbrev pub kind_at : Reading SyncFault State
kind_at = meaning_at (λ at number. kind_of number) enumerated_at

abbrev pub state_parts : SyncState → State × (ℕ × Option (List ℕ))
state_parts state = (state.state, (state.uuid, state.cookie))

abbrev pub state_with : State × (ℕ × Option (List ℕ)) → SyncState
state_with parts = record { state = parts.0; uuid = parts.1.0; cookie = parts.1.1 }

unfoldable pub StateForm : Form SyncState
StateForm = MadeOf state_parts (Sequence 48 (Both KindForm (Both UuidForm CookieForm)))

abbrev pub state_at : Reading SyncFault SyncState
state_at = made_at state_with (sequence_at Ber 48 (both_at kind_at (both_at uuid_at cookie_at)))

-- the value that all of the bytes spell, or the first fault
unfoldable pub state_of : List ℕ → Result SyncState SyncFault
state_of bytes = whole_at Ber state_at bytes

-- the components, one after another
abbrev pub parts_octets : SyncState → List ℕ
parts_octets state =
    element 10 (integer_octets (kind_number state.state))
    ++ (uuid_octets state.uuid ++ cookie_octets state.cookie)

unfoldable pub state_octets : SyncState → List ℕ
state_octets state = element 48 (parts_octets state)
