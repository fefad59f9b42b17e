-- The value of the Sync Done control (RFC 4533, section 2.4).
use Rattle.std.specs.Prelude.{ℕ, List, Bool, false, Option, Result}
use Rattle.ldap_ber.specs.Form.{Form, Both, MadeOf, Sequence}
use Rattle.ldap_ber.specs.Reading.{Reading, both_at, made_at, sequence_at, whole_at}
use Rattle.ldap_ber.specs.Canonical.{element}
use Rattle.sync_messages.specs.declared.fault.SyncFault.{SyncFault}
use Rattle.sync_messages.specs.declared.fault.SyncFault.TheVariants.{Ber}
use Rattle.sync_messages.specs.declared.done.SyncDone.{SyncDone}
use Rattle.sync_messages.specs.Parts.{CookieForm, FlagWithDefault, cookie_at, flag_at, refresh_octets}

abbrev pub done_parts : SyncDone → Option (List ℕ) × Bool
done_parts done = (done.cookie, done.refresh_deletes)

abbrev pub done_with : Option (List ℕ) × Bool → SyncDone
done_with parts = record { cookie = parts.0; refresh_deletes = parts.1 }

unfoldable pub DoneForm : Form SyncDone
DoneForm = MadeOf done_parts (Sequence 48 (Both CookieForm (FlagWithDefault false)))

abbrev pub done_at : Reading SyncFault SyncDone
done_at = made_at done_with (sequence_at Ber 48 (both_at cookie_at (flag_at false)))

-- the value that all of the bytes spell, or the first fault
unfoldable pub done_of : List ℕ → Result SyncDone SyncFault
done_of bytes = whole_at Ber done_at bytes

unfoldable pub done_octets : SyncDone → List ℕ
done_octets done = element 48 (refresh_octets false (done.cookie, done.refresh_deletes))
