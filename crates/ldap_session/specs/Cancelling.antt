-- The Cancel operation (RFC 3909).
use Rattle.std.specs.Prelude.{ℕ, ℤ, pos, Bool, List, Option, Some, None, Result, Ok, Err}
use Rattle.std.specs.Str.{bytes_eq}
use Rattle.ldap_ber.specs.Reading.{Reading, sequence_at, whole_at}
use Rattle.ldap_constants.specs.declared.object_identifiers.TheConstants.{CANCEL}
use Rattle.ldap_parts.specs.Components.{range_at}
use Rattle.ldap_parts.specs.Faults.{place_of}

abbrev pub is_cancel : List ℕ → Bool
is_cancel name = bytes_eq name CANCEL.now

-- cancelRequestValue ::= SEQUENCE { cancelID MessageID }
unfoldable pub cancel_at : Reading ℕ ℕ
cancel_at stop bytes = sequence_at place_of 48 (range_at 0 2147483647 2) stop bytes

abbrev pub target_in : Result ℕ ℕ → Option ℤ
target_in (Ok id) = Some (pos id)
target_in (Err place) = None

-- the message ID of the operation that is to be cancelled, or none where the value is absent or
-- outside its grammar
unfoldable pub target_of : Option (List ℕ) → Option ℤ
target_of None = None
target_of (Some value) = target_in (whole_at place_of cancel_at value)
