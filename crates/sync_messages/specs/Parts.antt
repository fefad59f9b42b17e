-- Components of several values (RFC 4533, section 2.1): their forms, how they are read, and their
-- canonical spelling.
use Rattle.std.specs.Prelude.{◌≡◌, ℕ, List, ◌++◌, length, Bool, ◌==◌, if◌then◌else◌, Option, Result, Ok, Err, ℤ}
use Rattle.std.specs.Int.{w128, from_be_bytes, to_be_bytes}
use Rattle.ldap_ber.specs.Form.{Form, OctetString, Boolean, Optional, Default, Meaning}
use Rattle.ldap_ber.specs.Reading.{Reading, reworded, octets_at, integer_at, boolean_at, optional_at, default_at, meaning_at}
use Rattle.ldap_ber.specs.Canonical.{element, option_octets, flag_octets}
use Rattle.sync_messages.specs.declared.fault.SyncFault.{SyncFault}
use Rattle.sync_messages.specs.declared.fault.SyncFault.TheVariants.{Ber, BadUuidLength}

-- ---- how they are spelled

-- syncCookie OPTIONAL
abbrev pub CookieForm : Form (Option (List ℕ))
CookieForm = Optional 4 (OctetString 4)

-- BOOLEAN DEFAULT FALSE or TRUE
abbrev pub FlagWithDefault : Bool → Form Bool
FlagWithDefault usual = Default 1 usual (Boolean 1)

-- an identity is the number of sixteen octets
abbrev pub IsUuid : List ℕ → ℕ → Type 0
IsUuid octets uuid = (length octets ≡ 16) × (uuid ≡ from_be_bytes w128 octets)

-- syncUUID
abbrev pub UuidForm : Form ℕ
UuidForm = Meaning IsUuid (OctetString 4)

-- ---- how they are read

abbrev pub octet_string_at : ℕ → Reading SyncFault (List ℕ)
octet_string_at tag stop bytes = reworded Ber (octets_at tag stop bytes)

abbrev pub enumerated_at : Reading SyncFault ℤ
enumerated_at stop bytes = reworded Ber (integer_at 10 stop bytes)

abbrev pub cookie_at : Reading SyncFault (Option (List ℕ))
cookie_at = optional_at 4 (octet_string_at 4)

abbrev pub flag_at : Bool → Reading SyncFault Bool
flag_at usual stop bytes = reworded Ber (default_at 1 usual (boolean_at 1) stop bytes)

abbrev pub uuid_of : List ℕ → Result ℕ SyncFault
uuid_of octets =
    if length octets == 16 then Ok (from_be_bytes w128 octets)
    else Err (BadUuidLength (length octets))

abbrev pub uuid_at : Reading SyncFault ℕ
uuid_at = meaning_at (λ at octets. uuid_of octets) (octet_string_at 4)

-- ---- how they are written

abbrev pub cookie_octets : Option (List ℕ) → List ℕ
cookie_octets = option_octets (element 4)

abbrev pub uuid_octets : ℕ → List ℕ
uuid_octets uuid = element 4 (to_be_bytes w128 uuid)

-- a cookie, and a flag
abbrev pub refresh_octets : Bool → Option (List ℕ) × Bool → List ℕ
refresh_octets usual parts = cookie_octets parts.0 ++ flag_octets 1 usual parts.1
