-- How an octet string keeps its octets.
use Rattle.std.specs.Prelude.{◌≡◌, ℕ, ◌≤◌, List, length, take}
use Rattle.ldap_ber.specs.declared.octets.Kept.{Kept}
use Rattle.ldap_ber.specs.declared.octets.Kept.TheVariants.{Inside, Apart, Together, Close, Shared}

-- the octets of the string
abbrev pub octets_of : Kept → List ℕ
octets_of (Inside short) = take short.count short.octets
octets_of (Apart bytes) = bytes.items
octets_of (Together middle) = middle.value
octets_of (Close middle) = middle.value
octets_of (Shared long) = long.value.items

-- there is room for the octets of a short string
abbrev pub IsWithin : Kept → Type 0
IsWithin (Inside short) = (short.count ≤ 30) × (length short.octets ≡ 30)
IsWithin (Apart bytes) = Unit {0}
IsWithin (Together middle) = Unit {0}
IsWithin (Close middle) = Unit {0}
IsWithin (Shared long) = Unit {0}
