-- Lists of URIs, one at least (RFC 4511, sections 4.1.10 and 4.5.3).
use Rattle.std.specs.Prelude.{◌≡◌, ◌≢◌, ℕ, List, length, ◌==◌, if◌then◌else◌, Result, Ok, Err}
use Rattle.ldap_ber.specs.Form.{Form, Meaning}
use Rattle.ldap_ber.specs.Reading.{Reading, meaning_at}
use Rattle.ldap_parts.specs.Components.{StringsForm, strings_at, strings_octets}

abbrev pub HaveOne : List (List ℕ) → Type 0
HaveOne uris = length uris ≢ 0

abbrev pub AreUris : List (List ℕ) → List (List ℕ) → Type 0
AreUris strings uris = (strings ≡ uris) × HaveOne uris

-- SEQUENCE SIZE (1..MAX) OF uri URI
abbrev pub UrisForm : ℕ → Form (List (List ℕ))
UrisForm tag = Meaning AreUris (StringsForm tag)

-- an element without a URI is refused
abbrev pub uris_among : ℕ → List (List ℕ) → Result (List (List ℕ)) ℕ
uris_among place strings = if length strings == 0 then Err place else Ok strings

unfoldable pub uris_at : ℕ → Reading ℕ (List (List ℕ))
uris_at tag stop bytes = meaning_at uris_among (strings_at tag) stop bytes

abbrev pub uris_octets : ℕ → List (List ℕ) → List ℕ
uris_octets tag uris = strings_octets tag uris
