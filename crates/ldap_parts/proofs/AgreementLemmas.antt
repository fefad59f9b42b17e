-- An exact reading agrees with its form, and what is sound is written in one of its spellings.
use Rattle.std.proofs.Common.{ℕ, List}
use Rattle.ldap_ber.specs.Form.{Form}
use Rattle.ldap_ber.specs.Reading.{Reading}
use Rattle.ldap_ber.proofs.ExactLemmas.{Exact}
use Rattle.ldap_ber.proofs.CanonicalLemmas.{Spelled, Anything}
use Rattle.ldap_parts.specs.Agreement.{Agree, IsASpelling}

-- an exact reading reads what its form says, and nothing else
pub agree : {X : Type 0} (R : Form X) (f : Reading ℕ X) → Exact R f → Agree R f
agree R f exact stop bytes value rest = (exact.found stop bytes value rest, exact.only stop bytes value rest)

-- what is written of a sound value is one of its spellings
pub is_a_spelling : {X : Type 0} (R : Form X) (write : X → List ℕ) (Sound : X → Type 0) → Spelled R write Sound Anything → (value : X) → Sound value → IsASpelling R write value
is_a_spelling R write Sound spelled value sound small rest = spelled.spells value rest small sound tt
