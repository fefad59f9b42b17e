-- A form and a reading that agree, and a spelling that is one of a form's.
use Rattle.std.specs.Prelude.{◌≡◌, ◌↔◌, ℕ, List, ◌++◌, Ok}
use Rattle.ldap_ber.specs.Form.{Form}
use Rattle.ldap_ber.specs.Reading.{Reading}
use Rattle.ldap_ber.specs.Writer.{IsSmall}

-- what is read was spelled so, and what is spelled so is read
abbrev pub Agree : {X : Type 0} → Form X → Reading ℕ X → Type 0
Agree {X} R f =
    (stop : ℕ) (bytes : List ℕ) (value : X) (rest : List ℕ)
    → (f stop bytes ≡ Ok (value, rest)) ↔ R bytes value rest

-- what is written of a value is one of its spellings, whatever follows, where
-- four octets can count it
abbrev pub IsASpelling : {X : Type 0} → Form X → (X → List ℕ) → X → Type 0
IsASpelling R write value =
    IsSmall (write value) → (rest : List ℕ) → R (write value ++ rest) value rest
