-- The messages at the beginning of a stream, whatever bytes follow (RFC 4511, section 5.1).
use Rattle.std.specs.Prelude.{◌≡◌, ℕ, List, [], ◌∷◌, ◌++◌}
use Rattle.ldap_messages.specs.Whole.{MessageValue}
use Rattle.ldap_session.specs.Incoming.{Arrived, Wrong, incoming_in, rest_of}

-- the first message of a stream that begins with these bytes is this one, and those after it are
-- the messages of what is left
pub record BeginsWith (bytes : List ℕ) (whole : MessageValue) (left : List ℕ) : Type 0 where
  pub messages : (after : List ℕ)
      → incoming_in (bytes ++ after) ≡ Arrived whole ∷ incoming_in (left ++ after)
  pub rest : (after : List ℕ) → rest_of (bytes ++ after) ≡ rest_of (left ++ after)

-- what stands first in a stream that begins with these bytes is refused at this place
abbrev pub IsWrongAt : List ℕ → (place : ℕ) → Type 0
IsWrongAt bytes place = (after : List ℕ) → incoming_in (bytes ++ after) ≡ Wrong place ∷ []

-- no message of these bytes is whole, and nothing in them is refused
abbrev pub HasNoMessage : List ℕ → Type 0
HasNoMessage bytes = incoming_in bytes ≡ []
