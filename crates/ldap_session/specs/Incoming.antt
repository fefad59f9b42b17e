-- The messages of a stream of bytes (RFC 4511, section 5.2).
use Rattle.std.specs.Prelude.{ℕ, zero, suc, List, [], ◌∷◌, length, drop}
use Rattle.ldap_messages.specs.Whole.{MessageValue}
use Rattle.ldap_messages.specs.Frame.{Read, partial, refused, long, message, read_of}

-- a whole message, or what stands in a message's place and is refused, at a place from its first
-- byte on
pub data Incoming : Type 0 where
  Arrived : MessageValue → Incoming
  Wrong : ℕ → Incoming

-- the first message, and those that are found later
abbrev pub incoming_then : (List ℕ → List Incoming) → List ℕ → Read → List Incoming
incoming_then later bytes partial = []
incoming_then later bytes (refused place) = Wrong place ∷ []
incoming_then later bytes long = Wrong 0 ∷ []
incoming_then later bytes (message whole count) = Arrived whole ∷ later (drop count bytes)

-- n messages at most
abbrev pub incoming_within : ℕ → List ℕ → List Incoming
incoming_within zero bytes = []
incoming_within (suc most) bytes = incoming_then (incoming_within most) bytes (read_of bytes)

-- the messages from the first byte on, up to a rest that is no whole message, or to what is refused
unfoldable pub incoming_in : List ℕ → List Incoming
incoming_in bytes = incoming_within (length bytes) bytes

abbrev pub rest_then : (List ℕ → List ℕ) → List ℕ → Read → List ℕ
rest_then later bytes partial = bytes
rest_then later bytes (refused place) = bytes
rest_then later bytes long = bytes
rest_then later bytes (message whole count) = later (drop count bytes)

abbrev pub rest_within : ℕ → List ℕ → List ℕ
rest_within zero bytes = bytes
rest_within (suc most) bytes = rest_then (rest_within most) bytes (read_of bytes)

-- what follows the whole messages
unfoldable pub rest_of : List ℕ → List ℕ
rest_of bytes = rest_within (length bytes) bytes
