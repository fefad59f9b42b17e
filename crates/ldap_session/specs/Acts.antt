-- What a session does, whatever its port replies: its acts, by the bytes and the quiets that come.
use Rattle.std.specs.Prelude.{ℕ, List, [], ◌∷◌, ◌++◌, map, is_some, if◌then◌else◌, Option, Some, None}
use Rattle.ldap_session.specs.declared.ended.Ended.{Ended}
use Rattle.ldap_session.specs.declared.ended.Ended.TheVariants.{Unbound, EndOfInput, ProtocolFault}
use Rattle.ldap_session.specs.declared.event.LinkEvent.{LinkEvent}
use Rattle.ldap_session.specs.declared.event.LinkEvent.TheVariants.{Piece, Quiet, End}
use Rattle.ldap_session.specs.Incoming.{Incoming, Arrived, Wrong, incoming_in, rest_of}
use Rattle.ldap_session.specs.Requests.{Request, Binds, Unbinds, Writes, Compares, Searches, Abandons, Extends, Responds, request_of}

-- it answers what came, at a time; it hands out; it sees the end of the input
pub data Act : Type 0 where
  Answers : Incoming → (now : ℕ) → Act
  HandsOut : Act
  Leaves : Act

abbrev pub answers_of : ℕ → List Incoming → List Act
answers_of now incoming = map (λ one. Answers one now) incoming

-- the acts at one event, where these bytes were kept of a message that is not whole
abbrev pub acts_at : List ℕ → LinkEvent → List Act
acts_at kept (Piece bytes now) = answers_of now (incoming_in (kept ++ bytes)) ++ HandsOut ∷ []
acts_at kept Quiet = HandsOut ∷ []
acts_at kept End = Leaves ∷ []

abbrev pub kept_after : List ℕ → LinkEvent → List ℕ
kept_after kept (Piece bytes now) = rest_of (kept ++ bytes)
kept_after kept Quiet = kept
kept_after kept End = kept

abbrev pub acts_from : List ℕ → List LinkEvent → List Act
acts_from kept [] = []
acts_from kept (event ∷ events) = acts_at kept event ++ acts_from (kept_after kept event) events

-- how a request ends the session, if it does
abbrev pub end_by : Request → Option Ended
end_by (Binds version name authentication) = None
end_by Unbinds = Some Unbound
end_by (Writes change) = None
end_by (Compares object name value) = None
end_by (Searches asked) = None
end_by (Abandons target) = None
end_by (Extends name value) = None
end_by Responds = Some (ProtocolFault 0)

unfoldable pub end_of : Act → Option Ended
end_of (Answers (Arrived whole) now) = end_by (request_of whole.1.0)
end_of (Answers (Wrong place) now) = Some (ProtocolFault place)
end_of HandsOut = None
end_of Leaves = Some EndOfInput

abbrev pub or_later : {X : Type 0} → Option X → Option X → Option X
or_later None later = later
or_later (Some x) later = Some x

-- the acts up to the one that ends the session, and how it ends
abbrev pub until_end : List Act → List Act
until_end [] = []
until_end (act ∷ acts) = act ∷ (if is_some (end_of act) then [] else until_end acts)

abbrev pub end_among : List Act → Option Ended
end_among [] = None
end_among (act ∷ acts) = or_later (end_of act) (end_among acts)
