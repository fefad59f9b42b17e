-- The messages of a session and its end, whichever way its bytes were cut.
use Rattle.std.specs.Prelude.{ℕ, Bool, true, false, List, [], ◌∷◌, ◌++◌, Option, Some, None, is_some, if◌then◌else◌}
use Rattle.ldap_session.specs.declared.ended.Ended.{Ended}
use Rattle.ldap_session.specs.declared.ended.Ended.TheVariants.{EndOfInput}
use Rattle.ldap_session.specs.declared.event.LinkEvent.{LinkEvent}
use Rattle.ldap_session.specs.declared.event.LinkEvent.TheVariants.{Piece, Quiet, End}
use Rattle.ldap_session.specs.Acts.{Act, Answers, HandsOut, Leaves, answers_of, end_of, end_among, or_later}
use Rattle.ldap_session.specs.Incoming.{Incoming, incoming_in}

-- all bytes that came before the end of the input
abbrev pub bytes_of : List LinkEvent → List ℕ
bytes_of [] = []
bytes_of (Piece bytes now ∷ events) = bytes ++ bytes_of events
bytes_of (Quiet ∷ events) = bytes_of events
bytes_of (End ∷ events) = []

-- what is answered
abbrev pub answered_by : List Act → List Incoming
answered_by [] = []
answered_by (Answers incoming now ∷ acts) = incoming ∷ answered_by acts
answered_by (HandsOut ∷ acts) = answered_by acts
answered_by (Leaves ∷ acts) = answered_by acts

-- what came, up to what ends the session
abbrev pub until_over : List Incoming → List Incoming
until_over [] = []
until_over (incoming ∷ more) =
    incoming ∷ (if is_some (end_of (Answers incoming 0)) then [] else until_over more)

-- how the messages of some bytes end a session, if they do; the time is of no account
abbrev pub end_in : List ℕ → Option Ended
end_in bytes = end_among (answers_of 0 (incoming_in bytes))

-- the end of the input came
abbrev pub has_end : List LinkEvent → Bool
has_end [] = false
has_end (Piece bytes now ∷ events) = has_end events
has_end (Quiet ∷ events) = has_end events
has_end (End ∷ events) = true

-- how a session ends: by a message, or else with the input
abbrev pub end_by_input : List LinkEvent → Option Ended
end_by_input events =
    or_later (end_in (bytes_of events)) (if has_end events then Some EndOfInput else None)
