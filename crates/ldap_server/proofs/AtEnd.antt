-- A session ends with the input only where the input ends.
use Rattle.std.proofs.Common.{◌≡◌, ◌≢◌, ℕ, List, [], ◌∷◌, ◌++◌, Option, Some, None, refl, sym, ap, ◌∙◌}
use Rattle.std.specs.Io.KnownBytes.{IsAtEnd}
use Rattle.ldap_session.proofs.Ends.{hands_on}
use Rattle.ldap_session.specs.Acts.{Answers, HandsOut, acts_at, answers_of, end_among, end_by, end_of, or_later}
use Rattle.ldap_session.specs.Incoming.{Incoming, Arrived, Wrong, incoming_in}
use Rattle.ldap_session.specs.Requests.{Request, Binds, Unbinds, Writes, Compares, Searches, Abandons, Extends, Responds, request_of}
use Rattle.ldap_session.specs.declared.ended.Ended.{Ended}
use Rattle.ldap_session.specs.declared.ended.Ended.TheVariants.{EndOfInput, NoMemory}
use Rattle.ldap_session.specs.declared.event.LinkEvent.{LinkEvent}
use Rattle.ldap_session.specs.declared.event.LinkEvent.TheVariants.{Piece, Quiet, End}
use Rattle.ldap_server.specs.Serving.{IsEndAt}
use Rattle.ldap_server.specs.Session.{Connected, HandlesEvent}

-- no request and no message ends a session as the end of the input does
request_goes : (r : Request) → end_by r ≢ Some EndOfInput
request_goes (Binds version name authentication) e = cc
request_goes Unbinds e = cc
request_goes (Writes change) e = cc
request_goes (Compares entry name value) e = cc
request_goes (Searches s) e = cc
request_goes (Abandons target) e = cc
request_goes (Extends name value) e = cc
request_goes Responds e = cc

message_goes : (incoming : Incoming) (now : ℕ) → end_of (Answers incoming now) ≢ Some EndOfInput
unfolding end_of
message_goes (Arrived whole) now e = request_goes (request_of whole.1.0) e
message_goes (Wrong place) now e = cc

piece_goes : (now : ℕ) (incoming : List Incoming) → end_among (answers_of now incoming ++ HandsOut ∷ []) ≢ Some EndOfInput
piece_goes now [] e =
    let ends : end_among (HandsOut ∷ []) ≡ None = rw hands_on refl in
    let wrong : None ≡ Some EndOfInput = sym ends ∙ e in
    cc
piece_goes now (one ∷ more) e = step (end_of (Answers one now)) refl (λ later. piece_goes now more later) e
  where
    step : (o : Option Ended) → end_of (Answers one now) ≡ o → end_among (answers_of now more ++ HandsOut ∷ []) ≢ Some EndOfInput
        → or_later o (end_among (answers_of now more ++ HandsOut ∷ [])) ≢ Some EndOfInput
    step None is later e' = later e'
    step (Some ended) is later e' = message_goes one now (is ∙ e')

-- the event after which a session ended with the input is the end of the input
pub ends_at_end : (mid new : Connected) (event : LinkEvent) (bytes : List ℕ) (ended : Option Ended) (left : Option (List ℕ))
    → mid.ended ≡ None → HandlesEvent mid event bytes ended new → IsEndAt event left → new.ended ≡ Some EndOfInput → IsAtEnd left
ends_at_end mid new event bytes ended left live h at end = step event refl at
  where
    not_memory : new.ended ≢ Some NoMemory
    not_memory memory = let wrong : Some EndOfInput ≡ Some NoMemory = sym end ∙ memory in cc

    step : (e : LinkEvent) → event ≡ e → IsEndAt e left → IsAtEnd left
    step (Piece piece now) is at' =
        let acts_on : new.ended ≡ end_among (acts_at mid.kept event) = (h.live live not_memory).end in
        absurd (piece_goes now (incoming_in (mid.kept ++ piece)) (sym (acts_on ∙ ap (λ e. end_among (acts_at mid.kept e)) is) ∙ end))
    step Quiet is at' =
        let acts_on : new.ended ≡ end_among (acts_at mid.kept event) = (h.live live not_memory).end in
        let ends : end_among (HandsOut ∷ []) ≡ None = rw hands_on refl in
        let none : new.ended ≡ None = acts_on ∙ ap (λ e. end_among (acts_at mid.kept e)) is ∙ ends in
        let wrong : None ≡ Some EndOfInput = sym none ∙ end in
        absurd cc
    step End is at' = at'
