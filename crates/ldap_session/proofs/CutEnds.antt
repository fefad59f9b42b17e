-- However bytes are cut, a session ends in the same way.
use Rattle.std.proofs.Common.{◌≡◌, ℕ, List, [], ◌∷◌, ◌++◌, length, Option, Some, None, refl, sym, ap, ◌∙◌, arith, append_assoc}
use Rattle.std.specs.Prelude.{is_some, if◌then◌else◌}
use Rattle.std.proofs.lemmas.List.{append-nil}
use Rattle.ldap_session.specs.declared.ended.Ended.{Ended}
use Rattle.ldap_session.specs.declared.ended.Ended.TheVariants.{EndOfInput}
use Rattle.ldap_session.specs.declared.event.LinkEvent.{LinkEvent}
use Rattle.ldap_session.specs.declared.event.LinkEvent.TheVariants.{Piece, Quiet, End}
use Rattle.ldap_session.specs.Incoming.{Incoming, incoming_in, rest_of}
use Rattle.ldap_session.specs.Acts.{Act, Answers, HandsOut, end_of, end_among, answers_of, acts_from, or_later}
use Rattle.ldap_session.specs.Cuts.{bytes_of, until_over, end_in, has_end, end_by_input}
use Rattle.ldap_session.proofs.Streams.{nothing_read, incoming_none}
use Rattle.ldap_session.proofs.Ends.{end-over, end-on, hands_on, leaves_end}
use Rattle.ldap_session.proofs.Cutting.{Grows, grows_within, end_until}

-- what follows an end changes nothing of it
end_kept : (incoming : List Incoming) → end_among (answers_of 0 (until_over incoming)) ≡ end_among (answers_of 0 incoming)
end_kept [] = refl
end_kept (one ∷ more) = step (end_of (Answers one 0)) (end_kept more)
  where
    step : (end : Option Ended) → end_among (answers_of 0 (until_over more)) ≡ end_among (answers_of 0 more)
        → or_later end (end_among (answers_of 0 (if is_some end then [] else until_over more))) ≡ or_later end (end_among (answers_of 0 more))
    step None later = later
    step (Some ended) later = refl

answers_append : (now : ℕ) (xs ys : List Incoming) → answers_of now (xs ++ ys) ≡ answers_of now xs ++ answers_of now ys
answers_append now [] ys = refl
answers_append now (x ∷ xs) ys = ap (λ (acts : List Act). Answers x now ∷ acts) (answers_append now xs ys)

-- one piece, and what comes later
piece : (now : ℕ) (bytes left : List ℕ) (later : List Act) (otherwise : Option Ended) → (incoming_in (rest_of bytes) ≡ [] → end_among later ≡ or_later (end_in (rest_of bytes ++ left)) otherwise) → Grows bytes left
    → end_among ((answers_of now (incoming_in bytes) ++ HandsOut ∷ []) ++ later) ≡ or_later (end_in (bytes ++ left)) otherwise
piece now bytes left later otherwise follows grown = step (end_among (answers_of now (incoming_in bytes))) refl
  where
    step : (end : Option Ended) → end_among (answers_of now (incoming_in bytes)) ≡ end → end_among ((answers_of now (incoming_in bytes) ++ HandsOut ∷ []) ++ later) ≡ or_later (end_in (bytes ++ left)) otherwise
    step None none =
        let none' : end_in bytes ≡ None = sym (end_until now (incoming_in bytes)) ∙ none in
        rw (
          append_assoc (answers_of now (incoming_in bytes)) (HandsOut ∷ []) later,
          end-on (answers_of now (incoming_in bytes)) (HandsOut ∷ later) none,
          hands_on,
          grown.on none',
          answers_append 0 (incoming_in bytes) (incoming_in (rest_of bytes ++ left)),
          end-on (answers_of 0 (incoming_in bytes)) (answers_of 0 (incoming_in (rest_of bytes ++ left))) none',
        )
        (follows (grown.calm none'))
    step (Some ended) some =
        let some' : end_in bytes ≡ Some ended = sym (end_until now (incoming_in bytes)) ∙ some in
        let kept : end_in (bytes ++ left) ≡ end_in bytes =
        sym (end_kept (incoming_in (bytes ++ left))) ∙ (ap (λ (xs : List Incoming). end_among (answers_of 0 xs)) (grown.over ended some') ∙ end_kept (incoming_in bytes)) in
        let there : end_in (bytes ++ left) ≡ Some ended = kept ∙ some' in
        rw (append_assoc (answers_of now (incoming_in bytes)) (HandsOut ∷ []) later, end-over (answers_of now (incoming_in bytes)) (HandsOut ∷ later) ended some, there) refl

end_from : (events : List LinkEvent) (kept : List ℕ) → incoming_in kept ≡ [] → end_among (acts_from kept events) ≡ or_later (end_in (kept ++ bytes_of events)) (if has_end events then Some EndOfInput else None)
end_from [] kept none = rw (append-nil kept, none) refl
end_from (Piece bytes now ∷ events) kept none =
    rw (← append_assoc kept bytes (bytes_of events))
    (piece now (kept ++ bytes) (bytes_of events) (acts_from (rest_of (kept ++ bytes)) events) (if has_end events then Some EndOfInput else None) (end_from events (rest_of (kept ++ bytes)))
    (grows_within (length (kept ++ bytes)) (kept ++ bytes) (bytes_of events) (omega arith)))
end_from (Quiet ∷ events) kept none = rw hands_on (end_from events kept none)
end_from (End ∷ events) kept none = rw (leaves_end, append-nil kept, none) refl

-- a session ends by its input alone
pub end_anyhow : (events : List LinkEvent) → end_among (acts_from [] events) ≡ end_by_input events
end_anyhow events = end_from events [] (incoming_none [] nothing_read)
