-- However bytes are cut, the same messages come.
use Rattle.std.proofs.Common.{◌≡◌, ℕ, zero, suc, ◌<◌, ◌≤◌, List, [], ◌∷◌, ◌++◌, length, drop, Option, Some, None, refl, sym, ap, ◌∙◌, arith, append_assoc, length-drop}
use Rattle.std.specs.Prelude.{is_some, if◌then◌else◌}
use Rattle.std.proofs.lemmas.List.{append-nil, drop-append-le}
use Rattle.ldap_messages.specs.Whole.{MessageValue}
use Rattle.ldap_messages.specs.Frame.{Read, partial, refused, long, message, read_of}
use Rattle.ldap_messages.proofs.StableLemmas.{read_stays}
use Rattle.ldap_session.specs.declared.ended.Ended.{Ended}
use Rattle.ldap_session.specs.declared.ended.Ended.TheVariants.{ProtocolFault}
use Rattle.ldap_session.specs.declared.event.LinkEvent.{LinkEvent}
use Rattle.ldap_session.specs.declared.event.LinkEvent.TheVariants.{Piece, Quiet, End}
use Rattle.ldap_session.specs.Incoming.{Incoming, Arrived, Wrong, incoming_in, rest_of}
use Rattle.ldap_session.specs.Acts.{Act, Answers, HandsOut, Leaves, end_of, until_end, end_among, answers_of, acts_from, or_later}
use Rattle.ldap_session.specs.Cuts.{bytes_of, answered_by, until_over, end_in}
use Rattle.ldap_session.proofs.Streams.{nothing_read, frame_some, frame_within, incoming_none, rest_none, incoming_more, rest_more, incoming_refused, incoming_long}
use Rattle.ldap_session.proofs.Ends.{until-over, until-on, hands_on, leaves_end}

-- where bytes follow, what comes goes on from the rest, or ended before
pub record Grows (prefix after : List ℕ) : Type 0 where
  pub over : (ended : Ended) → end_in prefix ≡ Some ended → until_over (incoming_in (prefix ++ after)) ≡ until_over (incoming_in prefix)
  pub on : end_in prefix ≡ None → incoming_in (prefix ++ after) ≡ incoming_in prefix ++ incoming_in (rest_of prefix ++ after)
  pub calm : end_in prefix ≡ None → incoming_in (rest_of prefix) ≡ []

end_at : (incoming : Incoming) (now : ℕ) → end_of (Answers incoming now) ≡ end_of (Answers incoming 0)
unfolding end_of
end_at (Arrived whole) now = refl
end_at (Wrong place) now = refl

wrong_ends : (place : ℕ) → end_of (Answers (Wrong place) 0) ≡ Some (ProtocolFault place)
unfolding end_of
wrong_ends place = refl

grows_partial : (prefix after : List ℕ) → read_of prefix ≡ partial → Grows prefix after
grows_partial prefix after is =
    let none : incoming_in prefix ≡ [] = incoming_none prefix is in
    record {
      over = λ ended some. absurd (let wrong = rw none at some in cc);
      on = λ _. rw (none, rest_none prefix is) refl;
      calm = λ _. rw (rest_none prefix is) none;
    }

grows_wrong : (prefix after : List ℕ) (place : ℕ) → incoming_in prefix ≡ Wrong place ∷ [] → incoming_in (prefix ++ after) ≡ Wrong place ∷ [] → Grows prefix after
grows_wrong prefix after place one other =
    record {
      over = λ ended some. ap until_over (other ∙ sym one);
      on = λ none. absurd (let wrong = rw (one, wrong_ends place) at none in cc);
      calm = λ none. absurd (let wrong = rw (one, wrong_ends place) at none in cc);
    }

grows_message : (prefix after : List ℕ) (whole : MessageValue) (count : ℕ) → incoming_in prefix ≡ Arrived whole ∷ incoming_in (drop count prefix) → incoming_in (prefix ++ after) ≡ Arrived whole ∷ incoming_in (drop count prefix ++ after)
    → rest_of prefix ≡ rest_of (drop count prefix) → Grows (drop count prefix) after → Grows prefix after
grows_message prefix after whole count one other rests later = step (end_of (Answers (Arrived whole) 0)) refl
  where
    step : (end : Option Ended) → end_of (Answers (Arrived whole) 0) ≡ end → Grows prefix after
    step None none =
        record {
          over = λ ended some.
              let there : end_in (drop count prefix) ≡ Some ended = rw (one, none) at some in
              rw (one, other, none) (ap (λ (more : List Incoming). Arrived whole ∷ more) (later.over ended there));
          on = λ none'.
              let there : end_in (drop count prefix) ≡ None = rw (one, none) at none' in
              rw (one, other, rests) (ap (λ (more : List Incoming). Arrived whole ∷ more) (later.on there));
          calm = λ none'.
              let there : end_in (drop count prefix) ≡ None = rw (one, none) at none' in
              rw rests (later.calm there);
        }
    step (Some first) some =
        record {
          over = λ ended _. rw (one, other, some) refl;
          on = λ none. absurd (let wrong = rw (one, some) at none in cc);
          calm = λ none. absurd (let wrong = rw (one, some) at none in cc);
        }

grows_by : (n : ℕ) (prefix after : List ℕ) (read : Read) → read_of prefix ≡ read → length prefix ≤ suc n → ((left : List ℕ) → length left ≤ n → Grows left after) → Grows prefix after
grows_by n prefix after partial is within later = grows_partial prefix after is
grows_by n prefix after (refused place) is within later =
    grows_wrong prefix after place (incoming_refused prefix place is) (incoming_refused (prefix ++ after) place (read_stays prefix after (λ e. absurd cc) ∙ is))
grows_by n prefix after long is within later =
    grows_wrong prefix after 0 (incoming_long prefix is) (incoming_long (prefix ++ after) (read_stays prefix after (λ e. absurd cc) ∙ is))
grows_by n prefix after (message whole count) is within later =
    let some : 0 < count = frame_some prefix whole count is in
    let fits : count ≤ length prefix = frame_within prefix whole count is in
    grows_message prefix after whole count (incoming_more prefix whole count is)
    (incoming_more (prefix ++ after) whole count (read_stays prefix after (λ e. absurd cc) ∙ is) ∙ ap (λ (bytes : List ℕ). Arrived whole ∷ incoming_in bytes) (drop-append-le count prefix after fits))
    (rest_more prefix whole count is) (later (drop count prefix) (omega (arith, some, length-drop count prefix)))

-- bytes go on in this way, whatever follows
pub grows_within : (n : ℕ) (prefix after : List ℕ) → length prefix ≤ n → Grows prefix after
grows_within zero [] after within = grows_partial [] after nothing_read
grows_within zero (byte ∷ prefix) after within = absurd (omega arith)
grows_within (suc n) prefix after within = grows_by n prefix after (read_of prefix) refl within (λ left. grows_within n left after)

answered_by-append : (xs ys : List Act) → answered_by (xs ++ ys) ≡ answered_by xs ++ answered_by ys
answered_by-append [] ys = refl
answered_by-append (Answers incoming now ∷ xs) ys = ap (λ (more : List Incoming). incoming ∷ more) (answered_by-append xs ys)
answered_by-append (HandsOut ∷ xs) ys = answered_by-append xs ys
answered_by-append (Leaves ∷ xs) ys = answered_by-append xs ys

answered_until : (now : ℕ) (incoming : List Incoming) → answered_by (until_end (answers_of now incoming)) ≡ until_over incoming
answered_until now [] = refl
answered_until now (one ∷ more) = rw (end_at one now) (step (end_of (Answers one 0)) (answered_until now more))
  where
    step : (end : Option Ended) → answered_by (until_end (answers_of now more)) ≡ until_over more
        → one ∷ answered_by (if is_some end then [] else until_end (answers_of now more)) ≡ one ∷ (if is_some end then [] else until_over more)
    step None later = ap (λ (xs : List Incoming). one ∷ xs) later
    step (Some ended) later = refl

-- the time of an answer ends nothing
pub end_until : (now : ℕ) (incoming : List Incoming) → end_among (answers_of now incoming) ≡ end_among (answers_of 0 incoming)
end_until now [] = refl
end_until now (one ∷ more) = rw (end_at one now) (ap (λ (end : Option Ended). or_later (end_of (Answers one 0)) end) (end_until now more))

over_on : (xs ys : List Incoming) → end_among (answers_of 0 xs) ≡ None → until_over (xs ++ ys) ≡ until_over xs ++ until_over ys
over_on [] ys none = refl
over_on (x ∷ xs) ys none = step (end_of (Answers x 0)) (over_on xs ys) none
  where
    step : (end : Option Ended) → (end_among (answers_of 0 xs) ≡ None → until_over (xs ++ ys) ≡ until_over xs ++ until_over ys) → or_later end (end_among (answers_of 0 xs)) ≡ None
        → x ∷ (if is_some end then [] else until_over (xs ++ ys)) ≡ (x ∷ (if is_some end then [] else until_over xs)) ++ until_over ys
    step None later none = ap (λ (more : List Incoming). x ∷ more) (later none)
    step (Some ended) later none = absurd cc

-- one piece, and what comes later
piece : (now : ℕ) (bytes left : List ℕ) (later : List Act) → (incoming_in (rest_of bytes) ≡ [] → answered_by (until_end later) ≡ until_over (incoming_in (rest_of bytes ++ left))) → Grows bytes left
    → answered_by (until_end ((answers_of now (incoming_in bytes) ++ HandsOut ∷ []) ++ later)) ≡ until_over (incoming_in (bytes ++ left))
piece now bytes left later follows grown = step (end_among (answers_of now (incoming_in bytes))) refl
  where
    step : (end : Option Ended) → end_among (answers_of now (incoming_in bytes)) ≡ end → answered_by (until_end ((answers_of now (incoming_in bytes) ++ HandsOut ∷ []) ++ later)) ≡ until_over (incoming_in (bytes ++ left))
    step None none =
        let none' : end_in bytes ≡ None = sym (end_until now (incoming_in bytes)) ∙ none in
        rw (
          append_assoc (answers_of now (incoming_in bytes)) (HandsOut ∷ []) later,
          until-on (answers_of now (incoming_in bytes)) (HandsOut ∷ later) none,
          hands_on,
          answered_by-append (until_end (answers_of now (incoming_in bytes))) (HandsOut ∷ until_end later),
          answered_until now (incoming_in bytes),
          grown.on none',
          over_on (incoming_in bytes) (incoming_in (rest_of bytes ++ left)) none',
        )
        (ap (λ (more : List Incoming). until_over (incoming_in bytes) ++ more) (follows (grown.calm none')))
    step (Some ended) some =
        rw (append_assoc (answers_of now (incoming_in bytes)) (HandsOut ∷ []) later, until-over (answers_of now (incoming_in bytes)) (HandsOut ∷ later) ended some, answered_until now (incoming_in bytes))
        (sym (grown.over ended (sym (end_until now (incoming_in bytes)) ∙ some)))

cut_from : (events : List LinkEvent) (kept : List ℕ) → incoming_in kept ≡ [] → answered_by (until_end (acts_from kept events)) ≡ until_over (incoming_in (kept ++ bytes_of events))
cut_from [] kept none = rw (append-nil kept, none) refl
cut_from (Piece bytes now ∷ events) kept none =
    rw (← append_assoc kept bytes (bytes_of events))
    (piece now (kept ++ bytes) (bytes_of events) (acts_from (rest_of (kept ++ bytes)) events) (cut_from events (rest_of (kept ++ bytes)))
    (grows_within (length (kept ++ bytes)) (kept ++ bytes) (bytes_of events) (omega arith)))
cut_from (Quiet ∷ events) kept none = rw hands_on (cut_from events kept none)
cut_from (End ∷ events) kept none = rw (leaves_end, append-nil kept, none) refl

-- what is answered are the messages of all bytes, whichever way they are cut
pub cut_anyhow : (events : List LinkEvent) → answered_by (until_end (acts_from [] events)) ≡ until_over (incoming_in (bytes_of events))
cut_anyhow events = cut_from events [] (incoming_none [] nothing_read)
