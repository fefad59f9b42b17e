-- What one event does.
use Rattle.std.proofs.Common.{◌≡◌, ◌≢◌, ℕ, List, [], ◌∷◌, ◌++◌, Option, Some, None, Result, Ok, Err, refl, sym, ap, subst, ◌∙◌, append_assoc}
use Rattle.std.specs.Prelude.{IsSome, is_some, if◌then◌else◌}
use Rattle.ldap_session.proofs.Ends.{end-on, end-over, hands_on, leaves_end, until-on, until-over}
use Rattle.ldap_session.specs.Acts.{Act, Answers, HandsOut, Leaves, acts_at, answers_of, end_among, end_by, end_of, or_later, until_end}
use Rattle.ldap_session.specs.Incoming.{Arrived, Wrong, incoming_in, rest_of}
use Rattle.ldap_session.specs.Requests.{Request, Binds, Unbinds, Writes, Compares, Searches, Abandons, Extends, Responds, request_of}
use Rattle.ldap_session.specs.declared.access.Access.{Access}
use Rattle.ldap_session.specs.declared.ended.Ended.{Ended}
use Rattle.ldap_session.specs.declared.ended.Ended.TheVariants.{EndOfInput, NoMemory, ProtocolFault, ReadFault, Unbound, WriteFault}
use Rattle.ldap_session.specs.declared.event.LinkEvent.{LinkEvent}
use Rattle.ldap_session.specs.declared.event.LinkEvent.TheVariants.{Piece, Quiet, End}
use Rattle.ldap_server.specs.Following.{IsAnswered}
use Rattle.ldap_server.specs.Points.{Point}
use Rattle.ldap_server.specs.Session.{Connected, DoesActs, RunsOutOfMemory, HandlesEvent, ActsOn, ActsOnOrRunsOut, DoesAct, ended_by, point_of}

-- ---- acts one after the other

-- acts that are done after others are done together with them
pub does-append : (access : Access) (xs ys : List Act) (old between new : Point)
    → DoesActs access old xs between → DoesActs access between ys new → DoesActs access old (xs ++ ys) new
does-append access [] ys old between new first later = subst (λ p. DoesActs access p ys new) first later
does-append access (x ∷ xs) ys old between new first later =
    (first.0, first.1, does-append access xs ys first.0 between new first.2 later)

-- memory ran out after some acts
pub halts-append : (access : Access) (xs ys : List Act) (old between new : Point)
    → DoesActs access old xs between → RunsOutOfMemory access between ys new → RunsOutOfMemory access old (xs ++ ys) new
halts-append access xs ys old between new does h = record {
  done = xs ++ h.done;
  later = h.later;
  acts_are = ap (λ zs. xs ++ zs) h.acts_are ∙ sym (append_assoc xs h.done h.later);
  between = h.between;
  does = does-append access xs h.done old between h.between does h.does;
  asked = h.asked;
  exchanged = h.exchanged;
  sent_is = h.sent_is;
}

-- the acts up to the end begin those of more acts
until-front : (xs ys : List Act) → (zs : List Act) × (until_end (xs ++ ys) ≡ until_end xs ++ zs)
until-front [] ys = (until_end ys, refl)
until-front (x ∷ xs) ys = step (end_of x) (until-front xs ys)
  where
    step : (o : Option Ended) → (zs : List Act) × (until_end (xs ++ ys) ≡ until_end xs ++ zs)
        → (zs : List Act) × (x ∷ (if is_some o then [] else until_end (xs ++ ys)) ≡ (x ∷ (if is_some o then [] else until_end xs)) ++ zs)
    step None (zs, is) = (zs, ap (λ acts. x ∷ acts) is)
    step (Some ended) (zs, is) = ([], refl)

-- memory ran out in the first of these acts
pub halts_more : (access : Access) (xs ys : List Act) (old new : Point) → RunsOutOfMemory access old (until_end xs) new → RunsOutOfMemory access old (until_end (xs ++ ys)) new
halts_more access xs ys old new h =
    let front = until-front xs ys in
    record {
      done = h.done;
      later = h.later ++ front.0;
      acts_are = front.1 ∙ ap (λ zs. zs ++ front.0) h.acts_are ∙ append_assoc h.done h.later front.0;
      between = h.between;
      does = h.does;
      asked = h.asked;
      exchanged = h.exchanged;
      sent_is = h.sent_is;
    }

-- ---- one event

-- a message of a piece ends the session
pub acts_on_over : (access : Access) (now : ℕ) (kept piece : List ℕ) (place : ℕ) (ended : Ended) (old new : Point) (left : List ℕ)
    → IsAnswered access now (kept ++ piece) place (Some ended) old new → ActsOn access kept (Piece piece now) old (Some ended) new left
acts_on_over access now kept piece place ended old new left a =
    let acts : List Act = answers_of now (incoming_in (kept ++ piece)) in
    record {
      does = rw (until-over acts (HandsOut ∷ []) ended (sym a.end)) a.does;
      end = sym (end-over acts (HandsOut ∷ []) ended (sym a.end));
      rest = λ none. absurd cc;
    }

-- messages are handed out at a quiet
pub acts_on_quiet : (access : Access) (kept : List ℕ) (old new : Point) → DoesAct access old HandsOut new → ActsOn access kept Quiet old None new kept
acts_on_quiet access kept old new s = record { does = rw hands_on (new, s, refl); end = rw hands_on refl; rest = λ _. refl }

-- the input ends
pub acts_on_end : (access : Access) (kept left : List ℕ) (old new : Point) → DoesAct access old Leaves new → ActsOn access kept End old (Some EndOfInput) new left
acts_on_end access kept left old new s = record { does = rw leaves_end (new, s, refl); end = rw leaves_end refl; rest = λ none. absurd cc }

-- ---- where memory runs out

-- before the messages of a piece, or in them
pub halts_piece : (access : Access) (now : ℕ) (kept piece : List ℕ) (old new : Point)
    → RunsOutOfMemory access old (until_end (answers_of now (incoming_in (kept ++ piece)))) new → RunsOutOfMemory access old (until_end (acts_at kept (Piece piece now))) new
halts_piece access now kept piece old new h = halts_more access (answers_of now (incoming_in (kept ++ piece))) (HandsOut ∷ []) old new h

-- in handing out after them
pub halts_after : (access : Access) (now : ℕ) (kept piece : List ℕ) (place : ℕ) (old between new : Point)
    → IsAnswered access now (kept ++ piece) place None old between → RunsOutOfMemory access between (until_end (acts_at kept Quiet)) new
    → RunsOutOfMemory access old (until_end (acts_at kept (Piece piece now))) new
halts_after access now kept piece place old between new a h =
    let acts : List Act = answers_of now (incoming_in (kept ++ piece)) in
    rw (until-on acts (HandsOut ∷ []) (sym a.end)) (halts-append access (until_end acts) (until_end (HandsOut ∷ [])) old between new a.does h)

-- ---- how a session ends

-- a message or the end of the input ends it, and no fault of a link does, nor running out of memory
abbrev IsOwn : Ended → Type 0
IsOwn Unbound = Unit {0}
IsOwn EndOfInput = Unit {0}
IsOwn (ProtocolFault place) = Unit {0}
IsOwn NoMemory = ⊥
IsOwn ReadFault = ⊥
IsOwn WriteFault = ⊥

abbrev OwnEnd : Option Ended → Type 0
OwnEnd None = Unit {0}
OwnEnd (Some ended) = IsOwn ended

request_own : (r : Request) → OwnEnd (end_by r)
request_own (Binds version name authentication) = tt
request_own Unbinds = tt
request_own (Writes change) = tt
request_own (Compares entry name value) = tt
request_own (Searches s) = tt
request_own (Abandons target) = tt
request_own (Extends name value) = tt
request_own Responds = tt

act_own : (act : Act) → OwnEnd (end_of act)
unfolding end_of
act_own (Answers (Arrived whole) now) = request_own (request_of whole.1.0)
act_own (Answers (Wrong place) now) = tt
act_own HandsOut = tt
act_own Leaves = tt

acts_own : (acts : List Act) → OwnEnd (end_among acts)
acts_own [] = tt
acts_own (act ∷ acts) = step (end_of act) (act_own act) (acts_own acts)
  where
    step : (o : Option Ended) → OwnEnd o → OwnEnd (end_among acts) → OwnEnd (or_later o (end_among acts))
    step None h later = later
    step (Some ended) h later = h

never : (ended : Ended) (acts : List Act) → (IsOwn ended → ⊥) → end_among acts ≢ Some ended
never ended acts other is = other (subst OwnEnd is (acts_own acts))

-- no act ends a session as running out of memory does
pub never_memory : (acts : List Act) → end_among acts ≢ Some NoMemory
never_memory acts = never NoMemory acts (λ e. e)

-- ---- connections

-- nothing is there of what is not there
pub none_some : {X : Type 0} (o : Option X) → o ≡ None → IsSome o → ⊥
none_some None e s = cc
none_some (Some x) e s = cc

-- after an end nothing more happens
pub handles_over : (old : Connected) (event : LinkEvent) (ended : Ended) → old.ended ≡ Some ended → HandlesEvent old event [] (Some ended) old
handles_over old event ended is = record {
  access_is = refl;
  ended_is = sym is;
  over = λ _. (refl, refl);
  live = λ none. absurd (let wrong : None ≡ Some ended = sym none ∙ is in cc);
  halts = λ none. absurd (let wrong : None ≡ Some ended = sym none ∙ is in cc);
}

-- an event comes to a session that has not ended
pub handles_live : {E : Type 0} (old new : Connected) (event : LinkEvent) (done : Result (Option Ended) E) (bytes : List ℕ)
    → old.ended ≡ None → new.access ≡ old.access → new.ended ≡ ended_by done
    → ActsOnOrRunsOut old.access old.kept event (point_of old []) done (point_of new bytes) new.kept
    → HandlesEvent old event bytes new.ended new
handles_live old new event (Ok ended) bytes live access is acts_on =
    let P : Option Ended → Type 0 = λ o. ActsOn old.access old.kept event (point_of old []) o (point_of new bytes) new.kept in
    record {
      access_is = access;
      ended_is = refl;
      over = λ some. absurd (none_some old.ended live some);
      live = λ _ _. subst P (sym is) acts_on;
      halts = λ _ memory. absurd (never_memory (acts_at old.kept event) (sym acts_on.end ∙ sym is ∙ memory));
    }
handles_live old new event (Err fault) bytes live access is acts_on = record {
  access_is = access;
  ended_is = refl;
  over = λ some. absurd (none_some old.ended live some);
  live = λ _ other. absurd (other is);
  halts = λ _ _. acts_on;
}

-- what was done of an event to a session that has not ended, and what the call answers
pub handles_done : {E : Type 0} (old mid new : Connected) (event : LinkEvent) (done : Result (Option Ended) E) (bytes sent : List ℕ) (ended : Option Ended)
    → old.ended ≡ None → mid.access ≡ old.access
    → new ≡ record { port = mid.port; access = mid.access; session = mid.session; kept = mid.kept; ended = ended_by done }
    → bytes ≡ sent → ended ≡ ended_by done
    → ActsOnOrRunsOut old.access old.kept event (point_of old []) done (point_of mid sent) mid.kept
    → HandlesEvent old event bytes ended new
handles_done old mid new event done bytes sent ended live access is same by acts_on =
    let left : Connected = record { port = mid.port; access = mid.access; session = mid.session; kept = mid.kept; ended = ended_by done } in
    let all : HandlesEvent old event sent (ended_by done) left = handles_live old left event done sent live access refl acts_on in
    subst (λ n. HandlesEvent old event bytes ended n) (sym is)
    (subst (λ e. HandlesEvent old event bytes e left) (sym by)
    (subst (λ xs. HandlesEvent old event xs (ended_by done) left) (sym same) all))

-- the input ends
pub handles_end : (old new : Connected) (dropped : Point) (bytes : List ℕ) (ended : Option Ended)
    → old.ended ≡ None
    → new ≡ record { port = dropped.port; access = old.access; session = dropped.session; kept = old.kept; ended = Some EndOfInput }
    → bytes ≡ dropped.sent → ended ≡ Some EndOfInput → DoesAct old.access (point_of old []) Leaves dropped
    → HandlesEvent old End bytes ended new
handles_end old new dropped bytes ended live is same by s =
    let left : Connected = record { port = dropped.port; access = old.access; session = dropped.session; kept = old.kept; ended = Some EndOfInput } in
    let done : Result (Option Ended) ℕ = Ok (Some EndOfInput) in
    let all : HandlesEvent old End dropped.sent (Some EndOfInput) left =
    handles_live old left End done dropped.sent live refl refl (acts_on_end old.access old.kept old.kept (point_of old []) dropped s) in
    subst (λ n. HandlesEvent old End bytes ended n) (sym is)
    (subst (λ e. HandlesEvent old End bytes e left) (sym by) (subst (λ xs. HandlesEvent old End xs (Some EndOfInput) left) (sym same) all))

-- no other end than these
pub none_by : (o : Option Ended) → ((ended : Ended) → o ≡ Some ended → ⊥) → o ≡ None
none_by None other = refl
none_by (Some ended) other = absurd (other ended refl)

-- a session that has not ended is not ended by a fault of a link

-- no event ends a session as a failed read does
pub not_read_fault : (old new : Connected) (event : LinkEvent) (bytes : List ℕ) (ended : Option Ended) → old.ended ≡ None → HandlesEvent old event bytes ended new → ended ≢ Some ReadFault
not_read_fault old new event bytes ended live h is =
    let at : new.ended ≡ Some ReadFault = sym h.ended_is ∙ is in
    let other : new.ended ≢ Some NoMemory = λ memory. let wrong : Some ReadFault ≡ Some NoMemory = sym at ∙ memory in cc in
    never ReadFault (acts_at old.kept event) (λ e. e) (sym (h.live live other).end ∙ at)

-- nor as a failed write does
pub not_write_fault : (old new : Connected) (event : LinkEvent) (bytes : List ℕ) (ended : Option Ended) → old.ended ≡ None → HandlesEvent old event bytes ended new → ended ≢ Some WriteFault
not_write_fault old new event bytes ended live h is =
    let at : new.ended ≡ Some WriteFault = sym h.ended_is ∙ is in
    let other : new.ended ≢ Some NoMemory = λ memory. let wrong : Some WriteFault ≡ Some NoMemory = sym at ∙ memory in cc in
    never WriteFault (acts_at old.kept event) (λ e. e) (sym (h.live live other).end ∙ at)

-- ---- a piece

-- the messages of a piece are answered, and then messages are handed out, or memory runs out
pub acts_on_then : {E : Type 0} (access : Access) (now : ℕ) (kept piece rest left : List ℕ) (place : ℕ) (old mid new : Point) (r : Result (Option Ended) E)
    → IsAnswered access now (kept ++ piece) place None old mid → rest ≡ rest_of (kept ++ piece)
    → ActsOnOrRunsOut access rest Quiet mid r new left → left ≡ rest
    → ActsOnOrRunsOut access kept (Piece piece now) old r new left
acts_on_then access now kept piece rest left place old mid new (Ok ended) a is l same =
    let acts : List Act = answers_of now (incoming_in (kept ++ piece)) in
    record {
      does = rw (until-on acts (HandsOut ∷ []) (sym a.end)) (does-append access (until_end acts) (until_end (HandsOut ∷ [])) old mid new a.does l.does);
      end = l.end ∙ sym (end-on acts (HandsOut ∷ []) (sym a.end));
      rest = λ _. same ∙ is;
    }
acts_on_then access now kept piece rest left place old mid new (Err fault) a is h same = halts_after access now kept piece place old mid new a h
