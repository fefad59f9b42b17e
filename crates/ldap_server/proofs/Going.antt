-- The loop over the messages of some bytes.
use Rattle.std.proofs.Common.{◌≡◌, ℕ, ◌+◌, ◌≤◌, List, [], ◌∷◌, length, drop, Some, None, refl, sym, ap, ◌∙◌, arith, length-drop}
use Rattle.std.proofs.lemmas.List.{drop-drop}
use Rattle.ldap_messages.specs.Frame.{Read, partial, refused, long, message, read_of}
use Rattle.ldap_session.proofs.Streams.{incoming_long, incoming_more, incoming_none, incoming_refused, rest_more, rest_none}
use Rattle.ldap_session.specs.Acts.{Act, Answers, answers_of, end_among, until_end}
use Rattle.ldap_session.specs.Incoming.{Incoming, Arrived, Wrong, incoming_in, rest_of}
use Rattle.ldap_session.specs.declared.access.Access.{Access}
use Rattle.ldap_session.specs.declared.ended.Ended.{Ended}
use Rattle.ldap_server.specs.Following.{Follows, IsAnswered, Stopped, first_of}
use Rattle.ldap_server.specs.Points.{Point}
use Rattle.ldap_server.specs.Session.{DoesActs, RunsOutOfMemory}
use Rattle.ldap_server.specs.declared.first_frame.FirstFrame.TheVariants as next
use Rattle.ldap_server.proofs.Steps.{halts_here, halts_step}

-- the acts of answering what is in these bytes
abbrev acts_in : ℕ → List ℕ → List Act
acts_in now bytes = until_end (answers_of now (incoming_in bytes))

-- The messages before a place are answered. Whoever goes on with what is left has answered all, and
-- where memory runs out in what is left it has run out in all.
pub record Going (access : Access) (now : ℕ) (bytes : List ℕ) (place : ℕ) (old new : Point) : Type 0 where
  pub within : place ≤ length bytes
  pub goes_on : (end : Point) → DoesActs access new (acts_in now (drop place bytes)) end → DoesActs access old (acts_in now bytes) end
  pub halts_on : (end : Point) → RunsOutOfMemory access new (acts_in now (drop place bytes)) end → RunsOutOfMemory access old (acts_in now bytes) end
  pub ends : end_among (answers_of now (incoming_in bytes)) ≡ end_among (answers_of now (incoming_in (drop place bytes)))
  pub rests : rest_of bytes ≡ rest_of (drop place bytes)

-- at first no message is answered
pub going_none : (access : Access) (now : ℕ) (bytes : List ℕ) (p : Point) → Going access now bytes 0 p p
going_none access now bytes p = record { within = omega arith; goes_on = λ end h. h; halts_on = λ end h. h; ends = refl; rests = refl }

-- one message more
pub going_on : (access : Access) (now : ℕ) (bytes : List ℕ) (place count : ℕ) (old between new : Point)
    → Going access now bytes place old between → Follows access now (drop place bytes) between (next.Message count) new → Going access now bytes (place + count) old new
going_on access now bytes place count old between new g f =
    let first : incoming_in (drop place bytes) ≡ Arrived f.0 ∷ incoming_in (drop (place + count) bytes) =
    incoming_more (drop place bytes) f.0 count f.1 ∙ ap (λ (xs : List ℕ). Arrived f.0 ∷ incoming_in xs) (drop-drop count place bytes) in
    record {
      within = omega (arith, g.within, f.3, length-drop place bytes);
      goes_on = λ end h. g.goes_on end (rw (first, f.5) (new, f.4, h));
      halts_on = λ end h. g.halts_on end (rw (first, f.5) (halts_step access (Answers (Arrived f.0) now) (acts_in now (drop (place + count) bytes)) between new end f.4 h));
      ends = g.ends ∙ rw (first, f.5) refl;
      rests = g.rests ∙ rest_more (drop place bytes) f.0 count f.1 ∙ ap rest_of (drop-drop count place bytes);
    }

-- no whole message is left
pub answered_all : (access : Access) (now : ℕ) (bytes : List ℕ) (place : ℕ) (old between new : Point)
    → Going access now bytes place old between → Follows access now (drop place bytes) between next.Rest new → IsAnswered access now bytes place None old new
answered_all access now bytes place old between new g f =
    let none : incoming_in (drop place bytes) ≡ [] = incoming_none (drop place bytes) f.0 in
    record {
      does = g.goes_on new (rw none f.1);
      end = sym (g.ends ∙ rw none refl);
      within = g.within;
      rest = λ _. sym (g.rests ∙ rest_none (drop place bytes) f.0);
    }

-- the first of what is in some bytes, where something is
first_only : (bytes : List ℕ) (read : Read) (incoming : Incoming) → read_of bytes ≡ read → first_of read ≡ Some incoming → (more : List Incoming) × (incoming_in bytes ≡ incoming ∷ more)
first_only bytes partial incoming is first = absurd cc
first_only bytes (refused place) incoming is first =
    let same : Wrong place ≡ incoming = cc in ([], incoming_refused bytes place is ∙ ap (λ (x : Incoming). x ∷ []) same)
first_only bytes long incoming is first =
    let same : Wrong 0 ≡ incoming = cc in ([], incoming_long bytes is ∙ ap (λ (x : Incoming). x ∷ []) same)
first_only bytes (message whole count) incoming is first =
    let same : Arrived whole ≡ incoming = cc in
    (incoming_in (drop count bytes), incoming_more bytes whole count is ∙ ap (λ (x : Incoming). x ∷ incoming_in (drop count bytes)) same)

-- a message ends the session
pub answered_over : (access : Access) (now : ℕ) (bytes : List ℕ) (place : ℕ) (ended : Ended) (old between new : Point)
    → Going access now bytes place old between → Follows access now (drop place bytes) between (next.Over ended) new → IsAnswered access now bytes place (Some ended) old new
answered_over access now bytes place ended old between new g f =
    let first = first_only (drop place bytes) (read_of (drop place bytes)) f.0 refl f.1 in
    record {
      does = g.goes_on new (rw (first.1, f.3) (new, f.2, refl));
      end = sym (g.ends ∙ rw (first.1, f.3) refl);
      within = g.within;
      rest = λ none. absurd cc;
    }

-- memory ran out
pub answered_halts : (access : Access) (now : ℕ) (bytes : List ℕ) (place : ℕ) (old between new : Point)
    → Going access now bytes place old between → Stopped between new → RunsOutOfMemory access old (acts_in now bytes) new
answered_halts access now bytes place old between new g s = g.halts_on new (halts_here access (acts_in now (drop place bytes)) between new s)
