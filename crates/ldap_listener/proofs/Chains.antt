-- Sessions of one port, one after the other.
use Rattle.std.proofs.Common.{◌≡◌, ◌≢◌, ◌==◌, ℕ, List, [], ◌∷◌, ◌++◌, if◌then◌else◌, refl, ap, ◌∙◌, ne_eqb, eq-eqb}
use Rattle.std.proofs.lemmas.List.{append-nil}
use Rattle.std.proofs.lemmas.Grind.{flat_map-append}
use Rattle.sync_provider.specs.Ports.{PortState}
use Rattle.ldap_listener.specs.Sessions.{Chain, ServedSession, sessions_of}

-- what one session is to the port with this number
abbrev of_number : ℕ → ℕ × ServedSession → List ServedSession
of_number number s = if s.0 == number then s.1 ∷ [] else []

sessions-more : (number : ℕ) (sessions : List (ℕ × ServedSession)) (s : ℕ × ServedSession) → sessions_of number (sessions ++ s ∷ []) ≡ sessions_of number sessions ++ of_number number s
sessions-more number sessions s =
    flat_map-append (of_number number) sessions (s ∷ []) ∙ ap (λ r. sessions_of number sessions ++ r) (append-nil (of_number number s))

-- a session at another port is none of this port's
pub sessions-else : (number other : ℕ) (sessions : List (ℕ × ServedSession)) (s : ServedSession) → other ≢ number → sessions_of number (sessions ++ (other, s) ∷ []) ≡ sessions_of number sessions
sessions-else number other sessions s differs =
    let none : of_number number (other, s) ≡ [] = rw (ne_eqb other number differs) refl in
    sessions-more number sessions (other, s) ∙ ap (λ r. sessions_of number sessions ++ r) none ∙ append-nil (sessions_of number sessions)

-- one at this port is its last
pub sessions-own : (number : ℕ) (sessions : List (ℕ × ServedSession)) (s : ServedSession) → sessions_of number (sessions ++ (number, s) ∷ []) ≡ sessions_of number sessions ++ s ∷ []
sessions-own number sessions s =
    let one : of_number number (number, s) ≡ s ∷ [] = rw (eq-eqb number number refl) refl in
    sessions-more number sessions (number, s) ∙ ap (λ r. sessions_of number sessions ++ r) one

-- one session more
pub chain-more : (first : PortState) (sessions : List ServedSession) (last : PortState) (s : ServedSession) → Chain first sessions last → s.before ≡ last → Chain first (sessions ++ s ∷ []) s.after
chain-more first [] last s chain before = (before ∙ chain, refl)
chain-more first (t ∷ sessions) last s chain before = (chain.0, chain-more t.after sessions last s chain.1 before)
