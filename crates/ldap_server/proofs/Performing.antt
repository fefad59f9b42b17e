-- What is done from one point to another.
use Rattle.std.proofs.Common.{◌≡◌, ℕ, Bool, List, [], ◌++◌, Result, Ok, Err, is_ok, if◌then◌else◌, length, take, refl, sym, ap, ◌∙◌, subst, append_assoc, arith}
use Rattle.std.proofs.lemmas.List.{append-nil, take_all, take-append-le}
use Rattle.sync_provider.specs.Ports.{PortState}
use Rattle.ldap_server.specs.Encoding.{response_octets}
use Rattle.ldap_server.specs.PortCalls.{PortCall, Exchanged}
use Rattle.ldap_server.specs.Following.{Stopped}
use Rattle.ldap_server.specs.Points.{Point, IsPerformed, Begun, PerformedOrBegun, Sends}
use Rattle.ldap_server.specs.SessionState.{SessionState}
use Rattle.ldap_server.specs.Table.{AnswersCode, FindsCode, SendsOnly}
use Rattle.ldap_server.specs.declared.session_search.SessionSearch.{SessionSearch}
use Rattle.ldap_server.specs.declared.response.Response.{Response}

-- ---- what is sent

-- the point with this sent
abbrev pub with_sent : Point → List ℕ → Point
with_sent p sent = record { port = p.port; session = p.session; sent = sent }

-- octets that were appended, or not where memory ran out
pub sends_of : {T E : Type 0} (octets : List ℕ) (old : Point) (r : Result T E) (after : List ℕ)
    → after ≡ (if is_ok r then old.sent ++ octets else old.sent)
    → Sends octets old r (record { port = old.port; session = old.session; sent = after })
sends_of octets old (Ok done) after is = ap (λ sent. with_sent old sent) is
sends_of octets old (Err fault) after is = ([], ap (λ sent. with_sent old sent) (is ∙ sym (append-nil old.sent)))

-- a part was sent, and nothing else was done
abbrev pub IsPart : Point → Point → Type 0
IsPart old new = (part : List ℕ) × (new ≡ with_sent old (old.sent ++ part))

-- nothing is a part of what is sent
pub part_none : (old : Point) → IsPart old old
part_none old = ([], ap (λ sent. with_sent old sent) (sym (append-nil old.sent)))

-- nothing is to be sent
pub same_sent : (old : Point) → old ≡ with_sent old (old.sent ++ [])
same_sent old = ap (λ sent. with_sent old sent) (sym (append-nil old.sent))

-- a part of what follows the first octets
pub part_more : (first : List ℕ) (old mid new : Point) → mid ≡ with_sent old (old.sent ++ first) → IsPart mid new → IsPart old new
part_more first old mid new is sends =
    let P : Point → Type 0 = λ p. new ≡ with_sent p (p.sent ++ sends.0) in
    (first ++ sends.0, subst P is sends.1 ∙ ap (λ sent. with_sent old sent) (append_assoc old.sent first sends.0))

-- some octets were sent, and then others
pub sends_more : {T E : Type 0} (first later : List ℕ) (old mid new : Point) (r : Result T E)
    → mid ≡ record { port = old.port; session = old.session; sent = old.sent ++ first }
    → Sends later mid r new → Sends (first ++ later) old r new
sends_more first later old mid new (Ok done) is sends =
    let P : Point → Type 0 = λ p. new ≡ with_sent p (p.sent ++ later) in
    subst P is sends ∙ ap (λ sent. with_sent old sent) (append_assoc old.sent first later)
sends_more first later old mid new (Err fault) is sends = part_more first old mid new is sends

-- ---- what a session keeps

abbrev pub session : Bool → List SessionSearch → SessionState
session bound searches = record { bound = bound; searches = searches }

-- session states whose parts are equal are equal
pub session_is : (bound other : Bool) (searches others : List SessionSearch) → bound ≡ other → searches ≡ others → session bound searches ≡ session other others
session_is bound other searches others same are = ap (λ b. session b searches) same ∙ ap (λ xs. session other xs) are

-- ---- what is done, or begun

-- Something was asked first, and something sent, and then the rest is sent.
pub outcome_after : {T E : Type 0} (Act : SessionState → List PortCall → List ℕ → SessionState → Type 0) (asked : List PortCall) (before octets : List ℕ) (old mid new : Point) (r : Result T E)
    → Exchanged old.port asked mid.port → mid.sent ≡ old.sent ++ before → Act old.session asked (before ++ octets) mid.session
    → Sends octets mid r new → PerformedOrBegun Act old r new
outcome_after Act asked before octets old mid new (Ok done) exchanged sent act sends =
    subst (λ p. IsPerformed Act old p) (sym sends)
    (record {
      asked = asked;
      octets = before ++ octets;
      act = act;
      exchanged = exchanged;
      sent_is = ap (λ xs. xs ++ octets) sent ∙ append_assoc old.sent before octets;
    })
outcome_after Act asked before octets old mid new (Err fault) exchanged sent act sends =
    subst (λ p. Begun old p) (sym sends.1)
    (record {
      asked = asked;
      exchanged = exchanged;
      octets = before ++ sends.0;
      sent_is = ap (λ xs. xs ++ sends.0) sent ∙ append_assoc old.sent before sends.0;
    })

-- nothing is asked
pub outcome_said : {T E : Type 0} (Act : SessionState → List PortCall → List ℕ → SessionState → Type 0) (octets : List ℕ) (old new : Point) (r : Result T E)
    → Act old.session [] octets old.session → Sends octets old r new → PerformedOrBegun Act old r new
outcome_said Act octets old new r act sends =
    outcome_after Act [] [] octets old old new r refl (sym (append-nil old.sent)) act sends

-- memory ran out after some questions
pub begun_after : (asked : List PortCall) (octets : List ℕ) (old new : Point)
    → Exchanged old.port asked new.port → new.sent ≡ old.sent ++ octets → Begun old new
begun_after asked octets old new exchanged sent =
    record { asked = asked; exchanged = exchanged; octets = octets; sent_is = sent }

-- and a part of the answer was sent
pub begun_part : (asked : List PortCall) (old mid new : Point) → Exchanged old.port asked mid.port → mid.sent ≡ old.sent → IsPart mid new → Begun old new
begun_part asked old mid new exchanged sent part =
    subst (λ p. Begun old p) (sym part.1)
    (begun_after asked part.0 old (with_sent mid (mid.sent ++ part.0)) exchanged (ap (λ xs. xs ++ part.0) sent))

-- memory ran out before anything was done
pub begun_none : (old : Point) → Begun old old
begun_none old = begun_after [] [] old old refl (sym (append-nil old.sent))

-- an act that is also another one
pub outcome_weaker : {T E : Type 0} (A B : SessionState → List PortCall → List ℕ → SessionState → Type 0) (old new : Point) (r : Result T E)
    → ((asked : List PortCall) (octets : List ℕ) (left : SessionState) → A old.session asked octets left → B old.session asked octets left)
    → PerformedOrBegun A old r new → PerformedOrBegun B old r new
outcome_weaker A B old new (Ok done) from p =
    record { asked = p.asked; octets = p.octets; act = from p.asked p.octets new.session p.act; exchanged = p.exchanged; sent_is = p.sent_is }
outcome_weaker A B old new (Err fault) from p = p

-- a code that came of what was asked is sent
pub outcome_code : {T E : Type 0} (Gives : List PortCall → ℕ → Type 0) (id : ℕ) (response : Response) (code : ℕ) (old new : Point) (port : PortState) (r : Result T E)
    → FindsCode Gives old.port code port
    → Sends (response_octets id response code) (record { port = port; session = old.session; sent = old.sent }) r new
    → PerformedOrBegun (AnswersCode Gives id response) old r new
outcome_code Gives id response code old new port r finds sends =
    outcome_after (AnswersCode Gives id response) finds.asked [] (response_octets id response code) old
    (record { port = port; session = old.session; sent = old.sent }) new r finds.exchanged (sym (append-nil old.sent))
    (record { code = code; gives = finds.gives; sent_is = refl; same = refl }) sends

-- nothing but this is said
pub sends_only_is : (octets : List ℕ) (old : SessionState) → SendsOnly octets old [] octets old
sends_only_is octets old = record { none = refl; sent_is = refl; same = refl }

-- ---- what is sent of something begun is taken back

take-front : (xs ys : List ℕ) → take (length xs) (xs ++ ys) ≡ xs
take-front xs ys = take-append-le (length xs) xs ys (omega arith) ∙ take_all (length xs) xs (omega arith)

-- what was sent before something was begun stands first in what was sent
pub taken_back : (n : ℕ) (old new : Point) → n ≡ length old.sent → Begun old new → take n new.sent ≡ old.sent
taken_back n old new is begun =
    ap (λ k. take k new.sent) is ∙ ap (take (length old.sent)) begun.sent_is ∙ take-front old.sent begun.octets

-- what was begun is stopped: what it sent is taken back
pub stopped_back : (n : ℕ) (old mid new : Point) → n ≡ length old.sent → Begun old mid → new.port ≡ mid.port → new.sent ≡ take n mid.sent → Stopped old new
stopped_back n old mid new is begun port sent = record {
  asked = begun.asked;
  exchanged = subst (λ p. Exchanged old.port begun.asked p) (sym port) begun.exchanged;
  sent_is = sent ∙ taken_back n old mid is begun;
}
