-- Requests, each answered as its kind is.
use Rattle.std.proofs.Common.{◌≡◌, ℕ, ℤ, List, [], Option, Some, None, Result, refl, sym}
use Rattle.std.proofs.lemmas.List.{append-nil}
use Rattle.ldap_messages.specs.declared.bind.Authentication.{Authentication}
use Rattle.ldap_parts.specs.declared.control.Control.{Control}
use Rattle.schema_rules.specs.declared.raw.Change.{Change}
use Rattle.ldap_session.specs.Binding.{may_write}
use Rattle.ldap_session.specs.Requests.{SearchParametersValue, Request, Binds, Unbinds, Writes, Compares, Searches, Abandons, Extends, Responds}
use Rattle.ldap_session.specs.declared.access.Access.{Access}
use Rattle.ldap_server.specs.Encoding.{notice, octets_to, response_to, write_response}
use Rattle.ldap_server.specs.Points.{Point, PerformedOrBegun, IsPerformed, Sends}
use Rattle.ldap_server.specs.Table.{AbandonAnswer, Answer, AnswersCode, BindAnswer, ChangeGives, CompareGives, ExtendedAnswer, RequestAnswer, SearchAnswer, search_of_id, tested_code}
use Rattle.ldap_server.specs.declared.response.Response.TheVariants.{Compare}
use Rattle.ldap_server.proofs.Performing.{outcome_said, outcome_weaker, sends_only_is}

module _ {T E : Type 0} (access : Access) (id : ℕ) (controls : List Control) (now : ℕ) (old new : Point) (r : Result T E) where
  -- what answers a bind answers the request
  pub asked_bind : (version : ℕ) (name : List ℕ) (authentication : Authentication)
      → PerformedOrBegun (BindAnswer access id version name authentication) old r new → PerformedOrBegun (RequestAnswer access id (Binds version name authentication) controls now) old r new
  asked_bind version name authentication answer =
      outcome_weaker (BindAnswer access id version name authentication) (RequestAnswer access id (Binds version name authentication) controls now) old new r (λ asked octets left h. h) answer

  -- the same of a write
  pub asked_write : (change : Change)
      → PerformedOrBegun (AnswersCode (ChangeGives (may_write access old.session.bound) change now) id (write_response change)) old r new
      → PerformedOrBegun (RequestAnswer access id (Writes change) controls now) old r new
  asked_write change answer =
      outcome_weaker (AnswersCode (ChangeGives (may_write access old.session.bound) change now) id (write_response change)) (RequestAnswer access id (Writes change) controls now) old new r
      (λ asked octets left h. h) answer

  -- the same of a comparison
  pub asked_comparison : (entry name value : List ℕ) → PerformedOrBegun (AnswersCode (CompareGives entry name value) id Compare) old r new
      → PerformedOrBegun (RequestAnswer access id (Compares entry name value) controls now) old r new
  asked_comparison entry name value answer =
      outcome_weaker (AnswersCode (CompareGives entry name value) id Compare) (RequestAnswer access id (Compares entry name value) controls now) old new r (λ asked octets left h. h) answer

  -- the same of a search
  pub asked_search : (s : SearchParametersValue) → PerformedOrBegun (SearchAnswer id s controls) old r new → PerformedOrBegun (RequestAnswer access id (Searches s) controls now) old r new
  asked_search s answer = outcome_weaker (SearchAnswer id s controls) (RequestAnswer access id (Searches s) controls now) old new r (λ asked octets left h. h) answer

  -- the same of an extended operation
  pub asked_extended : (name : List ℕ) (value : Option (List ℕ)) → PerformedOrBegun (ExtendedAnswer id name value) old r new
      → PerformedOrBegun (RequestAnswer access id (Extends name value) controls now) old r new
  asked_extended name value answer = outcome_weaker (ExtendedAnswer id name value) (RequestAnswer access id (Extends name value) controls now) old new r (λ asked octets left h. h) answer

  -- what only a server sends
  pub asked_response : Sends notice old r new → PerformedOrBegun (RequestAnswer access id Responds controls now) old r new
  asked_response sends = outcome_said (RequestAnswer access id Responds controls now) notice old new r (sends_only_is notice old.session) sends

  -- a request that a test rejects with this code
  pub refused : (request : Request) (code : ℕ) → tested_code old.session id request controls ≡ Some code → Sends (octets_to id (response_to request) code) old r new
      → PerformedOrBegun (Answer access id request controls now) old r new
  refused request code is sends =
      outcome_said (Answer access id request controls now) (octets_to id (response_to request) code) old new r (rw is (sends_only_is (octets_to id (response_to request) code) old.session)) sends

  -- both tests let it pass
  pub passed : (request : Request) → tested_code old.session id request controls ≡ None → PerformedOrBegun (RequestAnswer access id request controls now) old r new
      → PerformedOrBegun (Answer access id request controls now) old r new
  passed request is answer =
      outcome_weaker (RequestAnswer access id request controls now) (Answer access id request controls now) old new r (λ asked octets left h. rw is h) answer

-- an Abandon has no response
pub asked_abandon : (access : Access) (id : ℕ) (controls : List Control) (now : ℕ) (target : ℤ) (old new : Point)
    → IsPerformed (AbandonAnswer (search_of_id target old.session.searches)) old new → IsPerformed (RequestAnswer access id (Abandons target) controls now) old new
asked_abandon access id controls now target old new p =
    record { asked = p.asked; octets = p.octets; act = p.act; exchanged = p.exchanged; sent_is = p.sent_is }

-- an Unbind is not answered
pub asked_unbind : (access : Access) (id : ℕ) (controls : List Control) (now : ℕ) (p : Point) → IsPerformed (RequestAnswer access id Unbinds controls now) p p
asked_unbind access id controls now p = record { asked = []; octets = []; act = sends_only_is [] p.session; exchanged = refl; sent_is = sym (append-nil p.sent) }
