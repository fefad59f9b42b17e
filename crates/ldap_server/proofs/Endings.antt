-- Searches that are abandoned or cancelled.
use Rattle.std.proofs.Common.{◌≡◌, ℕ, ℤ, true, false, List, [], ◌∷◌, ◌++◌, Option, Some, None, Result, refl, sym, ◌∙◌, subst}
use Rattle.std.proofs.lemmas.List.{append-nil}
use Rattle.ldap_constants.specs.declared.result_codes.TheConstants.{CANCELED, NO_SUCH_OPERATION, PROTOCOL_ERROR, SUCCESS}
use Rattle.ldap_session.specs.Cancelling.{is_cancel, target_of}
use Rattle.ldap_server.specs.Encoding.{response_octets}
use Rattle.ldap_server.specs.Points.{Point, PerformedOrBegun, IsPerformed, Sends}
use Rattle.ldap_server.specs.SessionState.{without}
use Rattle.ldap_server.specs.Table.{AbandonAnswer, CancelAnswer, DropsAll, ExtendedAnswer, TargetAnswer, search_of_id}
use Rattle.ldap_server.specs.declared.session_search.SessionSearch.{SessionSearch}
use Rattle.ldap_server.specs.declared.response.Response.TheVariants.{Extended, SearchDone}
use Rattle.ldap_server.proofs.Performing.{outcome_after, outcome_said, outcome_weaker, sends_only_is}

-- no open search has the ID
pub abandoned_none : (target : ℤ) (p : Point) → search_of_id target p.session.searches ≡ None → IsPerformed (AbandonAnswer (search_of_id target p.session.searches)) p p
abandoned_none target p is =
    subst (λ found. IsPerformed (AbandonAnswer found) p p) (sym is)
    (record { asked = []; octets = []; act = sends_only_is [] p.session; exchanged = refl; sent_is = sym (append-nil p.sent) })

-- the one that has it is dropped
pub abandoned_one : (target : ℤ) (search : SessionSearch) (old new : Point) → search_of_id target old.session.searches ≡ Some search
    → DropsAll (search ∷ []) old.port new.port → new.session ≡ record { bound = old.session.bound; searches = without search.id old.session.searches }
    → new.sent ≡ old.sent → IsPerformed (AbandonAnswer (search_of_id target old.session.searches)) old new
abandoned_one target search old new is drops left sent =
    subst (λ found. IsPerformed (AbandonAnswer found) old new) (sym is)
    (record {
      asked = drops.asked;
      octets = [];
      act = record { drops = drops.drops; sent_is = refl; new_is = left };
      exchanged = drops.exchanged;
      sent_is = sent ∙ sym (append-nil old.sent);
    })

-- a Cancel of no open search is answered with noSuchOperation
pub cancelled_none : {T E : Type 0} (id : ℕ) (search : Option SessionSearch) (old new : Point) (r : Result T E) → search ≡ None
    → Sends (response_octets id Extended NO_SUCH_OPERATION) old r new → PerformedOrBegun (CancelAnswer id search) old r new
cancelled_none id search old new r is sends =
    subst (λ found. PerformedOrBegun (CancelAnswer id found) old r new) (sym is)
    (outcome_said (CancelAnswer id None) (response_octets id Extended NO_SUCH_OPERATION) old new r (sends_only_is (response_octets id Extended NO_SUCH_OPERATION) old.session) sends)

-- both responses are sent after it was dropped
pub cancelled_one : {T E : Type 0} (id : ℕ) (found : Option SessionSearch) (search : SessionSearch) (old mid new : Point) (r : Result T E) → found ≡ Some search
    → DropsAll (search ∷ []) old.port mid.port → mid.session ≡ record { bound = old.session.bound; searches = without search.id old.session.searches }
    → mid.sent ≡ old.sent → Sends (response_octets search.id SearchDone CANCELED ++ response_octets id Extended SUCCESS) mid r new
    → PerformedOrBegun (CancelAnswer id found) old r new
cancelled_one id found search old mid new r is drops left sent sends =
    subst (λ f. PerformedOrBegun (CancelAnswer id f) old r new) (sym is)
    (outcome_after (CancelAnswer id (Some search)) drops.asked [] (response_octets search.id SearchDone CANCELED ++ response_octets id Extended SUCCESS) old mid new r
    drops.exchanged (sent ∙ sym (append-nil old.sent)) (record { drops = drops.drops; sent_is = refl; new_is = left }) sends)

-- a Cancel without a value of its grammar is answered with protocolError
pub target_none : {T E : Type 0} (id : ℕ) (target : Option ℤ) (old new : Point) (r : Result T E) → target ≡ None
    → Sends (response_octets id Extended PROTOCOL_ERROR) old r new → PerformedOrBegun (TargetAnswer id target) old r new
target_none id target old new r is sends =
    subst (λ t. PerformedOrBegun (TargetAnswer id t) old r new) (sym is)
    (outcome_said (TargetAnswer id None) (response_octets id Extended PROTOCOL_ERROR) old new r (sends_only_is (response_octets id Extended PROTOCOL_ERROR) old.session) sends)

-- a Cancel is answered by the open search that its value names
pub target_some : {T E : Type 0} (id : ℕ) (target : Option ℤ) (of_search : ℤ) (old new : Point) (r : Result T E) → target ≡ Some of_search
    → PerformedOrBegun (CancelAnswer id (search_of_id of_search old.session.searches)) old r new → PerformedOrBegun (TargetAnswer id target) old r new
target_some id target of_search old new r is answer =
    subst (λ t. PerformedOrBegun (TargetAnswer id t) old r new) (sym is)
    (outcome_weaker (CancelAnswer id (search_of_id of_search old.session.searches)) (TargetAnswer id (Some of_search)) old new r (λ asked octets left h. h) answer)

-- an extended operation that is no Cancel
pub extended_other : {T E : Type 0} (id : ℕ) (name : List ℕ) (value : Option (List ℕ)) (old new : Point) (r : Result T E) → is_cancel name ≡ false
    → Sends (response_octets id Extended PROTOCOL_ERROR) old r new → PerformedOrBegun (ExtendedAnswer id name value) old r new
extended_other id name value old new r other sends =
    outcome_said (ExtendedAnswer id name value) (response_octets id Extended PROTOCOL_ERROR) old new r (rw other (sends_only_is (response_octets id Extended PROTOCOL_ERROR) old.session)) sends

-- an extended operation whose name is that of Cancel is answered as one
pub extended_cancel : {T E : Type 0} (id : ℕ) (name : List ℕ) (value : Option (List ℕ)) (old new : Point) (r : Result T E) → is_cancel name ≡ true
    → PerformedOrBegun (TargetAnswer id (target_of value)) old r new → PerformedOrBegun (ExtendedAnswer id name value) old r new
extended_cancel id name value old new r cancels answer =
    outcome_weaker (TargetAnswer id (target_of value)) (ExtendedAnswer id name value) old new r (λ asked octets left h. rw cancels h) answer
