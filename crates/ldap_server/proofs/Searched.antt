-- Searches that are answered.
use Rattle.std.proofs.Common.{◌≡◌, ◌⊎◌, inl, inr, ℕ, Bool, List, [], ◌∷◌, Option, Some, None, Result, Ok, Err, refl, sym, ap, ◌∙◌, subst}
use Rattle.std.proofs.lemmas.List.{append-nil}
use Rattle.dn_names.specs.Names.{TypeAndValue}
use Rattle.dn_names.specs.declared.fault.NameFault.{NameFault}
use Rattle.ldap_constants.specs.declared.object_identifiers.TheConstants.{SYNC_REQUEST}
use Rattle.ldap_constants.specs.declared.result_codes.TheConstants.{INVALID_DN_SYNTAX, OTHER}
use Rattle.ldap_parts.specs.declared.control.Control.{Control}
use Rattle.ldap_session.specs.Requests.{SearchParametersValue}
use Rattle.sync_provider.specs.Ports.{PortState, IsReplied, AcceptReplies, SearchReplies}
use Rattle.sync_provider.specs.declared.searches.Accepted.{Accepted}
use Rattle.sync_provider.specs.declared.searches.Accepted.TheVariants as accepted
use Rattle.sync_provider.specs.declared.searches.SyncSearch.{SyncSearch}
use Rattle.sync_provider.specs.declared.searching.PlainSearch.{PlainSearch}
use Rattle.sync_provider.specs.declared.searching.SearchReply.{SearchReply}
use Rattle.ldap_parts.specs.Controls.{control_named}
use Rattle.ldap_server.specs.Encoding.{response_octets}
use Rattle.ldap_server.specs.PortCalls.{PortCall, Asked, Searched}
use Rattle.ldap_server.specs.Points.{Point, PerformedOrBegun, IsPerformed, Sends}
use Rattle.ldap_server.specs.SessionState.{SessionState}
use Rattle.ldap_server.specs.Table.{BasedAnswer, Finds, IsRefusedName, IsSpec, NameOrFault, Opens, OrSendsOther, SelectedAnswer, accepted_octets, after_accepted, reply_octets, value_or_empty}
use Rattle.ldap_server.specs.declared.response.Response.TheVariants.{SearchDone}
use Rattle.ldap_server.proofs.Asking.{refused_name}
use Rattle.ldap_server.proofs.Exchanging.{exchanged_one}
use Rattle.ldap_server.proofs.Performing.{outcome_after, outcome_said, outcome_weaker, sends_only_is}

-- ---- plain searches

-- the port was asked, and what it replied is sent
pub found : {T E : Type 0} (ask : PlainSearch) (id : ℕ) (selectors : List (List ℕ)) (types_only : Bool) (reply : SearchReply) (old new : Point) (port : PortState) (r : Result T E)
    → IsReplied old.port (λ p. SearchReplies p ask reply port)
    → Sends (reply_octets id selectors types_only reply) (record { port = port; session = old.session; sent = old.sent }) r new
    → PerformedOrBegun (Finds ask id selectors types_only) old r new
found ask id selectors types_only reply old new port r replied sends =
    outcome_after (Finds ask id selectors types_only) (Searched ask reply ∷ []) [] (reply_octets id selectors types_only reply) old
    (record { port = port; session = old.session; sent = old.sent }) new r
    (exchanged_one (Searched ask reply) old.port port replied) (sym (append-nil old.sent))
    (record { reply = reply; asked_is = refl; sent_is = refl; same = refl }) sends

-- a search without a Sync Request control
pub selected_plain : {T E : Type 0} (id : ℕ) (base : List (List TypeAndValue)) (s : SearchParametersValue) (named : Option Control) (ask : PlainSearch) (old new : Point) (r : Result T E)
    → named ≡ None → IsSpec ask.spec base s → ask.size_limit ≡ s.size_limit
    → PerformedOrBegun (Finds ask id s.selectors s.types_only) old r new → PerformedOrBegun (OrSendsOther id (SelectedAnswer id base s named)) old r new
selected_plain id base s named ask old new r none spec limit answer =
    subst (λ n. PerformedOrBegun (OrSendsOther id (SelectedAnswer id base s n)) old r new) (sym none)
    (outcome_weaker (Finds ask id s.selectors s.types_only) (OrSendsOther id (SelectedAnswer id base s None)) old new r
    (λ asked octets left h. inl (record { ask = ask; spec = spec; limit = limit; finds = h })) answer)

-- ---- searches with content synchronisation

-- a search with a Sync Request control is answered by the one question that it asks
pub selected_sync : {T E : Type 0} (id : ℕ) (base : List (List TypeAndValue)) (s : SearchParametersValue) (named : Option Control) (control : Control) (ask : SyncSearch) (old new : Point) (r : Result T E)
    → named ≡ Some control → IsSpec ask.spec base s → ask.id ≡ id → ask.control ≡ value_or_empty control.value
    → PerformedOrBegun (OrSendsOther id (Opens ask)) old r new → PerformedOrBegun (OrSendsOther id (SelectedAnswer id base s named)) old r new
selected_sync id base s named control ask old new r some spec id_is control_is answer =
    subst (λ n. PerformedOrBegun (OrSendsOther id (SelectedAnswer id base s n)) old r new) (sym some)
    (outcome_weaker (OrSendsOther id (Opens ask)) (OrSendsOther id (SelectedAnswer id base s (Some control))) old new r (λ asked octets left h. step asked octets left h) answer)
  where
    step : (asked : List PortCall) (octets : List ℕ) (left : SessionState) → OrSendsOther id (Opens ask) old.session asked octets left
        → OrSendsOther id (SelectedAnswer id base s (Some control)) old.session asked octets left
    step asked octets left (inl opens) = inl (record { ask = ask; spec = spec; id_is = id_is; control_is = control_is; opens = opens })
    step asked octets left (inr says) = inr says

-- the port opened it
pub opened : (ask : SyncSearch) (number writes : ℕ) (old new : Point)
    → IsReplied old.port (λ p. AcceptReplies p ask (accepted.Opened number writes) new.port)
    → new.session ≡ after_accepted old.session ask.id (accepted.Opened number writes) → new.sent ≡ old.sent
    → IsPerformed (Opens ask) old new
opened ask number writes old new replied left sent = record {
  asked = Asked ask (accepted.Opened number writes) ∷ [];
  octets = [];
  act = record { reply = accepted.Opened number writes; asked_is = refl; sent_is = refl; new_is = left };
  exchanged = exchanged_one (Asked ask (accepted.Opened number writes)) old.port new.port replied;
  sent_is = sent ∙ sym (append-nil old.sent);
}

-- it did not
pub unopened : {T E : Type 0} (ask : SyncSearch) (reply : Accepted) (old new : Point) (port : PortState) (r : Result T E)
    → old.session ≡ after_accepted old.session ask.id reply
    → IsReplied old.port (λ p. AcceptReplies p ask reply port)
    → Sends (accepted_octets ask.id reply) (record { port = port; session = old.session; sent = old.sent }) r new
    → PerformedOrBegun (Opens ask) old r new
unopened ask reply old new port r same replied sends =
    outcome_after (Opens ask) (Asked ask reply ∷ []) [] (accepted_octets ask.id reply) old
    (record { port = port; session = old.session; sent = old.sent }) new r
    (exchanged_one (Asked ask reply) old.port port replied) (sym (append-nil old.sent))
    (record { reply = reply; asked_is = refl; sent_is = refl; new_is = same }) sends

-- when out of memory
pub sends_only_other : {T E : Type 0} (Act : SessionState → List PortCall → List ℕ → SessionState → Type 0) (id : ℕ) (old new : Point) (r : Result T E)
    → Sends (response_octets id SearchDone OTHER) old r new → PerformedOrBegun (OrSendsOther id Act) old r new
sends_only_other Act id old new r sends =
    outcome_said (OrSendsOther id Act) (response_octets id SearchDone OTHER) old new r (inr (sends_only_is (response_octets id SearchDone OTHER) old.session)) sends

-- what is done without the code other is done with or without it
pub or_other : {T E : Type 0} (Act : SessionState → List PortCall → List ℕ → SessionState → Type 0) (id : ℕ) (old new : Point) (r : Result T E)
    → PerformedOrBegun Act old r new → PerformedOrBegun (OrSendsOther id Act) old r new
or_other Act id old new r answer = outcome_weaker Act (OrSendsOther id Act) old new r (λ asked octets left h. inl h) answer

-- ---- the base

-- a search whose base is a name is answered as one from that name
pub based : {T E : Type 0} (id : ℕ) (name : NameOrFault) (base : List (List TypeAndValue)) (s : SearchParametersValue) (controls : List Control) (old new : Point) (r : Result T E)
    → name ≡ Ok base → PerformedOrBegun (OrSendsOther id (SelectedAnswer id base s (control_named SYNC_REQUEST.now controls))) old r new
    → PerformedOrBegun (OrSendsOther id (BasedAnswer id name s controls)) old r new
based id name base s controls old new r is answer =
    subst (λ n. PerformedOrBegun (OrSendsOther id (BasedAnswer id n s controls)) old r new) (sym is)
    (outcome_weaker (OrSendsOther id (SelectedAnswer id base s (control_named SYNC_REQUEST.now controls))) (OrSendsOther id (BasedAnswer id (Ok base) s controls)) old new r
    (λ asked octets left h. h) answer)

-- the base is refused with this code
pub unbased : {T E : Type 0} (id : ℕ) (name : NameOrFault) (code : ℕ) (s : SearchParametersValue) (controls : List Control) (old new : Point) (r : Result T E)
    → IsRefusedName name code → Sends (response_octets id SearchDone code) old r new → PerformedOrBegun (OrSendsOther id (BasedAnswer id name s controls)) old r new
unbased id name code s controls old new r refused sends =
    outcome_said (OrSendsOther id (BasedAnswer id name s controls)) (response_octets id SearchDone code) old new r (step (refused_name name code refused)) sends
  where
    step : (code ≡ OTHER) ⊎ ((fault : NameFault) × (name ≡ Err fault) × (code ≡ INVALID_DN_SYNTAX))
        → OrSendsOther id (BasedAnswer id name s controls) old.session [] (response_octets id SearchDone code) old.session
    step (inl other) = inr (record { none = refl; sent_is = ap (λ n. response_octets id SearchDone n) other; same = refl })
    step (inr (fault, is, rejected)) =
        inl (subst (λ n. BasedAnswer id n s controls old.session [] (response_octets id SearchDone code) old.session) (sym is)
        (record { none = refl; sent_is = ap (λ n. response_octets id SearchDone n) rejected; same = refl }))
