-- Binds.
use Rattle.std.proofs.Common.{◌≡◌, ℕ, List, [], Result, refl, sym, ◌∙◌}
use Rattle.std.proofs.lemmas.List.{append-nil}
use Rattle.ldap_messages.specs.declared.bind.Authentication.{Authentication}
use Rattle.sync_provider.specs.Ports.{PortState}
use Rattle.ldap_session.specs.Binding.{bind_code, binds_as}
use Rattle.ldap_session.specs.declared.access.Access.{Access}
use Rattle.ldap_server.specs.Encoding.{response_octets}
use Rattle.ldap_server.specs.Points.{Point, PerformedOrBegun, Sends}
use Rattle.ldap_server.specs.Table.{BindAnswer, DropsAll}
use Rattle.ldap_server.specs.declared.response.Response.TheVariants.{Bind}
use Rattle.ldap_server.proofs.Performing.{outcome_after}

-- the searches were dropped, and then the code is sent
pub bind_answers : {T E : Type 0} (access : Access) (id version : ℕ) (name : List ℕ) (authentication : Authentication) (old new : Point) (port : PortState) (sent : List ℕ) (r : Result T E)
    → DropsAll old.session.searches old.port port → sent ≡ old.sent
    → Sends (response_octets id Bind (bind_code access version name authentication))
    (record { port = port; session = record { bound = binds_as (bind_code access version name authentication) authentication; searches = [] }; sent = sent }) r new
    → PerformedOrBegun (BindAnswer access id version name authentication) old r new
bind_answers access id version name authentication old new port sent r drops same sends =
    outcome_after (BindAnswer access id version name authentication) drops.asked [] (response_octets id Bind (bind_code access version name authentication)) old
    (record { port = port; session = record { bound = binds_as (bind_code access version name authentication) authentication; searches = [] }; sent = sent }) new r
    drops.exchanged (same ∙ sym (append-nil old.sent)) (record { drops = drops.drops; sent_is = refl; new_is = refl }) sends
