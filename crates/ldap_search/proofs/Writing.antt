-- What comes of a message that could not be written.
use Rattle.std.proofs.Common.{◌≡◌, ◌≤◌, Option, Some, Result, Ok, Err, refl, sym, subst, arith}
use Rattle.std.specs.Prelude.{ℕ, IfOk, List, OnErr}
use Rattle.ldap_client.specs.Clients.{Asks, ClientState}
use Rattle.ldap_client.specs.declared.fault.ClientFault.{ClientFault}
use Rattle.ldap_client.specs.declared.fault.ClientFault.TheVariants.{ReadFault, WriteFault, PeerMessage, EndOfInput, NoMemory}
use Rattle.ldap_filter.specs.FilterTree.{depth}
use Rattle.ldap_messages.specs.Whole.{HasSpelling, MessageValue, message_octets}
use Rattle.sync_consumer.specs.Taking as taking
use Rattle.sync_consumer.specs.Taking.{ConsumerState}
use Rattle.sync_messages.specs.declared.request.Mode.TheVariants.{RefreshAndPersist}
use Rattle.ldap_search.specs.Answers.{search_id}
use Rattle.ldap_search.specs.Requests.{unbind_request}
use Rattle.ldap_search.specs.Steps.{IsUnwritten, StartsFollowing, Unbinds}
use Rattle.ldap_search.specs.Talks.{IsLinkSound, end_by}
use Rattle.ldap_search.specs.declared.end.SearchEnd.{SearchEnd}

-- the same message was written
pub asks_same : (whole other : MessageValue) (old new : ClientState) (result : Result Unit ClientFault) → whole ≡ other → Asks (message_octets whole) old result new
    → Asks (message_octets other) old result new
asks_same whole other old new result is asks = subst (λ (m : MessageValue). Asks (message_octets m) old result new) is asks

-- out of memory nothing was written, and no call failed
pub unwritten : (octets : List ℕ) (fault : ClientFault) (old new : ClientState) → Asks octets old (Err fault) new → fault ≡ NoMemory
    → (new.link.held ≡ old.link.held) × IsLinkSound old.link new.link
unwritten octets NoMemory old new asks is = (asks.writes.0, (asks.read_faults, asks.writes.1))
unwritten octets WriteFault old new asks is = absurd (let wrong : WriteFault ≡ NoMemory = is in cc)
unwritten octets ReadFault old new asks is = absurd asks.writes
unwritten octets (PeerMessage place) old new asks is = absurd asks.writes
unwritten octets EndOfInput old new asks is = absurd asks.writes

-- so it is of the request of a search that is followed
pub start_unwritten : {E : Type 0} (octets : List ℕ) (fault : ClientFault) (result : Result (Option SearchEnd) E) (old new : ClientState) → Asks octets old (Err fault) new → OnErr result (fault ≡ NoMemory)
    → OnErr result ((new.link.held ≡ old.link.held) × IsLinkSound old.link new.link)
start_unwritten octets fault (Ok end) old new asks memory = tt
start_unwritten octets fault (Err none) old new asks memory = unwritten octets fault old new asks memory

-- and of the end of a session
pub unbind_unwritten : {E : Type 0} (octets : List ℕ) (fault : ClientFault) (result : Result (Option SearchEnd) E) (old new : ClientState) → Asks octets old (Err fault) new → OnErr result (fault ≡ NoMemory)
    → OnErr result (IsUnwritten octets old new)
unbind_unwritten octets fault (Ok end) old new asks memory = tt
unbind_unwritten octets fault (Err none) old new asks memory = subst (λ (f : ClientFault). Asks octets old (Err f) new) memory asks

-- the end of a session
pub unbind_fails : {E : Type 0} (fault : ClientFault) (result : Result (Option SearchEnd) E) (old new : ClientState) → Asks (message_octets unbind_request) old (Err fault) new
    → IfOk result (λ end. (fault ≡ NoMemory → ⊥) × (end ≡ Some (end_by fault))) → Unbinds old result new
unbind_fails fault (Err memory) old new asks is = tt
unbind_fails {E} WriteFault (Ok end) old new asks is = subst (λ (e : Option SearchEnd). Unbinds {E = E} old (Ok e) new) (sym is.1) asks
unbind_fails ReadFault (Ok end) old new asks is = absurd asks.writes
unbind_fails (PeerMessage place) (Ok end) old new asks is = absurd asks.writes
unbind_fails EndOfInput (Ok end) old new asks is = absurd asks.writes
unbind_fails NoMemory (Ok end) old new asks is = absurd (is.0 refl)

-- the request of a search that is followed has a spelling, by the depth of its filter
pub follow_spelled : (consumer : ConsumerState) (whole : MessageValue) → whole ≡ taking.request_of consumer search_id RefreshAndPersist → depth consumer.spec.filter ≤ 32 → HasSpelling whole
follow_spelled consumer whole is within = subst (λ (m : MessageValue). HasSpelling m) (sym is) (omega arith, (omega arith, omega arith, omega arith, within))

-- the request of a search that is followed
pub start_fails : {E : Type 0} (fault : ClientFault) (result : Result (Option SearchEnd) E) (old new : ClientState) (consumer consumer' : ConsumerState)
    → Asks (message_octets (taking.request_of consumer search_id RefreshAndPersist)) old (Err fault) new
    → IfOk result (λ end. (fault ≡ NoMemory → ⊥) × (end ≡ Some (end_by fault))) → StartsFollowing old consumer result new consumer'
start_fails fault (Err memory) old new consumer consumer' asks is = tt
start_fails {E} WriteFault (Ok end) old new consumer consumer' asks is =
    subst (λ (e : Option SearchEnd). StartsFollowing {E = E} old consumer (Ok e) new consumer') (sym is.1) asks
start_fails ReadFault (Ok end) old new consumer consumer' asks is = absurd asks.writes
start_fails (PeerMessage place) (Ok end) old new consumer consumer' asks is = absurd asks.writes
start_fails EndOfInput (Ok end) old new consumer consumer' asks is = absurd asks.writes
start_fails NoMemory (Ok end) old new consumer consumer' asks is = absurd (is.0 refl)
