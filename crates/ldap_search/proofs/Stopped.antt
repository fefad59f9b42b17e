-- What was followed of a search when memory ran out.
use Rattle.std.proofs.Common.{◌≡◌, ℕ, List, [], ◌∷◌, ◌++◌, Option, Result, Ok, Err, inl, inr, sym, ap, subst, ◌∙◌, arith}
use Rattle.std.proofs.KnownBytes.{Appends-trans}
use Rattle.std.specs.Io.KnownBytes.{Appends}
use Rattle.std.specs.Prelude.{OnErr, false}
use Rattle.entry_tree.specs.Selection.{Search}
use Rattle.ldap_client.proofs.Given.{given_asked, given_next}
use Rattle.ldap_client.specs.Clients.{ClientState, GivesNext, HasGiven}
use Rattle.ldap_client.specs.Links.{LinkState}
use Rattle.ldap_client.specs.declared.fault.ClientFault.{ClientFault}
use Rattle.ldap_client.specs.declared.fault.ClientFault.TheVariants as fault_of
use Rattle.ldap_messages.specs.Whole.{message_octets, message_value}
use Rattle.ldap_messages.specs.declared.message.Message.{Message}
use Rattle.sync_consumer.specs.Taking as taking
use Rattle.sync_consumer.specs.Taking.{ConsumerState}
use Rattle.sync_consumer.specs.declared.commit.Commit.{Commit}
use Rattle.sync_consumer.specs.declared.consumer.Taken.{Taken}
use Rattle.sync_consumer.specs.declared.consumer.Taken.TheVariants.{Stored}
use Rattle.sync_model.specs.Copy.{Copy}
use Rattle.ldap_search.specs.Copies.{TakenMessage, stored_text, taken_texts, values_of}
use Rattle.ldap_search.specs.Requests.{unbind_request}
use Rattle.ldap_search.specs.Steps.{IsFollowed, IsUnwritten, StopsBy, StopsFollowing}
use Rattle.ldap_search.specs.Talks.{AreFaultless, AsksToFollowInPart, HasReadAtLeast, IsLinkSound, OutputState, StopsAfter, StoresLast, asked_octets}
use Rattle.ldap_search.specs.declared.end.SearchEnd.{SearchEnd}
use Rattle.ldap_search.proofs.Reading.{read_before, read_so_far, read_up_to, sound_stopped, still_sound}

-- where the client gave no message
pub stops_waiting : {E : Type 0} (wanted : ℕ) (client : ClientState) (consumer : ConsumerState) (output : OutputState) (fault : ClientFault) (client' : ClientState) (result : Result (Option SearchEnd) E)
    → GivesNext client (Err fault) client' → OnErr result (fault ≡ fault_of.NoMemory) → OnErr result (StopsFollowing wanted client consumer output client' output)
stops_waiting wanted client consumer output fault client' (Ok end) gives memory = tt
stops_waiting wanted client consumer output fault client' (Err none) gives memory = λ spec count first start messages so_far. (
  subst (λ held. Appends first.held held (asked_octets spec false)) (sym gives.reads.held) so_far.written,
  inl (read_so_far first (values_of messages) client client' fault so_far.given gives, so_far.printed),
  (
    sound_stopped first client client' (so_far.reads, so_far.writes) (subst (λ (f : ClientFault). GivesNext client (Err f) client') memory gives),
    so_far.faults,
  ),
)

-- what was given and written when a message was taken
module _ {spec : Search} {count : ℕ} {first : LinkState} {start : OutputState} {messages : List TakenMessage} {wanted : ℕ}
    {client : ClientState} {consumer : ConsumerState} {output : OutputState}
    (so_far : IsFollowed spec count first start messages wanted client consumer output)
    (message : Message) (mid : ClientState) (gives : GivesNext client (Ok message) mid) where
  given_with : HasGiven first (values_of messages ++ message_value message ∷ []) mid
  given_with = given_next first (values_of messages) client mid message so_far.given gives

  written_same : Appends first.held mid.link.held (asked_octets spec false)
  written_same = subst (λ held. Appends first.held held (asked_octets spec false)) (sym gives.reads.held) so_far.written

  -- no call of the link failed
  sound : IsLinkSound first mid.link
  sound = still_sound first client mid message (so_far.reads, so_far.writes) gives

  -- nothing came of it
  stops_quiet : (client' : ClientState) (output' : OutputState) → client' ≡ mid → output' ≡ output
      → Appends first.held client'.link.held (asked_octets spec false) × StopsAfter count first client'.link messages consumer.copy start output'
      × AreFaultless first client'.link start output'
  stops_quiet client' output' same printed = (
    subst (λ (c : ClientState). Appends first.held c.link.held (asked_octets spec false)) (sym same) written_same,
    inl (
      subst (λ (c : ClientState). HasReadAtLeast first c.link (values_of messages)) (sym same) (read_before first (values_of messages) (message_value message) mid given_with),
      subst (λ (o : OutputState). Appends start.held o.held (taken_texts messages)) (sym printed) so_far.printed,
    ),
    (subst (λ (c : ClientState). IsLinkSound first c.link) (sym same) sound, ap (λ (o : OutputState). o.faults) printed ∙ so_far.faults),
  )

  -- it stored the last cookie that was wanted, and the session was not ended
  stops_stored : (after : Copy) (commit : Commit) (client' : ClientState) (output' : OutputState) → taking.Takes consumer.copy message after (Stored commit)
      → wanted ≡ 1 → IsUnwritten (message_octets unbind_request) mid client' → Appends output.held output'.held (stored_text after.held) → output'.faults ≡ output.faults
      → Appends first.held client'.link.held (asked_octets spec false) × StopsAfter count first client'.link messages consumer.copy start output'
      × AreFaultless first client'.link start output'
  stops_stored after commit client' output' takes last asks printed faults =
      let given = given_asked first (values_of messages ++ message_value message ∷ []) (message_octets unbind_request) mid client' (Err fault_of.NoMemory) given_with asks in
      let stored : StoresLast count first client'.link messages consumer.copy start output' = record {
        message = message;
        after = after;
        commit = commit;
        takes = takes;
        last = omega (arith, so_far.counted, last);
        read = read_up_to first (values_of messages) (message_value message) client' given;
        printed = Appends-trans start.held output.held output'.held (taken_texts messages) (stored_text after.held) so_far.printed printed;
      } in (
        subst (λ held. Appends first.held held (asked_octets spec false)) (sym asks.writes.0) written_same,
        inr stored,
        ((asks.read_faults ∙ sound.0, asks.writes.1 ∙ sound.1), faults ∙ so_far.faults),
      )

-- where a message was given, which the copy took
pub stops_next : {E : Type 0} (wanted : ℕ) (client : ClientState) (consumer : ConsumerState) (output : OutputState) (message : Message) (taken : Taken) (mid : ClientState) (after : Copy)
    (client' : ClientState) (output' : OutputState) (result : Result (Option SearchEnd) E)
    → GivesNext client (Ok message) mid → taking.Takes consumer.copy message after taken → OnErr result (StopsBy taken after wanted mid output client' output')
    → OnErr result (StopsFollowing wanted client consumer output client' output')
stops_next wanted client consumer output message taken mid after client' output' (Ok end) gives takes part = tt
stops_next wanted client consumer output message taken mid after client' output' (Err fault) gives takes (inl quiet) = λ spec count first start messages so_far.
    stops_quiet so_far message mid gives client' output' quiet.0 quiet.1
stops_next wanted client consumer output message taken mid after client' output' (Err fault) gives takes (inr (commit, is, inl quiet)) = λ spec count first start messages so_far.
    stops_quiet so_far message mid gives client' output' quiet.0 quiet.1
stops_next wanted client consumer output message taken mid after client' output' (Err fault) gives takes (inr (commit, is, inr stored)) = λ spec count first start messages so_far.
    stops_stored so_far message mid gives after commit client' output' (subst (λ (t : Taken). taking.Takes consumer.copy message after t) is takes) stored.0 stored.1 stored.2 stored.3

-- the whole, from the request on
pub follows_in_part : (spec : Search) (count : ℕ) (first : LinkState) (start : OutputState) (messages : List TakenMessage) (wanted : ℕ) (client : ClientState) (consumer : ConsumerState)
    (output : OutputState) (now : LinkState) (output' : OutputState) → IsFollowed spec count first start messages wanted client consumer output
    → Appends first.held now.held (asked_octets spec false) → StopsAfter count first now messages consumer.copy start output' → AreFaultless first now start output'
    → AsksToFollowInPart spec count first now start output'
follows_in_part spec count first start messages wanted client consumer output now output' so_far written stops faults = inr (record {
  messages = messages;
  copy = consumer.copy;
  takes = so_far.takes;
  fewer = omega (arith, so_far.counted, so_far.some);
  written = written;
  stops = stops;
  faults = faults;
})
