-- What a copy makes of the messages that come, and what is printed of it.
use Rattle.std.proofs.Common.{◌≡◌, ◌⊎◌, ◌<◌, ◌≤◌, ◌+◌, ℕ, List, [], ◌∷◌, ◌++◌, Option, Some, None, Result, Ok, Err, inl, inr, refl, sym, ap, subst, ◌∙◌, arith}
use Rattle.std.proofs.KnownBytes.{Appends-nil, Appends-trans}
use Rattle.std.proofs.lemmas.List.{append-nil}
use Rattle.std.specs.Io.KnownBytes.{Appends}
use Rattle.std.specs.Prelude.{ℤ, IfOk, false, true}
use Rattle.entry_tree.specs.Selection.{Search}
use Rattle.ldap_filter.specs.FilterTree.{depth}
use Rattle.ldap_client.proofs.Given.{given_asked, given_next, given_none}
use Rattle.ldap_client.specs.Clients.{Asks, ClientState, GivesNext, HasGiven, fresh}
use Rattle.ldap_client.specs.Links.{LinkState}
use Rattle.ldap_client.specs.declared.fault.ClientFault.{ClientFault}
use Rattle.ldap_client.specs.declared.fault.ClientFault.TheVariants as fault_of
use Rattle.ldap_messages.specs.Whole.{MessageValue, message_octets, message_value}
use Rattle.ldap_messages.specs.declared.message.Message.{Message}
use Rattle.sync_consumer.specs.Taking as taking
use Rattle.sync_consumer.specs.Taking.{ConsumerState}
use Rattle.sync_consumer.specs.declared.commit.Commit.{Commit}
use Rattle.sync_consumer.specs.declared.consumer.Taken.{Taken}
use Rattle.sync_consumer.specs.declared.fault.PeerFault as peer
use Rattle.sync_consumer.specs.declared.consumer.Taken.TheVariants.{Staged, Stored, Copied, Over, Fault, NoMemory}
use Rattle.sync_io.specs.Faults.{CountHasRisen}
use Rattle.sync_io.specs.Sink.{AppendsPrefix}
use Rattle.sync_messages.specs.declared.request.Mode.TheVariants.{RefreshAndPersist}
use Rattle.sync_model.specs.Copy.{Copy, asked}
use Rattle.ldap_search.specs.Answers.{result_text, search_id}
use Rattle.ldap_search.specs.Copies.{GoesOn, TakenMessage, stored_in, stored_text, taken_text, taken_texts, values_of}
use Rattle.ldap_search.specs.Requests.{unbind_request}
use Rattle.ldap_search.specs.Steps.{EndsBy, FollowsNext, IsFollowed, StartsFollowing, StoresOne}
use Rattle.ldap_search.specs.Talks.{AsksToFollow, EndsEarly, EndsFollowing, FaultsEnd, IsLinkSound, IsOver, IsRefusedMessage, OutputState, PrintingFails, asked_octets, end_by, first_consumer, sync_request}
use Rattle.ldap_search.specs.declared.end.SearchEnd.{SearchEnd}
use Rattle.ldap_search.specs.declared.end.SearchEnd.TheVariants.{Done, NetFault, OutputFault, PeerFault}
use Rattle.ldap_search.proofs.Copying.{count_more, taken_as, takes_more, texts_more, values_more}
use Rattle.ldap_search.proofs.Reading.{ended_early, prefix_after, read_up_to, reading_fails, refused_early, sound_ended, sound_refused, still_sound}

-- a message came from the link, and the copy took it
record Took (client : ClientState) (consumer : ConsumerState) (message : Message) (taken : Taken) (mid : ClientState) (consumer' : ConsumerState) : Type 0 where
  pub gives : GivesNext client (Ok message) mid
  pub takes : taking.Takes consumer.copy message consumer'.copy taken

module _ {spec : Search} {count : ℕ} {first : LinkState} {start : OutputState} {messages : List TakenMessage} {wanted : ℕ}
    {client : ClientState} {consumer : ConsumerState} {output : OutputState}
    (so_far : IsFollowed spec count first start messages wanted client consumer output)
    (message : Message) (taken : Taken) (mid : ClientState) (consumer' : ConsumerState) (took : Took client consumer message taken mid consumer') where
  -- the messages that were given, with this one
  given_with : HasGiven first (values_of messages ++ message_value message ∷ []) mid
  given_with = given_next first (values_of messages) client mid message so_far.given took.gives

  held_same : mid.link.held ≡ client.link.held
  held_same = took.gives.reads.held

  written_same : Appends first.held mid.link.held (asked_octets spec false)
  written_same = subst (λ held. Appends first.held held (asked_octets spec false)) (sym held_same) so_far.written

  -- no call of the link failed
  sound_at : (now : ClientState) → now ≡ mid → IsLinkSound first now.link
  sound_at now is = subst (λ (c : ClientState). IsLinkSound first c.link) (sym is) (still_sound first client mid message (so_far.reads, so_far.writes) took.gives)

  -- the search goes on after it, with this number of cookies wanted, and this was printed
  goes_on : (output' : OutputState) (wanted' : ℕ) → GoesOn taken → Appends output.held output'.held (taken_text (taken_as message taken consumer'.copy)) → output'.faults ≡ output.faults
      → stored_in taken + wanted' ≡ wanted → 0 < wanted'
      → IsFollowed spec count first start (messages ++ taken_as message taken consumer'.copy ∷ []) wanted' mid consumer' output'
  goes_on output' wanted' goes printed faults counted some =
      let one = taken_as message taken consumer'.copy in
      record {
        given = subst (λ (values : List MessageValue). HasGiven first values mid) (sym (values_more messages one)) given_with;
        live = took.gives.fault;
        takes = takes_more _ consumer.copy consumer'.copy messages message taken so_far.takes took.takes goes;
        printed = subst (λ text. Appends start.held output'.held text) (sym (texts_more messages one))
            (Appends-trans start.held output.held output'.held (taken_texts messages) (taken_text one) so_far.printed printed);
        faults = faults ∙ so_far.faults;
        written = written_same;
        reads = took.gives.faultless (λ e. let never : ⊥ = cc in never) ∙ so_far.reads;
        writes = took.gives.reads.write_faults ∙ so_far.writes;
        counted = omega (arith, count_more messages one, counted, so_far.counted);
        some = some;
      }

-- the request and the end of the session are all that is written
unbound : (spec : Search) → asked_octets spec false ++ message_octets unbind_request ≡ asked_octets spec true
unbound spec = ap (λ (octets : List ℕ). octets ++ message_octets unbind_request) (append-nil (message_octets (sync_request spec)))

-- ---- what came of a message, by what the copy made of it

-- nothing was printed of it
follows_quiet : {E : Type 0} (wanted : ℕ) (client : ClientState) (consumer : ConsumerState) (output : OutputState) (message : Message) (taken : Taken) (mid : ClientState) (consumer' : ConsumerState)
    (result : Result (Option SearchEnd) E) (wanted' : ℕ) (client' : ClientState) (output' : OutputState)
    → Took client consumer message taken mid consumer' → GoesOn taken → stored_in taken ≡ 0 → taken_text (taken_as message taken consumer'.copy) ≡ []
    → IfOk result (λ end. (end ≡ None) × (wanted' ≡ wanted) × (client' ≡ mid) × (output' ≡ output))
    → FollowsNext wanted client consumer output result wanted' client' consumer' output'
follows_quiet wanted client consumer output message taken mid consumer' (Ok None) wanted' client' output' took goes none silent is = λ spec count first start messages so_far.
    let one = taken_as message taken consumer'.copy in
    let Followed = λ (w : ℕ) (c : ClientState) (o : OutputState). IsFollowed spec count first start (messages ++ one ∷ []) w c consumer' o in
    let same : Followed wanted mid output =
    goes_on so_far message taken mid consumer' took output wanted goes (subst (λ text. Appends output.held output.held text) (sym silent) (Appends-nil output.held)) refl
    (omega (arith, none)) so_far.some in
    (one, subst (λ w. Followed w client' output') (sym is.1) (subst (λ c. Followed wanted c output') (sym is.2) (subst (λ o. Followed wanted mid o) (sym is.3) same)))
follows_quiet wanted client consumer output message taken mid consumer' (Ok (Some end)) wanted' client' output' took goes none silent is = absurd (let wrong : Some end ≡ None = is.0 in cc)
follows_quiet wanted client consumer output message taken mid consumer' (Err fault) wanted' client' output' took goes none silent is = tt

-- a cookie was stored, whose line was printed
follows_stored : {E : Type 0} (wanted : ℕ) (client : ClientState) (consumer : ConsumerState) (output : OutputState) (message : Message) (commit : Commit) (mid : ClientState) (consumer' : ConsumerState)
    (result : Result (Option SearchEnd) E) (wanted' : ℕ) (client' : ClientState) (output' : OutputState)
    → Took client consumer message (Stored commit) mid consumer' → StoresOne consumer'.copy wanted mid output result wanted' client' output'
    → FollowsNext wanted client consumer output result wanted' client' consumer' output'
follows_stored wanted client consumer output message commit mid consumer' (Ok None) wanted' client' output' took part = λ spec count first start messages so_far.
    let one = taken_as message (Stored commit) consumer'.copy in (
      one,
      subst (λ c. IsFollowed spec count first start (messages ++ one ∷ []) wanted' c consumer' output') (sym part.2)
          (goes_on so_far message (Stored commit) mid consumer' took output' wanted' tt part.3 part.4 (omega (arith, part.0)) part.1),
    )
follows_stored wanted client consumer output message commit mid consumer' (Ok (Some OutputFault)) wanted' client' output' took part = λ spec count first start messages so_far.
    let Ends = λ (c : ClientState). PrintingFails first c.link messages consumer.copy start output' × Appends first.held c.link.held (asked_octets spec false) in (
      subst Ends (sym part.0) (
        record {
          message = message;
          after = consumer'.copy;
          taken = Stored commit;
          takes = took.takes;
          read = read_up_to first (values_of messages) (message_value message) mid (given_with so_far message (Stored commit) mid consumer' took);
          printed = prefix_after start.held output.held output'.held (taken_texts messages) (stored_text consumer'.copy.held) so_far.printed part.1;
          failed = subst (λ faults. CountHasRisen faults output'.faults) so_far.faults part.2;
        },
        written_same so_far message (Stored commit) mid consumer' took,
      ),
      sound_at so_far message (Stored commit) mid consumer' took client' part.0,
    )
follows_stored wanted client consumer output message commit mid consumer' (Ok (Some Done)) wanted' client' output' took part = λ spec count first start messages so_far.
    let asks = part.1 in
    let given = given_asked first (values_of messages ++ message_value message ∷ []) (message_octets unbind_request) mid client' (Ok tt)
    (given_with so_far message (Stored commit) mid consumer' took) asks in
    let sound = sound_at so_far message (Stored commit) mid consumer' took mid refl in (
      inr (
        record {
          message = message;
          after = consumer'.copy;
          commit = commit;
          takes = took.takes;
          last = omega (arith, so_far.counted, part.0);
          read = read_up_to first (values_of messages) (message_value message) client' given;
          printed = Appends-trans start.held output.held output'.held (taken_texts messages) (stored_text consumer'.copy.held) so_far.printed part.2;
        },
        subst (λ octets. Appends first.held client'.link.held octets) (unbound spec)
            (Appends-trans first.held mid.link.held client'.link.held (asked_octets spec false) (message_octets unbind_request)
            (written_same so_far message (Stored commit) mid consumer' took) asks.writes.0),
      ),
      ((asks.read_faults ∙ sound.0, asks.writes.1 ∙ sound.1), part.3 ∙ so_far.faults),
    )
follows_stored wanted client consumer output message commit mid consumer' (Ok (Some NetFault)) wanted' client' output' took part = λ spec count first start messages so_far.
    let asks = part.1 in
    let given = given_asked first (values_of messages ++ message_value message ∷ []) (message_octets unbind_request) mid client' (Err fault_of.WriteFault)
    (given_with so_far message (Stored commit) mid consumer' took) asks in (
      inr (
        record {
          message = message;
          after = consumer'.copy;
          commit = commit;
          takes = took.takes;
          last = omega (arith, so_far.counted, part.0);
          read = read_up_to first (values_of messages) (message_value message) client' given;
          printed = Appends-trans start.held output.held output'.held (taken_texts messages) (stored_text consumer'.copy.held) so_far.printed part.2;
        },
        (
          subst (λ octets. AppendsPrefix first.held client'.link.held octets) (unbound spec)
              (prefix_after first.held mid.link.held client'.link.held (asked_octets spec false) (message_octets unbind_request)
              (written_same so_far message (Stored commit) mid consumer' took) asks.writes.0),
          subst (λ faults. CountHasRisen faults client'.link.write_faults) (took.gives.reads.write_faults ∙ so_far.writes) asks.writes.1,
        ),
      ),
      part.3 ∙ so_far.faults,
    )
follows_stored wanted client consumer output message commit mid consumer' (Ok (Some PeerFault)) wanted' client' output' took part = absurd part.1
follows_stored wanted client consumer output message commit mid consumer' (Err fault) wanted' client' output' took part = tt

-- the search is over
follows_over : {E : Type 0} (wanted : ℕ) (client : ClientState) (consumer : ConsumerState) (output : OutputState) (message : Message) (code : ℤ) (mid : ClientState) (consumer' : ConsumerState)
    (result : Result (Option SearchEnd) E) (wanted' : ℕ) (client' : ClientState) (output' : OutputState)
    → Took client consumer message (Over code) mid consumer' → EndsBy (Over code) consumer'.copy wanted mid output result wanted' client' output'
    → FollowsNext wanted client consumer output result wanted' client' consumer' output'
follows_over wanted client consumer output message code mid consumer' (Ok None) wanted' client' output' took part = absurd (let wrong : false ≡ true = part.1.1 in cc)
follows_over wanted client consumer output message code mid consumer' (Ok (Some Done)) wanted' client' output' took part = λ spec count first start messages so_far.
    let Ends = λ (c : ClientState). IsOver first c.link messages consumer.copy start output' × Appends first.held c.link.held (asked_octets spec false) in (
      inl (subst Ends (sym part.0) (
        record {
          message = message;
          after = consumer'.copy;
          code = code;
          takes = took.takes;
          read = read_up_to first (values_of messages) (message_value message) mid (given_with so_far message (Over code) mid consumer' took);
          printed = Appends-trans start.held output.held output'.held (taken_texts messages) (result_text code) so_far.printed part.1.0.0;
        },
        written_same so_far message (Over code) mid consumer' took,
      )),
      (sound_at so_far message (Over code) mid consumer' took client' part.0, part.1.0.1 ∙ so_far.faults),
    )
follows_over wanted client consumer output message code mid consumer' (Ok (Some OutputFault)) wanted' client' output' took part = λ spec count first start messages so_far.
    let Ends = λ (c : ClientState). PrintingFails first c.link messages consumer.copy start output' × Appends first.held c.link.held (asked_octets spec false) in (
      subst Ends (sym part.0) (
        record {
          message = message;
          after = consumer'.copy;
          taken = Over code;
          takes = took.takes;
          read = read_up_to first (values_of messages) (message_value message) mid (given_with so_far message (Over code) mid consumer' took);
          printed = prefix_after start.held output.held output'.held (taken_texts messages) (result_text code) so_far.printed part.1.0.0;
          failed = subst (λ faults. CountHasRisen faults output'.faults) so_far.faults part.1.0.1;
        },
        written_same so_far message (Over code) mid consumer' took,
      ),
      sound_at so_far message (Over code) mid consumer' took client' part.0,
    )
follows_over wanted client consumer output message code mid consumer' (Ok (Some NetFault)) wanted' client' output' took part = absurd part.1.0
follows_over wanted client consumer output message code mid consumer' (Ok (Some PeerFault)) wanted' client' output' took part = absurd part.1.0
follows_over wanted client consumer output message code mid consumer' (Err fault) wanted' client' output' took part = tt

-- the message is refused
follows_refused : {E : Type 0} (wanted : ℕ) (client : ClientState) (consumer : ConsumerState) (output : OutputState) (message : Message) (found : peer.PeerFault) (mid : ClientState)
    (consumer' : ConsumerState) (result : Result (Option SearchEnd) E) (wanted' : ℕ) (client' : ClientState) (output' : OutputState)
    → Took client consumer message (Fault found) mid consumer' → EndsBy (Fault found) consumer'.copy wanted mid output result wanted' client' output'
    → FollowsNext wanted client consumer output result wanted' client' consumer' output'
follows_refused wanted client consumer output message found mid consumer' (Ok (Some PeerFault)) wanted' client' output' took part = λ spec count first start messages so_far.
    let Ends = λ (c : ClientState) (o : OutputState). (EndsEarly first c.link (values_of messages) ⊎ IsRefusedMessage first c.link messages consumer.copy)
    × Appends start.held o.held (taken_texts messages) × Appends first.held c.link.held (asked_octets spec false) in (
      subst (λ c. Ends c output') (sym part.0) (subst (λ o. Ends mid o) (sym part.1) (
        inr (
          message,
          consumer'.copy,
          found,
          took.takes,
          read_up_to first (values_of messages) (message_value message) mid (given_with so_far message (Fault found) mid consumer' took),
        ),
        so_far.printed,
        written_same so_far message (Fault found) mid consumer' took,
      )),
      (sound_at so_far message (Fault found) mid consumer' took client' part.0, ap (λ (o : OutputState). o.faults) part.1 ∙ so_far.faults),
    )
follows_refused wanted client consumer output message found mid consumer' (Ok None) wanted' client' output' took part = absurd (let wrong : None ≡ Some PeerFault = part.2 in cc)
follows_refused wanted client consumer output message found mid consumer' (Ok (Some Done)) wanted' client' output' took part = absurd (let wrong : Some Done ≡ Some PeerFault = part.2 in cc)
follows_refused wanted client consumer output message found mid consumer' (Ok (Some OutputFault)) wanted' client' output' took part =
    absurd (let wrong : Some OutputFault ≡ Some PeerFault = part.2 in cc)
follows_refused wanted client consumer output message found mid consumer' (Ok (Some NetFault)) wanted' client' output' took part =
    absurd (let wrong : Some NetFault ≡ Some PeerFault = part.2 in cc)
follows_refused wanted client consumer output message found mid consumer' (Err fault) wanted' client' output' took part = tt

-- ---- one message more

no_memory : {E : Type 0} (result : Result (Option SearchEnd) E) (wanted : ℕ) (client : ClientState) (consumer : ConsumerState) (output : OutputState) (wanted' : ℕ) (client' : ClientState)
    (consumer' : ConsumerState) (output' : OutputState) → IfOk result (λ end. ⊥) → FollowsNext wanted client consumer output result wanted' client' consumer' output'
no_memory (Ok end) wanted client consumer output wanted' client' consumer' output' never = absurd never
no_memory (Err fault) wanted client consumer output wanted' client' consumer' output' never = tt

-- a message that comes is taken by the copy, and its lines are printed
pub follows_next : {E : Type 0} (wanted : ℕ) (client : ClientState) (consumer : ConsumerState) (output : OutputState) (message : Message) (taken : Taken) (mid : ClientState) (consumer' : ConsumerState)
    (result : Result (Option SearchEnd) E) (wanted' : ℕ) (client' : ClientState) (output' : OutputState)
    → GivesNext client (Ok message) mid → taking.Takes consumer.copy message consumer'.copy taken → EndsBy taken consumer'.copy wanted mid output result wanted' client' output'
    → FollowsNext wanted client consumer output result wanted' client' consumer' output'
follows_next wanted client consumer output message Staged mid consumer' result wanted' client' output' gives takes part =
    follows_quiet wanted client consumer output message Staged mid consumer' result wanted' client' output' (record { gives = gives; takes = takes }) tt refl refl part
follows_next wanted client consumer output message (Copied commit) mid consumer' result wanted' client' output' gives takes part =
    follows_quiet wanted client consumer output message (Copied commit) mid consumer' result wanted' client' output' (record { gives = gives; takes = takes }) tt refl refl part
follows_next wanted client consumer output message (Stored commit) mid consumer' result wanted' client' output' gives takes part =
    follows_stored wanted client consumer output message commit mid consumer' result wanted' client' output' (record { gives = gives; takes = takes }) part
follows_next wanted client consumer output message (Over code) mid consumer' result wanted' client' output' gives takes part =
    follows_over wanted client consumer output message code mid consumer' result wanted' client' output' (record { gives = gives; takes = takes }) part
follows_next wanted client consumer output message (Fault found) mid consumer' result wanted' client' output' gives takes part =
    follows_refused wanted client consumer output message found mid consumer' result wanted' client' output' (record { gives = gives; takes = takes }) part
follows_next wanted client consumer output message NoMemory mid consumer' result wanted' client' output' gives takes part =
    no_memory result wanted client consumer output wanted' client' consumer' output' part

-- no message was given
pub follows_fault : (E : Type 0) (wanted : ℕ) (client : ClientState) (consumer : ConsumerState) (output : OutputState) (fault : ClientFault) (client' : ClientState) → GivesNext client (Err fault) client'
    → (fault ≡ fault_of.NoMemory → ⊥) → FollowsNext {E = E} wanted client consumer output (Ok (Some (end_by fault))) wanted client' consumer output
follows_fault E wanted client consumer output fault_of.ReadFault client' gives memory = λ spec count first start messages so_far.
    (inl (reading_fails first (values_of messages) client client' so_far.given gives, so_far.printed, subst (λ held. Appends first.held held (asked_octets spec false)) (sym gives.reads.held) so_far.written), so_far.faults)
follows_fault E wanted client consumer output (fault_of.PeerMessage place) client' gives memory = λ spec count first start messages so_far. (
  (inl (refused_early first (values_of messages) client client' place so_far.given gives), so_far.printed, subst (λ held. Appends first.held held (asked_octets spec false)) (sym gives.reads.held) so_far.written),
  (sound_refused first client client' place (so_far.reads, so_far.writes) gives, so_far.faults),
)
follows_fault E wanted client consumer output fault_of.EndOfInput client' gives memory = λ spec count first start messages so_far. (
  (inl (ended_early first (values_of messages) client client' so_far.given gives), so_far.printed, subst (λ held. Appends first.held held (asked_octets spec false)) (sym gives.reads.held) so_far.written),
  (sound_ended first client client' (so_far.reads, so_far.writes) gives, so_far.faults),
)
follows_fault E wanted client consumer output fault_of.WriteFault client' gives memory = absurd gives.next
follows_fault E wanted client consumer output fault_of.NoMemory client' gives memory = absurd (memory refl)

-- ---- the whole search

-- the consumer that was made
pub consumer_made : {E : Type 0} (spec : Search) (result : Result ConsumerState E) (one made : ConsumerState) → result ≡ Ok (first_consumer spec) → result ≡ Ok one → made ≡ one
    → made ≡ first_consumer spec
consumer_made spec result one made is was same =
    let first : one ≡ first_consumer spec = cc in
    same ∙ first

-- its filter stands in as many levels
pub filter_within : (spec : Search) (made : ConsumerState) → made ≡ first_consumer spec → depth spec.filter ≤ 32 → depth made.spec.filter ≤ 32
filter_within spec made is within = subst (λ (m : ConsumerState). depth m.spec.filter ≤ 32) (sym is) within

-- the request was written by a client that has just begun
pub begins_following : (spec : Search) (count : ℕ) (old mid : ClientState) (output : OutputState) (made consumer : ConsumerState) → 0 < count → old ≡ fresh old.link → made ≡ first_consumer spec
    → Asks (message_octets (taking.request_of made search_id RefreshAndPersist)) old (Ok tt) mid → consumer ≡ record made { copy = asked search_id true made.copy }
    → IsFollowed spec count old.link output [] count mid consumer output
begins_following spec count old mid output made consumer some new is written same =
    let octets = message_octets (sync_request spec) in
    let asks = subst (λ (m : ConsumerState). Asks (message_octets (taking.request_of m search_id RefreshAndPersist)) old (Ok tt) mid) is written in
    let none : HasGiven old.link [] old = subst (λ (c : ClientState). HasGiven old.link [] c) (sym new) (given_none old.link) in
    record {
      given = given_asked old.link [] octets old mid (Ok tt) none asks;
      live = asks.fault;
      takes = ap (λ (c : ConsumerState). c.copy) same ∙ ap (λ (m : ConsumerState). asked search_id true m.copy) is;
      printed = Appends-nil output.held;
      faults = refl;
      reads = asks.read_faults;
      written = subst (λ (all : List ℕ). Appends old.link.held mid.link.held all) (sym (append-nil octets)) asks.writes.0;
      writes = asks.writes.1;
      counted = omega arith;
      some = some;
    }

-- writing it failed
pub following_fails : (spec : Search) (count : ℕ) (old new : ClientState) (output : OutputState) (made : ConsumerState) → made ≡ first_consumer spec
    → Asks (message_octets (taking.request_of made search_id RefreshAndPersist)) old (Err fault_of.WriteFault) new → AsksToFollow spec count old.link new.link output NetFault output
following_fails spec count old new output made is written =
    let octets = message_octets (sync_request spec) in
    let asks = subst (λ (m : ConsumerState). Asks (message_octets (taking.request_of m search_id RefreshAndPersist)) old (Err fault_of.WriteFault) new) is written in
    inr (refl, refl, (subst (λ (all : List ℕ). AppendsPrefix old.link.held new.link.held all) (sym (append-nil octets)) asks.writes.0, asks.writes.1))

-- a start that ends the search ends it by the net
pub start_ends : (E : Type 0) (spec : Search) (count : ℕ) (old new : ClientState) (output : OutputState) (made consumer : ConsumerState) (end : SearchEnd) → made ≡ first_consumer spec
    → StartsFollowing {E = E} old made (Ok (Some end)) new consumer → AsksToFollow spec count old.link new.link output end output
start_ends E spec count old new output made consumer NetFault is starts = following_fails spec count old new output made is starts
start_ends E spec count old new output made consumer Done is starts = absurd starts
start_ends E spec count old new output made consumer OutputFault is starts = absurd starts
start_ends E spec count old new output made consumer PeerFault is starts = absurd starts

-- it ended
pub follows_to_end : (spec : Search) (count : ℕ) (first : LinkState) (start : OutputState) (messages : List TakenMessage) (wanted : ℕ) (client : ClientState) (consumer : ConsumerState) (output : OutputState)
    (now : LinkState) (end : SearchEnd) (output' : OutputState) → IsFollowed spec count first start messages wanted client consumer output
    → EndsFollowing spec count first now messages consumer.copy start end output' × FaultsEnd first now start end output' → AsksToFollow spec count first now start end output'
follows_to_end spec count first start messages wanted client consumer output now end output' so_far ends = inl (record {
  messages = messages;
  copy = consumer.copy;
  takes = so_far.takes;
  fewer = omega (arith, so_far.counted, so_far.some);
  ends = ends.0;
  faults = ends.1;
})

-- ---- in what the code answers

-- where the client refuses to go on, the search ends for that fault
pub follows_end : {E : Type 0} (wanted : ℕ) (client : ClientState) (consumer : ConsumerState) (output : OutputState) (fault : ClientFault) (result : Result (Option SearchEnd) E) (client' : ClientState)
    → GivesNext client (Err fault) client' → IfOk result (λ end. (fault ≡ fault_of.NoMemory → ⊥) × (end ≡ Some (end_by fault)))
    → FollowsNext wanted client consumer output result wanted client' consumer output
follows_end {E} wanted client consumer output fault (Ok end) client' gives is =
    subst (λ (e : Option SearchEnd). FollowsNext {E = E} wanted client consumer output (Ok e) wanted client' consumer output) (sym is.1) (follows_fault E wanted client consumer output fault client' gives is.0)
follows_end wanted client consumer output fault (Err memory) client' gives is = tt

-- more cookies are wanted where the search goes on
pub some_after : {E : Type 0} (taken : Taken) (copy : Copy) (wanted : ℕ) (client : ClientState) (output : OutputState) (result : Result (Option SearchEnd) E) (wanted' : ℕ) (client' : ClientState)
    (output' : OutputState) → 0 < wanted → EndsBy taken copy wanted client output result wanted' client' output' → IfOk result (λ end. end ≡ None → 0 < wanted')
some_after taken copy wanted client output (Err fault) wanted' client' output' some ends = tt
some_after Staged copy wanted client output (Ok end) wanted' client' output' some ends = λ none. subst (λ w. 0 < w) (sym ends.1) some
some_after (Copied commit) copy wanted client output (Ok end) wanted' client' output' some ends = λ none. subst (λ w. 0 < w) (sym ends.1) some
some_after (Stored commit) copy wanted client output (Ok None) wanted' client' output' some ends = λ none. ends.1
some_after (Stored commit) copy wanted client output (Ok (Some end)) wanted' client' output' some ends = λ none. absurd (let wrong : Some end ≡ None = none in cc)
some_after (Over code) copy wanted client output (Ok None) wanted' client' output' some ends = absurd (let wrong : false ≡ true = ends.1.1 in cc)
some_after (Over code) copy wanted client output (Ok (Some end)) wanted' client' output' some ends = λ none. absurd (let wrong : Some end ≡ None = none in cc)
some_after (Fault found) copy wanted client output (Ok end) wanted' client' output' some ends = λ none. absurd (let wrong : None ≡ Some PeerFault = sym none ∙ ends.2 in cc)
some_after NoMemory copy wanted client output (Ok end) wanted' client' output' some ends = absurd ends

-- as many cookies are wanted as before
pub some_still : {E : Type 0} (result : Result (Option SearchEnd) E) (wanted : ℕ) → 0 < wanted → IfOk result (λ end. end ≡ None → 0 < wanted)
some_still (Ok end) wanted some = λ none. some
some_still (Err fault) wanted some = tt

-- the client answers no fault then
pub live_with : {E : Type 0} (taken : Taken) (copy : Copy) (wanted : ℕ) (client : ClientState) (output : OutputState) (result : Result (Option SearchEnd) E) (wanted' : ℕ) (client' : ClientState)
    (output' : OutputState) → client.fault ≡ None → EndsBy taken copy wanted client output result wanted' client' output' → IfOk result (λ end. end ≡ None → client'.fault ≡ None)
live_with taken copy wanted client output (Err fault) wanted' client' output' live ends = tt
live_with Staged copy wanted client output (Ok end) wanted' client' output' live ends = λ none. subst (λ (c : ClientState). c.fault ≡ None) (sym ends.2) live
live_with (Copied commit) copy wanted client output (Ok end) wanted' client' output' live ends = λ none. subst (λ (c : ClientState). c.fault ≡ None) (sym ends.2) live
live_with (Stored commit) copy wanted client output (Ok None) wanted' client' output' live ends = λ none. subst (λ (c : ClientState). c.fault ≡ None) (sym ends.2) live
live_with (Stored commit) copy wanted client output (Ok (Some end)) wanted' client' output' live ends = λ none. absurd (let wrong : Some end ≡ None = none in cc)
live_with (Over code) copy wanted client output (Ok end) wanted' client' output' live ends = λ none. subst (λ (c : ClientState). c.fault ≡ None) (sym ends.0) live
live_with (Fault found) copy wanted client output (Ok end) wanted' client' output' live ends = λ none. subst (λ (c : ClientState). c.fault ≡ None) (sym ends.0) live
live_with NoMemory copy wanted client output (Ok end) wanted' client' output' live ends = absurd ends
