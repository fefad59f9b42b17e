-- How the round of a replica ends.
use Rattle.std.proofs.Common.{◌≡◌, ◌≤◌, List, [], ◌∷◌, ◌++◌, map, Option, Some, None, Result, Err, Ok, inl, inr, refl, sym, ap, subst, ◌∙◌, arith}
use Rattle.std.specs.Io.KnownBytes.{Appends}
use Rattle.ldap_client.proofs.Given.{all_read, arrived-push, given_asked, given_fault, given_next, given_none, read_ended, read_refused}
use Rattle.ldap_client.specs.Clients.{Asks, ClientState, GivesNext, HasGiven, HasRead, fresh}
use Rattle.ldap_client.specs.Links.{LinkState}
use Rattle.ldap_client.specs.declared.fault.ClientFault.{ClientFault}
use Rattle.ldap_client.specs.declared.fault.ClientFault.TheVariants as fault_of
use Rattle.ldap_filter.specs.FilterTree.{depth}
use Rattle.ldap_messages.specs.Whole.{HasSpelling, MessageValue, message_octets, message_value}
use Rattle.ldap_messages.specs.declared.message.Message.{Message}
use Rattle.ldap_session.specs.Incoming.{Arrived, Incoming, incoming_in}
use Rattle.sync_io.proofs.Sides.{rose_later}
use Rattle.sync_io.specs.Faults.{CountHasRisen}
use Rattle.sync_consumer.specs.Taking as taking
use Rattle.sync_model.specs.Copy as model
use Rattle.replica_node.specs.Following.{AsksOrEnds, EndsOver, EndsWith, IsFollowing, ReplicaState, RoundStart, RoundState, TakesNext, TakesOrEnds, TakesToEnd, cut_off, outcome_by, outcome_of, round_at}
use Rattle.replica_node.specs.Rounds.{EndedWith, EndsBy, Faulted, LinkFailed, OutOfMemory, ReadToEnd, ReadsUpTo, Refused, RoundEnd, Uncommitted, Wanted, last_of, request_of, searching}
use Rattle.replica_node.specs.Steps.{ReplicaStep, messages_of}
use Rattle.replica_node.specs.declared.end.RoundOutcome.{RoundOutcome}
use Rattle.replica_node.specs.declared.end.RoundOutcome.TheVariants.{LimitReached, NoMemory, Over}
use Rattle.replica_node.proofs.Stepping.{follows_on}

same_one : {A : Type 0} (x y : A) → x ∷ [] ≡ y ∷ [] → x ≡ y
same_one x y is = cc

-- ---- nothing more came

-- the round ends with nothing taken
ends_unread : (start : RoundStart) (steps : List ReplicaStep) (client client' : ClientState) (replica : ReplicaState) (end : RoundEnd) → IsFollowing start steps (round_at client replica)
    → client'.link.held ≡ client.link.held → ReadsUpTo start.link client'.link steps end → EndsBy end replica.copy replica.port replica.copy replica.port
    → (end ≡ LinkFailed → CountHasRisen start.link.read_faults client'.link.read_faults) → EndsOver start (cut_off (round_at client' replica)) (outcome_of end)
ends_unread start steps client client' replica end so_far held reads ends failed = record {
  steps = steps;
  end = end;
  follows = record {
    between = replica.copy;
    between_port = replica.port;
    after = replica.copy;
    takes = so_far.takes;
    ends = ends;
    cut = refl;
  };
  seen = record {
    written = inl (subst (λ h. Appends start.link.held h (message_octets (request_of start.wanted start.replica.copy))) (sym held) so_far.written);
    read = reads;
    failed = λ is. inl (failed is);
  };
  outcome_is = refl;
  counted = so_far.counted;
}

-- where the client refuses to go on, the round ends for that fault
pub ends_fault : (client client' : ClientState) (replica : ReplicaState) (fault : ClientFault) → GivesNext client (Err fault) client'
    → TakesNext (round_at client replica) (Some (outcome_by fault)) (round_at client' replica)
ends_fault client client' replica fault_of.NoMemory gives = λ start steps so_far.
    let given = given_fault start.link (messages_of steps) client client' fault_of.NoMemory so_far.given gives in
    ends_unread start steps client client' replica OutOfMemory so_far gives.reads.held (incoming_in client'.kept, all_read start.link (messages_of steps) client' given) (refl, refl)
    (λ is. absurd (let wrong : OutOfMemory ≡ LinkFailed = is in cc))
ends_fault client client' replica fault_of.WriteFault gives = absurd gives.next
ends_fault client client' replica fault_of.EndOfInput gives = λ start steps so_far.
    let ended = read_ended start.link (messages_of steps) client client' so_far.given gives in
    ends_unread start steps client client' replica ReadToEnd so_far gives.reads.held ended (refl, refl) (λ is. absurd (let wrong : ReadToEnd ≡ LinkFailed = is in cc))
ends_fault client client' replica (fault_of.PeerMessage place) gives = λ start steps so_far.
    let refused = read_refused start.link (messages_of steps) client client' place so_far.given gives in
    ends_unread start steps client client' replica (Refused place) so_far gives.reads.held refused (refl, refl) (λ is. absurd (let wrong : Refused place ≡ LinkFailed = is in cc))
ends_fault client client' replica fault_of.ReadFault gives = λ start steps so_far.
    let given = given_fault start.link (messages_of steps) client client' fault_of.ReadFault so_far.given gives in
    ends_unread start steps client client' replica LinkFailed so_far gives.reads.held (incoming_in client'.kept, all_read start.link (messages_of steps) client' given) (refl, refl)
    (λ is. rose_later start.link.read_faults client.link.read_faults client'.link.read_faults so_far.given.later gives.next.1)

-- ---- a message that ends the round

-- it was read
read_by : (first now : LinkState) (steps : List ReplicaStep) (message : Message) (later : List Incoming) (end : RoundEnd) → last_of end ≡ message_value message ∷ []
    → HasRead first now (map Arrived (messages_of steps) ++ Arrived (message_value message) ∷ later) → ReadsUpTo first now steps end
read_by first now steps message later ReadToEnd last read = absurd (let wrong : [] ≡ message_value message ∷ [] = last in cc)
read_by first now steps message later (Refused place) last read = absurd (let wrong : [] ≡ message_value message ∷ [] = last in cc)
read_by first now steps message later LinkFailed last read = absurd (let wrong : [] ≡ message_value message ∷ [] = last in cc)
read_by first now steps message later OutOfMemory last read = absurd (let wrong : [] ≡ message_value message ∷ [] = last in cc)
read_by first now steps message later (EndedWith other code) last read =
    (later, subst (λ (v : MessageValue). HasRead first now (map Arrived (messages_of steps) ++ Arrived v ∷ later)) (sym (same_one _ _ last)) read)
read_by first now steps message later (Faulted other found) last read =
    (later, subst (λ (v : MessageValue). HasRead first now (map Arrived (messages_of steps) ++ Arrived v ∷ later)) (sym (same_one _ _ last)) read)
read_by first now steps message later (Uncommitted other commit fault) last read =
    (later, subst (λ (v : MessageValue). HasRead first now (map Arrived (messages_of steps) ++ Arrived v ∷ later)) (sym (same_one _ _ last)) read)

read_to : (start : RoundStart) (steps : List ReplicaStep) (client client' : ClientState) (replica : ReplicaState) (message : Message) → IsFollowing start steps (round_at client replica)
    → GivesNext client (Ok message) client' → HasRead start.link client'.link (map Arrived (messages_of steps) ++ Arrived (message_value message) ∷ incoming_in client'.kept)
read_to start steps client client' replica message so_far gives =
    let given = given_next start.link (messages_of steps) client client' message so_far.given gives in
    subst (λ (all : List Incoming). HasRead start.link client'.link all) (sym (arrived-push (messages_of steps) (message_value message) (incoming_in client'.kept)))
    (all_read start.link (messages_of steps ++ message_value message ∷ []) client' given)

read_with : (start : RoundStart) (steps : List ReplicaStep) (client client' : ClientState) (replica : ReplicaState) (message : Message) (end : RoundEnd)
    → IsFollowing start steps (round_at client replica) → GivesNext client (Ok message) client' → last_of end ≡ message_value message ∷ [] → ReadsUpTo start.link client'.link steps end
read_with start steps client client' replica message end so_far gives last =
    read_by start.link client'.link steps message (incoming_in client'.kept) end last (read_to start steps client client' replica message so_far gives)

ends_read : (client client' : ClientState) (old new : ReplicaState) (message : Message) (outcome : RoundOutcome) → GivesNext client (Ok message) client' → EndsWith old message outcome new
    → (start : RoundStart) (steps : List ReplicaStep) → IsFollowing start steps (round_at client old) → EndsOver start (cut_off (round_at client' new)) outcome
ends_read client client' old new message outcome gives ends start steps so_far = record {
  steps = steps;
  end = ends.end;
  follows = record {
    between = old.copy;
    between_port = old.port;
    after = new.copy;
    takes = so_far.takes;
    ends = ends.ends;
    cut = refl;
  };
  seen = record {
    written = inl (subst (λ h. Appends start.link.held h (message_octets (request_of start.wanted start.replica.copy))) (sym gives.reads.held) so_far.written);
    read = read_with start steps client client' old message ends.end so_far gives ends.last;
    failed = λ is. absurd (let wrong : [] ≡ message_value message ∷ [] = ap last_of (sym is) ∙ ends.last in cc);
  };
  outcome_is = ends.outcome_is;
  counted = ends.counted ∙ so_far.counted;
}

-- memory ran out before the message that came was taken
ends_untaken : (client client' : ClientState) (replica : ReplicaState) (message : Message) → GivesNext client (Ok message) client' → (start : RoundStart) (steps : List ReplicaStep)
    → IsFollowing start steps (round_at client replica) → EndsOver start (cut_off (round_at client' replica)) NoMemory
ends_untaken client client' replica message gives start steps so_far =
    ends_unread start steps client client' replica OutOfMemory so_far gives.reads.held
    (Arrived (message_value message) ∷ incoming_in client'.kept, read_to start steps client client' replica message so_far gives) (refl, refl)
    (λ is. absurd (let wrong : OutOfMemory ≡ LinkFailed = is in cc))

-- ---- the next message

-- a message that comes is taken, and the round goes on or ends
pub takes_next : (client client' : ClientState) (old new : ReplicaState) (message : Message) (result : Option RoundOutcome) → GivesNext client (Ok message) client' → TakesOrEnds old message result new
    → TakesNext (round_at client old) result (round_at client' new)
takes_next client client' old new message None gives takes = follows_on client client' old new message gives takes
takes_next client client' old new message (Some outcome) gives (inl ends) = ends_read client client' old new message outcome gives ends
takes_next client client' old new message (Some outcome) gives (inr out) = λ start steps so_far.
    subst (λ (o : RoundOutcome). EndsOver start (cut_off (round_at client' new)) o) (sym out.0)
    (subst (λ (r : ReplicaState). EndsOver start (cut_off (round_at client' r)) NoMemory) (sym out.1) (ends_untaken client client' old message gives start steps so_far))

-- ---- all messages

-- what was taken before, and what is taken then
abbrev pub FollowsOn : RoundState → RoundState → Type 0
FollowsOn old new = (start : RoundStart) (steps : List ReplicaStep) → IsFollowing start steps old → (now : List ReplicaStep) × IsFollowing start now new

-- at first none is taken
pub follows_none : (now : RoundState) → FollowsOn now now
follows_none now start steps so_far = (steps, so_far)

-- one more is taken
pub follows_more : (old mid new : RoundState) → FollowsOn old mid → TakesNext mid None new → FollowsOn old new
follows_more old mid new so_far takes start steps begun =
    let at = so_far start steps begun in
    let more = takes start at.0 at.1 in
    (at.0 ++ more.0 ∷ [], more.1)

-- the next one ends the round
pub follows_to_end : (old mid new : RoundState) (outcome : RoundOutcome) → FollowsOn old mid → TakesNext mid (Some outcome) new → TakesToEnd old outcome new
follows_to_end old mid new outcome so_far takes = λ start steps begun. let at = so_far start steps begun in takes start at.0 at.1

-- ---- the whole round

-- the search was asked for
pub begins_following : (wanted : Wanted) (old client : ClientState) (replica : ReplicaState) → old ≡ fresh old.link → Asks (message_octets (request_of wanted replica.copy)) old (Ok tt) client
    → IsFollowing (record { wanted = wanted; replica = replica; link = old.link }) [] (round_at client (record replica { copy = searching replica.copy }))
begins_following wanted old client replica begun asks =
    let octets = message_octets (request_of wanted replica.copy) in
    let none : HasGiven old.link [] old = subst (λ (c : ClientState). HasGiven old.link [] c) (sym begun) (given_none old.link) in
    record {
      given = given_asked old.link [] octets old client (Ok tt) none asks;
      live = asks.fault;
      written = asks.writes.0;
      writes = asks.writes.1;
      takes = (refl, refl);
      counted = omega arith;
    }

-- it was, and then its messages were taken to the end of the round
pub asked_to_end : (wanted : Wanted) (old client client' : ClientState) (replica mid new : ReplicaState) (outcome : RoundOutcome) → old ≡ fresh old.link
    → Asks (message_octets (request_of wanted replica.copy)) old (Ok tt) client → mid ≡ record replica { copy = searching replica.copy }
    → TakesToEnd (round_at client mid) outcome (round_at client' new)
    → EndsOver (record { wanted = wanted; replica = replica; link = old.link }) (cut_off (round_at client' new)) outcome
asked_to_end wanted old client client' replica mid new outcome begun asks asked takes =
    takes (record { wanted = wanted; replica = replica; link = old.link }) []
    (subst (λ (r : ReplicaState). IsFollowing (record { wanted = wanted; replica = replica; link = old.link }) [] (round_at client r)) (sym asked)
    (begins_following wanted old client replica begun asks))

-- writing the request failed
unasked_over : (wanted : Wanted) (old client : ClientState) (replica new : ReplicaState) → old ≡ fresh old.link
    → Asks (message_octets (request_of wanted replica.copy)) old (Err fault_of.WriteFault) client → new ≡ record replica { copy = searching replica.copy }
    → EndsOver (record { wanted = wanted; replica = replica; link = old.link }) (cut_off (round_at client new)) Over
unasked_over wanted old client replica new begun asks asked =
    let octets = message_octets (request_of wanted replica.copy) in
    let none : HasGiven old.link [] old = subst (λ (c : ClientState). HasGiven old.link [] c) (sym begun) (given_none old.link) in
    let given = given_asked old.link [] octets old client (Err fault_of.WriteFault) none asks in
    subst (λ (r : ReplicaState). EndsOver (record { wanted = wanted; replica = replica; link = old.link }) (cut_off (round_at client r)) Over) (sym asked)
    (record {
      steps = [];
      end = LinkFailed;
      follows = record {
        between = searching replica.copy;
        between_port = replica.port;
        after = searching replica.copy;
        takes = (refl, refl);
        ends = (refl, refl);
        cut = refl;
      };
      seen = record {
        written = inr (refl, inl (asks.writes.1, refl, asks.writes.0));
        read = (incoming_in client.kept, all_read old.link [] client given);
        failed = λ is. inr asks.writes.1;
      };
      outcome_is = refl;
      counted = omega arith;
    })

-- memory ran out before the request was written
unasked_out : (wanted : Wanted) (old client : ClientState) (replica new : ReplicaState) → old ≡ fresh old.link
    → Asks (message_octets (request_of wanted replica.copy)) old (Err fault_of.NoMemory) client → taking.without_search new.copy ≡ taking.without_search replica.copy
    → new.port ≡ replica.port → new.stored ≡ replica.stored
    → EndsOver (record { wanted = wanted; replica = replica; link = old.link }) (cut_off (round_at client new)) NoMemory
unasked_out wanted old client replica new begun asks cut port stored =
    let octets = message_octets (request_of wanted replica.copy) in
    let none : HasGiven old.link [] old = subst (λ (c : ClientState). HasGiven old.link [] c) (sym begun) (given_none old.link) in
    let given = given_asked old.link [] octets old client (Err fault_of.NoMemory) none asks in
    record {
      steps = [];
      end = OutOfMemory;
      follows = record {
        between = searching replica.copy;
        between_port = replica.port;
        after = searching replica.copy;
        takes = (refl, refl);
        ends = (refl, port);
        cut = cut;
      };
      seen = record {
        written = inr (refl, inr (refl, asks.writes.0));
        read = (incoming_in client.kept, all_read old.link [] client given);
        failed = λ is. absurd (let wrong : OutOfMemory ≡ LinkFailed = is in cc);
      };
      outcome_is = refl;
      counted = omega (arith, stored);
    }

-- the search could not be asked for, and so the round ended
pub ends_unasked : (wanted : Wanted) (old client : ClientState) (replica new : ReplicaState) (outcome : RoundOutcome) → old ≡ fresh old.link
    → AsksOrEnds wanted old replica.copy (Some outcome) client new.copy → new.port ≡ replica.port → new.stored ≡ replica.stored
    → EndsOver (record { wanted = wanted; replica = replica; link = old.link }) (cut_off (round_at client new)) outcome
ends_unasked wanted old client replica new NoMemory begun asks port stored = unasked_out wanted old client replica new begun asks.0 asks.1 port stored
ends_unasked wanted old client replica new (LimitReached limit) begun asks port stored = absurd asks
ends_unasked wanted old client replica new Over begun asks port stored =
    unasked_over wanted old client replica new begun asks.0 (λ i. record { copy = asks.1 i; port = port i; stored = stored i })

-- the search is ended then, and what was staged is dropped
pub ends_cut : (start : RoundStart) (client : ClientState) (replica : ReplicaState) (copy : model.Copy) (outcome : RoundOutcome) → EndsOver start (cut_off (round_at client replica)) outcome
    → copy ≡ taking.without_search replica.copy → EndsOver start (round_at client (record replica { copy = copy })) outcome
ends_cut start client replica copy outcome ends is =
    subst (λ (c : model.Copy). EndsOver start (round_at client (record replica { copy = c })) outcome) (sym is) ends

-- ---- asking

-- a request has a spelling, by the depth of its filter
pub request_spelled : (wanted : Wanted) (copy : model.Copy) (whole : MessageValue) → whole ≡ request_of wanted copy → depth wanted.spec.filter ≤ 32 → HasSpelling whole
request_spelled wanted copy whole is within = subst HasSpelling (sym is) (omega arith, (omega arith, omega arith, omega arith, within))

-- what is written is the request
pub asks_for : (wanted : Wanted) (copy : model.Copy) (whole : MessageValue) (old client : ClientState) (result : Result Unit ClientFault) → whole ≡ request_of wanted copy
    → Asks (message_octets whole) old result client → Asks (message_octets (request_of wanted copy)) old result client
asks_for wanted copy whole old client result is asks = subst (λ (w : MessageValue). Asks (message_octets w) old result client) is asks

-- memory ran out before there was a request
pub asks_nothing : (wanted : Wanted) (client : ClientState) (old new : taking.ConsumerState) → client.fault ≡ None → new ≡ old → AsksOrEnds wanted client old.copy (Some NoMemory) client new.copy
asks_nothing wanted client old new live same = (
  record { writes = (refl, refl); left = refl; read = refl; read_faults = refl; kept = refl; fault = live },
  ap (λ (s : taking.ConsumerState). taking.without_search s.copy) same,
)

-- writing a request failed, or memory ran out
pub asks_not : (wanted : Wanted) (old client : ClientState) (copy copy' : model.Copy) (fault : ClientFault) → Asks (message_octets (request_of wanted copy)) old (Err fault) client
    → copy' ≡ searching copy → AsksOrEnds wanted old copy (Some (outcome_by fault)) client copy'
asks_not wanted old client copy copy' fault_of.WriteFault asks asked = (asks, asked)
asks_not wanted old client copy copy' fault_of.NoMemory asks asked = (asks, ap taking.without_search asked)
asks_not wanted old client copy copy' fault_of.ReadFault asks asked = absurd asks.writes
asks_not wanted old client copy copy' (fault_of.PeerMessage place) asks asked = absurd asks.writes
asks_not wanted old client copy copy' fault_of.EndOfInput asks asked = absurd asks.writes
