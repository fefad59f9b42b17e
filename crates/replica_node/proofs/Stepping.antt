-- One message more that a replica takes.
use Rattle.std.proofs.Common.{◌≡◌, ◌+◌, List, [], ◌∷◌, ◌++◌, Option, Some, None, Ok, inl, inr, refl, sym, ap, subst, ◌∙◌, arith}
use Rattle.std.specs.Io.KnownBytes.{Appends}
use Rattle.std.specs.Prelude.{ℤ}
use Rattle.ldap_client.proofs.Given.{given_next}
use Rattle.ldap_client.specs.Clients.{ClientState, GivesNext, HasGiven}
use Rattle.ldap_messages.specs.Whole.{MessageValue, message_octets, message_value}
use Rattle.ldap_messages.specs.declared.message.Message.{Message}
use Rattle.sync_consumer.specs.Committing.{IsCommit}
use Rattle.sync_consumer.specs.Taking as taking
use Rattle.sync_consumer.specs.declared.commit.Commit.{Commit}
use Rattle.sync_consumer.specs.declared.consumer.Taken.TheVariants as taken
use Rattle.sync_consumer.specs.declared.fault.PeerFault.{PeerFault}
use Rattle.sync_model.specs.Copy as model
use Rattle.sync_provider.specs.Ports.{PortState}
use Rattle.replica_node.specs.Following.{CommitsOrEnds, EndsWith, ReplicaState, TakesNext, TakesOn, TakesOrEnds, round_at}
use Rattle.replica_node.specs.Rounds.{EndedWith, Faulted, TakesEffect, Uncommitted, request_of, searching, wanted_by}
use Rattle.replica_node.specs.Steps.{ReplicaStep, TakesAll, TakesOne, commit_count, commits_in, messages_of}
use Rattle.replica_node.specs.declared.end.RoundOutcome.{RoundOutcome}
use Rattle.replica_node.specs.declared.end.RoundOutcome.TheVariants.{Over}

-- what is wanted stays where its parts do
pub same_wanted : (old new : taking.ConsumerState) → new.spec ≡ old.spec → new.reload ≡ old.reload → wanted_by new ≡ wanted_by old
same_wanted old new spec reload = λ i. record { spec = spec i; reload = reload i }

-- ---- a message, and its commit

ends_uncommitted : (old : ReplicaState) (message : Message) (commit : Commit) (outcome : RoundOutcome) (new : ReplicaState) → TakesEffect old.copy message new.copy commit
    → CommitsOrEnds old.port old.stored commit (Some outcome) new.port new.stored → EndsWith old message outcome new
ends_uncommitted old message commit outcome new effect commits = record {
  end = Uncommitted message commit commits.0;
  last = refl;
  ends = (effect, commits.1);
  outcome_is = commits.2;
  counted = commits.3;
}

-- with a cookie
pub stored_takes : (old : ReplicaState) (message : Message) (commit : Commit) (result : Option RoundOutcome) (new : ReplicaState)
    → taking.Takes old.copy message new.copy (taken.Stored commit) → IsCommit old.copy.held new.copy.held commit
    → CommitsOrEnds old.port old.stored commit result new.port new.stored → TakesOrEnds old message result new
stored_takes old message commit None new takes committed commits = record {
  taken = taken.Stored commit;
  takes = record { takes = takes; committed = committed; goes = (commits.0, commits.1) };
  counted = commits.2;
}
stored_takes old message commit (Some outcome) new takes committed commits =
    inl (ends_uncommitted old message commit outcome new (record { takes = inl takes; committed = committed }) commits)

-- without one
pub copied_takes : (old : ReplicaState) (message : Message) (commit : Commit) (result : Option RoundOutcome) (new : ReplicaState)
    → taking.Takes old.copy message new.copy (taken.Copied commit) → IsCommit old.copy.held new.copy.held commit
    → CommitsOrEnds old.port old.stored commit result new.port new.stored → TakesOrEnds old message result new
copied_takes old message commit None new takes committed commits = record {
  taken = taken.Copied commit;
  takes = record { takes = takes; committed = committed; goes = (commits.0, commits.1) };
  counted = commits.2;
}
copied_takes old message commit (Some outcome) new takes committed commits =
    inl (ends_uncommitted old message commit outcome new (record { takes = inr takes; committed = committed }) commits)

-- the provider ended the search
pub over_ends : (old new : ReplicaState) (message : Message) (code : ℤ) → taking.Takes old.copy message new.copy (taken.Over code) → new.port ≡ old.port → new.stored ≡ old.stored
    → EndsWith old message Over new
over_ends old new message code takes port stored = record {
  end = EndedWith message code;
  last = refl;
  ends = (takes, port);
  outcome_is = refl;
  counted = stored;
}

-- the message is refused
pub fault_ends : (old new : ReplicaState) (message : Message) (found : PeerFault) → taking.Takes old.copy message new.copy (taken.Fault found) → new.port ≡ old.port → new.stored ≡ old.stored
    → EndsWith old message Over new
fault_ends old new message found takes port stored = record {
  end = Faulted message found;
  last = refl;
  ends = (takes, port);
  outcome_is = refl;
  counted = stored;
}

-- ---- the messages that were taken

-- one more after the others
pub takes_more : (copy mid : model.Copy) (port mid_port : PortState) (steps : List ReplicaStep) (step : ReplicaStep) → TakesAll copy port steps mid mid_port → TakesOne mid mid_port step
    → TakesAll copy port (steps ++ step ∷ []) step.copy step.port
takes_more copy mid port mid_port [] step is takes =
    (subst (λ (c : model.Copy). TakesOne c port step) is.0 (subst (λ (p : PortState). TakesOne mid p step) is.1 takes), (refl, refl))
takes_more copy mid port mid_port (first ∷ more) step all takes = (all.0, takes_more first.copy mid first.port mid_port more step all.1 takes)

-- it is the last of their messages
pub messages_more : (steps : List ReplicaStep) (step : ReplicaStep) → messages_of (steps ++ step ∷ []) ≡ messages_of steps ++ message_value step.message ∷ []
messages_more [] step = refl
messages_more (first ∷ more) step = ap (λ (values : List MessageValue). message_value first.message ∷ values) (messages_more more step)

-- its commit is one more
pub commits_more : (steps : List ReplicaStep) (step : ReplicaStep) → commit_count (steps ++ step ∷ []) ≡ commit_count steps + commits_in step.taken
commits_more [] step = omega arith
commits_more (first ∷ more) step = omega (arith, commits_more more step)

-- the round goes on
pub follows_on : (client client' : ClientState) (old new : ReplicaState) (message : Message) → GivesNext client (Ok message) client' → TakesOn old message new
    → TakesNext (round_at client old) None (round_at client' new)
follows_on client client' old new message gives takes start steps so_far =
    let step : ReplicaStep = record { message = message; taken = takes.taken; copy = new.copy; port = new.port } in
    let more : commit_count (steps ++ step ∷ []) ≡ commit_count steps + commits_in takes.taken = commits_more steps step in (
      step,
      record {
        given = subst (λ (values : List MessageValue). HasGiven start.link values client') (sym (messages_more steps step))
            (given_next start.link (messages_of steps) client client' message so_far.given gives);
        live = gives.fault;
        written = subst (λ held. Appends start.link.held held (message_octets (request_of start.wanted start.replica.copy))) (sym gives.reads.held) so_far.written;
        writes = gives.reads.write_faults ∙ so_far.writes;
        takes = takes_more (searching start.replica.copy) old.copy start.replica.port old.port steps step so_far.takes takes.takes;
        counted = omega (arith, takes.counted, so_far.counted, more);
      },
    )
