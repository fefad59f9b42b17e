-- What one round of a client that waits for a message comes to.
use Rattle.std.proofs.Common.{◌≡◌, ◌≢◌, ℕ, List, [], ◌++◌, Some, None, Ok, Err, refl, sym, ap, subst, ◌∙◌}
use Rattle.sync_io.specs.Faults.{CountHasRisen}
use Rattle.std.proofs.lemmas.List.{append-nil}
use Rattle.ldap_messages.specs.Frame.{partial, read_of}
use Rattle.ldap_messages.specs.Whole.{message_value}
use Rattle.ldap_messages.specs.declared.message.Message.{Message}
use Rattle.ldap_client.specs.Clients.{ClientState, Reads, lasting}
use Rattle.ldap_client.specs.Links.{LinkState}
use Rattle.ldap_client.specs.Messages.{BeginsWith, IsWrongAt}
use Rattle.ldap_client.specs.Rounds.{GoesRound, IsReadFault, IsRound, ReadsMore}
use Rattle.ldap_client.specs.declared.fault.ClientFault.{ClientFault}
use Rattle.ldap_client.specs.declared.fault.ClientFault.TheVariants.{ReadFault, WriteFault, PeerMessage, EndOfInput, NoMemory}
use Rattle.ldap_client.proofs.Waiting.{reads_nothing}

-- a message was whole
pub round_message : (old new : ClientState) (message : Message) → new.link ≡ old.link → new.fault ≡ old.fault
    → BeginsWith old.kept (message_value message) new.kept → GoesRound old (Ok (Some message)) new
round_message old new message link fault begins = record {
  bytes = [];
  reads = subst (λ (l : LinkState). Reads old.link [] l) (sym link) (reads_nothing old.link);
  round = (refl, begins);
  faultless = λ _. ap (λ (l : LinkState). l.read_faults) link;
  fault = λ live. fault ∙ live;
}

-- what came is refused
pub round_wrong : (old new : ClientState) (place : ℕ) → new.link ≡ old.link → IsWrongAt old.kept place → new.kept ≡ old.kept → new.fault ≡ Some (PeerMessage place)
    → GoesRound old (Err (PeerMessage place)) new
round_wrong old new place link wrong kept fault = record {
  bytes = [];
  reads = subst (λ (l : LinkState). Reads old.link [] l) (sym link) (reads_nothing old.link);
  round = (refl, wrong, kept);
  faultless = λ _. ap (λ (l : LinkState). l.read_faults) link;
  fault = λ _. fault;
}

-- memory ran out before the read
pub round_memory : (old new : ClientState) → new.link ≡ old.link → new.kept ≡ old.kept → new.fault ≡ old.fault → GoesRound old (Err NoMemory) new
round_memory old new link kept fault = record {
  bytes = [];
  reads = subst (λ (l : LinkState). Reads old.link [] l) (sym link) (reads_nothing old.link);
  round = (refl, kept);
  faultless = λ _. ap (λ (l : LinkState). l.read_faults) link;
  fault = λ live. fault ∙ live;
}

-- no message was whole, and more was read
pub round_read : (old mid new : ClientState) → mid.link ≡ old.link → mid.kept ≡ old.kept → mid.fault ≡ old.fault → read_of old.kept ≡ partial
    → ReadsMore mid (Ok tt) new → GoesRound old (Ok None) new
round_read old mid new link kept fault none r = record {
  bytes = r.bytes;
  reads = subst (λ (l : LinkState). Reads l r.bytes new.link) link r.reads;
  round = (none, r.kept ∙ ap (λ (bytes : List ℕ). bytes ++ r.bytes) kept);
  faultless = λ _. r.faultless (λ is. let wrong : None ≡ Some ReadFault = is in cc) ∙ ap (λ (l : LinkState). l.read_faults) link;
  fault = λ live. r.fault (fault ∙ live);
}

-- no message was whole, and nothing more came
round_by : (old mid new : ClientState) (fault : ClientFault) (bytes : List ℕ) → mid.link ≡ old.link → read_of old.kept ≡ partial → bytes ≡ [] → new.kept ≡ old.kept
    → IsReadFault (Err fault) mid.link new.link → IsRound old.kept bytes old.link (Err fault) new
round_by old mid new EndOfInput bytes link none nothing kept why = (nothing, none, why, kept)
round_by old mid new ReadFault bytes link none nothing kept why =
    (nothing, none, subst (λ (l : LinkState). CountHasRisen l.read_faults new.link.read_faults) link why, kept)
round_by old mid new NoMemory bytes link none nothing kept why = (nothing, kept)
round_by old mid new WriteFault bytes link none nothing kept why = absurd why
round_by old mid new (PeerMessage place) bytes link none nothing kept why = absurd why

-- a read that failed is the fault of the round
pub round_fault : (old mid new : ClientState) (fault : ClientFault) → mid.link ≡ old.link → mid.kept ≡ old.kept → mid.fault ≡ old.fault → read_of old.kept ≡ partial
    → ReadsMore mid (Err fault) new → GoesRound old (Err fault) new
round_fault old mid new fault link kept same none r = record {
  bytes = r.bytes;
  reads = subst (λ (l : LinkState). Reads l r.bytes new.link) link r.reads;
  round = round_by old mid new fault r.bytes link none r.none
      (r.kept ∙ ap (λ (bytes : List ℕ). mid.kept ++ bytes) r.none ∙ append-nil mid.kept ∙ kept) r.why;
  faultless = λ other. r.faultless other ∙ ap (λ (l : LinkState). l.read_faults) link;
  fault = λ live. r.fault (same ∙ live);
}

-- a read that gave nothing more, for which the client answers a fault from now on
pub read_ended : (old mid new : ClientState) (fault : ClientFault) (bytes : List ℕ) → Reads old.link bytes mid.link → bytes ≡ [] → mid.kept ≡ old.kept ++ bytes
    → new.link ≡ mid.link → new.kept ≡ mid.kept → IsReadFault (Err fault) old.link mid.link
    → (lasting fault ≢ Some ReadFault → mid.link.read_faults ≡ old.link.read_faults) → new.fault ≡ Some fault → lasting fault ≡ Some fault
    → ReadsMore old (Err fault) new
read_ended old mid new fault bytes reads none kept link same why faultless answers lasts = record {
  bytes = bytes;
  reads = subst (λ (l : LinkState). Reads old.link bytes l) (sym link) reads;
  kept = same ∙ kept;
  none = none;
  why = subst (λ (l : LinkState). IsReadFault (Err fault) old.link l) (sym link) why;
  faultless = λ other. ap (λ (l : LinkState). l.read_faults) link ∙ faultless other;
  fault = λ _. answers ∙ sym lasts;
}
