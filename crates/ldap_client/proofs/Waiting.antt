-- A client that waits for a message: what it has read meanwhile.
use Rattle.std.proofs.Common.{◌≡◌, ◌≢◌, ◌⊎◌, ℕ, List, [], ◌++◌, Option, Some, None, Result, Ok, Err, inl, inr, refl, sym, ap, subst, ◌∙◌, append_assoc, arith}
use Rattle.std.specs.Io.KnownBytes.{Appends, Consumes}
use Rattle.std.proofs.KnownBytes.{Appends-nil, Appends-trans, Consumes-nil, Consumes-trans}
use Rattle.std.proofs.lemmas.List.{append-nil}
use Rattle.ldap_messages.specs.Frame.{partial, read_of}
use Rattle.ldap_messages.specs.Whole.{message_value}
use Rattle.ldap_messages.specs.declared.message.Message.{Message}
use Rattle.ldap_session.proofs.Streams.{incoming_none}
use Rattle.sync_io.proofs.Sides.{rose_later}
use Rattle.ldap_client.specs.Clients.{ClientState, GivesNext, IsNext, Reads, fault_after}
use Rattle.ldap_client.specs.Links.{LinkState}
use Rattle.ldap_client.specs.Messages.{BeginsWith, HasNoMessage, IsWrongAt}
use Rattle.ldap_client.specs.Rounds.{GoesRound, IsRound}
use Rattle.ldap_client.specs.declared.fault.ClientFault.{ClientFault}
use Rattle.ldap_client.specs.declared.fault.ClientFault.TheVariants.{ReadFault, WriteFault, PeerMessage, EndOfInput, NoMemory}
use Rattle.ldap_client.proofs.Messages.{none_before}

-- no fault is answered where none is matched
pub none_by : (fault : Option ClientFault) → ((f : ClientFault) → fault ≡ Some f → ⊥) → fault ≡ None
none_by None none = refl
none_by (Some f) none = absurd (none f refl)

-- what is not there is not this fault
pub never : (fault : Option ClientFault) (f : ClientFault) → fault ≡ None → fault ≡ Some f → ⊥
never fault f none some = let wrong : None ≡ Some f = sym none ∙ some in cc

-- a fault is one fault
pub same_fault : (fault : Option ClientFault) (one other : ClientFault) → fault ≡ Some one → fault ≡ Some other → one ≡ other
same_fault fault one other is also = let both : Some one ≡ Some other = sym is ∙ also in cc

-- ---- reads

-- at first nothing is read
pub reads_nothing : (link : LinkState) → Reads link [] link
reads_nothing link = record {
  taken = Consumes-nil link.left;
  read = Appends-nil link.read;
  later = omega arith;
  held = refl;
  write_faults = refl;
}

-- what is read after other bytes is read together with them
pub reads_then : (first between last : LinkState) (xs ys : List ℕ) → Reads first xs between → Reads between ys last → Reads first (xs ++ ys) last
reads_then first between last xs ys one other = record {
  taken = Consumes-trans first.left between.left last.left xs ys one.taken other.taken;
  read = Appends-trans first.read between.read last.read xs ys one.read other.read;
  later = omega (arith, one.later, other.later);
  held = other.held ∙ one.held;
  write_faults = other.write_faults ∙ one.write_faults;
}

-- a read that gave nothing
reads_no_more : (first between last : LinkState) (xs ys : List ℕ) → Reads first xs between → Reads between ys last → ys ≡ [] → Reads first xs last
reads_no_more first between last xs ys one other none =
    subst (λ (bytes : List ℕ). Reads first bytes last) (ap (λ (more : List ℕ). xs ++ more) none ∙ append-nil xs) (reads_then first between last xs ys one other)

-- ---- rounds

-- since a client was so, these bytes were read, and no message is whole with them
pub record Waiting (first now : ClientState) : Type 0 where
  pub bytes : List ℕ
  pub reads : Reads first.link bytes now.link
  pub needed : HasNoMessage first.kept ⊎ (bytes ≡ [])
  pub kept : now.kept ≡ first.kept ++ bytes
  pub faultless : now.link.read_faults ≡ first.link.read_faults
  pub fault : now.fault ≡ None

-- at first nothing has come
pub waiting_none : (first : ClientState) → first.fault ≡ None → Waiting first first
waiting_none first live = record {
  bytes = [];
  reads = reads_nothing first.link;
  needed = inr refl;
  kept = sym (append-nil first.kept);
  faultless = refl;
  fault = live;
}

-- one round more
pub waiting_on : (first mid now : ClientState) → Waiting first mid → GoesRound mid (Ok None) now → Waiting first now
waiting_on first mid now so_far r = record {
  bytes = so_far.bytes ++ r.bytes;
  reads = reads_then first.link mid.link now.link so_far.bytes r.bytes so_far.reads r.reads;
  needed = inl (none_before first.kept so_far.bytes (subst (λ (kept : List ℕ). read_of kept ≡ partial) so_far.kept r.round.0));
  kept = r.round.1 ∙ ap (λ (kept : List ℕ). kept ++ r.bytes) so_far.kept ∙ append_assoc first.kept so_far.bytes r.bytes;
  faultless = r.faultless (λ is. let wrong : None ≡ Some ReadFault = is in cc) ∙ so_far.faultless;
  fault = r.fault so_far.fault;
}

-- what is no fault of a read is answered as none from now on
no_read_fault : (result : Result Message ClientFault) → result ≢ Err ReadFault → fault_after result ≢ Some ReadFault
no_read_fault (Ok message) other is = let wrong : None ≡ Some ReadFault = is in cc
no_read_fault (Err ReadFault) other is = other refl
no_read_fault (Err WriteFault) other is = let wrong : Some WriteFault ≡ Some ReadFault = is in cc
no_read_fault (Err (PeerMessage place)) other is = let wrong : Some (PeerMessage place) ≡ Some ReadFault = is in cc
no_read_fault (Err EndOfInput) other is = let wrong : Some EndOfInput ≡ Some ReadFault = is in cc
no_read_fault (Err NoMemory) other is = let wrong : None ≡ Some ReadFault = is in cc

-- the round that ends the waiting
pub waited : (first mid now : ClientState) (result : Result Message ClientFault) (bytes : List ℕ) → (so_far : Waiting first mid) → Reads mid.link bytes now.link → bytes ≡ []
    → IsNext (first.kept ++ so_far.bytes) first.link result now → (fault_after result ≢ Some ReadFault → now.link.read_faults ≡ mid.link.read_faults)
    → (mid.fault ≡ None → now.fault ≡ fault_after result) → GivesNext first result now
waited first mid now result bytes so_far reads none next faultless fault = record {
  bytes = so_far.bytes;
  reads = reads_no_more first.link mid.link now.link so_far.bytes bytes so_far.reads reads none;
  needed = so_far.needed;
  faultless = λ other. faultless (no_read_fault result other) ∙ so_far.faultless;
  next = next;
  fault = fault so_far.fault;
}

-- a message came
pub gave_message : (first mid now : ClientState) (message : Message) → Waiting first mid → GoesRound mid (Ok (Some message)) now → GivesNext first (Ok message) now
gave_message first mid now message so_far r =
    waited first mid now (Ok message) r.bytes so_far r.reads r.round.0
    (subst (λ (kept : List ℕ). BeginsWith kept (message_value message) now.kept) so_far.kept r.round.1)
    r.faultless
    r.fault

-- nothing more came
next_of : (first mid now : ClientState) (fault : ClientFault) (so_far : Waiting first mid) (bytes : List ℕ) → IsRound mid.kept bytes mid.link (Err fault) now
    → IsNext (first.kept ++ so_far.bytes) first.link (Err fault) now × (bytes ≡ [])
next_of first mid now (PeerMessage place) so_far bytes r =
    ((subst (λ (kept : List ℕ). IsWrongAt kept place) so_far.kept r.1, r.2 ∙ so_far.kept), r.0)
next_of first mid now EndOfInput so_far bytes r =
    ((incoming_none _ (subst (λ (kept : List ℕ). read_of kept ≡ partial) so_far.kept r.1), r.2, r.3 ∙ so_far.kept), r.0)
next_of first mid now ReadFault so_far bytes r =
    ((incoming_none _ (subst (λ (kept : List ℕ). read_of kept ≡ partial) so_far.kept r.1), rose_later first.link.read_faults mid.link.read_faults now.link.read_faults so_far.reads.later r.2, r.3 ∙ so_far.kept), r.0)
next_of first mid now NoMemory so_far bytes r = (r.1 ∙ so_far.kept, r.0)
next_of first mid now WriteFault so_far bytes r = absurd r

-- a fault of a round is the client's
pub gave_fault : (first mid now : ClientState) (fault : ClientFault) → Waiting first mid → GoesRound mid (Err fault) now → GivesNext first (Err fault) now
gave_fault first mid now fault so_far r =
    let next = next_of first mid now fault so_far r.bytes r.round in
    waited first mid now (Err fault) r.bytes so_far r.reads next.1 next.0 r.faultless r.fault
