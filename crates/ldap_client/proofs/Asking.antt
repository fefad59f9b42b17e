-- A message that a client writes.
use Rattle.std.proofs.Common.{◌≡◌, ℕ, List, Some, None, Ok, Err, refl, ◌∙◌}
use Rattle.std.specs.Io.KnownBytes.{Appends}
use Rattle.sync_io.specs.Faults.{CountHasRisen}
use Rattle.sync_io.specs.Sink.{AppendsPrefix}
use Rattle.ldap_client.specs.Clients.{Asks, ClientState}
use Rattle.ldap_client.specs.Links.{LinkState}
use Rattle.ldap_client.specs.declared.fault.ClientFault.TheVariants.{WriteFault, NoMemory}

-- what came in and was read is as before
pub record ReadsNone (old new : LinkState) : Type 0 where
  pub left : new.left ≡ old.left
  pub read : new.read ≡ old.read
  pub read_faults : new.read_faults ≡ old.read_faults

-- all was written
pub asked_whole : (octets : List ℕ) (old new : ClientState) → old.fault ≡ None → Appends old.link.held new.link.held octets → new.link.write_faults ≡ old.link.write_faults
    → ReadsNone old.link new.link → new.kept ≡ old.kept → new.fault ≡ old.fault → Asks octets old (Ok tt) new
asked_whole octets old new live appends sound none kept fault = record {
  writes = (appends, sound);
  left = none.left;
  read = none.read;
  read_faults = none.read_faults;
  kept = kept;
  fault = fault ∙ live;
}

-- a write failed
pub asked_failed : (octets : List ℕ) (old new : ClientState) → AppendsPrefix old.link.held new.link.held octets → CountHasRisen old.link.write_faults new.link.write_faults
    → ReadsNone old.link new.link → new.kept ≡ old.kept → new.fault ≡ Some WriteFault → Asks octets old (Err WriteFault) new
asked_failed octets old new prefix rose none kept fault = record {
  writes = (prefix, rose);
  left = none.left;
  read = none.read;
  read_faults = none.read_faults;
  kept = kept;
  fault = fault;
}

-- memory ran out before
pub asked_nothing : (octets : List ℕ) (old : ClientState) → old.fault ≡ None → Asks octets old (Err NoMemory) old
asked_nothing octets old live = record {
  writes = (refl, refl);
  left = refl;
  read = refl;
  read_faults = refl;
  kept = refl;
  fault = live;
}
