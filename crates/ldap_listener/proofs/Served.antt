-- A connection that was served, as its link reports it.
use Rattle.std.proofs.Common.{◌≡◌, ◌≢◌, inl, inr, false, ℕ, List, [], ◌++◌, Option, Some, None, refl, sym, ap, subst}
use Rattle.std.specs.List.{flat_map}
use Rattle.std.specs.Io.KnownBytes.{Appends}
use Rattle.std.proofs.lemmas.List.{append-nil}
use Rattle.sync_io.proofs.Sides.{rose_from}
use Rattle.sync_io.specs.Faults.{CountHasRisen}
use Rattle.sync_io.specs.Sink.{AppendsPrefix}
use Rattle.sync_provider.specs.Ports.{PortState}
use Rattle.ldap_session.specs.declared.access.Access.{Access}
use Rattle.ldap_session.specs.declared.ended.Ended.{Ended}
use Rattle.ldap_session.specs.declared.ended.Ended.TheVariants.{EndOfInput, NoMemory, ProtocolFault, ReadFault, Unbound, WriteFault}
use Rattle.ldap_server.specs.Serving.{LinkBytes, Serves, brought_by}
use Rattle.ldap_server.specs.Session.{Connected, fresh}
use Rattle.ldap_server.specs.Table.{DropsAll}
use Rattle.ldap_listener.specs.Sessions.{HasServed, LinkView, ServedSession}

-- what was written of what a session sent
record IsWritten (held now : Option (List ℕ)) (ended : Ended) (sent : List ℕ) : Type 0 where
  written : List ℕ
  rest : List ℕ
  sent_is : sent ≡ written ++ rest
  whole : ended ≢ WriteFault → rest ≡ []
  appended : Appends held now written

all_written : (held now : Option (List ℕ)) (ended : Ended) (sent : List ℕ) → Appends held now sent → IsWritten held now ended sent
all_written held now ended sent appended = record { written = sent; rest = []; sent_is = sym (append-nil sent); whole = λ _. refl; appended = appended }

written_by : (held now : Option (List ℕ)) (ended : Ended) (sent : List ℕ) → AppendsPrefix held now sent → (ended ≢ WriteFault → Appends held now sent) → IsWritten held now ended sent
written_by held now WriteFault sent prefix whole = record {
  written = prefix.0;
  rest = prefix.1;
  sent_is = prefix.2;
  whole = λ other. absurd (other refl);
  appended = prefix.3;
}
written_by held now Unbound sent prefix whole = all_written held now Unbound sent (whole (λ e. cc))
written_by held now EndOfInput sent prefix whole = all_written held now EndOfInput sent (whole (λ e. cc))
written_by held now (ProtocolFault place) sent prefix whole = all_written held now (ProtocolFault place) sent (whole (λ e. cc))
written_by held now ReadFault sent prefix whole = all_written held now ReadFault sent (whole (λ e. cc))
written_by held now NoMemory sent prefix whole = all_written held now NoMemory sent (whole (λ e. cc))

-- what was appended to nothing is all
from_nothing : (old new : Option (List ℕ)) (bytes : List ℕ) → old ≡ Some [] → Appends old new bytes → new ≡ Some bytes
from_nothing old new bytes is appended = step new (subst (λ o. Appends o new bytes) is appended)
  where
    step : (n : Option (List ℕ)) → Appends (Some []) n bytes → n ≡ Some bytes
    step None h = absurd h
    step (Some xs) h = ap (λ (ys : List ℕ). Some ys) h

module _ {L : Type 0} (v : LinkView L) (access : Access) where
  abbrev bytes_of : L → LinkBytes
  bytes_of l = record { left = v.left l; read = v.read l; held = v.held l }

  -- a session from its beginning on
  pub served_by : (before after : PortState) (old new : L) (left : Connected) (ended : Ended)
      → Serves (fresh before access) (bytes_of old) ended left (bytes_of new) → DropsAll left.session.searches left.port after
      → (ended ≡ ReadFault → CountHasRisen (v.read_faults old) (v.read_faults new)) → (ended ≡ WriteFault → CountHasRisen (v.write_faults old) (v.write_faults new))
      → HasServed v access before old after new
  served_by before after old new left ended s drops unread unwritten =
      let w = written_by (v.held old) (v.held new) ended s.sent s.prefix s.whole in
      let session : ServedSession = record { before = before; events = s.events; sent = s.sent; written = w.written; ended = ended; after = after } in (
        session,
        record {
          before_is = refl;
          after_is = refl;
          session = record { left = left; runs = s.runs; drops = drops; unwritten = w.rest; sent_is = w.sent_is; whole = w.whole; end = s.end; prompt = inr (s.prompt refl) };
          reported = λ f. record {
            read_all = from_nothing (v.read old) (v.read new) (flat_map brought_by s.events) f.unused.unread s.read;
            held_all = from_nothing (v.held old) (v.held new) w.written f.unused.unwritten w.appended;
            at_end = λ end. s.at_end refl end;
            read_failed = λ end. rose_from (v.read_faults old) (v.read_faults new) f.sound.reads (unread end);
            write_failed = λ end. rose_from (v.write_faults old) (v.write_faults new) f.sound.writes (unwritten end);
          };
        },
      )

  -- there was no memory to begin one
  pub unserved : (port : PortState) (link : L) → HasServed v access port link port link
  unserved port link =
      let session : ServedSession = record { before = port; events = []; sent = []; written = []; ended = NoMemory; after = port } in
      let left : Connected = record { port = port; access = access; session = record { bound = false; searches = [] }; kept = []; ended = Some NoMemory } in (
        session,
        record {
          before_is = refl;
          after_is = refl;
          session = record {
            left = left;
            runs = record {
              access_is = refl;
              live = λ _ other. absurd (other refl);
              end = λ _ other. absurd (other refl);
              halts = λ _ _. record { done = []; later = []; acts_are = refl; between = record { port = port; session = record { bound = false; searches = [] }; sent = [] }; does = refl; asked = []; exchanged = refl; sent_is = refl };
            };
            drops = record { asked = []; drops = refl; exchanged = refl };
            unwritten = [];
            sent_is = refl;
            whole = λ _. refl;
            end = λ _ _. refl;
            prompt = inl refl;
          };
          reported = λ f. record {
            read_all = f.unused.unread;
            held_all = f.unused.unwritten;
            at_end = λ end. absurd (let wrong : NoMemory ≡ EndOfInput = end in cc);
            read_failed = λ end. absurd (let wrong : NoMemory ≡ ReadFault = end in cc);
            write_failed = λ end. absurd (let wrong : NoMemory ≡ WriteFault = end in cc);
          };
        },
      )
