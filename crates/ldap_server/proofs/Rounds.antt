-- One round of serving a link.
use Rattle.std.proofs.Common.{◌≡◌, ℕ, Bool, List, Option, Some, None, sym, subst}
use Rattle.std.specs.Io.KnownBytes.{Appends}
use Rattle.sync_io.specs.Sides.{SinkSide, SourceSide}
use Rattle.sync_io.specs.Sink.{AppendsPrefix}
use Rattle.ldap_session.specs.declared.ended.Ended.{Ended}
use Rattle.ldap_session.specs.declared.ended.Ended.TheVariants.{ReadFault, WriteFault}
use Rattle.ldap_server.specs.Serving.{LinkBytes, Serves, Takes}
use Rattle.ldap_server.specs.Session.{Connected}
use Rattle.ldap_server.specs.declared.connection.Out.{Out}
use Rattle.ldap_server.proofs.Linking.{Linked, linked_one, serves_ended, serves_unread, serves_unwritten}
use Rattle.sync_io.proofs.Sides.{sink_same, source_same}

module _ {L : Type 0}
    (left read held : L → Option (List ℕ)) (waits : L → Bool) (read_faults write_faults : L → ℕ) (source_side : L → Option SourceSide) (sink_side : L → Option SinkSide)
    (sinks : (l : L) → sink_side l ≡ Some (record { held = held l; faults = write_faults l }))
    (sources : (l : L) → source_side l ≡ Some (record { left = left l; read = read l; waits = waits l; faults = read_faults l })) where
  abbrev pub bytes_of : L → LinkBytes
  bytes_of l = record { left = left l; read = read l; held = held l }

  -- a read and a whole write
  pub round : (old mid new : Connected) (first before between after : L) (out : Out)
      → Linked old (bytes_of first) mid (bytes_of before) → (old.ended ≡ None → mid.ended ≡ None)
      → Takes mid (left before) (read before) (left between) (read between) (Some out) new → sink_side between ≡ sink_side before
      → source_side after ≡ source_side between → Appends (held between) (held after) out.bytes
      → Linked old (bytes_of first) new (bytes_of after)
  round old mid new first before between after out l live t apart kept written =
      let sink = sink_same sink_side held write_faults before between sinks apart in
      let source = source_same source_side left read waits read_faults between after sources kept in
      let took : Takes mid (left before) (read before) (left after) (read after) (Some out) new =
      subst (λ r. Takes mid (left before) (read before) (left after) r (Some out) new) (sym source.read_is)
      (subst (λ x. Takes mid (left before) (read before) x (read between) (Some out) new) (sym source.left_is) t) in
      linked_one old mid new (bytes_of first) (bytes_of before) (bytes_of after) out l live took
      (subst (λ h. Appends h (held after) out.bytes) sink.0 written)

  -- a read and a whole write, after which the session is over
  pub over : (old mid new : Connected) (first before between after : L) (out : Out) (how : Ended)
      → Linked old (bytes_of first) mid (bytes_of before) → (old.ended ≡ None → mid.ended ≡ None)
      → Takes mid (left before) (read before) (left between) (read between) (Some out) new → sink_side between ≡ sink_side before
      → source_side after ≡ source_side between → Appends (held between) (held after) out.bytes → new.ended ≡ Some how
      → Serves old (bytes_of first) how new (bytes_of after)
  over old mid new first before between after out how l live t apart kept written is =
      let sink = sink_same sink_side held write_faults before between sinks apart in
      let source = source_same source_side left read waits read_faults between after sources kept in
      let took : Takes mid (left before) (read before) (left after) (read after) (Some out) new =
      subst (λ r. Takes mid (left before) (read before) (left after) r (Some out) new) (sym source.read_is)
      (subst (λ x. Takes mid (left before) (read before) x (read between) (Some out) new) (sym source.left_is) t) in
      serves_ended old mid new (bytes_of first) (bytes_of before) (bytes_of after) out how l live took
      (subst (λ h. Appends h (held after) out.bytes) sink.0 written) is

  -- a read that failed
  pub unread : (old mid now : Connected) (first before after : L)
      → Linked old (bytes_of first) mid (bytes_of before) → (old.ended ≡ None → mid.ended ≡ None)
      → Takes mid (left before) (read before) (left after) (read after) None now → sink_side after ≡ sink_side before
      → Serves old (bytes_of first) ReadFault now (bytes_of after)
  unread old mid now first before after l live t apart =
      serves_unread old mid now (bytes_of first) (bytes_of before) (bytes_of after) l live t (sink_same sink_side held write_faults before after sinks apart).0

  -- a read, and a write that failed
  pub unwritten : (old mid new : Connected) (first before between after : L) (out : Out)
      → Linked old (bytes_of first) mid (bytes_of before) → (old.ended ≡ None → mid.ended ≡ None)
      → Takes mid (left before) (read before) (left between) (read between) (Some out) new → sink_side between ≡ sink_side before
      → source_side after ≡ source_side between → AppendsPrefix (held between) (held after) out.bytes
      → Serves old (bytes_of first) WriteFault new (bytes_of after)
  unwritten old mid new first before between after out l live t apart kept written =
      let sink = sink_same sink_side held write_faults before between sinks apart in
      let source = source_same source_side left read waits read_faults between after sources kept in
      let took : Takes mid (left before) (read before) (left after) (read after) (Some out) new =
      subst (λ r. Takes mid (left before) (read before) (left after) r (Some out) new) (sym source.read_is)
      (subst (λ x. Takes mid (left before) (read before) x (read between) (Some out) new) (sym source.left_is) t) in
      serves_unwritten old mid new (bytes_of first) (bytes_of before) (bytes_of after) out l live took
      (subst (λ h. AppendsPrefix h (held after) out.bytes) sink.0 written)
