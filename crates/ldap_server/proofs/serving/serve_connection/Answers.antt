use Rattle.std.proofs.Common.{Some, ap, arith, refl, sym, ◌∙◌}
use Rattle.ldap_server.proofs.Events.{none_by, not_read_fault, not_write_fault}
use Rattle.sync_io.proofs.Sides.{rose_later, sink_same, source_same}
use Rattle.ldap_server.proofs.Linking.{linked_none}
use Rattle.ldap_server.proofs.Rounds.{over, round, unread, unwritten}
use Rattle.ldap_server.proofs.serving.serve_connection.Goals as goal

pub loop-init : goal.loop-init
loop-init g c = record { home = refl; linked = linked_none _ _; live = λ h. h; read_later = omega arith; write_later = omega arith }

pub returns-in_default-clause-home : goal.returns-in_default-clause-home
returns-in_default-clause-home g c = c.take_next-next.ensures.home ∙ c.loop.invariant.home

pub returns-in_default-clause-serves : goal.returns-in_default-clause-serves
returns-in_default-clause-serves g c =
    let link = g.met.L.Link g.world.𝓛 g.world.𝓜 g.world.𝓡 ((λ s x. x), (λ x. x), (λ x. x), λ x. x) in
    unread g.L.Source.bytes_left g.L.Source.bytes_read g.L.Sink.bytes_held g.L.Source.waits g.L.Source.read_fault_count g.L.Sink.write_fault_count g.L.Sink.source_side g.L.Source.sink_side
    link.reads_apart link.writes_apart _ _ _ _ _ _ c.loop.invariant.linked c.loop.invariant.live (rw c.in_default.is at c.take_next-next.ensures.takes) c.take_next-next.ensures.apart

pub returns-in_default-clause-read_failed : goal.returns-in_default-clause-read_failed
returns-in_default-clause-read_failed g c = λ live fault. rose_later _ _ _ c.loop.invariant.read_later (rw c.in_default.is at c.take_next-next.ensures.failed refl)

pub returns-then-not-write_whole-clause-home : goal.returns-then-not-write_whole-clause-home
returns-then-not-write_whole-clause-home g c = c.take_next-next.ensures.home ∙ c.loop.invariant.home

pub returns-then-not-write_whole-clause-serves : goal.returns-then-not-write_whole-clause-serves
returns-then-not-write_whole-clause-serves g c =
    let link = g.met.L.Link g.world.𝓛 g.world.𝓜 g.world.𝓡 ((λ s x. x), (λ x. x), (λ x. x), λ x. x) in
    unwritten g.L.Source.bytes_left g.L.Source.bytes_read g.L.Sink.bytes_held g.L.Source.waits g.L.Source.read_fault_count g.L.Sink.write_fault_count g.L.Sink.source_side g.L.Source.sink_side
    link.reads_apart link.writes_apart _ _ _ _ _ _ _ c.in-Some-next.out c.loop.invariant.linked c.loop.invariant.live (rw c.in-Some-next.is at c.take_next-next.ensures.takes) c.take_next-next.ensures.apart
    c.write_whole.ensures.apart (rw c.as_slice.ensures at c.write_whole.ensures.prefix)

pub returns-then-not-write_whole-clause-write_failed : goal.returns-then-not-write_whole-clause-write_failed
returns-then-not-write_whole-clause-write_failed g c = λ live fault.
    let link = g.met.L.Link g.world.𝓛 g.world.𝓜 g.world.𝓡 ((λ s x. x), (λ x. x), (λ x. x), λ x. x) in
    let sink = sink_same g.L.Source.sink_side g.L.Sink.bytes_held g.L.Sink.write_fault_count c.loop.link c.take_next-next.new.source link.reads_apart c.take_next-next.ensures.apart in
    rose_later _ _ _ c.loop.invariant.write_later (rw sink.1 at c.if-not-write_whole.ensures.failed)

pub returns-in-Some-ended-clause-home : goal.returns-in-Some-ended-clause-home
returns-in-Some-ended-clause-home g c = c.take_next-next.ensures.home ∙ c.loop.invariant.home

pub returns-in-Some-ended-clause-serves : goal.returns-in-Some-ended-clause-serves
returns-in-Some-ended-clause-serves g c =
    let link = g.met.L.Link g.world.𝓛 g.world.𝓜 g.world.𝓡 ((λ s x. x), (λ x. x), (λ x. x), λ x. x) in
    let takes = rw c.in-Some-next.is at c.take_next-next.ensures.takes in
    over g.L.Source.bytes_left g.L.Source.bytes_read g.L.Sink.bytes_held g.L.Source.waits g.L.Source.read_fault_count g.L.Sink.write_fault_count g.L.Sink.source_side g.L.Source.sink_side
    link.reads_apart link.writes_apart _ _ _ _ _ _ _ c.in-Some-next.out c.in-Some-ended.ended c.loop.invariant.linked c.loop.invariant.live takes c.take_next-next.ensures.apart
    c.write_whole.ensures.apart (rw c.as_slice.ensures at c.if-not-write_whole.ensures.whole) (sym takes.1.ended_is ∙ c.in-Some-ended.is)

-- a session that has not ended is not ended by a fault

pub returns-in-Some-ended-clause-read_failed : goal.returns-in-Some-ended-clause-read_failed
returns-in-Some-ended-clause-read_failed g c = λ live fault.
    let takes = rw c.in-Some-next.is at c.take_next-next.ensures.takes in
    absurd (not_read_fault _ _ _ _ _ (c.loop.invariant.live live) takes.1 (c.in-Some-ended.is ∙ ap (λ e. Some e) fault))

pub returns-in-Some-ended-clause-write_failed : goal.returns-in-Some-ended-clause-write_failed
returns-in-Some-ended-clause-write_failed g c = λ live fault.
    let takes = rw c.in-Some-next.is at c.take_next-next.ensures.takes in
    absurd (not_write_fault _ _ _ _ _ (c.loop.invariant.live live) takes.1 (c.in-Some-ended.is ∙ ap (λ e. Some e) fault))

pub loop-preserved : goal.loop-preserved
loop-preserved g c =
    let link = g.met.L.Link g.world.𝓛 g.world.𝓜 g.world.𝓡 ((λ s x. x), (λ x. x), (λ x. x), λ x. x) in
    let sink = sink_same g.L.Source.sink_side g.L.Sink.bytes_held g.L.Sink.write_fault_count c.loop.link c.take_next-next.new.source link.reads_apart c.take_next-next.ensures.apart in
    let source = source_same g.L.Sink.source_side g.L.Source.bytes_left g.L.Source.bytes_read g.L.Source.waits g.L.Source.read_fault_count c.take_next-next.new.source c.write_whole.new.sink link.writes_apart c.write_whole.ensures.apart in
    let takes = rw c.in-Some-next.is at c.take_next-next.ensures.takes in
    record {
      home = c.take_next-next.ensures.home ∙ c.loop.invariant.home;
      linked =
          round g.L.Source.bytes_left g.L.Source.bytes_read g.L.Sink.bytes_held g.L.Source.waits g.L.Source.read_fault_count g.L.Sink.write_fault_count g.L.Sink.source_side g.L.Source.sink_side
          link.reads_apart link.writes_apart _ _ _ _ _ _ _ c.in-Some-next.out c.loop.invariant.linked c.loop.invariant.live takes c.take_next-next.ensures.apart
          c.write_whole.ensures.apart (rw c.as_slice.ensures at c.if-not-write_whole.ensures.whole);
      live = λ _. sym takes.1.ended_is ∙ none_by _ c.in_default-ended.not-Some;
      read_later = omega (arith, c.loop.invariant.read_later, c.take_next-next.ensures.later, source.faults_is);
      write_later = omega (arith, c.loop.invariant.write_later, sink.1, c.write_whole.ensures.later);
    }
