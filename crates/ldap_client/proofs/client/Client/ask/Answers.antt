use Rattle.std.proofs.Common.{Err, refl, ap}
use Rattle.ldap_client.proofs.Asking.{ReadsNone, asked_failed, asked_nothing, asked_whole}
use Rattle.sync_io.proofs.Sides.{source_same}
use Rattle.ldap_client.proofs.Waiting.{never, same_fault}
use Rattle.ldap_client.proofs.client.Client.ask.Goals as goal

-- a fault is answered again

pub returns-in-Some-clause-again : goal.returns-in-Some-clause-again
returns-in-Some-clause-again g c fault is = (ap (λ f. Err f) (same_fault _ _ _ c.in-Some.is is), refl)

pub returns-in-Some-clause-asks : goal.returns-in-Some-clause-asks
returns-in-Some-clause-asks g c live = absurd (never _ _ live c.in-Some.is)

-- out of memory nothing was written

pub returns-in_default-write-clause-again : goal.returns-in_default-write-clause-again
returns-in_default-write-clause-again g c fault is = absurd (c.in_default.not-Some fault is)

pub returns-in_default-write-clause-asks : goal.returns-in_default-write-clause-asks
returns-in_default-write-clause-asks g c live = asked_nothing _ _ live

-- all was written

pub returns-then-write_whole-clause-again : goal.returns-then-write_whole-clause-again
returns-then-write_whole-clause-again g c fault is = absurd (c.in_default.not-Some fault is)

pub returns-then-write_whole-clause-asks : goal.returns-then-write_whole-clause-asks
returns-then-write_whole-clause-asks g c live =
    let link = g.met.L.Link g.world.𝓛 g.world.𝓜 g.world.𝓡 ((λ s x. x), (λ x. x), (λ x. x), λ x. x) in
    let same = source_same g.L.Sink.source_side g.L.Source.bytes_left g.L.Source.bytes_read g.L.Source.waits g.L.Source.read_fault_count c.args.self.now.link c.write_whole.new.sink link.writes_apart c.write_whole.ensures.apart in
    let none : ReadsNone _ _ = record { left = same.left_is; read = same.read_is; read_faults = same.faults_is } in
    asked_whole _ _ _ live (rw (c.as_slice.ensures, c.in-Ok.ensures.canonical) at c.if-write_whole.ensures.whole) c.if-write_whole.ensures.sound none refl refl

-- a write failed

pub returns-clause-again : goal.returns-clause-again
returns-clause-again g c fault is = absurd (c.in_default.not-Some fault is)

pub returns-clause-asks : goal.returns-clause-asks
returns-clause-asks g c live =
    let link = g.met.L.Link g.world.𝓛 g.world.𝓜 g.world.𝓡 ((λ s x. x), (λ x. x), (λ x. x), λ x. x) in
    let same = source_same g.L.Sink.source_side g.L.Source.bytes_left g.L.Source.bytes_read g.L.Source.waits g.L.Source.read_fault_count c.args.self.now.link c.write_whole.new.sink link.writes_apart c.write_whole.ensures.apart in
    let none : ReadsNone _ _ = record { left = same.left_is; read = same.read_is; read_faults = same.faults_is } in
    asked_failed _ _ _ (rw (c.as_slice.ensures, c.in-Ok.ensures.canonical) at c.write_whole.ensures.prefix) c.if-write_whole.ensures.failed none refl refl
