use Rattle.std.proofs.Common.{Ok, refl, ap}
use Rattle.ldap_client.specs.Links.{link_by}
use Rattle.ldap_client.specs.Receiving.{kept_in}
use Rattle.ldap_client.specs.declared.fault.ClientFault.TheVariants.{ReadFault, EndOfInput}
use Rattle.ldap_client.proofs.RoundSteps.{read_ended}
use Rattle.sync_io.proofs.Sides.{sink_same}
use Rattle.ldap_client.proofs.client.Client.read_more.Goals as goal

pub returns-in-Ok-Got : goal.returns-in-Ok-Got
returns-in-Ok-Got g c =
    let link = g.met.L.Link g.world.𝓛 g.world.𝓜 g.world.𝓡 ((λ s x. x), (λ x. x), (λ x. x), λ x. x) in
    let sink = sink_same g.L.Source.sink_side g.L.Sink.bytes_held g.L.Sink.write_fault_count c.args.self.now.link c.read_from.new.source link.reads_apart c.in-Ok-Got.ensures.apart in
    let r = c.in-Ok-Got.ensures.reads in
    record {
      bytes = r.0;
      reads = record { taken = r.2; read = r.3; later = c.in-Ok-Got.ensures.later; held = sink.0; write_faults = sink.1 };
      kept = r.1;
      none = tt;
      why = tt;
      faultless = λ _. (rw c.in-Ok-Got.field-0-is at c.in-Ok-Got.ensures.faults);
      fault = λ live. live;
    }

pub returns-in-Ok-Quiet : goal.returns-in-Ok-Quiet
returns-in-Ok-Quiet g c =
    let link = g.met.L.Link g.world.𝓛 g.world.𝓜 g.world.𝓡 ((λ s x. x), (λ x. x), (λ x. x), λ x. x) in
    let sink = sink_same g.L.Source.sink_side g.L.Sink.bytes_held g.L.Sink.write_fault_count c.args.self.now.link c.read_from.new.source link.reads_apart c.in-Ok-Quiet.ensures.apart in
    let r = c.in-Ok-Quiet.ensures.reads in
    record {
      bytes = r.0;
      reads = record { taken = r.2; read = r.3; later = c.in-Ok-Quiet.ensures.later; held = sink.0; write_faults = sink.1 };
      kept = r.1;
      none = tt;
      why = tt;
      faultless = λ _. (rw c.in-Ok-Quiet.field-0-is at c.in-Ok-Quiet.ensures.faults);
      fault = λ live. live;
    }

pub returns-in-Ok-End : goal.returns-in-Ok-End
returns-in-Ok-End g c =
    let link = g.met.L.Link g.world.𝓛 g.world.𝓜 g.world.𝓡 ((λ s x. x), (λ x. x), (λ x. x), λ x. x) in
    let sink = sink_same g.L.Source.sink_side g.L.Sink.bytes_held g.L.Sink.write_fault_count c.args.self.now.link c.read_from.new.source link.reads_apart c.in-Ok-End.ensures.apart in
    let r = c.in-Ok-End.ensures.reads in
    rw c.fail.ensures.fault
    (read_ended _
    (record {
      link = link_by g.L.Source.bytes_left g.L.Source.bytes_read g.L.Sink.bytes_held g.L.Source.read_fault_count g.L.Sink.write_fault_count c.read_from.new.source;
      kept = kept_in c.read_from.new.self;
      fault = c.args.self.now.fault;
    })
    _ EndOfInput r.0 (record { taken = r.2; read = r.3; later = c.in-Ok-End.ensures.later; held = sink.0; write_faults = sink.1 })
    (rw c.in-Ok-End.field-0-is at r.4) r.1 (ap (link_by g.L.Source.bytes_left g.L.Source.bytes_read g.L.Sink.bytes_held g.L.Source.read_fault_count g.L.Sink.write_fault_count) c.fail.ensures.link) (ap kept_in c.fail.ensures.received)
    (c.in-Ok-End.ensures.end (ap (λ p. Ok p) c.in-Ok-End.field-0-is)) (λ _. (rw c.in-Ok-End.field-0-is at c.in-Ok-End.ensures.faults))
    c.fail.ensures.answers refl)

pub returns-in-Ok-Failed : goal.returns-in-Ok-Failed
returns-in-Ok-Failed g c =
    let link = g.met.L.Link g.world.𝓛 g.world.𝓜 g.world.𝓡 ((λ s x. x), (λ x. x), (λ x. x), λ x. x) in
    let sink = sink_same g.L.Source.sink_side g.L.Sink.bytes_held g.L.Sink.write_fault_count c.args.self.now.link c.read_from.new.source link.reads_apart c.in-Ok-Failed.ensures.apart in
    let r = c.in-Ok-Failed.ensures.reads in
    rw c.fail-in-Ok-Failed.ensures.fault
    (read_ended _
    (record {
      link = link_by g.L.Source.bytes_left g.L.Source.bytes_read g.L.Sink.bytes_held g.L.Source.read_fault_count g.L.Sink.write_fault_count c.read_from.new.source;
      kept = kept_in c.read_from.new.self;
      fault = c.args.self.now.fault;
    })
    _ ReadFault r.0 (record { taken = r.2; read = r.3; later = c.in-Ok-Failed.ensures.later; held = sink.0; write_faults = sink.1 })
    (rw c.in-Ok-Failed.field-0-is at r.4) r.1 (ap (link_by g.L.Source.bytes_left g.L.Source.bytes_read g.L.Sink.bytes_held g.L.Source.read_fault_count g.L.Sink.write_fault_count) c.fail-in-Ok-Failed.ensures.link) (ap kept_in c.fail-in-Ok-Failed.ensures.received)
    (rw c.in-Ok-Failed.field-0-is at c.in-Ok-Failed.ensures.faults) (λ other. absurd (other refl)) c.fail-in-Ok-Failed.ensures.answers refl)

-- out of memory nothing was read
pub returns-in-Err : goal.returns-in-Err
returns-in-Err g c =
    let link = g.met.L.Link g.world.𝓛 g.world.𝓜 g.world.𝓡 ((λ s x. x), (λ x. x), (λ x. x), λ x. x) in
    let sink = sink_same g.L.Source.sink_side g.L.Sink.bytes_held g.L.Sink.write_fault_count c.args.self.now.link c.read_from.new.source link.reads_apart c.in-Err.ensures.apart in
    let r = c.in-Err.ensures.reads in
    record {
      bytes = r.0;
      reads = record { taken = r.2; read = r.3; later = c.in-Err.ensures.later; held = sink.0; write_faults = sink.1 };
      kept = r.1;
      none = r.4;
      why = tt;
      faultless = λ _. c.in-Err.ensures.faults;
      fault = λ live. live;
    }
