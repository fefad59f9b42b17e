use Rattle.std.proofs.Common.{◌≡◌, [], ◌∷◌, ◌++◌, ap, append-nil, append_assoc, refl, sym, ◌∙◌}
use Rattle.std.proofs.lemmas.List.{nil_from_length}
use Rattle.std.specs.List.{flat_map}
use Rattle.ldap_server.specs.Seen.{point_in}
use Rattle.ldap_server.proofs.InBatches.{batch_octets, no_batch, one_batch}
use Rattle.ldap_server.proofs.Performing.{part_more, with_sent}
use Rattle.ldap_server.proofs.session.Session.send_batches.Goals as goal

pub loop-batch-init : goal.loop-batch-init
loop-batch-init g c =
    let selection = c.args.selection in
    record {
      port = refl;
      sent = no_batch (batch_octets c.args.id selection.selectors.now selection.types_only) (point_in g.P.Port.state c.args.self.now);
      all = sym c.into_iter-batch-iterator.ensures.into_iter_gives.0;
    }

pub loop-batch-preserved : goal.loop-batch-preserved
loop-batch-preserved g c =
    let selection = c.args.selection in
    let state = g.P.Port.state in
    let inv = c.loop-batch.invariant in
    let yielded = c.loop-batch.yielded in
    let batch = c.in-Some.batch in
    record {
      port = c.in-Ok.ensures.port ∙ inv.port;
      sent = one_batch (batch_octets c.args.id selection.selectors.now selection.types_only) yielded batch
          (point_in state c.args.self.now) (point_in state c.loop-batch.self) (point_in state c.send_each_entry.new.self)
          inv.sent (rw c.as_slice.ensures.value at c.in-Ok.ensures.sends);
      all = inv.all
          ∙ ap (λ more. yielded ++ more) c.in-Some.ensures.steps.0
          ∙ sym (append_assoc yielded (batch ∷ []) c.next.new.self.rest.items);
    }

pub returns-in-Err-clause-port : goal.returns-in-Err-clause-port
returns-in-Err-clause-port g c = c.in-Err.ensures.port ∙ c.loop-batch.invariant.port

pub returns-in-Err-clause-sends : goal.returns-in-Err-clause-sends
returns-in-Err-clause-sends g c =
    let selection = c.args.selection in
    let state = g.P.Port.state in
    part_more (flat_map (batch_octets c.args.id selection.selectors.now selection.types_only) c.loop-batch.yielded)
    (point_in state c.args.self.now) (point_in state c.loop-batch.self) (point_in state c.send_each_entry.new.self)
    c.loop-batch.invariant.sent c.in-Err.ensures.sends

pub returns-clause-port : goal.returns-clause-port
returns-clause-port g c = c.loop-batch.invariant.port

pub returns-clause-sends : goal.returns-clause-sends
returns-clause-sends g c =
    let selection = c.args.selection in
    let inv = c.loop-batch.invariant in
    let old = point_in g.P.Port.state c.args.self.now in
    let left = c.loop-batch.batch-iterator.rest in
    let none : left.items ≡ [] = nil_from_length left.items (sym left.ok.0 ∙ c.in-None.ensures.steps.0) in
    let same : c.loop-batch.yielded ≡ c.args.batches.items =
    sym (inv.all ∙ (ap (λ more. c.loop-batch.yielded ++ more) none ∙ append-nil c.loop-batch.yielded)) in
    inv.sent ∙ ap (λ bs. with_sent old (old.sent ++ flat_map (batch_octets c.args.id selection.selectors.now selection.types_only) bs)) same
