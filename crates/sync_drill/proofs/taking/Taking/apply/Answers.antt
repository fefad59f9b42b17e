use Rattle.std.proofs.Common.{◌≡◌, ap, ◌∙◌, subst}
use Rattle.std.proofs.lemmas.Result.{on_ok_weaker}
use Rattle.sync_model.specs.Copy.{Copy}
use Rattle.sync_consumer.specs.Taking.{taken_of}
use Rattle.sync_consumer.specs.declared.consumer.Taken.{Taken}
use Rattle.sync_drill.specs.Delivered.{IsReadFrom, WasTaken}
use Rattle.sync_drill.proofs.TakingSteps.{took}
use Rattle.sync_drill.proofs.taking.Taking.apply.Goals as goal

pub returns-clause-ok : goal.returns-clause-ok
returns-clause-ok c =
    let before = c.begin_search.new.copy.copy in
    let after = c.take-taken.new.self.copy in
    let message = c.in_ok-message.message in
    on_ok_weaker c.check_taken.result
    (λ was.
    let one : (after, c.take-taken.result) ≡ taken_of before message = took before after message c.take-taken.result c.take-taken.ensures.exact was in
    record {
      taken = message;
      read = subst (λ bytes. IsReadFrom bytes message) c.as_slice.ensures c.in_ok-message.ensures;
      is = ap (λ (o : Copy × Taken). o.0) one ∙ ap (λ copy. (taken_of copy message).0) c.in_ok-begin_search.ensures.ok;
      fits =
          subst (λ copy. WasTaken (taken_of copy message).1) c.in_ok-begin_search.ensures.ok
          (subst WasTaken (ap (λ (o : Copy × Taken). o.1) one) was);
    })
    c.check_taken.ensures
