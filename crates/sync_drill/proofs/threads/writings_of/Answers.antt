use Rattle.std.proofs.Common.{◌≡◌, ◌+◌, [], ◌∷◌, ◌++◌, length, refl, sym, ap, ◌∙◌, arith, length-append}
use Rattle.sync_drill.specs.Writers.{first_writing, writings_from}
use Rattle.sync_drill.proofs.Finished.{writings-push}
use Rattle.sync_drill.proofs.Lists.{all_given, one_given}
use Rattle.sync_drill.proofs.threads.writings_of.Goals as goal

pub loop-port-init : goal.loop-port-init
loop-port-init g c = record {
  place = refl;
  writings = c.in_ok-writings.ensures.items;
  all = sym c.into_iter-port-iterator.ensures.into_iter_gives.0;
}

pub overflow_add-place : goal.overflow_add-place
overflow_add-place g c =
    let inv = c.loop-port.invariant in
    omega (arith, inv.place, ap length inv.all, length-append c.loop-port.yielded c.loop-port.port-iterator.rest.items, c.requires)

pub loop-port-preserved : goal.loop-port-preserved
loop-port-preserved g c =
    let inv = c.loop-port.invariant in
    let plan = c.args.plan.now in
    let yielded = c.loop-port.yielded in
    let port = c.in-Some.port in
    let count : length yielded ≡ 0 + length yielded = omega arith in
    record {
      place = let more = length-append yielded (port ∷ []) in omega (arith, inv.place, more);
      writings = c.in_ok-push.ensures.items
          ∙ ap (λ writing. c.loop-port.writings.items ++ writing ∷ []) c.writing_of.ensures
          ∙ ap (λ n. c.loop-port.writings.items ++ first_writing plan n port ∷ []) inv.place
          ∙ ap (λ writings. writings ++ first_writing plan (length yielded) port ∷ []) inv.writings
          ∙ ap (λ n. writings_from plan 0 yielded ++ first_writing plan n port ∷ []) count
          ∙ sym (writings-push plan 0 yielded port);
      all = one_given c.args.ports.items yielded c.loop-port.port-iterator.rest.items c.next.new.self.rest.items port inv.all c.in-Some.ensures.steps.0;
    }

pub returns : goal.returns
returns g c =
    let inv = c.loop-port.invariant in
    let left = c.loop-port.port-iterator.rest in
    inv.writings
    ∙ ap (writings_from c.args.plan.now 0)
    (all_given c.args.ports.items c.loop-port.yielded left.items inv.all (sym left.ok.0 ∙ c.in-None.ensures.steps.0))
