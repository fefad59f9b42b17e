use Rattle.std.proofs.Common.{refl, ◌∙◌}
use Rattle.ldap_search.proofs.answering.print_answer.Goals as goal

pub loop-init : goal.loop-init
loop-init g c = (c.requires, refl, λ first start messages so_far. (messages, so_far))

pub loop-preserved : goal.loop-preserved
loop-preserved g c = (
  (rw c.in-Ok-None.field-0-is at c.in-Ok-None.ensures.live) refl,
  c.in-Ok-None.ensures.held ∙ c.loop.invariant.1,
  λ first start messages so_far.
      let mid = c.loop.invariant.2 first start messages so_far in
      let next = rw c.in-Ok-None.field-0-is at c.in-Ok-None.ensures.prints in
      let more = next first start mid.0 mid.1 in
      (_, more.1),
)

pub returns-in-Ok-Some-clause-answers : goal.returns-in-Ok-Some-clause-answers
returns-in-Ok-Some-clause-answers g c = λ first start messages so_far.
    let mid = c.loop.invariant.2 first start messages so_far in
    let ends = (rw c.in-Ok-Some.field-0-is at c.in-Ok-Some.ensures.prints) first start mid.0 mid.1 in
    record { messages = mid.0; parts = mid.1.parts; ends = ends.0; faults = ends.1 }

pub returns-in-Err-clause-in_part : goal.returns-in-Err-clause-in_part
returns-in-Err-clause-in_part g c = λ first start messages so_far.
    let mid = c.loop.invariant.2 first start messages so_far in
    let stops = c.in-Err.ensures.in_part first start mid.0 mid.1 in
    record { messages = mid.0; parts = mid.1.parts; read = stops.0; printed = stops.1; faults = stops.2 }

pub returns-in-Ok-Some-clause-held : goal.returns-in-Ok-Some-clause-held
returns-in-Ok-Some-clause-held g c = c.in-Ok-Some.ensures.held ∙ c.loop.invariant.1

pub returns-in-Err-clause-held : goal.returns-in-Err-clause-held
returns-in-Err-clause-held g c = c.in-Err.ensures.held ∙ c.loop.invariant.1
