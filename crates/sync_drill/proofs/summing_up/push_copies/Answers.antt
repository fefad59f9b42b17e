use Rattle.std.proofs.Common.{◌≡◌, ◌≤◌, ◌+◌, ◌++◌, ◌∷◌, [], length, take, length-take-le, take_all, refl, sym, ap, ◌∙◌, arith, append_assoc, append-nil}
use Rattle.std.proofs.lemmas.List.{take_more}
use Rattle.sync_consumer.specs.Taking.{ConsumerState}
use Rattle.drill_plan.specs.Plain.{plain_of_each}
use Rattle.drill_plan.specs.Summary.{consumer_line}
use Rattle.sync_drill.specs.Summing.{copies_text}
use Rattle.sync_drill.proofs.Summings.{copies_text-push}
use Rattle.sync_drill.proofs.summing_up.push_copies.Goals as goal

pub loop-copy-init : goal.loop-copy-init
loop-copy-init c = record { place = refl; text = sym (append-nil c.args.text.now.items) }

pub overflow_add-consumer : goal.overflow_add-consumer
overflow_add-consumer c = omega (arith, c.loop-copy.invariant.place, c.loop-copy-test.true, c.requires)

pub loop-copy-preserved : goal.loop-copy-preserved
loop-copy-preserved c =
    let inv = c.loop-copy.invariant in
    let i = c.loop-copy.copy-index in
    let copies = c.args.copies.now in
    let copy = c.copy-item.result in
    let old = c.args.text.now.items in
    let low : i ≤ length copies = omega (arith, c.loop-copy-test.true) in
    let count : 0 + length (take i copies) ≡ i = omega (arith, length-take-le i copies low) in
    record {
      place = omega (arith, inv.place);
      text = c.in_ok-push_copy.ensures
          ∙ ap (λ entries. c.loop-copy.text.items ++ consumer_line c.loop-copy.consumer (plain_of_each entries)) c.entries.ensures
          ∙ ap (λ n. c.loop-copy.text.items ++ consumer_line n (plain_of_each copy.copy.held)) (inv.place ∙ sym count)
          ∙ ap (λ text. text ++ consumer_line (0 + length (take i copies)) (plain_of_each copy.copy.held)) inv.text
          ∙ append_assoc old (copies_text 0 (take i copies)) (consumer_line (0 + length (take i copies)) (plain_of_each copy.copy.held))
          ∙ ap (λ text. old ++ text) (sym (copies_text-push 0 (take i copies) copy))
          ∙ ap (λ (one : ConsumerState). old ++ copies_text 0 (take i copies ++ one ∷ [])) c.copy-item.is
          ∙ ap (λ more. old ++ copies_text 0 more) (sym (take_more copies i copy c.loop-copy-test.true));
    }

pub returns : goal.returns
returns c =
    c.loop-copy.invariant.text
    ∙ ap (λ copies. c.args.text.now.items ++ copies_text 0 copies)
    (take_all c.loop-copy.copy-index c.args.copies.now (omega (arith, c.loop-copy-test.false)))
