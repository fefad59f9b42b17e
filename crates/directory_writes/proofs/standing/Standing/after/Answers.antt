-- What is kept after one more write is within the limits where it can be the next.
use Rattle.std.proofs.Common.{◌+◌, ◌∙◌, ap, sym, arith}
use Rattle.entry_tree.specs.State.{same_named}
use Rattle.entry_tree.specs.Touched.{with_changes}
use Rattle.directory_writes.specs.Standing.{StandingState, standing_after}
use Rattle.directory_writes.specs.Touches.{Numbers, renewed}
use Rattle.entry_tree.specs.Sound.{is_commit}
use Rattle.directory_writes.proofs.standing.Standing.after.Goals as goal

pub invariant_of-result : goal.invariant_of-result
invariant_of-result c =
    let next = c.requires.next in (
      record {
        few = omega (arith, next.few, ap (λ (s : StandingState). s.count) c.self.view_is);
        light = next.light;
        unique_names = λ holds. ap same_named c.requires.entries ∙ next.unique_names (sym c.is_commit-commits.ensures ∙ holds);
      },
      tt,
    )

pub returns : goal.returns
returns c =
    let was = c.self.inside in
    let preview = c.args.preview.now in
    let numbers =
    c.in_ok-numbers.ensures
    ∙ ap (λ (ns : Numbers). renewed c.is_commit-commits.result (was.count + 1) ns c.list.result.now) (c.requires.before ∙ sym (ap (λ (s : StandingState). s.numbers) c.self.view_is))
    ∙ ap (λ commits. renewed commits (was.count + 1) was.numbers c.list.result.now) c.is_commit-commits.ensures
    ∙ ap (renewed (is_commit c.args.op.now) (was.count + 1) was.numbers) c.list.ensures in
    let entries = c.requires.entries ∙ sym (ap (λ (s : StandingState). with_changes s.entries preview.touched) c.self.view_is) in
    (λ i. record { count = was.count + 1; weight = preview.weight; last = c.copy-csn_maker.ensures i; entries = entries i; numbers = numbers i })
    ∙ ap (λ (s : StandingState). standing_after s c.args.op.now preview) c.self.view_is
