-- One group after another, until none is left.
use Rattle.std.proofs.Common.{◌≡◌, ◌+◌, ◌<◌, ◌∙◌, ap, arith, length}
use Rattle.std.proofs.lemmas.List.{length-map}
use Rattle.sync_provider.specs.Staging.{HeldSearch, first_pushed, pushed_staged}
use Rattle.sync_provider.proofs.Filling.{left_next, pushed_end, pushed_next}
use Rattle.sync_provider.proofs.open_search.OpenSearch.push_staged.Goals as goal

pub loop-group-preserved : goal.loop-group-preserved
loop-group-preserved c =
    let limit = c.args.limit in
    let before : HeldSearch = c.loop-group.self in
    let after : HeldSearch = c.push_next.new.self in
    let is : after ≡ first_pushed limit before.search before.staged = c.push_next.ensures in
    let many : c.len-count.result ≡ length c.self.inside.staged.items = omega (arith, c.len-count.ensures, c.self.inside.staged.ok) in
    let shown = length-map c.self.inside.staged.items (λ group. group.messages.items) in
    let held = ap (λ (held : HeldSearch). length held.staged) c.self.view_is in
    let some : 0 < length before.staged = omega (arith, c.loop-group-test.true, many, shown, held, c.loop-group.invariant.left) in
    let fewer : length after.staged + 1 ≡ length before.staged = ap (λ (held : HeldSearch). length held.staged + 1) is ∙ left_next limit before.search before.staged some in
    record {
      goes = ap (λ (held : HeldSearch). pushed_staged limit held.staged held.search) is ∙ pushed_next limit before.search before.staged ∙ c.loop-group.invariant.goes;
      left = omega (arith, fewer, c.loop-group.invariant.left);
    }

pub returns : goal.returns
returns c =
    let limit = c.args.limit in
    let left : HeldSearch = c.loop-group.self in
    let many : c.len-count.result ≡ length c.self.inside.staged.items = omega (arith, c.len-count.ensures, c.self.inside.staged.ok) in
    let shown = length-map c.self.inside.staged.items (λ group. group.messages.items) in
    let held = ap (λ (held : HeldSearch). length held.staged) c.self.view_is in
    let none : length left.staged ≡ 0 = omega (arith, c.loop-group-test.false, many, shown, held, c.loop-group.invariant.left) in
    pushed_end limit left.staged left.search (pushed_staged limit c.args.self.now.staged c.args.self.now.search) none c.loop-group.invariant.goes
