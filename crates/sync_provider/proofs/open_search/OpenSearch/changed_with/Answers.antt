-- What changed before it, and with it.
use Rattle.std.proofs.Common.{◌≡◌, ◌-◌, ◌<◌, List, ℕ, false, ap, arith, get_or, length, subst, sym, ◌∙◌}
use Rattle.std.proofs.lemmas.Result.{IfOk-weaker}
use Rattle.sync_model.specs.Law.{is_nil}
use Rattle.sync_slices.specs.Slices.{SliceProgress}
use Rattle.sync_provider.specs.StagedGroups.{changed_with, grown_by, last_changed, messages_in}
use Rattle.sync_provider.specs.Staging.{HeldSearch}
use Rattle.sync_provider.proofs.Filling.{grown_some, last_is, no_groups}
use Rattle.sync_provider.proofs.open_search.OpenSearch.changed_with.Goals as goal

pub returns-in-Some : goal.returns-in-Some
returns-in-Some c =
    let was = c.self.inside in
    let group = c.in-Some.group.now in
    let p : SliceProgress = c.args.self.now.search.progress in
    let messages = c.args.messages.now in
    let left : is_nil was.refresh.left ≡ false = sym c.is_decided.ensures ∙ c.if-is_decided.false in
    let some : 0 < length was.staged.items = omega (arith, c.in-Some.ensures.item.3.0, was.staged.ok.0) in
    let last : group.changed ≡ last_changed was.refresh.changed (messages_in was.staged.items) =
    last_is was.refresh.changed was.staged.items group (length was.staged.items - 1) (c.self.invariant.grown left) (omega (arith, some))
    (subst (λ count. group ≡ get_or was.staged.items (count - 1) group) was.staged.ok.0 c.in-Some.ensures.lookup) in
    IfOk-weaker c.with_each.result (λ (set : List ℕ). set ≡ changed_with group.changed messages)
    (λ (set : List ℕ). set ≡ grown_by p.left (last_changed p.changed c.args.self.now.staged) messages)
    (λ set is.
    grown_some was.refresh.left group.changed (last_changed was.refresh.changed (messages_in was.staged.items)) messages set left last is
    ∙ ap (λ (held : HeldSearch). grown_by held.search.progress.left (last_changed held.search.progress.changed held.staged) messages) c.self.view_is)
    c.with_each.ensures

pub returns-in-None : goal.returns-in-None
returns-in-None c =
    let was = c.self.inside in
    let p : SliceProgress = c.args.self.now.search.progress in
    let messages = c.args.messages.now in
    let left : is_nil was.refresh.left ≡ false = sym c.is_decided.ensures ∙ c.if-is_decided.false in
    let none : length was.staged.items ≡ 0 = omega (arith, c.in-None.ensures.item.3, was.staged.ok.0) in
    IfOk-weaker c.with_each-in-None.result (λ (set : List ℕ). set ≡ changed_with c.changed.result.now messages)
    (λ (set : List ℕ). set ≡ grown_by p.left (last_changed p.changed c.args.self.now.staged) messages)
    (λ set is.
    grown_some was.refresh.left c.changed.result.now (last_changed was.refresh.changed (messages_in was.staged.items)) messages set left
    (c.changed.ensures ∙ no_groups was.refresh.changed was.staged.items none) is
    ∙ ap (λ (held : HeldSearch). grown_by held.search.progress.left (last_changed held.search.progress.changed held.staged) messages) c.self.view_is)
    c.with_each-in-None.ensures
