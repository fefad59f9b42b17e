-- The group has room, and what changed with it.
use Rattle.std.proofs.Common.{◌≡◌, ◌+◌, ◌<◌, ◌^◌, ℕ, Option, ap, arith, length, subst, sym, ◌∙◌}
use Rattle.std.specs.Prelude.{Some, SomeIff}
use Rattle.sync_provider.specs.StagedGroups.{AreStaged, grown_by, last_changed, messages_in}
use Rattle.sync_provider.specs.Staging.{HeldSearch}
use Rattle.sync_provider.proofs.Filling.{group_added}
use Rattle.sync_provider.proofs.open_search.OpenSearch.stage.Goals as goal

-- a sum that fits
sum_is : (sum : Option ℕ) (Fits : Type 0) (whole part : ℕ) → SomeIff sum Fits whole → sum ≡ Some part → part ≡ whole
sum_is sum Fits whole part fits is = (subst (λ s. SomeIff s Fits whole) is fits).1

pub invariant_of-self-2 : goal.invariant_of-self-2
invariant_of-self-2 c =
    let was = c.self.inside in
    let messages = c.in_ok-messages.messages in
    let after = c.make_room.new.queue.spare in
    let count = c.in_ok-count.count in
    let all : count ≡ was.staged_count + length messages.items =
    sum_is c.checked_add-all.result _ _ count c.checked_add-all.ensures c.in_ok-count.ensures.ok_part ∙ ap (λ n. was.staged_count + n) (c.len.ensures ∙ messages.ok.0) in
    let grown : c.in_ok-changed.changed ≡ grown_by was.refresh.left (last_changed was.refresh.changed (messages_in was.staged.items)) messages.items =
    c.in_ok-changed.ensures
    ∙ ap (λ (held : HeldSearch). grown_by held.search.progress.left (last_changed held.search.progress.changed held.staged) c.as_slice.result.now) (sym c.self.view_is)
    ∙ ap (grown_by was.refresh.left (last_changed was.refresh.changed (messages_in was.staged.items))) c.as_slice.ensures.value in
    subst (AreStaged was.over was.refresh after count) (sym c.in_ok-push_back.ensures.items)
    (group_added was.over was.refresh was.queue.spare after was.staged_count count was.staged.items _ c.self.invariant all (λ off settled. c.in_ok-make_room.ensures.room settled) grown)
