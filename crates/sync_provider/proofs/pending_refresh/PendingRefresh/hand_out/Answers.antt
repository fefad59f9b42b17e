-- By whether a message is there, and whether it ends its search.
use Rattle.std.proofs.Common.{◌≡◌, Bor, Some, drop, ap, sym, ◌∙◌}
use Rattle.std.specs.Prelude.{option_map, slice_get}
use Rattle.sync_slices.specs.Slices.{SliceProgress}
use Rattle.sync_provider.specs.HandingOut.{has_message, turn_of_pending}
use Rattle.sync_provider.specs.Search.{message_of}
use Rattle.sync_provider.specs.declared.refresh_item.RefreshItem.{RefreshItem}
use Rattle.sync_provider.proofs.Turns.{first_ends, first_goes, first_some, first_waits, some_has_message}
use Rattle.sync_provider.proofs.pending_refresh.PendingRefresh.hand_out.Goals as goal

pub returns-in_default-clause-turn : goal.returns-in_default-clause-turn
returns-in_default-clause-turn c =
    first_waits c.args.id c.self.inside.parts (sym (ap (option_map (λ (item : Bor RefreshItem). message_of item.now)) c.in_default.is) ∙ c.first.ensures)
    ∙ ap (λ (p : SliceProgress). turn_of_pending c.args.id p.rest) c.self.view_is

pub returns-in_default-message-clause-memory : goal.returns-in_default-message-clause-memory
returns-in_default-message-clause-memory c = λ none.
    let first : Some (message_of c.in-Some.part.now) ≡ slice_get c.self.inside.parts 0 = sym (ap (option_map (λ (item : Bor RefreshItem). message_of item.now)) c.in-Some.is) ∙ c.first.ensures in
    ap (λ (p : SliceProgress). has_message (turn_of_pending c.args.id p.rest)) (sym c.self.view_is)
    ∙ some_has_message c.args.id c.self.inside.parts (first_some c.self.inside.parts (message_of c.in-Some.part.now) first)

pub returns-then-closes-clause-turn : goal.returns-then-closes-clause-turn
returns-then-closes-clause-turn c =
    let first : Some (message_of c.in-Some.part.now) ≡ slice_get c.self.inside.parts 0 = sym (ap (option_map (λ (item : Bor RefreshItem). message_of item.now)) c.in-Some.is) ∙ c.first.ensures in
    first_ends c.args.id c.self.inside.parts (message_of c.in-Some.part.now) c.closes-closes.result _ first (c.closes-closes.ensures c.args.id) c.in-Ok.ensures c.if-closes.true
    ∙ ap (λ (p : SliceProgress). turn_of_pending c.args.id p.rest) c.self.view_is

pub advance-requires : goal.advance-requires
advance-requires c =
    let first : Some (message_of c.in-Some.part.now) ≡ slice_get c.self.inside.parts 0 = sym (ap (option_map (λ (item : Bor RefreshItem). message_of item.now)) c.in-Some.is) ∙ c.first.ensures in
    first_some c.self.inside.parts (message_of c.in-Some.part.now) first

pub returns-clause-turn : goal.returns-clause-turn
returns-clause-turn c =
    let first : Some (message_of c.in-Some.part.now) ≡ slice_get c.self.inside.parts 0 = sym (ap (option_map (λ (item : Bor RefreshItem). message_of item.now)) c.in-Some.is) ∙ c.first.ensures in
    first_goes c.args.id c.self.inside.parts (message_of c.in-Some.part.now) c.closes-closes.result _ first (c.closes-closes.ensures c.args.id) c.in-Ok.ensures c.if-closes.false
    ∙ ap (λ (p : SliceProgress). turn_of_pending c.args.id p.rest) c.self.view_is

pub returns-clause-state : goal.returns-clause-state
returns-clause-state c = λ i. record (c.self.view_is i) { rest = (c.advance.ensures ∙ ap (λ (p : SliceProgress). drop 1 p.rest) c.self.view_is) i }
