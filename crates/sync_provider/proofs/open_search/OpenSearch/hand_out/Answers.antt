-- By whether pieces have to be decided, and whether a message of the refresh is there.
use Rattle.std.proofs.Common.{◌≡◌, false, ap, sym, subst, ◌∙◌}
use Rattle.std.specs.Prelude.{IfSome}
use Rattle.sync_model.specs.Law.{is_nil}
use Rattle.sync_model.proofs.Prefixes.{nil_is}
use Rattle.directory_writes.specs.Directory.{DirectoryState}
use Rattle.sync_provider.specs.HandingOut.{turn_of, turn_of_pending, has_message}
use Rattle.sync_provider.specs.Search.{SearchState}
use Rattle.sync_provider.specs.Staging.{HeldSearch}
use Rattle.sync_provider.proofs.Pieces.{waits_by, none_left}
use Rattle.sync_provider.proofs.Turns.{handed_after, rest_turn}
use Rattle.sync_provider.proofs.open_search.OpenSearch.hand_out.Goals as goal

pub hand_out_next-requires-clause-over : goal.hand_out_next-requires-clause-over
hand_out_next-requires-clause-over c = ap (λ (held : HeldSearch). held.search.over) (sym c.self.view_is) ∙ c.if-self.false

pub hand_out_next-requires-clause-rest : goal.hand_out_next-requires-clause-rest
hand_out_next-requires-clause-rest c =
    ap (λ (held : HeldSearch). held.search.progress.rest) (sym c.self.view_is) ∙ (waits_by c.self.inside.refresh (sym c.is_waiting.ensures ∙ c.if-is_waiting.true)).0

pub hand_out_next-requires-clause-left : goal.hand_out_next-requires-clause-left
hand_out_next-requires-clause-left c =
    ap (λ (held : HeldSearch). is_nil held.search.progress.left) (sym c.self.view_is) ∙ (waits_by c.self.inside.refresh (sym c.is_waiting.ensures ∙ c.if-is_waiting.true)).1

pub hand_out_later-requires-clause-left : goal.hand_out_later-requires-clause-left
hand_out_later-requires-clause-left c =
    ap (λ (held : HeldSearch). held.search.progress.left) (sym c.self.view_is)
    ∙ none_left c.self.inside.refresh (sym c.is_waiting.ensures ∙ c.if-is_waiting.false) (sym c.is_empty.ensures ∙ c.if-is_empty.true)

pub hand_out_later-requires-clause-rest : goal.hand_out_later-requires-clause-rest
hand_out_later-requires-clause-rest c =
    ap (λ (held : HeldSearch). held.search.progress.rest) (sym c.self.view_is) ∙ nil_is c.self.inside.refresh.rest (sym c.is_empty.ensures ∙ c.if-is_empty.true)

pub hand_out_later-requires-clause-over : goal.hand_out_later-requires-clause-over
hand_out_later-requires-clause-over c = ap (λ (held : HeldSearch). held.search.over) (sym c.self.view_is) ∙ c.if-self.false

pub returns-clause-turn : goal.returns-clause-turn
returns-clause-turn c =
    let d : DirectoryState = c.args.directory.now.state in
    let was = c.self.inside in
    let s : SearchState = c.args.self.now.search in
    let off : s.over ≡ false = ap (λ (held : HeldSearch). held.search.over) (sym c.self.view_is) ∙ c.if-self.false in
    let some : is_nil s.progress.rest ≡ false = ap (λ (held : HeldSearch). is_nil held.search.progress.rest) (sym c.self.view_is) ∙ sym c.is_empty.ensures ∙ c.if-is_empty.false in
    subst (λ t. IfSome (turn_of c.hand_out.result) (λ turn. turn ≡ t))
    (ap (λ (held : HeldSearch). turn_of_pending held.search.id held.search.progress.rest) c.self.view_is ∙ sym (rest_turn d s off some)) c.hand_out.ensures.turn

pub returns-clause-memory : goal.returns-clause-memory
returns-clause-memory c = λ none.
    let d : DirectoryState = c.args.directory.now.state in
    let s : SearchState = c.args.self.now.search in
    let off : s.over ≡ false = ap (λ (held : HeldSearch). held.search.over) (sym c.self.view_is) ∙ c.if-self.false in
    let some : is_nil s.progress.rest ≡ false = ap (λ (held : HeldSearch). is_nil held.search.progress.rest) (sym c.self.view_is) ∙ sym c.is_empty.ensures ∙ c.if-is_empty.false in
    sym (ap has_message (ap (λ (held : HeldSearch). turn_of_pending held.search.id held.search.progress.rest) c.self.view_is ∙ sym (rest_turn d s off some))) ∙ c.hand_out.ensures.memory none

pub returns-clause-state : goal.returns-clause-state
returns-clause-state c =
    let d : DirectoryState = c.args.directory.now.state in
    let was = c.self.inside in
    let s : SearchState = c.args.self.now.search in
    let some : is_nil s.progress.rest ≡ false = ap (λ (held : HeldSearch). is_nil held.search.progress.rest) (sym c.self.view_is) ∙ sym c.is_empty.ensures ∙ c.if-is_empty.false in
    (λ i. record (c.self.view_is i).search { progress = record c.hand_out.new.self { due = was.queue.items } })
    ∙ handed_after d s was.refresh c.hand_out.new.self was.queue.items (turn_of c.hand_out.result) (ap (λ (held : HeldSearch). held.search.progress) (sym c.self.view_is)) some c.hand_out.ensures.state
