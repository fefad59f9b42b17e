-- The pieces are put in place with the message.
use Rattle.std.proofs.Common.{◌≡◌, true, false, ap, sym, subst, ◌∙◌}
use Rattle.std.specs.Prelude.{IfSome}
use Rattle.directory_writes.specs.Directory.{DirectoryState}
use Rattle.sync_provider.specs.HandingOut.{turn_of, turn_of_pending, has_message}
use Rattle.sync_provider.specs.Search.{SearchState, pending}
use Rattle.sync_provider.specs.Staging.{HeldSearch}
use Rattle.sync_provider.proofs.Turns.{next_after, next_turn, stays_after}
use Rattle.sync_provider.proofs.open_search.OpenSearch.hand_out_next.Goals as goal

pub returns-then-not-is_message-clause-turn : goal.returns-then-not-is_message-clause-turn
returns-then-not-is_message-clause-turn c =
    let d : DirectoryState = c.args.directory.now.state in
    let s : SearchState = c.args.self.now.search in
    let ready = c.in-Ok.ready in
    let handed = c.hand_out-handed in
    let first : turn_of_pending c.self.inside.id ready.rest ≡ turn_of_pending s.id (pending d s) =
    ap (λ (held : HeldSearch). turn_of_pending held.search.id ready.rest) c.self.view_is ∙ next_turn d s ready s.progress.due c.requires.over c.requires.left c.in-Ok.ensures in
    subst (λ t. IfSome (turn_of handed.result) (λ turn. turn ≡ t)) first handed.ensures.turn

pub returns-then-not-is_message-clause-memory : goal.returns-then-not-is_message-clause-memory
returns-then-not-is_message-clause-memory c = λ none.
    let d : DirectoryState = c.args.directory.now.state in
    let s : SearchState = c.args.self.now.search in
    let ready = c.in-Ok.ready in
    let handed = c.hand_out-handed in
    let first : turn_of_pending c.self.inside.id ready.rest ≡ turn_of_pending s.id (pending d s) =
    ap (λ (held : HeldSearch). turn_of_pending held.search.id ready.rest) c.self.view_is ∙ next_turn d s ready s.progress.due c.requires.over c.requires.left c.in-Ok.ensures in
    ap has_message (sym first) ∙ handed.ensures.memory none

pub returns-then-not-is_message-clause-state : goal.returns-then-not-is_message-clause-state
returns-then-not-is_message-clause-state c =
    stays_after c.args.directory.now.state c.args.self.now.search (turn_of c.hand_out-handed.result) (sym c.is_message.ensures ∙ c.if-not-is_message.true)

pub returns-clause-turn : goal.returns-clause-turn
returns-clause-turn c =
    let d : DirectoryState = c.args.directory.now.state in
    let s : SearchState = c.args.self.now.search in
    let ready = c.in-Ok.ready in
    let handed = c.hand_out-handed in
    let first : turn_of_pending c.self.inside.id ready.rest ≡ turn_of_pending s.id (pending d s) =
    ap (λ (held : HeldSearch). turn_of_pending held.search.id ready.rest) c.self.view_is ∙ next_turn d s ready s.progress.due c.requires.over c.requires.left c.in-Ok.ensures in
    subst (λ t. IfSome (turn_of handed.result) (λ turn. turn ≡ t)) first handed.ensures.turn

pub returns-clause-memory : goal.returns-clause-memory
returns-clause-memory c = λ none.
    let d : DirectoryState = c.args.directory.now.state in
    let s : SearchState = c.args.self.now.search in
    let ready = c.in-Ok.ready in
    let handed = c.hand_out-handed in
    let first : turn_of_pending c.self.inside.id ready.rest ≡ turn_of_pending s.id (pending d s) =
    ap (λ (held : HeldSearch). turn_of_pending held.search.id ready.rest) c.self.view_is ∙ next_turn d s ready s.progress.due c.requires.over c.requires.left c.in-Ok.ensures in
    ap has_message (sym first) ∙ handed.ensures.memory none

pub returns-clause-state : goal.returns-clause-state
returns-clause-state c =
    let d : DirectoryState = c.args.directory.now.state in
    let was = c.self.inside in
    let s : SearchState = c.args.self.now.search in
    let ready = c.in-Ok.ready in
    let handed = c.hand_out-handed in
    let due = ap (λ (held : HeldSearch). held.search.progress.due) c.self.view_is in
    (λ i. record (c.self.view_is i).search { progress = record handed.new.self { due = was.queue.items } })
    ∙ next_after d s ready handed.new.self was.queue.items (turn_of handed.result) c.requires.left (ap (λ messages. record ready { due = messages }) due ∙ c.in-Ok.ensures) handed.ensures.state
    (sym c.is_message.ensures ∙ c.if-not-is_message.false)
