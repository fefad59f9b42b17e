-- The search that hands out is taken out, and put back where it goes on.
use Rattle.std.proofs.Common.{sym, subst, ◌∙◌}
use Rattle.sync_provider.specs.Answering.{HandOutLeaves}
use Rattle.sync_provider.specs.Machine.{ProviderState}
use Rattle.sync_provider.proofs.Delivery.{view_of}
use Rattle.sync_provider.proofs.Leaving.{closing_leaves, open_leaves}
use Rattle.sync_provider.proofs.sync_directory.SyncDirectory.hand_out.Goals as goal

pub returns-then-is_end-clause-leaves : goal.returns-then-is_end-clause-leaves
returns-then-is_end-clause-leaves c =
    let was = c.self.inside in
    let turn = c.hand_out-handed in
    subst (λ (p : ProviderState). HandOutLeaves p c.args.number turn.result (view_of was.kind was.directory.state c.remove.new.self was.queue_limit)) c.self.view_is
    (closing_leaves was.kind was.queue_limit was.directory.state was.searches c.args.number c.in-Some.search (sym c.in-Some.ensures.value) turn.result turn.ensures.turn turn.ensures.memory
    c.remove.new.self (sym c.is_end.ensures ∙ c.if-is_end.true) c.remove.ensures.entries)

pub returns-clause-leaves : goal.returns-clause-leaves
returns-clause-leaves c =
    let was = c.self.inside in
    let turn = c.hand_out-handed in
    subst (λ (p : ProviderState). HandOutLeaves p c.args.number turn.result (view_of was.kind was.directory.state c.put.new.self was.queue_limit)) c.self.view_is
    (open_leaves was.kind was.queue_limit was.directory.state was.searches c.args.number c.in-Some.search (sym c.in-Some.ensures.value) turn.result turn.ensures.turn turn.ensures.memory
    c.remove.new.self c.put.new.self turn.new.self turn.ensures.state c.in-Some.ensures.again (sym c.is_end.ensures ∙ c.if-is_end.false) c.remove.ensures.entries c.put.ensures)
