use Rattle.std.proofs.Common.{◌≡◌, [], sym, ◌∙◌, arith}
use Rattle.std.specs.Prelude.{Ok, Err}
use Rattle.std.proofs.lemmas.Result.{err_from_is_err_and}
use Rattle.cascade_exchange.specs.Exchange.{part_of}
use Rattle.cascade_world.proofs.AtPlaces.{no_stages, some_stages, leaves_at, no_write, kept_ours, taken_back}
use Rattle.cascade_world.proofs.Steps.{exchange_can, exchange_done, exchange_through, exchange_refused, exchange_stopped}
use Rattle.cascade_world.proofs.nodes.ScriptNodes.exchange_at.Goals as goal

pub returns-in_err-done-clause-steps : goal.returns-in_err-done-clause-steps
returns-in_err-done-clause-steps c = λ name places.
    let p = err_from_is_err_and c.from_residual.result c.from_residual.ensures.1 in
    rw (p.1, p.2)
    (exchange_refused c.args.self.now c.perform.new.self c.perform.new.self name c.args.provider_node c.args.consumer_node c.args.exchange c.in_err-done.field-0.0 places c.in_err-done.ensures.does)

pub returns-then-is_empty-clause-steps : goal.returns-then-is_empty-clause-steps
returns-then-is_empty-clause-steps c = λ name places.
    let stages = c.in_ok-done.done.stages in
    let none : stages.items ≡ [] = no_stages stages.items stages.len (omega (arith, stages.ok.0)) (sym c.is_empty.ensures ∙ c.if-is_empty.true) in
    rw c.from.ensures
    (exchange_through c.args.self.now c.perform.new.self name c.args.provider_node c.args.consumer_node c.args.exchange c.in_ok-done.done places c.in_ok-done.ensures.does none)

pub returns-in-Ok-clause-steps : goal.returns-in-Ok-clause-steps
returns-in-Ok-clause-steps c = λ name places.
    let at = c.in_ok-done.ensures.does in
    rw c.from-in-Ok.ensures
    (exchange_done c.args.self.now c.perform.new.self c.commit.new.self name c.args.provider_node c.args.consumer_node c.args.exchange c.in_ok-done.done places at
    (leaves_at c.args.self.now c.perform.new.self c.commit.new.self c.args.provider_node c.args.consumer_node (part_of c.args.exchange) _ c.in_ok-done.done.stages.items (Ok tt) at c.requires.consumer_node c.in-Ok.ensures.does))

pub returns-in-Err-clause-steps : goal.returns-in-Err-clause-steps
returns-in-Err-clause-steps c = λ name places.
    let at = c.in_ok-done.ensures.does in
    exchange_stopped c.args.self.now c.perform.new.self c.commit.new.self c.args.self.now name c.args.provider_node c.args.consumer_node c.args.exchange c.in_ok-done.done c.in-Err.cause places at
    (leaves_at c.args.self.now c.perform.new.self c.commit.new.self c.args.provider_node c.args.consumer_node (part_of c.args.exchange) _ c.in_ok-done.done.stages.items (Err c.in-Err.cause) at c.requires.consumer_node c.in-Err.ensures.does)

pub returns-in-Err-clause-err : goal.returns-in-Err-clause-err
returns-in-Err-clause-err c =
    taken_back c.args.self.now c.perform.new.self _ c.args.provider_node c.args.consumer_node (part_of c.args.exchange) c.in_ok-done.done c.index_mut-from.result.now c.index_mut-to.result.now c.restore.new.provider c.restore.new.consumer_node c.requires.provider_node c.requires.consumer_node
    c.in_ok-done.ensures.does (some_stages c.in_ok-done.done.stages.items c.in_ok-done.done.stages.len (omega (arith, c.in_ok-done.done.stages.ok.0)) (sym c.is_empty.ensures ∙ c.if-is_empty.false))
    (c.self.view_is ∙ c.in-Err.ensures.err) c.index_mut-from.ensures.value c.index_mut-to.ensures.value c.restore.ensures.provider c.restore.ensures.consumer_node

pub restore-requires-clause-no_write : goal.restore-requires-clause-no_write
restore-requires-clause-no_write c =
    no_write c.args.self.now c.perform.new.self _ c.args.provider_node c.args.consumer_node (part_of c.args.exchange) c.in_ok-done.done c.index_mut-from.result.now c.requires.provider_node c.in_ok-done.ensures.does
    (some_stages c.in_ok-done.done.stages.items c.in_ok-done.done.stages.len (omega (arith, c.in_ok-done.done.stages.ok.0)) (sym c.is_empty.ensures ∙ c.if-is_empty.false))
    (c.self.view_is ∙ c.in-Err.ensures.err) c.index_mut-from.ensures.value

pub restore-requires-clause-ours : goal.restore-requires-clause-ours
restore-requires-clause-ours c =
    kept_ours c.args.self.now c.perform.new.self c.args.provider_node c.args.consumer_node (part_of c.args.exchange) c.in_ok-done.done c.in_ok-done.ensures.does
    (some_stages c.in_ok-done.done.stages.items c.in_ok-done.done.stages.len (omega (arith, c.in_ok-done.done.stages.ok.0)) (sym c.is_empty.ensures ∙ c.if-is_empty.false))

pub commit-requires-clause-can : goal.commit-requires-clause-can
commit-requires-clause-can c =
    exchange_can c.args.self.now c.perform.new.self c.args.provider_node c.args.consumer_node c.args.exchange c.in_ok-done.done c.requires.in_step c.requires.places c.in_ok-done.ensures.does c.requires.consumer_node
