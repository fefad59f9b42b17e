use Rattle.cascade_exchange.proofs.Openings.{taken_copy}
use Rattle.cascade_exchange.proofs.opening.take_refusal.Goals as goal

pub returns-in-Staged : goal.returns-in-Staged
returns-in-Staged c = taken_copy c.args.consumer.now c.take.new.self c.args.message.now _ c.in-Staged.ensures.spec c.in-Staged.ensures.reload c.in-Staged.ensures.exact

pub returns-in-Stored : goal.returns-in-Stored
returns-in-Stored c = taken_copy c.args.consumer.now c.take.new.self c.args.message.now _ c.in-Stored.ensures.spec c.in-Stored.ensures.reload c.in-Stored.ensures.exact

pub returns-in-Copied : goal.returns-in-Copied
returns-in-Copied c = taken_copy c.args.consumer.now c.take.new.self c.args.message.now _ c.in-Copied.ensures.spec c.in-Copied.ensures.reload c.in-Copied.ensures.exact

pub returns-in-Over : goal.returns-in-Over
returns-in-Over c = taken_copy c.args.consumer.now c.take.new.self c.args.message.now _ c.in-Over.ensures.spec c.in-Over.ensures.reload c.in-Over.ensures.exact

pub returns-in-Fault : goal.returns-in-Fault
returns-in-Fault c = taken_copy c.args.consumer.now c.take.new.self c.args.message.now _ c.in-Fault.ensures.spec c.in-Fault.ensures.reload c.in-Fault.ensures.exact
