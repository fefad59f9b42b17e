-- Each outcome of a message of the search is what the definition says.
use Rattle.std.proofs.Common.{None, sym, subst}
use Rattle.sync_consumer.specs.declared.consumer.Taken.{Taken}
use Rattle.sync_consumer.specs.declared.session.SearchStep.TheVariants.{Goes, Ends}
use Rattle.sync_consumer.specs.SyncSession.{copy_of, copy_with}
use Rattle.sync_consumer.specs.Taking.{Takes}
use Rattle.sync_consumer.proofs.Takings.{done_takes, out_of_place_takes, fault_takes, memory_takes}
use Rattle.sync_consumer.proofs.consumer.after_message.Goals as goal

pub returns-in-Ok-Goes : goal.returns-in-Ok-Goes
returns-in-Ok-Goes c =
    done_takes (Goes c.in-Ok-Goes.taken) c.args.held.now c.args.session c.take.new.held c.take.new.self c.args.message.now
    (rw c.in-Ok-Goes.field-0-is at c.in-Ok-Goes.ensures)

pub returns-in-Ok-Ends : goal.returns-in-Ok-Ends
returns-in-Ok-Ends c =
    done_takes (Ends c.in-Ok-Ends.taken) c.args.held.now c.args.session c.take.new.held c.take.new.self c.args.message.now
    (rw c.in-Ok-Ends.field-0-is at c.in-Ok-Ends.ensures)

pub returns-in-Err-NoMemory : goal.returns-in-Err-NoMemory
returns-in-Err-NoMemory c =
    memory_takes c.args.held.now c.args.session c.take.new.held c.take.new.self c.args.message.now
    (rw c.in-Err-NoMemory.field-0-is at c.in-Err-NoMemory.ensures)

pub returns-in-Err-OutOfPlace : goal.returns-in-Err-OutOfPlace
returns-in-Err-OutOfPlace c =
    subst (λ (t : Taken). Takes (copy_with c.args.held.now c.args.session) c.args.message.now (copy_of c.take.new.held None) t)
    (sym c.out_of_place.ensures)
    (out_of_place_takes c.args.held.now c.args.session c.take.new.held c.take.new.self c.args.message.now
    (rw c.in-Err-OutOfPlace.field-0-is at c.in-Err-OutOfPlace.ensures))

pub returns-in-Err-Fault : goal.returns-in-Err-Fault
returns-in-Err-Fault c =
    fault_takes c.in-Err-Fault.fault c.args.held.now c.args.session c.take.new.held c.take.new.self c.args.message.now
    (rw c.in-Err-Fault.field-0-is at c.in-Err-Fault.ensures)
