use Rattle.std.proofs.Common.{ap, arith, inl, inr, refl}
use Rattle.sync_consumer.specs.declared.consumer.Taken.TheVariants.{Staged}
use Rattle.sync_model.specs.Copy.{Copy}
use Rattle.replica_node.proofs.Stepping.{copied_takes, fault_ends, over_ends, stored_takes}
use Rattle.replica_node.specs.Following.{replica_at}
use Rattle.replica_node.proofs.committing.take.Goals as goal

pub returns-in-Staged-clause-takes : goal.returns-in-Staged-clause-takes
returns-in-Staged-clause-takes g c = record {
  taken = Staged;
  takes = record { takes = c.in-Staged.ensures.exact; committed = tt; goes = refl };
  counted = omega arith;
}

-- a stage took effect

pub returns-in-Stored-clause-takes : goal.returns-in-Stored-clause-takes
returns-in-Stored-clause-takes g c =
    stored_takes (replica_at c.args.consumer.now.copy (g.P.Port.state c.args.port.now) c.args.stored.now) c.args.message.now c.in-Stored.commit c.commit_stage.result
    (replica_at c.take.new.self.copy (g.P.Port.state c.commit_stage.new.port) c.commit_stage.new.stored) c.in-Stored.ensures.exact c.in-Stored.ensures.committed c.commit_stage.ensures.commits

pub returns-in-Copied-clause-takes : goal.returns-in-Copied-clause-takes
returns-in-Copied-clause-takes g c =
    copied_takes (replica_at c.args.consumer.now.copy (g.P.Port.state c.args.port.now) c.args.stored.now) c.args.message.now c.in-Copied.commit c.commit_stage-in-Copied.result
    (replica_at c.take.new.self.copy (g.P.Port.state c.commit_stage-in-Copied.new.port) c.commit_stage-in-Copied.new.stored) c.in-Copied.ensures.exact c.in-Copied.ensures.committed
    c.commit_stage-in-Copied.ensures.commits

-- the message ends the round

pub returns-in-Over-clause-takes : goal.returns-in-Over-clause-takes
returns-in-Over-clause-takes g c =
    inl
    (over_ends (replica_at c.args.consumer.now.copy (g.P.Port.state c.args.port.now) c.args.stored.now) (replica_at c.take.new.self.copy (g.P.Port.state c.args.port.now) c.args.stored.now)
    c.args.message.now _ c.in-Over.ensures.exact refl refl)

pub returns-in-Fault-clause-takes : goal.returns-in-Fault-clause-takes
returns-in-Fault-clause-takes g c =
    inl
    (fault_ends (replica_at c.args.consumer.now.copy (g.P.Port.state c.args.port.now) c.args.stored.now) (replica_at c.take.new.self.copy (g.P.Port.state c.args.port.now) c.args.stored.now)
    c.args.message.now _ c.in-Fault.ensures.exact refl refl)

-- memory ran out before it was taken

pub returns-in-NoMemory-clause-takes : goal.returns-in-NoMemory-clause-takes
returns-in-NoMemory-clause-takes g c =
    inr (refl, ap (λ (copy : Copy). replica_at copy (g.P.Port.state c.args.port.now) c.args.stored.now) c.in-NoMemory.ensures.exact)
