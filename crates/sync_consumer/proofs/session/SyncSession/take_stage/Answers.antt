use Rattle.sync_consumer.specs.declared.session.SyncSession as kept
use Rattle.sync_wire.specs.Requesting.{persists}
use Rattle.sync_consumer.proofs.Outcomes.{staged_steps}
use Rattle.sync_consumer.proofs.session.SyncSession.take_stage.Goals as goal

pub returns : goal.returns
returns c =
    let after : kept.SyncSession = record c.args.self.now { named = c.clear.new.self; stage = c.clear-2.new.self } in
    staged_steps c.args.held.now c.args.self.now c.commit_stage.new.self after c.args.stage c.args.cookie c.in-Some.cookie c.in_ok-commit.commit
    c.if-not-self.false c.in-Some.is c.in_ok-commit.ensures.within c.in_ok-commit.ensures.entries c.in_ok-commit.ensures.cookie c.in_ok-commit.ensures.commit
    (λ i. record {
      id = c.args.self.now.id;
      persists = persists c.args.self.now.mode;
      persisting = c.args.self.now.persisting;
      ended = c.args.self.now.ended;
      named = c.clear.ensures i;
      stage = c.clear-2.ensures i;
    })
