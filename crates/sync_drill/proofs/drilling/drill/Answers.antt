-- What the threads are given, and what they leave.
use Rattle.std.proofs.Common.{sym, subst, arith}
use Rattle.std.specs.List.{All}
use Rattle.sync_drill.specs.Followed.{HaveWorked}
use Rattle.sync_drill.specs.Following.{IsFollowing, MayFollow}
use Rattle.sync_drill.specs.Writers.{MayWrite}
use Rattle.sync_drill.proofs.Finished.{may_write}
use Rattle.sync_drill.proofs.Lists.{each-all}
use Rattle.sync_drill.proofs.Worked.{begun_count, unused, worked}
use Rattle.sync_drill.proofs.drilling.drill.Goals as goal

pub parted-first-requires : goal.parted-first-requires
parted-first-requires g c = omega (arith, c.requires.writers, c.requires.plan.writers.0)

pub writings_of-requires : goal.writings_of-requires
writings_of-requires g c =
    let count = begun_count g.P.Port.home g.P.Port.state c.args.plan.now c.args.writers.items c.args.consumers.items c.requires.fresh c.requires.writers c.requires.consumers
    c.parted-first.result.0 c.parted-first.result.1.items c.in_ok-ports.ports.items c.parted-first.ensures c.in_ok-ports.ensures in
    omega (arith, count, c.requires.plan.writers.1)

pub followings_of-requires : goal.followings_of-requires
followings_of-requires g c = record {
  few = omega (arith, c.requires.consumers, c.requires.plan.consumers.1);
  unused =
      unused g.P.Port.home g.P.Port.state c.args.plan.now c.args.writers.items c.args.consumers.items c.requires.fresh c.requires.writers
      c.requires.consumers;
}

pub work_each-requires-clause-writers : goal.work_each-requires-clause-writers
work_each-requires-clause-writers g c κs within =
    let count = begun_count g.P.Port.home g.P.Port.state c.args.plan.now c.args.writers.items c.args.consumers.items c.requires.fresh c.requires.writers c.requires.consumers
    c.parted-first.result.0 c.parted-first.result.1.items c.in_ok-ports.ports.items c.parted-first.ensures c.in_ok-ports.ensures in
    subst (All MayWrite) (sym c.in_ok-writings.ensures)
    (may_write c.args.plan.now 0 c.in_ok-ports.ports.items (omega (arith, count, c.requires.plan.writers.1)) c.requires.plan.size.1)

pub work_each-requires-clause-consumers : goal.work_each-requires-clause-consumers
work_each-requires-clause-consumers g c κs within =
    each-all (IsFollowing g.P.Port.state) (MayFollow g.P.Port.state) 0 c.in_ok-followings.followings.items (λ n f is. is.halves)
    c.in_ok-followings.ensures.follow

pub parted-front-requires : goal.parted-front-requires
parted-front-requires g c =
    let all = worked g.P.Port.home g.P.Port.state c.args.plan.now c.args.writers.items c.args.consumers.items c.requires.fresh c.requires.writers c.requires.consumers
    c.parted-first.result.0 c.parted-first.result.1.items c.in_ok-ports.ports.items c.parted-first.ensures c.in_ok-ports.ensures
    c.in_ok-writings.writings.items c.in_ok-worked.worked.0.items c.in_ok-after.after.items c.in_ok-writings.ensures c.in_ok-worked.ensures.writers
    c.in_ok-after.ensures c.in_ok-followings.followings.items c.in_ok-worked.worked.1.items c.in_ok-followings.ensures.begin
    c.in_ok-followings.ensures.follow c.in_ok-worked.ensures.consumers in
    omega (arith, all.counts.0, c.requires.plan.writers.0)

pub finish-requires : goal.finish-requires
finish-requires g c =
    let home = g.P.Port.home in
    let state = g.P.Port.state in
    let plan = c.args.plan.now in
    let all = worked home state plan c.args.writers.items c.args.consumers.items c.requires.fresh c.requires.writers c.requires.consumers
    c.parted-first.result.0 c.parted-first.result.1.items c.in_ok-ports.ports.items c.parted-first.ensures c.in_ok-ports.ensures
    c.in_ok-writings.writings.items c.in_ok-worked.worked.0.items c.in_ok-after.after.items c.in_ok-writings.ensures c.in_ok-worked.ensures.writers
    c.in_ok-after.ensures c.in_ok-followings.followings.items c.in_ok-worked.worked.1.items c.in_ok-followings.ensures.begin
    c.in_ok-followings.ensures.follow c.in_ok-worked.ensures.consumers in
    record {
      plan = c.requires.plan;
      worked = subst (λ ports. HaveWorked home state plan ports c.in_ok-worked.worked.1.items) c.parted-front.ensures all;
    }

pub returns-clause-summary : goal.returns-clause-summary
returns-clause-summary g c = c.finish.ensures.summary

pub returns-clause-drilled : goal.returns-clause-drilled
returns-clause-drilled g c = c.finish.ensures.drilled
