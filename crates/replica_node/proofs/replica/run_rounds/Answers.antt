use Rattle.std.proofs.Common.{◌<◌, refl, sym, ◌∙◌, arith, rules}
use Rattle.ldap_client.specs.Links.{link_by}
use Rattle.replica_node.specs.Following.{replica_at}
use Rattle.replica_node.specs.Rounds.{wanted_by}
use Rattle.replica_node.specs.declared.end.RoundOutcome.TheVariants.{LimitReached, NoMemory, Over}
use Rattle.replica_node.proofs.Rounding.{filter_stays, followed_more, followed_none, limited, ran_out, round_wanting, rounds_done}
use Rattle.replica_node.proofs.replica.run_rounds.Goals.{else-rounds-ne0-via-then-rounds-ne0+else-tried-rounds, else-rounds-ne0-via-else-rounds-ne0}
use Rattle.replica_node.proofs.replica.run_rounds.Goals as goal

-- what is wanted stays, and so does the depth of its filter
pub run_round-requires : goal.run_round-requires
run_round-requires g c =
    let counted = c.loop.invariant.counted in
    let filter = filter_stays c.args.consumer.now c.loop.consumer (sym c.loop.invariant.wanted) c.requires.filter in
    search rules

pub loop-init : goal.loop-init
loop-init g c =
    let state = link_by g.D.Link.Source.bytes_left g.D.Link.Source.bytes_read g.D.Link.Sink.bytes_held g.D.Link.Source.read_fault_count g.D.Link.Sink.write_fault_count in
    record {
      follows = followed_none state c.args.address.now (wanted_by c.args.consumer.now) (g.P.Port.state c.args.port.now) (g.D.Dial.dialled c.args.dial.now) c.args.rounds c.args.consumer.now.copy
          c.requires.empty;
      counted = omega arith;
      home = refl;
      wanted = refl;
      later = omega arith;
    }

pub loop-preserved : goal.loop-preserved
loop-preserved g c =
    let state = link_by g.D.Link.Source.bytes_left g.D.Link.Source.bytes_read g.D.Link.Sink.bytes_held g.D.Link.Source.read_fault_count g.D.Link.Sink.write_fault_count in
    let was = c.loop.invariant in
    let mid = replica_at c.loop.consumer.copy (g.P.Port.state c.loop.port) c.loop.stored in
    let now = c.run_round.new in
    let after = replica_at now.consumer.copy (g.P.Port.state now.port) now.stored in
    let round =
    round_wanting state (wanted_by c.loop.consumer) (wanted_by c.args.consumer.now) c.args.address.now (g.D.Dial.dialled c.loop.dial) (g.D.Dial.dialled now.dial) mid after Over was.wanted
    c.in-Over.ensures.round in
    record {
      follows = followed_more state c.args.address.now (wanted_by c.args.consumer.now) (g.P.Port.state c.args.port.now) (g.D.Dial.dialled c.args.dial.now) c.args.rounds c.loop.tried
          c.saturating_add-tried.result mid after (g.D.Dial.dialled c.loop.dial) (g.D.Dial.dialled now.dial) was.follows round
          (λ some. let first = was.follows.number some in elim c.else-rounds-ne0.branch [
            | else-rounds-ne0-via-then-rounds-ne0+else-tried-rounds w ↦ (
              omega (arith, first.0, first.1, some, w.if-tried-rounds.false, c.saturating_add-tried.ensures, c.ranges.rounds),
              omega (arith, first.0, first.1, some, w.if-tried-rounds.false, c.saturating_add-tried.ensures, c.ranges.rounds),
            )
            | else-rounds-ne0-via-else-rounds-ne0 w ↦ absurd (omega (arith, some, w.if-rounds-ne0.false))
          ]);
      counted = c.in-Over.ensures.counted;
      home = c.in-Over.ensures.home ∙ was.home;
      wanted = c.in-Over.ensures.wanted ∙ was.wanted;
      later = omega (arith, c.in-Over.ensures.later, was.later);
    }

-- all connections were tried
pub returns-then-tried-rounds-clause-follows : goal.returns-then-tried-rounds-clause-follows
returns-then-tried-rounds-clause-follows g c =
    let state = link_by g.D.Link.Source.bytes_left g.D.Link.Source.bytes_read g.D.Link.Sink.bytes_held g.D.Link.Source.read_fault_count g.D.Link.Sink.write_fault_count in
    let some : 0 < c.args.rounds = omega (arith, c.if-rounds-ne0.true) in
    rounds_done state c.args.address.now (wanted_by c.args.consumer.now) (g.P.Port.state c.args.port.now) (g.D.Dial.dialled c.args.dial.now) c.args.rounds c.loop.tried
    (replica_at c.loop.consumer.copy (g.P.Port.state c.loop.port) c.loop.stored) (g.D.Dial.dialled c.loop.dial) c.loop.invariant.follows some c.if-tried-rounds.true

-- a commit passes a limit
pub returns-in-LimitReached-clause-follows : goal.returns-in-LimitReached-clause-follows
returns-in-LimitReached-clause-follows g c =
    let state = link_by g.D.Link.Source.bytes_left g.D.Link.Source.bytes_read g.D.Link.Sink.bytes_held g.D.Link.Source.read_fault_count g.D.Link.Sink.write_fault_count in
    let was = c.loop.invariant in
    let mid = replica_at c.loop.consumer.copy (g.P.Port.state c.loop.port) c.loop.stored in
    let now = c.run_round.new in
    let after = replica_at now.consumer.copy (g.P.Port.state now.port) now.stored in
    let limit = c.in-LimitReached.limit in
    let round =
    round_wanting state (wanted_by c.loop.consumer) (wanted_by c.args.consumer.now) c.args.address.now (g.D.Dial.dialled c.loop.dial) (g.D.Dial.dialled now.dial) mid after (LimitReached limit) was.wanted
    c.in-LimitReached.ensures.round in
    limited state c.args.address.now (wanted_by c.args.consumer.now) (g.P.Port.state c.args.port.now) (g.D.Dial.dialled c.args.dial.now) c.args.rounds c.loop.tried limit mid after
    (g.D.Dial.dialled c.loop.dial) (g.D.Dial.dialled now.dial) was.follows round
    (λ some. let first = was.follows.number some in elim c.else-rounds-ne0.branch [
      | else-rounds-ne0-via-then-rounds-ne0+else-tried-rounds w ↦ omega (arith, first.0, first.1, some, w.if-tried-rounds.false)
      | else-rounds-ne0-via-else-rounds-ne0 w ↦ absurd (omega (arith, some, w.if-rounds-ne0.false))
    ])

pub returns-in-LimitReached-clause-home : goal.returns-in-LimitReached-clause-home
returns-in-LimitReached-clause-home g c = c.in-LimitReached.ensures.home ∙ c.loop.invariant.home

pub returns-in-LimitReached-clause-later : goal.returns-in-LimitReached-clause-later
returns-in-LimitReached-clause-later g c = omega (arith, c.in-LimitReached.ensures.later, c.loop.invariant.later)

-- memory ran out
pub returns-in-NoMemory-clause-follows : goal.returns-in-NoMemory-clause-follows
returns-in-NoMemory-clause-follows g c =
    let state = link_by g.D.Link.Source.bytes_left g.D.Link.Source.bytes_read g.D.Link.Sink.bytes_held g.D.Link.Source.read_fault_count g.D.Link.Sink.write_fault_count in
    let was = c.loop.invariant in
    let mid = replica_at c.loop.consumer.copy (g.P.Port.state c.loop.port) c.loop.stored in
    let now = c.run_round.new in
    let after = replica_at now.consumer.copy (g.P.Port.state now.port) now.stored in
    let round =
    round_wanting state (wanted_by c.loop.consumer) (wanted_by c.args.consumer.now) c.args.address.now (g.D.Dial.dialled c.loop.dial) (g.D.Dial.dialled now.dial) mid after NoMemory was.wanted
    c.in-NoMemory.ensures.round in
    ran_out state c.args.address.now (wanted_by c.args.consumer.now) (g.P.Port.state c.args.port.now) (g.D.Dial.dialled c.args.dial.now) c.args.rounds c.loop.tried mid after
    (g.D.Dial.dialled c.loop.dial) (g.D.Dial.dialled now.dial) was.follows round
    (λ some. let first = was.follows.number some in elim c.else-rounds-ne0.branch [
      | else-rounds-ne0-via-then-rounds-ne0+else-tried-rounds w ↦ omega (arith, first.0, first.1, some, w.if-tried-rounds.false)
      | else-rounds-ne0-via-else-rounds-ne0 w ↦ absurd (omega (arith, some, w.if-rounds-ne0.false))
    ])

pub returns-in-NoMemory-clause-home : goal.returns-in-NoMemory-clause-home
returns-in-NoMemory-clause-home g c = c.in-NoMemory.ensures.home ∙ c.loop.invariant.home

pub returns-in-NoMemory-clause-later : goal.returns-in-NoMemory-clause-later
returns-in-NoMemory-clause-later g c = omega (arith, c.in-NoMemory.ensures.later, c.loop.invariant.later)
