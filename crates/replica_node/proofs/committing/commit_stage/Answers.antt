use Rattle.std.proofs.Common.{◌≡◌, ◌+◌, ◌-◌, ◌^◌, min, refl, arith, rules}
use Rattle.replica_node.specs.Following.{IsCounted}
use Rattle.replica_node.proofs.Counting.{committed_count, refused_count}
use Rattle.replica_node.proofs.committing.commit_stage.Goals as goal

pub commit-requires : goal.commit-requires
commit-requires g c =
    let sound = c.requires.fit.sound in
    let light = c.requires.fit.light in
    search rules

-- it was made, and is counted

pub returns-in-Ok-clause-commits : goal.returns-in-Ok-clause-commits
returns-in-Ok-clause-commits g c =
    let stored = c.args.stored.now in
    let count : (min (stored + 1) (2 ^ 64 - 1) ≡ stored + 1) × IsCounted (g.P.Port.state c.commit.new.self) (stored + 1) =
    committed_count (g.P.Port.state c.args.port.now) (g.P.Port.state c.commit.new.self) c.args.commit.puts c.args.commit.drops c.now.result _ stored c.in-Ok.ensures.replies c.requires.counted in
    (_, record { now = c.now.result; replied = c.in-Ok.ensures.replies }, omega (arith, count.0, c.saturating_add-counted.ensures))

pub returns-in-Ok-clause-counted : goal.returns-in-Ok-clause-counted
returns-in-Ok-clause-counted g c =
    let stored = c.args.stored.now in
    let count : (min (stored + 1) (2 ^ 64 - 1) ≡ stored + 1) × IsCounted (g.P.Port.state c.commit.new.self) (stored + 1) =
    committed_count (g.P.Port.state c.args.port.now) (g.P.Port.state c.commit.new.self) c.args.commit.puts c.args.commit.drops c.now.result _ stored c.in-Ok.ensures.replies c.requires.counted in
    omega (arith, count.0, count.1, c.saturating_add-counted.ensures)

-- it is refused

pub returns-clause-commits : goal.returns-clause-commits
returns-clause-commits g c = (c.in-Err.fault, record { now = c.now.result; replied = c.in-Err.ensures.replies }, c.outcome_of_fault.ensures, refl)

pub returns-clause-counted : goal.returns-clause-counted
returns-clause-counted g c =
    refused_count (g.P.Port.state c.args.port.now) (g.P.Port.state c.commit.new.self) c.args.commit.puts c.args.commit.drops c.now.result c.args.stored.now c.in-Err.fault
    c.in-Err.ensures.replies c.requires.counted
