use Rattle.std.proofs.Common.{refl}
use Rattle.sync_drill.proofs.following.settled_by.Goals as goal

pub settle-requires : goal.settle-requires
settle-requires g c =
    let fine = c.has_failed.ensures c.if-has_failed.false in
    record { may = c.requires; halves = (c.requires.handing fine.0, c.requires.taking fine.1) }

pub returns-then-has_failed-clause-first : goal.returns-then-has_failed-clause-first
returns-then-has_failed-clause-first g c = record { its_home = refl; its_state = refl }

pub returns-in_err-settle-clause-first : goal.returns-in_err-settle-clause-first
returns-in_err-settle-clause-first g c = c.settle.ensures.first

pub returns-clause-first : goal.returns-clause-first
returns-clause-first g c = c.settle.ensures.first

pub returns-clause-up : goal.returns-clause-up
returns-clause-up g c = c.in_ok-settle.ensures.up
