use Rattle.std.proofs.Common.{sym, subst}
use Rattle.sync_drill.specs.Handing.{MayOpen}
use Rattle.sync_drill.proofs.Unused.{unused_may_open}
use Rattle.sync_drill.proofs.preparing.opened.Goals as goal

pub open-requires : goal.open-requires
open-requires g c =
    let state = g.P.Port.state in
    subst (MayOpen c.args.consumer (state c.args.port)) (sym c.requires.none) (unused_may_open c.args.consumer (state c.args.port) c.requires.unused)

pub returns-clause-home : goal.returns-clause-home
returns-clause-home g c = c.open.ensures.home

pub returns-clause-goes_on : goal.returns-clause-goes_on
returns-clause-goes_on g c = c.open.ensures.goes_on

pub returns-clause-same : goal.returns-clause-same
returns-clause-same g c = c.open.ensures.same

pub returns-clause-handing : goal.returns-clause-handing
returns-clause-handing g c = c.in_ok-open.ensures.handing
