use Rattle.std.proofs.Common.{refl}
use Rattle.std.proofs.lemmas.Result.{err_from_is_err_and}
use Rattle.syncrepl_tool.proofs.ServedReady.{read_failed, refused_setup, runs_out_first, served_ready}
use Rattle.syncrepl_tool.proofs.serve.serve_with.Goals as goal

pub serve_ready-requires-clause-seats : goal.serve_ready-requires-clause-seats
serve_ready-requires-clause-seats g c κs within = rw c.in-Ready.is at c.in_ok-setup.ensures.servable.seats

pub serve_ready-requires-clause-filter : goal.serve_ready-requires-clause-filter
serve_ready-requires-clause-filter g c κs within = rw c.in-Ready.is at c.in_ok-setup.ensures.servable.filter

pub returns-in_err-setup-clause-serves : goal.returns-in_err-setup-clause-serves
returns-in_err-setup-clause-serves g c =
    let ran = err_from_is_err_and c.from_residual.result c.from_residual.ensures.1 in
    rw ran.1 (runs_out_first _ c.args.name.now _ _ ran.0 c.in_err-setup.ensures.servable.sound refl refl)

pub returns-in-Ready-clause-serves : goal.returns-in-Ready-clause-serves
returns-in-Ready-clause-serves g c =
    served_ready _ c.args.name.now _ _ c.in-Ready.ready c.serve_ready.result (rw c.in-Ready.is at c.in_ok-setup.ensures.sets_up)
    (rw c.in-Ready.is at c.in_ok-setup.ensures.servable.failed) c.serve_ready.ensures.serves

pub returns-in-Refused-clause-serves : goal.returns-in-Refused-clause-serves
returns-in-Refused-clause-serves g c =
    refused_setup _ c.args.name.now _ _ c.in-Refused.refusal c.refuse.result (rw c.in-Refused.is at c.in_ok-setup.ensures.sets_up)
    (rw c.in-Refused.is at c.in_ok-setup.ensures.servable.failed) c.refuse.ensures.says refl refl

pub returns-in-ReadFault-clause-serves : goal.returns-in-ReadFault-clause-serves
returns-in-ReadFault-clause-serves g c =
    read_failed _ c.args.name.now _ _ c.read_fault.result c.read_fault.ensures.code (rw c.in-ReadFault.is at c.in_ok-setup.ensures.servable.failed) c.read_fault.ensures.says refl refl
