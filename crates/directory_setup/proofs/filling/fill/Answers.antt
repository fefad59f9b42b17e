use Rattle.std.proofs.lemmas.Result.{err_from_is_err_and}
use Rattle.directory_setup.proofs.Fillings.{fills_more, fills_none, part_more, part_none}
use Rattle.directory_setup.proofs.filling.fill.Goals as goal

pub records-init : goal.records-init
records-init g c = rw c.new-records.ensures (record { fills = λ filling new fills. fills; part = λ new part. part })

pub records-preserved : goal.records-preserved
records-preserved g c =
    let step = rw c.in-Added.is at c.in_ok-taken.ensures.steps in
    record {
      fills = λ filling new later. c.records.invariant.fills filling new (fills_more _ _ _ _ filling new step later);
      part = λ new later. c.records.invariant.part new (part_more _ _ _ _ new step later);
    }

pub records-smaller : goal.records-smaller
records-smaller g c =
    let step = rw c.in-Added.is at c.in_ok-taken.ensures.steps in
    step.2

pub returns-in_err-taken-clause-err : goal.returns-in_err-taken-clause-err
returns-in_err-taken-clause-err g c =
    let p = err_from_is_err_and c.from_residual.result c.from_residual.ensures.1 in
    rw p.1 (c.records.invariant.part _ (part_none _ _ _ c.in_err-taken.ensures.err))

pub returns-in-Over-clause-fills : goal.returns-in-Over-clause-fills
returns-in-Over-clause-fills g c =
    let step = rw c.in-Over.is at c.in_ok-taken.ensures.steps in
    c.records.invariant.fills c.in-Over.filling _ (rw step.0 (fills_none _ _ _ step.1))
