-- Each pair is a step of reading the parts.
use Rattle.std.proofs.lemmas.Result.{err_from_is_err_and}
use Rattle.dn_names.proofs.Pieces.{next_pair, last_pair, next_refused, last_refused}
use Rattle.dn_names.proofs.reading.read_pairs.Goals as goal

pub returns-in_err-read_pair-in-Some-clause-fault : goal.returns-in_err-read_pair-in-Some-clause-fault
returns-in_err-read_pair-in-Some-clause-fault c =
    let p = err_from_is_err_and c.from_residual-in_err-read_pair-in-Some.result c.from_residual-in_err-read_pair-in-Some.ensures.1 in
    let back = rw c.in-Some.is at c.cut.ensures.back in
    rw (p.1, p.2)
    (next_refused c.args.place c.args.ended _ c.pairs.pairs.items c.pairs.rest.now c.pairs.invariant back.0 _ (rw c.cut.ensures.prefix at c.in_err-read_pair-in-Some.ensures.fault))

pub pairs-preserved : goal.pairs-preserved
pairs-preserved c =
    let back = rw c.in-Some.is at c.cut.ensures.back in
    rw (c.in_ok-push-in-Some.ensures.items, back.1)
    (next_pair c.args.place c.args.ended _ c.pairs.pairs.items c.pairs.rest.now c.pairs.invariant back.0 _ (rw c.cut.ensures.prefix at c.in_ok-read_pair-in-Some.ensures.ok))

pub returns-in_err-read_pair-in-None-clause-fault : goal.returns-in_err-read_pair-in-None-clause-fault
returns-in_err-read_pair-in-None-clause-fault c =
    let p = err_from_is_err_and c.from_residual-in_err-read_pair-in-None.result c.from_residual-in_err-read_pair-in-None.ensures.1 in
    let none = rw c.in-None.is at c.cut.ensures.back in
    rw (p.1, p.2)
    (last_refused c.args.place c.args.ended _ c.pairs.pairs.items c.pairs.rest.now c.pairs.invariant none _ (rw c.cut.ensures.prefix at c.in_err-read_pair-in-None.ensures.fault))

pub returns-in-None-clause-ok : goal.returns-in-None-clause-ok
returns-in-None-clause-ok c =
    let none = rw c.in-None.is at c.cut.ensures.back in
    rw c.in_ok-push-in-None.ensures.items
    (last_pair c.args.place c.args.ended _ c.pairs.pairs.items c.pairs.rest.now c.pairs.invariant none _ (rw c.cut.ensures.prefix at c.in_ok-read_pair-in-None.ensures.ok))
