-- A pair that is taken out below a node stands before or after the pair of that node.
use Rattle.std.proofs.Common.{◌∷◌, ◌++◌, length, sym, ap, ◌∙◌, Less, Equal, Greater}
use Rattle.std.proofs.lemmas.Result.{IfOk-weaker, on_ok_weaker}
use Rattle.shared_map.specs.Nodes.{count_with, pair_of, pairs}
use Rattle.shared_map.proofs.Around.{remove_entry-around}
use Rattle.shared_map.proofs.Counts.{count-lower, count-higher}
use Rattle.shared_map.proofs.Keys.{ascends_before, ascends_after}
use Rattle.shared_map.proofs.taking_out.+taking.Goals as goal

pub take_below-returns-in-Less-clause-ok : goal.take_below-returns-in-Less-clause-ok
take_below-returns-in-Less-clause-ok g t c = λ ascends.
    let node = c.args.node.now in
    let compare = g.Q.Query.compare c.args.key in
    let is = ap compare (sym c.deref.ensures) ∙ sym c.compare.ensures ∙ c.in-Less.is in
    on_ok_weaker c.take_from-lower.result.1
    (λ taken. c.set_lower.ensures ∙ ap (λ es. es ++ pair_of node.pair ∷ pairs node.higher) taken
    ∙ sym (remove_entry-around (g.met.Q.Query.laws c.args.key) (pairs node.lower)
    (pair_of node.pair) (pairs node.higher) ascends Less is))
    ((rw c.replace-lower.ensures.value at c.take_from-lower.ensures.ok)
    (ascends_before g.K.Ord.cmp (pairs node.lower) (pair_of node.pair ∷ pairs node.higher) ascends))

pub take_below-returns-in-Equal-clause-own : goal.take_below-returns-in-Equal-clause-own
take_below-returns-in-Equal-clause-own g t c = λ ascends.
    let node = c.args.node.now in
    let compare = g.Q.Query.compare c.args.key in
    let is = ap compare (sym c.deref.ensures) ∙ sym c.compare.ensures ∙ c.in-Equal.is in
    sym (remove_entry-around (g.met.Q.Query.laws c.args.key) (pairs node.lower)
    (pair_of node.pair) (pairs node.higher) ascends Equal is)

pub take_below-returns-in-Greater-clause-ok : goal.take_below-returns-in-Greater-clause-ok
take_below-returns-in-Greater-clause-ok g t c = λ ascends.
    let node = c.args.node.now in
    let compare = g.Q.Query.compare c.args.key in
    let is = ap compare (sym c.deref.ensures) ∙ sym c.compare.ensures ∙ c.in-Greater.is in
    on_ok_weaker c.take_from-higher.result.1
    (λ taken. c.set_higher.ensures ∙ ap (λ es. pairs node.lower ++ pair_of node.pair ∷ es) taken
    ∙ sym (remove_entry-around (g.met.Q.Query.laws c.args.key) (pairs node.lower)
    (pair_of node.pair) (pairs node.higher) ascends Greater is))
    ((rw c.replace-higher.ensures.value at c.take_from-higher.ensures.ok)
    (ascends_after g.K.Ord.cmp (pairs node.lower) (pair_of node.pair) (pairs node.higher) ascends))

pub take_below-returns-in-Less-clause-count : goal.take_below-returns-in-Less-clause-count
take_below-returns-in-Less-clause-count g t c =
    let node = c.args.node.now in
    IfOk-weaker c.take_from-lower.result.1 _ _
    (λ was_there count. count-lower was_there (pairs c.take_from-lower.result.0) (pairs node.lower)
    count (pair_of node.pair) (pairs node.higher)
    ∙ ap (λ es. count_with was_there (length es)) (sym c.set_lower.ensures))
    (rw c.replace-lower.ensures.value at c.take_from-lower.ensures.count)

pub take_below-returns-in-Greater-clause-count : goal.take_below-returns-in-Greater-clause-count
take_below-returns-in-Greater-clause-count g t c =
    let node = c.args.node.now in
    IfOk-weaker c.take_from-higher.result.1 _ _
    (λ was_there count. count-higher was_there (pairs c.take_from-higher.result.0)
    (pairs node.higher) count (pair_of node.pair) (pairs node.lower)
    ∙ ap (λ es. count_with was_there (length es)) (sym c.set_higher.ensures))
    (rw c.replace-higher.ensures.value at c.take_from-higher.ensures.count)
