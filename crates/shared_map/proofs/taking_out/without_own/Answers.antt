-- The pair of the node itself is one less.
use Rattle.std.proofs.Common.{length, sym, ap, ◌∙◌, ◌+◌}
use Rattle.shared_map.specs.Nodes.{pair_of, pairs, pairs_beside}
use Rattle.shared_map.proofs.Counts.{count-own}
use Rattle.shared_map.proofs.taking_out.without_own.Goals as goal

pub returns-in-Ok-clause-count : goal.returns-in-Ok-clause-count
returns-in-Ok-clause-count g c =
    let node = c.args.shared.value in
    count-own (pairs node.lower) (pair_of node.pair) (pairs node.higher)
    ∙ ap (λ es. length es + 1) (ap pairs_beside (sym c.deref.ensures) ∙ sym c.in-Ok.ensures)
