use Rattle.std.proofs.Common.{sym, refl, ◌∙◌}
use Rattle.cascade_exchange.specs.Exchange.{closed, copy_of, emptied}
use Rattle.cascade_exchange.proofs.Reception.{refused_end}
use Rattle.cascade_exchange.proofs.receiving.take_message.Goals as goal

pub returns-then-branch-clause-does : goal.returns-then-branch-clause-does
returns-then-branch-clause-does c =
    let node = c.args.consumer_node.now in
    refused_end c.args.out.now.lineage c.args.provider.now (closed c.args.provider.now node.search) node (emptied node (copy_of node)) c.args.message.now _ _
    (sym c.in_ok-ends_without_cookie.ensures ∙ c.if-branch.true) refl (rw c.as_slice.ensures at c.in_ok-faulted.ensures.line)
