-- The link without its first message.
use Rattle.std.proofs.Common.{drop, ap, ◌∙◌, arith}
use Rattle.cascade_nodes.proofs.Links.{first_dropped, first_dropped_holds, first_size}
use Rattle.cascade_nodes.proofs.link.Link.drop_first.Goals as goal

pub overflow_sub-self : goal.overflow_sub-self
overflow_sub-self c =
    let size = first_size c.self.inside.messages c.remove.new.self _ c.in-Some.message.now c.as_slice-length.result.now c.in-Some.ensures c.as_slice-length.ensures c.in_ok-remove.ensures.ok in
    omega (arith, size, c.self.invariant.1.0)

pub invariant_of-self-2 : goal.invariant_of-self-2
invariant_of-self-2 c =
    first_dropped_holds c.self.inside.messages c.remove.new.self c.self.inside.next c.self.inside.bytes _ c.in-Some.message.now c.as_slice-length.result.now
    c.self.invariant.0 c.self.invariant.1.0 c.self.invariant.1.1 c.in-Some.ensures c.as_slice-length.ensures c.in_ok-remove.ensures.ok

pub returns-clause-ok : goal.returns-clause-ok
returns-clause-ok c =
    first_dropped c.self.inside.messages c.remove.new.self _ c.in-Some.message.now c.in-Some.ensures c.in_ok-remove.ensures.ok
    ∙ ap (λ link. drop 1 link) c.self.view_is
