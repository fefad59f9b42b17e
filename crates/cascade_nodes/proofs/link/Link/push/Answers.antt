use Rattle.std.proofs.Common.{arith}
use Rattle.cascade_nodes.proofs.Links.{with_last_holds}
use Rattle.cascade_nodes.proofs.link.Link.push.Goals as goal

pub invariant_of-self-2 : goal.invariant_of-self-2
invariant_of-self-2 c =
    with_last_holds c.self.inside.messages c.insert.new.self c.self.inside.next c.self.inside.bytes _ c.as_slice-length.result.now c.self.invariant.0 c.self.invariant.1.0 c.in_ok-insert.ensures.ok c.as_slice-length.ensures (omega (arith, c.self.invariant.1.1))
