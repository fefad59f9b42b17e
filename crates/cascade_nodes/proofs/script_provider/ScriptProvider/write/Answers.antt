use Rattle.cascade_nodes.proofs.Asked.{wrote_ours}
use Rattle.cascade_nodes.proofs.script_provider.ScriptProvider.write.Goals as goal

pub invariant_of-self : goal.invariant_of-self
invariant_of-self c =
    wrote_ours c.self.inside.provider c.write.new.self c.args.op c.args.now c.write.result.code c.self.invariant c.write.ensures.leaves.state c.write.ensures.leaves.err
