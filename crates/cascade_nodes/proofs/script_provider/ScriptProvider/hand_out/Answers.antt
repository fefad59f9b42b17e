use Rattle.cascade_nodes.proofs.Asked.{spelled}
use Rattle.cascade_nodes.proofs.script_provider.ScriptProvider.hand_out.Goals as goal

pub returns-clause-spelled : goal.returns-clause-spelled
returns-clause-spelled c =
    spelled c.self.inside.provider.directory c.self.inside.provider.searches c.args.number c.hand_out.result c.self.invariant c.hand_out.ensures.leaves.turn
