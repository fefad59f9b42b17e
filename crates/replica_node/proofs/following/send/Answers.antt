use Rattle.replica_node.proofs.following.send.Goals as goal

pub returns : goal.returns
returns g c = c.ask-asked.ensures.asks c.requires.live
