use Rattle.sync_drill.proofs.Lists.{first_and_others}
use Rattle.sync_drill.proofs.drilling.parted.Goals as goal

pub returns : goal.returns
returns g c =
    first_and_others c.args.ports.items c.remove-first.new.self.items c.remove-first.result c.requires c.remove-first.ensures.value c.remove-first.ensures.items
