use Rattle.sync_model.proofs.Prefixes as law
use Rattle.sync_model.proofs.prefix_shows.Goals as goal

pub returns : goal.returns
returns c = λ operation ascending id start accepted pieces count copy prefix rest cut begins same. law.prefix_shows operation ascending id start accepted pieces count copy prefix rest cut begins same
