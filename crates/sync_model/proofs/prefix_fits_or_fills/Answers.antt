use Rattle.sync_model.proofs.Filling as law
use Rattle.sync_model.proofs.prefix_fits_or_fills.Goals as goal

pub returns : goal.returns
returns c = λ operation ascending within id start accepted pieces count copy prefix rest cut begins same.
    law.prefix_fits_or_fills operation ascending within id start accepted pieces count copy prefix rest cut begins same
