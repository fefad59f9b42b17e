use Rattle.sync_model.proofs.Fitting as law
use Rattle.sync_model.proofs.prefix_fits.Goals as goal

pub returns : goal.returns
returns c = λ operation ascending within id start accepted count copy prefix rest begins same. law.prefix_fits operation ascending within id start accepted count copy prefix rest begins same
