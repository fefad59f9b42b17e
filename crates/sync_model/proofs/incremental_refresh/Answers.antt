use Rattle.sync_model.proofs.Incremental as law
use Rattle.sync_model.proofs.incremental_refresh.Goals as goal

pub returns : goal.returns
returns c = λ operation ascending start number accepted pieces from least cut. law.refresh_sent operation ascending start number accepted pieces from least cut
