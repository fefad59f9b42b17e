use Rattle.sync_provider.specs.Machine.{fresh}
use Rattle.sync_provider.proofs.Places.{run_places}
use Rattle.sync_provider.proofs.laws.searches_keep_their_place.Goals as goal

pub returns : goal.returns
returns c = λ suffix sid history kind calls. run_places calls (fresh suffix sid history kind) tt
