use Rattle.sync_slices.specs.Law.{first_moment, first_tally, turned_all, tallied_all}
use Rattle.sync_slices.proofs.Shows as law
use Rattle.sync_slices.proofs.Turns.{moment_is}
use Rattle.sync_slices.proofs.slices_show.Goals as goal

pub returns : goal.returns
returns c = λ r some asc turns id copy prefix rest begins split.
    law.moment_shows r asc id copy begins (turned_all r (first_moment r) turns) (tallied_all r (first_tally r) turns) (moment_is r some turns) prefix rest split
