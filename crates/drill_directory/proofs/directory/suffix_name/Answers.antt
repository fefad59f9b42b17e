use Rattle.std.proofs.Common.{ap}
use Rattle.entry_tree.specs.Selection.{Search}
use Rattle.drill_directory.proofs.directory.suffix_name.Goals as goal

pub returns : goal.returns
returns c =
    let base = ap (λ (search : Search). search.base) c.in_ok-spec.ensures in
    rw (← base) c.copy.ensures
