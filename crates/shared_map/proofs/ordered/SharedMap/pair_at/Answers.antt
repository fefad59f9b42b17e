use Rattle.std.proofs.Common.{ap, ◌∙◌}
use Rattle.std.specs.BTreeMap.{is_at}
use Rattle.std.specs.Map.{lookup_entry}
use Rattle.shared_map.proofs.ordered.SharedMap.pair_at.Goals as goal

pub returns-clause-pair : goal.returns-clause-pair
returns-clause-pair g c =
    c.pair_at.ensures.pair c.self.invariant.0
    ∙ ap (lookup_entry (is_at (g.Q.Query.compare c.args.key))) c.self.view_is
