use Rattle.std.proofs.Common.{ap, ◌∙◌}
use Rattle.std.specs.Prelude.{Some}
use Rattle.shared_map.proofs.Parts.{value_found}
use Rattle.shared_map.proofs.ordered.SharedMap.get.Goals as goal

pub returns-in-Some : goal.returns-in-Some
returns-in-Some g c =
    ap Some c.value.ensures ∙ value_found _ c.args.self.now c.in-Some.ensures.pair

pub returns-in-None : goal.returns-in-None
returns-in-None g c = value_found _ c.args.self.now c.in-None.ensures.pair
