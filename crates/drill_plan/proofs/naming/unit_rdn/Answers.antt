use Rattle.std.proofs.Common.{◌≡◌, ◌++◌, ap, ◌∙◌}
use Rattle.std.specs.Prelude.{codes}
use Rattle.dn_names.specs.Reading.{rdn_of_text}
use Rattle.drill_plan.specs.Names.{unit_rdn, unit_text}
use Rattle.drill_plan.proofs.ReadNames.{unit_reread, read_as}
use Rattle.drill_plan.proofs.naming.unit_rdn.Goals as goal

-- the text is `ou=`, and the text of the unit
pub read_rdn-requires : goal.read_rdn-requires
read_rdn-requires c =
    let text : c.as_bytes.result.now ≡ codes "ou=" ++ unit_text c.args.writer c.args.renamed =
    c.as_bytes.ensures.value ∙ c.in_ok-text.ensures.ok ∙ ap (λ unit. codes "ou=" ++ unit) c.in_ok-unit.ensures in
    (unit_rdn c.args.writer c.args.renamed, ap rdn_of_text text ∙ unit_reread c.args.writer c.args.renamed c.requires)

pub returns : goal.returns
returns c =
    let text : c.as_bytes.result.now ≡ codes "ou=" ++ unit_text c.args.writer c.args.renamed =
    c.as_bytes.ensures.value ∙ c.in_ok-text.ensures.ok ∙ ap (λ unit. codes "ou=" ++ unit) c.in_ok-unit.ensures in
    read_as c.as_bytes.result.now (unit_rdn c.args.writer c.args.renamed) c.read_rdn.result
    (ap rdn_of_text text ∙ unit_reread c.args.writer c.args.renamed c.requires) c.read_rdn.ensures
