use Rattle.std.proofs.Common.{◌≡◌, ◌++◌, ap, ◌∙◌}
use Rattle.std.specs.Prelude.{codes}
use Rattle.dn_names.specs.Reading.{rdn_of_text}
use Rattle.drill_plan.specs.Names.{entry_rdn, entry_text}
use Rattle.drill_plan.proofs.ReadNames.{entry_reread, read_as}
use Rattle.drill_plan.proofs.naming.entry_rdn.Goals as goal

-- the text is `cn=`, and the text of the entry
pub read_rdn-requires : goal.read_rdn-requires
read_rdn-requires c =
    let text : c.as_bytes.result.now ≡ codes "cn=" ++ entry_text c.args.slot = c.as_bytes.ensures.value ∙ c.in_ok-text.ensures.ok in
    (entry_rdn c.args.slot, ap rdn_of_text text ∙ entry_reread c.args.slot c.requires)

pub returns : goal.returns
returns c =
    let text : c.as_bytes.result.now ≡ codes "cn=" ++ entry_text c.args.slot = c.as_bytes.ensures.value ∙ c.in_ok-text.ensures.ok in
    read_as c.as_bytes.result.now (entry_rdn c.args.slot) c.read_rdn.result
    (ap rdn_of_text text ∙ entry_reread c.args.slot c.requires) c.read_rdn.ensures
