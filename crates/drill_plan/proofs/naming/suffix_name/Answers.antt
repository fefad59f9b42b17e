use Rattle.std.proofs.Common.{◌≡◌, ◌∷◌, ap, ◌∙◌}
use Rattle.std.specs.Prelude.{codes}
use Rattle.std.proofs.lemmas.Result.{IfOk-weaker}
use Rattle.dn_names.specs.Reading.{rdn_of_text}
use Rattle.drill_plan.specs.Names.{rdn_of_one, suffix}
use Rattle.drill_plan.proofs.ReadNames.{same_read, suffix_reread}
use Rattle.drill_plan.proofs.naming.suffix_name.Goals as goal

pub read_rdn-requires : goal.read_rdn-requires
read_rdn-requires c = (rdn_of_one 12 (codes "drill"), suffix_reread)

pub returns : goal.returns
returns c =
    let rdn = same_read (rdn_of_text (codes "dc=drill")) c.in_ok-rdn.rdn (rdn_of_one 12 (codes "drill")) c.in_ok-rdn.ensures suffix_reread in
    IfOk-weaker c.name_below.result (λ name. name ≡ c.in_ok-rdn.rdn ∷ c.empty.result) (λ name. name ≡ suffix)
    (λ name is. is ∙ ap (λ first. first ∷ c.empty.result) rdn ∙ ap (λ above. rdn_of_one 12 (codes "drill") ∷ above) c.empty.ensures)
    c.name_below.ensures
