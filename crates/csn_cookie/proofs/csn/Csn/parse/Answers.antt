use Rattle.std.proofs.Common.{◌∙◌, sym}
use Rattle.csn_cookie.proofs.csn.Csn.parse.Goals as goal
use Rattle.csn_cookie.proofs.SpellingLemmas.{parsed_spelled, parsed_bounds, parsed_only}

pub returns-clause-bounds : goal.returns-clause-bounds
returns-clause-bounds c = parsed_bounds c.ok_or.result c.args.text.now (sym c.ok_or.ensures.ok_part ∙ c.csn_of_text.ensures)

pub returns-clause-spelled : goal.returns-clause-spelled
returns-clause-spelled c = parsed_spelled c.ok_or.result c.args.text.now (sym c.ok_or.ensures.ok_part ∙ c.csn_of_text.ensures)

pub returns-clause-only : goal.returns-clause-only
returns-clause-only c = parsed_only c.ok_or.result c.args.text.now (sym c.ok_or.ensures.ok_part ∙ c.csn_of_text.ensures)
