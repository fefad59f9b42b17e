use Rattle.std.proofs.Common.{◌∙◌}
use Rattle.csn_cookie.proofs.csn.Csn.write.Goals as goal
use Rattle.csn_cookie.proofs.SpellingLemmas.{csn_of_text-csn_text, csn_text-same}

pub returns-clause-read_again : goal.returns-clause-read_again
returns-clause-read_again c = rw c.to_text.ensures.text (csn_of_text-csn_text c.args.self.now c.to_text.ensures.bounds)

pub returns-clause-one : goal.returns-clause-one
returns-clause-one c csn is e = csn_text-same csn c.args.self.now is c.to_text.ensures.bounds (e ∙ c.to_text.ensures.text)
