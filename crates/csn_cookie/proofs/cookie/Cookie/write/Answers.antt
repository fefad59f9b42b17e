use Rattle.std.proofs.Common.{◌∙◌}
use Rattle.csn_cookie.proofs.cookie.Cookie.write.Goals as goal
use Rattle.csn_cookie.proofs.CookieLemmas.{cookie_of_text-cookie_text, cookie_text-same}

pub returns-clause-read_again : goal.returns-clause-read_again
returns-clause-read_again c = rw c.to_text.ensures.text (cookie_of_text-cookie_text c.args.self.now c.to_text.ensures.bounds)

pub returns-clause-one : goal.returns-clause-one
returns-clause-one c cookie is e = cookie_text-same cookie c.args.self.now is c.to_text.ensures.bounds (e ∙ c.to_text.ensures.text)
