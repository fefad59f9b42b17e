use Rattle.std.proofs.Common.{◌∙◌, sym}
use Rattle.csn_cookie.proofs.cookie.is_blank.Goals as goal
use Rattle.csn_cookie.proofs.CookieLemmas.{is_blank-blank, blank-is_blank}

pub returns-clause-blank : goal.returns-clause-blank
returns-clause-blank c =
    (λ h. is_blank-blank c.args.text.now (sym c.ends_before_csn.ensures ∙ h), λ is. c.ends_before_csn.ensures ∙ blank-is_blank c.args.text.now is)
