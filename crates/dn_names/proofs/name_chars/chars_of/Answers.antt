use Rattle.dn_names.proofs.CharLists.{chars_of-width}
use Rattle.dn_names.proofs.name_chars.chars_of.Goals as goal

pub returns-in_err-chars-clause-width : goal.returns-in_err-chars-clause-width
returns-in_err-chars-clause-width c = chars_of-width c.args.text.now

pub returns-in_err-push-clause-width : goal.returns-in_err-push-clause-width
returns-in_err-push-clause-width c = chars_of-width c.args.text.now

pub returns-clause-width : goal.returns-clause-width
returns-clause-width c = chars_of-width c.args.text.now
