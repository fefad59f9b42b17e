-- A character, and what its bytes leave.
use Rattle.std.proofs.Common.{◌<◌, length, arith}
use Rattle.std.proofs.lemmas.List.{take_rest}
use Rattle.dn_names.proofs.CharLists.{chars_of-nil, chars_of-first}
use Rattle.dn_names.proofs.name_chars.first_char.Goals as goal

pub returns-in-empty-clause-value : goal.returns-in-empty-clause-value
returns-in-empty-clause-value c = chars_of-nil c.args.text.now (omega arith)

pub returns-in-len1-up-clause-value : goal.returns-in-len1-up-clause-value
returns-in-len1-up-clause-value c =
    let some : 0 < length c.args.text.now = omega arith in
    rw (c.char_of.ensures.name_char, c.char_of.ensures.rest, take_rest c.args.text.now 1) (chars_of-first c.args.text.now some)
