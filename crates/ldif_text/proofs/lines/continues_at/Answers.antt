-- The byte at the place is looked at.
use Rattle.std.proofs.Common.{sym}
use Rattle.ldif_text.proofs.Continued.{continued-within, continued-beyond}
use Rattle.ldif_text.proofs.lines.continues_at.Goals as goal

pub returns-then-cursor-text : goal.returns-then-cursor-text
returns-then-cursor-text c = sym (continued-within c.args.text.now c.args.cursor.at c.if-cursor-text.true)

pub returns : goal.returns
returns c = sym (continued-beyond c.args.text.now c.args.cursor.at c.if-cursor-text.false)
