-- A value that shows its own key has that.
use Rattle.std.proofs.Common.{Some, ap, sym, ◌∙◌}
use Rattle.schema_rules.proofs.keys.known_key.Goals as goal

pub returns-then-shows_own_key : goal.returns-then-shows_own_key
returns-then-shows_own_key c = ap Some c.in_ok-key.ensures ∙ sym (c.shows_own_key.ensures c.if-shows_own_key.true)
