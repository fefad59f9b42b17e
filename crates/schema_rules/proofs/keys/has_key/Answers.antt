-- A value that shows its own key, or another, is compared itself.
use Rattle.std.proofs.Common.{sym, ◌∙◌}
use Rattle.schema_rules.proofs.Syntax.{has_key-own}
use Rattle.schema_rules.proofs.keys.has_key.Goals as goal

pub returns-then-shows_own_key : goal.returns-then-shows_own_key
returns-then-shows_own_key c =
    c.eq.ensures ∙ has_key-own c.args.kind c.args.key.now c.args.value.now (c.shows_own_key.ensures c.if-shows_own_key.true)

pub returns-then-is_other_class : goal.returns-then-is_other_class
returns-then-is_other_class c = sym (c.is_other_class.ensures c.if-is_other_class.true)
