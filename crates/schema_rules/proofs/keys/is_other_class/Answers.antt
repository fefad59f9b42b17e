-- The key of the name of a class is that name in small letters.
use Rattle.std.proofs.Common.{sym, ◌∙◌}
use Rattle.std.proofs.lemmas.Bool.{not-true}
use Rattle.schema_rules.proofs.Syntax.{has_key-other_class}
use Rattle.schema_rules.proofs.keys.is_other_class.Goals as goal

pub returns-in-Class : goal.returns-in-Class
returns-in-Class c = λ other.
    has_key-other_class c.args.kind c.args.key.now c.args.value.now (sym c.rule.ensures ∙ c.in-Class.is) (sym c.is_same_name.ensures ∙ not-true c.is_same_name.result other)
