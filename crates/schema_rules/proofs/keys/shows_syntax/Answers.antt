-- What shows the syntax has a key by the type's rule.
use Rattle.std.proofs.Common.{◌∙◌, sym, ap, is_some}
use Rattle.schema_rules.specs.declared.types.Rule.TheVariants.{Class, Folded, FoldedAscii, ExactAscii}
use Rattle.schema_rules.proofs.Syntax.{key_of-rule, key_by-class, key_by-folded_ascii, key_by-exact_ascii}
use Rattle.schema_rules.proofs.keys.shows_syntax.Goals as goal

pub returns-in-Class : goal.returns-in-Class
returns-in-Class c = λ shown.
    key_of-rule c.args.kind Class c.args.value.now (sym c.rule.ensures ∙ c.in-Class.is)
    (key_by-class c.args.value.now (ap is_some (sym c.find.ensures) ∙ sym c.is_some.ensures ∙ shown))

pub returns-in-Folded : goal.returns-in-Folded
returns-in-Folded c = λ shown.
    key_of-rule c.args.kind Folded c.args.value.now (sym c.rule.ensures ∙ c.in-Folded.is) (c.is_plain.ensures.ignoring shown)

pub returns-in-FoldedAscii : goal.returns-in-FoldedAscii
returns-in-FoldedAscii c = λ shown.
    key_of-rule c.args.kind FoldedAscii c.args.value.now (sym c.rule.ensures ∙ c.in-FoldedAscii.is)
    (key_by-folded_ascii c.args.value.now (c.is_plain-in-FoldedAscii.ensures.ascii shown) (c.is_plain-in-FoldedAscii.ensures.ignoring shown))

pub returns-in-ExactAscii : goal.returns-in-ExactAscii
returns-in-ExactAscii c = λ shown.
    key_of-rule c.args.kind ExactAscii c.args.value.now (sym c.rule.ensures ∙ c.in-ExactAscii.is)
    (key_by-exact_ascii c.args.value.now (c.is_plain-in-ExactAscii.ensures.ascii shown) (c.is_plain-in-ExactAscii.ensures.exact shown))
