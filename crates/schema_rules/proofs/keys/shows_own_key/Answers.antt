-- What shows its own key has it by the type's rule.
use Rattle.std.proofs.Common.{◌∙◌, sym}
use Rattle.schema_rules.specs.declared.types.Rule.TheVariants.{Folded, FoldedAscii, ExactAscii}
use Rattle.schema_rules.proofs.Syntax.{key_of-by, own_key-folded_ascii, own_key-exact_ascii}
use Rattle.schema_rules.proofs.keys.shows_own_key.Goals as goal

pub returns-in-Folded : goal.returns-in-Folded
returns-in-Folded c = λ shown.
    let value = c.args.value.now in
    key_of-by c.args.kind Folded value value (sym c.rule.ensures ∙ c.in-Folded.is) (c.is_own_key.ensures.ignoring shown)

pub returns-in-FoldedAscii : goal.returns-in-FoldedAscii
returns-in-FoldedAscii c = λ shown.
    let value = c.args.value.now in
    let own = c.is_own_key-in-FoldedAscii.ensures in
    key_of-by c.args.kind FoldedAscii value value (sym c.rule.ensures ∙ c.in-FoldedAscii.is)
    (own_key-folded_ascii value (own.ascii shown) (own.ignoring shown))

pub returns-in-ExactAscii : goal.returns-in-ExactAscii
returns-in-ExactAscii c = λ shown.
    let value = c.args.value.now in
    let own = c.is_own_key-in-ExactAscii.ensures in
    key_of-by c.args.kind ExactAscii value value (sym c.rule.ensures ∙ c.in-ExactAscii.is)
    (own_key-exact_ascii value (own.ascii shown) (own.exact shown))
