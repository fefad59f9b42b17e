-- The place of the name in the program's table is its place in the schema's.
use Rattle.std.proofs.Common.{◌∙◌, sym}
use Rattle.schema_rules.specs.Schema.{classes, class_named}
use Rattle.schema_rules.proofs.classes.ObjectClass.find.Goals as goal

pub returns-in_err-place : goal.returns-in_err-place
unfolding classes class_named
returns-in_err-place c = c.from_residual.ensures ∙ sym c.in_err-place.was ∙ c.place_of.ensures.value

pub returns : goal.returns
unfolding classes class_named
returns c = sym c.in_ok-place.was ∙ c.place_of.ensures.value
