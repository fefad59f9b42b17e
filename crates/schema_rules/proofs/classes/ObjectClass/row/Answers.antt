-- The row at a class's number is the one that the schema lists there.
use Rattle.std.proofs.Common.{◌∙◌, ap}
use Rattle.schema_rules.specs.Schema.{classes, class_row}
use Rattle.schema_rules.proofs.Lines.{line_of-superior, superior_of-lower}
use Rattle.schema_rules.proofs.classes.ObjectClass.row.Goals as goal

pub returns-clause-kind : goal.returns-clause-kind
unfolding classes
returns-clause-kind c = ap (λ row. row.kind) (c.row_at.ensures ∙ ap class_row c.self.view_is)

pub returns-clause-superior : goal.returns-clause-superior
unfolding classes
returns-clause-superior c = ap (λ row. row.superior) (c.row_at.ensures ∙ ap class_row c.self.view_is)

pub returns-clause-must : goal.returns-clause-must
unfolding classes
returns-clause-must c = ap (λ row. row.must) (c.row_at.ensures ∙ ap class_row c.self.view_is)

pub returns-clause-may : goal.returns-clause-may
unfolding classes
returns-clause-may c = ap (λ row. row.may) (c.row_at.ensures ∙ ap class_row c.self.view_is)

pub returns-clause-line : goal.returns-clause-line
returns-clause-line c = line_of-superior _ _ c.self.view_is c.self.invariant

pub returns-clause-lower : goal.returns-clause-lower
returns-clause-lower c = superior_of-lower _ _ c.self.view_is c.self.invariant
