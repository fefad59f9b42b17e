-- The row at a type's number is the one that the schema lists there.
use Rattle.std.proofs.Common.{◌∙◌, ap}
use Rattle.schema_rules.specs.Schema.{types, type_row}
use Rattle.schema_rules.proofs.Tables.{known_type, found_by_name}
use Rattle.schema_rules.proofs.types.AttributeType.row.Goals as goal

pub returns-clause-name : goal.returns-clause-name
unfolding types
returns-clause-name c = ap (λ row. row.name) (c.row_at.ensures ∙ ap type_row c.self.view_is)

pub returns-clause-rule : goal.returns-clause-rule
unfolding types
returns-clause-rule c = ap (λ row. row.rule) (c.row_at.ensures ∙ ap type_row c.self.view_is)

pub returns-clause-single : goal.returns-clause-single
unfolding types
returns-clause-single c = ap (λ row. row.single) (c.row_at.ensures ∙ ap type_row c.self.view_is)

pub returns-clause-known : goal.returns-clause-known
returns-clause-known c = known_type _ _ c.self.view_is c.self.invariant

pub returns-clause-found : goal.returns-clause-found
returns-clause-found c = found_by_name _ _ c.self.view_is c.self.invariant
