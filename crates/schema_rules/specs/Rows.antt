-- The rows of the program's tables, as the schema lists them.
use Rattle.std.specs.Prelude.{map, option_map}
use Rattle.schema_rules.specs.declared.types.TypeRow as program
use Rattle.schema_rules.specs.declared.classes.ClassRow.{ClassRow}
use Rattle.schema_rules.specs.Schema as schema

abbrev pub listed_type : program.TypeRow → schema.TypeRow
listed_type row = record { name = row.name.now; rule = row.rule; single = row.single }

abbrev pub listed_class : ClassRow → schema.ClassRow
listed_class row = record {
  name = row.name.now;
  kind = row.kind;
  superior = option_map (λ name. name.now) row.superior;
  must = map (λ name. name.now) row.must.now;
  may = map (λ name. name.now) row.may.now;
}
