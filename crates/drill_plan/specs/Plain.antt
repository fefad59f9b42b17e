-- Entries without what shows their writes: their names and their attributes alone.
use Rattle.std.specs.Prelude.{List, map}
use Rattle.schema_rules.specs.declared.attributes.Attribute.{Attribute}
use Rattle.dn_names.specs.Names.{TypeAndValue}
use Rattle.entry_writes.specs.declared.entry.Entry.{Entry}

pub record PlainEntry : Type 0 where
  pub dn : List (List TypeAndValue)
  pub attrs : List Attribute

abbrev pub plain : Entry → PlainEntry
plain e = record { dn = e.dn; attrs = e.attrs }

abbrev pub plain_of_each : List Entry → List PlainEntry
plain_of_each entries = map plain entries
