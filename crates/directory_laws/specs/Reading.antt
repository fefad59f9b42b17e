-- Parts of an entry that are read again as they were written.
use Rattle.std.specs.Prelude.{◌≡◌, ◌≢◌, true, false, [], Ok, Some, is_some, All, AllPairs}
use Rattle.schema_rules.specs.declared.attributes.Attribute.{Attribute}
use Rattle.schema_rules.specs.declared.types.Rule.TheVariants.{Class}
use Rattle.schema_rules.specs.Attributes.{is_of_syntax}
use Rattle.schema_rules.specs.Schema.{type_name, type_named, type_rule, is_operational, class_named}
use Rattle.csn_cookie.specs.Csn.{csn_text, csn_of_text}
use Rattle.dn_names.specs.Reading.{name_of_text}
use Rattle.dn_names.specs.Writing.{name_text}
use Rattle.entry_tree.specs.declared.entry.Entry.{Entry}

-- the type is found by its name and a client may give it, and there are values, each of the type's
-- syntax; those of a type of object classes name classes of the schema
pub record IsReadable (a : Attribute) : Type 0 where
  pub found : type_named (type_name a.kind) ≡ Some a.kind
  pub user : is_operational a.kind ≡ false
  pub filled : a.values ≢ []
  pub syntax : All (λ value. is_of_syntax a.kind value ≡ true) a.values
  pub classes :
      type_rule a.kind ≡ Class → All (λ value. is_some (class_named value) ≡ true) a.values

-- the name and the CSN are read from their texts, and no type stands twice
pub record EntryIsReadAgain (e : Entry) : Type 0 where
  pub name : name_of_text (name_text e.dn) ≡ Ok e.dn
  pub is_csn : csn_of_text (csn_text e.csn) ≡ Some e.csn
  pub attributes : All IsReadable e.attrs
  pub once : AllPairs (λ a b. a.kind ≢ b.kind) e.attrs
