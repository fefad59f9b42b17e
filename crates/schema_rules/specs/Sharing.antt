-- Lists of attributes that copies share.
use Rattle.std.specs.Prelude.{List, [], Option, None, Some}
use Rattle.std.proofs.Common.{Global}
use Rattle.std.specs.declared.sync.Arc.{Arc}
use Rattle.schema_rules.specs.declared.attributes.Attribute.{Attribute}

-- none, or those that may be shared
abbrev pub attributes_in : Option (Arc (List Attribute) Global) → List Attribute
attributes_in None = []
attributes_in (Some shared) = shared.value
