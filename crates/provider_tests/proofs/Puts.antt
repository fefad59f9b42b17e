-- Entries that a commit may put.
use Rattle.std.proofs.Common.{◌≡◌, true, List}
use Rattle.std.specs.List.{list_all, AllPass}
use Rattle.std.proofs.lemmas.List.Sums.{list_all-from_AllPass}
use Rattle.schema_rules.specs.declared.attributes.Attribute.{Attribute}
use Rattle.schema_rules.proofs.Given.{given-sound}
use Rattle.schema_rules.specs.Attributes.{is_sound, is_given}

-- what a client may give may be put
pub sound_attributes : (attrs : List Attribute) → AllPass is_sound attrs → list_all is_given attrs ≡ true
sound_attributes attrs all = given-sound attrs (list_all-from_AllPass is_sound attrs all)
