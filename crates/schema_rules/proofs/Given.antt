-- Attributes that are sound are those that a client may give.
use Rattle.std.proofs.Common.{◌≡◌, true, not, List, [], ◌∷◌, refl}
use Rattle.std.specs.List.{list_all}
use Rattle.std.proofs.lemmas.Bool.{and_from, and_parts}
use Rattle.schema_rules.specs.declared.attributes.Attribute.{Attribute}
use Rattle.schema_rules.specs.Attributes.{is_given, is_sound, repeats_value}

-- attributes that are all sound may all be given
pub given-sound : (attrs : List Attribute) → list_all is_sound attrs ≡ true → list_all is_given attrs ≡ true
given-sound [] sound = refl
given-sound (a ∷ attrs) sound =
    let parts = and_parts (is_sound a) (list_all is_sound attrs) sound in
    and_from (is_given a) (list_all is_given attrs) (and_parts (is_given a) (not (repeats_value a)) parts.0).0 (given-sound attrs parts.1)
