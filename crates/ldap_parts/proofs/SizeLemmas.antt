-- How long attributes and controls are in their canonical spelling.
use Rattle.std.proofs.Common.{◌≡◌, ◌≢◌, ℕ, ◌+◌, ◌*◌, ◌≤◌, false, List, [], ◌++◌, length, length-append, Some, refl, arith}
use Rattle.std.specs.List.{flat_map}
use Rattle.ldap_ber.specs.Canonical.{element, integer_octets}
use Rattle.ldap_ber.proofs.ElementLemmas.{element_size}
use Rattle.schema_rules.specs.Attributes.{values_weight}
use Rattle.schema_rules.specs.declared.raw.RawAttribute.{RawAttribute}
use Rattle.schema_rules.proofs.Sizes.{name_weight, strings_size}
use Rattle.ldap_parts.specs.Attributes.{attribute_octets}
use Rattle.ldap_parts.specs.Components.{number_octets, strings_octets}
use Rattle.ldap_parts.specs.Controls.{control_octets}

-- an attribute is encoded in at most 25 times what its values weigh
pub attribute_size : (raw : RawAttribute) → 1 ≤ length raw.name → raw.values ≢ [] → length (attribute_octets raw) ≤ 25 * values_weight raw.name raw.values
unfolding attribute_octets
attribute_size raw some filled =
    let strings = strings_octets 49 raw.values in
    omega (
      arith,
      element_size 48 (element 4 raw.name ++ strings),
      length-append (element 4 raw.name) strings,
      element_size 4 raw.name,
      element_size 49 (flat_map (element 4) raw.values),
      strings_size raw.name raw.values some,
      name_weight raw.name raw.values filled,
    )

-- ---- controls and messages

-- a control that is not critical has at most 18 octets beside its name and its value
pub control_size : (name value : List ℕ) → length (control_octets (record { name = name; critical = false; value = Some value })) ≤ length name + length value + 18
unfolding control_octets
control_size name value =
    omega (
      arith,
      element_size 48 (element 4 name ++ element 4 value),
      length-append (element 4 name) (element 4 value),
      element_size 4 name,
      element_size 4 value,
    )

-- the first message ID has three octets
pub first_id : length (number_octets 2 1) ≡ 3
unfolding element integer_octets
first_id = refl
