use Rattle.std.proofs.Common.{◌≡◌, drop}
use Rattle.std.specs.List.{flat_map}
use Rattle.ldap_ber.specs.Writer.{after_bytes}
use Rattle.ldap_parts.specs.Attributes.{attribute_octets}
use Rattle.ldap_parts.proofs.attributes.put_each.Given as goal

-- with the attributes that are still to come, all of them are written
abbrev pub invariant-loop-attribute : goal.invariant-loop-attribute
invariant-loop-attribute l = after_bytes l.writer (flat_map attribute_octets (drop l.attribute-index l.attributes)) ≡ after_bytes l.initial.writer (flat_map attribute_octets l.attributes)
