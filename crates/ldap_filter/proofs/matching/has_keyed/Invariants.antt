use Rattle.std.proofs.Common.{◌≡◌, false, take}
use Rattle.ldap_filter.specs.Truth.{has_keyed}
use Rattle.ldap_filter.proofs.matching.has_keyed.Given as goal

-- no attribute so far has a value with the key
abbrev pub invariant-loop-attribute : goal.invariant-loop-attribute
invariant-loop-attribute l = has_keyed (take l.attribute-index l.attributes) l.kind l.key ≡ false
