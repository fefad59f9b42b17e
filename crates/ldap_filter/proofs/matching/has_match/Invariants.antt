use Rattle.std.proofs.Common.{◌≡◌, false, take}
use Rattle.ldap_filter.specs.Truth.{has_match}
use Rattle.ldap_filter.proofs.matching.has_match.Given as goal

-- no attribute so far has a value that passes
abbrev pub invariant-loop-attribute : goal.invariant-loop-attribute
invariant-loop-attribute l = has_match (take l.attribute-index l.attributes) l.kind l.test ≡ false
