use Rattle.std.proofs.Common.{◌≡◌, false, take}
use Rattle.std.specs.List.{list_any}
use Rattle.ldap_filter.specs.Matching.{matches}
use Rattle.ldap_filter.proofs.matching.any_matches.Given as goal

-- no value so far passes
abbrev pub invariant-loop-value : goal.invariant-loop-value
invariant-loop-value l = list_any (matches l.kind l.test) (take l.value-index l.values) ≡ false
