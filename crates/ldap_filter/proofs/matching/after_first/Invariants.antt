use Rattle.std.proofs.Common.{◌≡◌, length}
use Rattle.ldap_filter.specs.Matching.{after_first}
use Rattle.ldap_filter.proofs.matching.after_first.Given as goal

-- the piece has its first place in what is left
abbrev pub invariant-loop-rest : goal.invariant-loop-rest
invariant-loop-rest l = after_first l.piece l.rest ≡ after_first l.piece l.text

abbrev pub decreases-loop-rest : goal.decreases-loop-rest
decreases-loop-rest l = length l.rest
