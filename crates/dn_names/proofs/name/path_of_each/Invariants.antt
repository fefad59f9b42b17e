use Rattle.std.proofs.Common.{length}
use Rattle.dn_names.proofs.PathKeys.{IsSoFar}
use Rattle.dn_names.proofs.name.path_of_each.Given as goal

-- the RDNs that are not left are done
abbrev pub invariant-loop-rdn : goal.invariant-loop-rdn
invariant-loop-rdn l = IsSoFar l.rdns l.left l.path.items

abbrev pub decreases-loop-rdn : goal.decreases-loop-rdn
decreases-loop-rdn l = length l.left
