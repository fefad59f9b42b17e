use Rattle.std.proofs.Common.{◌≡◌, ◌++◌, take}
use Rattle.dn_names.proofs.dn.append_copies.Given as goal

-- the RDNs so far are appended
abbrev pub invariant-loop-rdn : goal.invariant-loop-rdn
invariant-loop-rdn l = l.to.items ≡ l.fn.to.items ++ take l.rdn-index l.rdns
