use Rattle.std.proofs.Common.{◌≡◌, ◌++◌, drop}
use Rattle.dn_names.specs.Keys.{name_key}
use Rattle.dn_names.proofs.dn.Dn.key.Given as goal

-- the keys of the RDNs from here on are missing
abbrev pub invariant-loop-rdn : goal.invariant-loop-rdn
invariant-loop-rdn l = l.key.items ++ name_key (drop l.rdn-index l.rdn-items) ≡ name_key l.rdn-items
