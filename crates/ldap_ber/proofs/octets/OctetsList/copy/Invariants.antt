use Rattle.std.proofs.Common.{◌≡◌, take}
use Rattle.ldap_ber.proofs.octets.OctetsList.copy.Given as goal

-- the strings so far are copied
abbrev pub invariant-loop-item : goal.invariant-loop-item
invariant-loop-item l = l.list ≡ take l.item-index l.item-items
