use Rattle.std.proofs.Common.{◌≡◌, ◌<◌, ◌^◌, take}
use Rattle.dn_names.specs.Reading as spec
use Rattle.dn_names.proofs.values.length_of.Given as goal

-- the number that the octets so far write
abbrev pub invariant-loop-octet : goal.invariant-loop-octet
invariant-loop-octet l = record {
  value : l.sum ≡ spec.length_of (take l.octet-index l.octets);
  small : l.sum < 256 ^ l.octet-index;
}
