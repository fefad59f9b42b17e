use Rattle.std.proofs.Common.{◌≡◌, ◌-◌, ◌≤◌, length}
use Rattle.dn_names.specs.Reading as spec
use Rattle.dn_names.specs.Sound.{IsName}
use Rattle.dn_names.proofs.Pieces.{with_all}
use Rattle.dn_names.proofs.dn.read_rdns.Given as goal

-- the RDNs so far, and what the rest is read as
abbrev pub invariant-rdns : goal.invariant-rdns
invariant-rdns l = record {
  read : spec.rdns_of 32 l.bytes l.chars ≡ with_all l.rdns.items (spec.rdns_of (32 - length l.rdns.items) l.bytes l.rest);
  sound : IsName l.rdns.items;
  within : spec.chars_width l.rest ≤ l.bytes;
}

abbrev pub decreases-rdns : goal.decreases-rdns
decreases-rdns l = length l.rest
