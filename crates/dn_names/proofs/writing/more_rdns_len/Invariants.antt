use Rattle.std.proofs.Common.{◌≡◌, ◌+◌, ◌*◌, ◌≤◌, drop, length}
use Rattle.dn_names.specs.Writing as spec
use Rattle.dn_names.proofs.writing.more_rdns_len.Given as goal

-- the bytes of the RDNs from here on are missing
abbrev pub invariant-loop-rdn : goal.invariant-loop-rdn
invariant-loop-rdn l = record {
  value : l.bytes + length (spec.more_rdns_text (drop l.rdn-index l.rdns)) ≡ length (spec.more_rdns_text l.rdns);
  bound : l.bytes ≤ 1025 * l.rdn-index;
  within : l.rdn-index ≤ length l.rdns;
}
