use Rattle.std.proofs.Common.{◌≡◌, ◌+◌, take}
use Rattle.ldap_ber.specs.Unfinished.{put_at}
use Rattle.ldap_ber.proofs.writer.put_octets.Given as goal

-- those so far are in their places
abbrev pub invariant-loop-octet : goal.invariant-loop-octet
invariant-loop-octet l = record {
  put : l.out.items ≡ put_at l.initial.out.items l.place (take l.octet-index l.octets);
  next : l.next ≡ l.place + l.octet-index;
}
