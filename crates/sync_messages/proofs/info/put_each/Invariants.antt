use Rattle.std.proofs.Common.{◌≡◌, drop}
use Rattle.std.specs.List.{flat_map}
use Rattle.ldap_ber.specs.Writer.{after_bytes}
use Rattle.sync_messages.specs.Parts.{uuid_octets}
use Rattle.sync_messages.proofs.info.put_each.Given as goal

-- with the identities that are still to come, all of them are written
abbrev pub invariant-loop-id : goal.invariant-loop-id
invariant-loop-id l = after_bytes l.writer (flat_map uuid_octets (drop l.id-index l.ids)) ≡ after_bytes l.initial.writer (flat_map uuid_octets l.ids)
