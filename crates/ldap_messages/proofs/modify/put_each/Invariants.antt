use Rattle.std.proofs.Common.{◌≡◌, drop}
use Rattle.std.specs.List.{flat_map}
use Rattle.ldap_ber.specs.Writer.{after_bytes}
use Rattle.ldap_messages.specs.Modify.{edit_octets}
use Rattle.ldap_messages.proofs.modify.put_each.Given as goal

-- with the edits that are still to come, all of them are written
abbrev pub invariant-loop-edit : goal.invariant-loop-edit
invariant-loop-edit l = after_bytes l.writer (flat_map edit_octets (drop l.edit-index l.edits)) ≡ after_bytes l.initial.writer (flat_map edit_octets l.edits)
