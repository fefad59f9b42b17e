use Rattle.std.proofs.Common.{◌≡◌, drop}
use Rattle.std.specs.List.{flat_map}
use Rattle.ldap_ber.specs.Writer.{after_bytes}
use Rattle.ldap_parts.specs.Controls.{control_octets}
use Rattle.ldap_parts.proofs.control.put_each.Given as goal

-- with the controls that are still to come, all of them are written
abbrev pub invariant-loop-control : goal.invariant-loop-control
invariant-loop-control l = after_bytes l.writer (flat_map control_octets (drop l.control-index l.controls)) ≡ after_bytes l.initial.writer (flat_map control_octets l.controls)
