use Rattle.std.proofs.Common.{◌≡◌, drop}
use Rattle.std.specs.List.{flat_map}
use Rattle.ldap_ber.specs.Canonical.{element}
use Rattle.ldap_ber.specs.Writer.{after_bytes}
use Rattle.ldap_parts.proofs.lists.put_each.Given as goal

-- with the strings that are still to come, all of them are written
abbrev pub invariant-loop-string : goal.invariant-loop-string
invariant-loop-string l = after_bytes l.writer (flat_map (element l.tag) (drop l.string-index l.strings)) ≡ after_bytes l.initial.writer (flat_map (element l.tag) l.strings)
