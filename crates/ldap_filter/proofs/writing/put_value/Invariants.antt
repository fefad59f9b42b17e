use Rattle.std.proofs.Common.{◌≡◌, ◌++◌, length}
use Rattle.ldap_filter.specs.Writing.{value_text_after}
use Rattle.ldap_filter.proofs.writing.put_value.Given as goal

-- the bytes that are left are still to come
abbrev pub invariant-loop-byte : goal.invariant-loop-byte
invariant-loop-byte l = l.text.items ++ value_text_after l.known l.rest ≡ l.initial.text.items ++ value_text_after 0 l.value

abbrev pub decreases-loop-byte : goal.decreases-loop-byte
decreases-loop-byte l = length l.rest
