-- How long a message is in its canonical spelling beside its operation.
use Rattle.std.proofs.Common.{ℕ, ◌+◌, ◌≤◌, false, List, [], ◌∷◌, ◌++◌, length, length-append, Some, arith}
use Rattle.ldap_ber.specs.Canonical.{element}
use Rattle.ldap_ber.proofs.ElementLemmas.{element_size}
use Rattle.ldap_parts.specs.Components.{number_octets}
use Rattle.ldap_parts.specs.Controls.{control_octets}
use Rattle.ldap_parts.specs.declared.control.Control.{Control}
use Rattle.ldap_parts.proofs.SizeLemmas.{first_id, control_size}
use Rattle.ldap_messages.specs.Operation.{Operation, entry, operation_octets}
use Rattle.ldap_messages.specs.Whole.{message_octets}

-- the first message ID, an operation and a control
pub message_size : (op : Operation) (name value : List ℕ)
    → length (message_octets (1, (op, record { name = name; critical = false; value = Some value } ∷ []))) ≤ length (operation_octets op) + length name + length value + 33
unfolding message_octets
message_size op name value =
    let control : Control = record { name = name; critical = false; value = Some value } in
    let one = control_octets control ++ [] in
    omega (
      arith,
      element_size 48 (number_octets 2 1 ++ (operation_octets op ++ element 160 one)),
      length-append (number_octets 2 1) (operation_octets op ++ element 160 one),
      first_id,
      length-append (operation_octets op) (element 160 one),
      element_size 160 one,
      length-append (control_octets control) [],
      control_size name value,
    )

-- ---- the name of an entry that is gone

-- an entry without attributes has at most 18 octets beside its name
pub bare_size : (name : List ℕ) → length (operation_octets (entry (name, []))) ≤ length name + 18
bare_size name =
    let none : List ℕ = [] in
    omega (arith, element_size 100 (element 4 name ++ element 48 none), length-append (element 4 name) (element 48 none), element_size 4 name, element_size 48 none)

-- ---- a set of identities

-- an operation without controls
pub plain_size : (op : Operation) → length (message_octets (1, (op, []))) ≤ length (operation_octets op) + 9
unfolding message_octets
plain_size op =
    omega (
      arith,
      element_size 48 (number_octets 2 1 ++ (operation_octets op ++ [])),
      length-append (number_octets 2 1) (operation_octets op ++ []),
      first_id,
      length-append (operation_octets op) [],
    )
