-- LDAPMessage (RFC 4511, section 4.1.1).
use Rattle.std.specs.Prelude.{ℕ, ◌≤◌, List, ◌++◌}
use Rattle.ldap_ber.specs.Form.{Form, Both, Sequence}
use Rattle.ldap_ber.specs.Reading.{Reading, both_at, sequence_at}
use Rattle.ldap_ber.specs.Canonical.{element}
use Rattle.ldap_parts.specs.declared.control.Control.{Control}
use Rattle.ldap_parts.specs.Faults.{place_of}
use Rattle.ldap_parts.specs.Components.{RangeForm, range_at, number_octets}
use Rattle.ldap_parts.specs.Controls.{ControlsForm, controls_at, controls_octets}
use Rattle.ldap_messages.specs.declared.message.Message.{Message}
use Rattle.ldap_messages.specs.Operation.{Operation, OperationForm, operation_of, operation_at, operation_octets, IsOfGrammar}

-- a message without where it lies in memory: its identifier, its operation and its controls
abbrev pub MessageValue : Type 0
MessageValue = ℕ × (Operation × List Control)

abbrev pub message_value : Message → MessageValue
message_value message = (message.id, (operation_of message.op, message.controls))

unfoldable pub MessageForm : Form MessageValue
MessageForm = Sequence 48 (Both (RangeForm 0 2147483647 2) (Both OperationForm ControlsForm))

unfoldable pub message_at : Reading ℕ MessageValue
message_at stop bytes =
    sequence_at place_of 48
    (both_at (range_at 0 2147483647 2) (both_at operation_at controls_at)) stop bytes

-- the components, one after another
abbrev pub parts_octets : MessageValue → List ℕ
parts_octets whole =
    number_octets 2 whole.0 ++ (operation_octets whole.1.0 ++ controls_octets whole.1.1)

unfoldable pub message_octets : MessageValue → List ℕ
message_octets whole = element 48 (parts_octets whole)

-- the message has a spelling, where it is not too long for four length octets
abbrev pub HasSpelling : MessageValue → Type 0
HasSpelling whole = (whole.0 ≤ 2147483647) × IsOfGrammar whole.1.0
