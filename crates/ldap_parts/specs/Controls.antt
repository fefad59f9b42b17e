-- Controls of a message (RFC 4511, section 4.1.11).
use Rattle.std.specs.Prelude.{ℕ, List, [], ◌∷◌, ◌++◌, Bool, false, Option, bytes_eq, find}
use Rattle.std.specs.List.{flat_map}
use Rattle.ldap_ber.specs.Form.{Form, OctetString, Both, Default, MadeOf, Sequence, ListOf}
use Rattle.ldap_ber.specs.Reading.{Reading, both_at, made_at, default_at, sequence_at, list_at}
use Rattle.ldap_ber.specs.Canonical.{element, flag_octets}
use Rattle.ldap_parts.specs.declared.control.Control.{Control}
use Rattle.ldap_parts.specs.Faults.{place_of}
use Rattle.ldap_parts.specs.Components.{FlagForm, OptionForm, octet_string_at, flag_at, option_at, string_octets}

abbrev pub control_parts : Control → List ℕ × (Bool × Option (List ℕ))
control_parts control = (control.name, (control.critical, control.value))

abbrev pub control_with : List ℕ × (Bool × Option (List ℕ)) → Control
control_with parts = record { name = parts.0; critical = parts.1.0; value = parts.1.1 }

-- Control
abbrev pub ControlForm : Form Control
ControlForm =
    MadeOf control_parts (Sequence 48 (Both (OctetString 4) (Both FlagForm (OptionForm 4))))

-- the first control of a name
abbrev pub control_named : List ℕ → List Control → Option Control
control_named name controls = find (λ control. bytes_eq control.name name) controls

-- controls [0] Controls OPTIONAL, where absence stands for an empty list
abbrev pub ControlsForm : Form (List Control)
ControlsForm = Default 160 [] (ListOf 160 ControlForm)

unfoldable pub control_at : Reading ℕ Control
control_at stop bytes =
    made_at control_with
    (sequence_at place_of 48 (both_at (octet_string_at 4) (both_at flag_at (option_at 4))))
    stop bytes

abbrev pub controls_at : Reading ℕ (List Control)
controls_at = default_at 160 [] (list_at place_of 160 control_at)

unfoldable pub control_octets : Control → List ℕ
control_octets control =
    element 48
    (element 4 control.name
    ++ (flag_octets 1 false control.critical ++ string_octets 4 control.value))

-- an empty list is left out
abbrev pub controls_octets : List Control → List ℕ
controls_octets [] = []
controls_octets (control ∷ controls) = element 160 (flat_map control_octets (control ∷ controls))
