-- Controls: their reading is exact, and their canonical spelling is a spelling.
use Rattle.std.proofs.Common.{◌≡◌, ℕ, ◌<◌, ◌^◌, Bool, false, List, [], ◌∷◌, ◌++◌, length, Option, Ok, Err, refl, inl, inr, arith}
use Rattle.std.specs.List.{flat_map}
use Rattle.ldap_ber.specs.Form.{OctetString, Both, Sequence, ListOf}
use Rattle.ldap_ber.specs.Reading.{many_at, both_at, sequence_at, list_at}
use Rattle.ldap_ber.specs.Canonical.{element, flag_octets}
use Rattle.ldap_ber.proofs.ManyLemmas.{Advances, with_prefix, many_goes_on, many_fails, many_ended}
use Rattle.ldap_ber.proofs.SkipLemmas.{Begins-shorter}
use Rattle.ldap_ber.proofs.ExactLemmas.{Exact, Shortens, both_exact, sequence_exact, made_exact, list_exact, default_exact, advances}
use Rattle.ldap_ber.proofs.CanonicalLemmas.{Spelled, Anything, Always, Lacks, octets_spelled, both_spelled, flag_spelled, sequence_spelled, list_spelled, made_spelled, begins_with, none_next}
use Rattle.ldap_parts.specs.declared.control.Control.{Control}
use Rattle.ldap_parts.specs.Faults.{place_of}
use Rattle.ldap_parts.specs.Components.{FlagForm, OptionForm, octet_string_at, flag_at, option_at, string_octets}
use Rattle.ldap_parts.specs.Controls.{control_parts, control_with, ControlForm, ControlsForm, control_at, controls_at, control_octets, controls_octets}
use Rattle.ldap_parts.proofs.ComponentLemmas.{octet_string_exact, flag_exact, option_exact, option_spelled, option_lacks}
use Rattle.ldap_parts.proofs.StringLemmas.{all_sound}

-- ---- read

-- the reading of a control is exact
pub control_exact : Exact ControlForm control_at
unfolding control_at
control_exact = made_exact control_parts control_with (Sequence 48 (Both (OctetString 4) (Both FlagForm (OptionForm 4)))) (sequence_at place_of 48 (both_at (octet_string_at 4) (both_at flag_at (option_at 4))))
    (λ x. refl) (λ y. refl) (sequence_exact place_of 48 _ _ (both_exact _ _ _ _ (octet_string_exact 4) (both_exact _ _ _ _ flag_exact (option_exact 4))))

control_shortens : Shortens ControlForm
control_shortens bytes x rest h = Begins-shorter bytes 48 h.0 rest h.2

-- the controls of a message are read exactly where they are encoded so
pub controls_exact : Exact ControlsForm controls_at
controls_exact = default_exact 160 [] (ListOf 160 ControlForm) (list_at place_of 160 control_at) (list_exact place_of 160 ControlForm control_at control_exact control_shortens)

control_advances : Advances control_at
control_advances = advances ControlForm control_at control_exact control_shortens

-- one that was read stands after those before it
pub controls_go_on : (prefix : List Control) (stop : ℕ) (bytes : List ℕ) (x : Control) (rest : List ℕ) → 0 < length bytes → control_at stop bytes ≡ Ok (x, rest)
    → with_prefix (prefix ++ x ∷ []) (many_at control_at stop rest) ≡ with_prefix prefix (many_at control_at stop bytes)
controls_go_on prefix stop bytes x rest some h = many_goes_on control_at control_advances prefix stop bytes x rest some h

-- where one is refused, all are
pub controls_fail : (prefix : List Control) (stop : ℕ) (bytes : List ℕ) (e : ℕ) → 0 < length bytes → control_at stop bytes ≡ Err e → with_prefix prefix (many_at control_at stop bytes) ≡ Err e
controls_fail prefix stop bytes e some h = many_fails control_at control_advances prefix stop bytes e some h

-- where no byte is left, they are those that were read
pub controls_end : (prefix : List Control) (stop : ℕ) (bytes : List ℕ) → length bytes ≡ 0 → with_prefix prefix (many_at control_at stop bytes) ≡ Ok prefix
controls_end prefix stop bytes none = many_ended control_at prefix stop bytes none

-- ---- written

abbrev flagged : Bool × Option (List ℕ) → List ℕ
flagged parts = flag_octets 1 false parts.0 ++ string_octets 4 parts.1

abbrev body : List ℕ × (Bool × Option (List ℕ)) → List ℕ
body parts = element 4 parts.0 ++ flagged parts.1

-- neither a flag nor a value comes next
abbrev LacksBoth : List ℕ → Type 0
LacksBoth rest = Lacks 1 rest × Lacks 4 rest

flagged_spelled : Spelled (Both FlagForm (OptionForm 4)) flagged (λ p. Unit {0} × Unit {0}) LacksBoth
flagged_spelled = both_spelled FlagForm (OptionForm 4) (flag_octets 1 false) (string_octets 4) (Always {X = Bool}) (Always {X = Option (List ℕ)}) (Lacks 1) LacksBoth
    (flag_spelled 1 (omega arith) false) (record { spells = λ value rest small sound after. (option_spelled 4 (omega arith)).spells value rest small sound after.1 })
    (λ value rest sound after. option_lacks 1 4 value rest (omega arith) after.0)

control_spelled : Spelled ControlForm control_octets (Always {X = Control}) Anything
unfolding control_octets
control_spelled = record {
  spells = λ x rest small sound after.
      (made_spelled control_parts _ _ _ Anything (sequence_spelled 48 (Both (OctetString 4) (Both FlagForm (OptionForm 4))) body (λ p. Unit {0} × (Unit {0} × Unit {0})) LacksBoth (omega arith)
      (both_spelled (OctetString 4) (Both FlagForm (OptionForm 4)) (element 4) flagged (Always {X = List ℕ}) (λ p. Unit {0} × Unit {0}) Anything LacksBoth
      (octets_spelled 4 (omega arith)) flagged_spelled (λ y rest sound after. tt)) (none_next 1, none_next 4))).spells x rest small (tt, (tt, tt)) after;
}

controls_go : (controls : List Control) (rest : List ℕ) → length (controls_octets controls) < 2 ^ 32 → Lacks 160 rest → ControlsForm (controls_octets controls ++ rest) controls rest
controls_go [] rest small after = inr (refl, refl, after)
controls_go (control ∷ controls) rest small after =
    inl (
      begins_with 160 (flat_map control_octets (control ∷ controls)) rest,
      (list_spelled 160 ControlForm control_octets (Always {X = Control}) (omega arith) control_spelled).spells (control ∷ controls) rest small (all_sound (Always {X = Control}) (λ x. tt) (control ∷ controls)) tt,
    )

-- what is written of controls is an encoding of them, where no element with their tag follows
pub controls_spelled : Spelled ControlsForm controls_octets (Always {X = List Control}) (Lacks 160)
controls_spelled = record { spells = λ controls rest small sound after. controls_go controls rest small after }
