-- Components of several values: their reading is exact, and their canonical spelling is a spelling; and answers that are what reading gives.
use Rattle.std.proofs.Common.{◌≡◌, ℕ, Bool, true, false, List, [], ◌++◌, Option, Result, Ok, Err, subst, arith}
use Rattle.std.specs.Prelude.{IfOk}
use Rattle.ldap_ber.specs.Form.{Form, OctetString, Integer, Boolean, Both}
use Rattle.ldap_ber.specs.Reading.{default_at, boolean_at, integer_at}
use Rattle.ldap_ber.specs.Canonical.{element, flag_octets}
use Rattle.ldap_ber.proofs.ExactLemmas.{Exact, reworded_exact, integer_exact, boolean_exact, optional_exact, default_exact}
use Rattle.ldap_ber.proofs.CanonicalLemmas.{Spelled, Always, Lacks, octets_spelled, optional_spelled, both_spelled, flag_spelled, begins_with, option_sound}
use Rattle.sync_messages.specs.declared.fault.SyncFault.{SyncFault}
use Rattle.sync_messages.specs.declared.fault.SyncFault.TheVariants.{Ber}
use Rattle.ldap_ber.specs.Gives.{Gives}
use Rattle.sync_messages.specs.Faults.{SyncFails}
use Rattle.sync_messages.specs.Parts.{CookieForm, FlagWithDefault, enumerated_at, cookie_at, flag_at, cookie_octets, refresh_octets}
use Rattle.sync_messages.proofs.UuidLemmas.{octet_string_exact}

-- ---- read

-- the reading of a number of an enumeration is exact
pub enumerated_exact : Exact (Integer 10) enumerated_at
enumerated_exact = reworded_exact Ber (Integer 10) (integer_at 10) (integer_exact 10)

-- so is that of a cookie that may be absent
pub cookie_exact : Exact CookieForm cookie_at
cookie_exact = optional_exact 4 (OctetString 4) _ (octet_string_exact 4)

-- so is that of a flag with a default
pub flag_exact : (usual : Bool) → Exact (FlagWithDefault usual) (flag_at usual)
flag_exact usual = reworded_exact Ber (FlagWithDefault usual) (default_at 1 usual (boolean_at 1)) (default_exact 1 usual (Boolean 1) (boolean_at 1) (boolean_exact 1))

-- ---- written

-- the canonical octets of a cookie spell it where no octet string follows
pub cookie_spelled : Spelled CookieForm cookie_octets (Always {X = Option (List ℕ)}) (Lacks 4)
cookie_spelled = record {
  spells = λ cookie rest small sound after.
      (optional_spelled 4 (OctetString 4) (element 4) (Always {X = List ℕ}) (octets_spelled 4 (omega arith)) (λ octets more. begins_with 4 octets more)).spells cookie rest small (option_sound cookie) after;
}

-- a flag does not look like a cookie
pub flag_lacks : (usual value : Bool) (rest : List ℕ) → Lacks 4 rest → Lacks 4 (flag_octets 1 usual value ++ rest)
unfolding element
flag_lacks true true rest h e = h e
flag_lacks false false rest h e = h e
flag_lacks true false rest h e = cc
flag_lacks false true rest h e = cc

-- neither a flag nor a cookie comes next
abbrev pub LacksBoth : List ℕ → Type 0
LacksBoth rest = Lacks 1 rest × Lacks 4 rest

-- so do those of a cookie and a flag
pub refresh_spelled : (usual : Bool) → Spelled (Both CookieForm (FlagWithDefault usual)) (refresh_octets usual) (λ parts. Unit {0} × Unit {0}) LacksBoth
refresh_spelled usual =
    both_spelled CookieForm (FlagWithDefault usual) cookie_octets (flag_octets 1 usual) (Always {X = Option (List ℕ)}) (Always {X = Bool}) (Lacks 4) LacksBoth
    cookie_spelled (record { spells = λ value rest small sound after. (flag_spelled 1 (omega arith) usual).spells value rest small sound after.0 }) (λ value rest sound after. flag_lacks usual value rest after.1)

-- ---- answers

-- what holds of each value that is read holds of what is answered
pub if_found : {X : Type 0} (R : Form X) (bytes : List ℕ) (result read : Result X SyncFault) → Gives SyncFails (λ x. Ok x) result read → ((x : X) → read ≡ Ok x → R bytes x []) → IfOk result (λ x. R bytes x [])
if_found R bytes (Ok x) read g h = h x g
if_found R bytes (Err e) read g h = tt

-- what is read as one value is answered as that value
pub only_this : {X : Type 0} (result read : Result X SyncFault) (x : X) → Gives SyncFails (λ y. Ok y) result read → read ≡ Ok x → Gives SyncFails (λ y. Ok y) result (Ok x)
only_this {X} result read x g h = subst (λ (r : Result X SyncFault). Gives SyncFails (λ y. Ok y) result r) h g
