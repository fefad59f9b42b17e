-- What a fault reports of a reading, whose own fault is a place.
use Rattle.std.specs.Prelude.{◌≡◌, ℕ, Result, Err}
use Rattle.ldap_ber.specs.declared.fault.BerFault.{BerFault}
use Rattle.ldap_parts.specs.declared.fault.ComponentFault.{ComponentFault}
use Rattle.ldap_parts.specs.declared.fault.ComponentFault.TheVariants.{Refused, NoMemory}

abbrev pub place_of : BerFault → ℕ
place_of fault = fault.at

-- the fault is that of the reading; out of memory may come in place of any answer
abbrev pub ComponentFails : {Y : Type 0} → ComponentFault → Result Y ℕ → Type 0
ComponentFails (Refused place) read = read ≡ Err place
ComponentFails NoMemory read = Unit {0}
