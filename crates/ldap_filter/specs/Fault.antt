-- What the faults of a filter report.
use Rattle.std.specs.Prelude.{◌≡◌, Bool, false, Result, Err}
use Rattle.ldap_filter.specs.declared.fault.FilterFault.{FilterFault}
use Rattle.ldap_filter.specs.declared.fault.FilterFault.TheVariants.{BadFilter, TooDeep, NoMemory, NoText}

-- the fault is that of the reading; out of memory may come in place of any answer
abbrev pub FilterFails : {X : Type 0} → FilterFault → Result X FilterFault → Type 0
FilterFails (BadFilter place) read = read ≡ Err (BadFilter place)
FilterFails TooDeep read = read ≡ Err TooDeep
FilterFails NoMemory read = Unit {0}
FilterFails NoText read = ⊥

-- the fault of writing a filter that has a text, or has none
abbrev pub Lacks : Bool → FilterFault → Type 0
Lacks has_text (BadFilter place) = ⊥
Lacks has_text TooDeep = ⊥
Lacks has_text NoMemory = Unit {0}
Lacks has_text NoText = has_text ≡ false
