-- Refusals of a script.
use Rattle.std.specs.Prelude.{◌≡◌, ℕ, Option, None, Result, Err}
use Rattle.cascade_script.specs.declared.fault.ScriptFault.{ScriptFault}
use Rattle.cascade_script.specs.declared.fault.Cause.{Cause}
use Rattle.cascade_script.specs.declared.fault.Cause.TheVariants.{BadCommand, NoMemory}

abbrev pub fault_at : ℕ → Cause → ScriptFault
fault_at line cause = record { line = line; cause = cause }

-- out of memory says nothing of the line, and any other refusal says that the line
-- is outside the grammar
abbrev pub IsBadCommand : {Y : Type 0} → ℕ → ℕ → Cause → Option Y → Type 0
IsBadCommand line at BadCommand read = (read ≡ None) × (at ≡ line)
IsBadCommand line at NoMemory read = Unit {0}
IsBadCommand line at _ read = ⊥

-- the fault is that of the line
abbrev pub ScriptFails : {Y : Type 0} → ℕ → ScriptFault → Option Y → Type 0
ScriptFails line fault read = IsBadCommand line fault.line fault.cause read

-- out of memory says nothing, and any other cause is that of the answer, at that line
abbrev pub RefusedAt : {Y : Type 0} → ℕ → ℕ → Cause → Result Y Cause → Type 0
RefusedAt line at NoMemory answer = Unit {0}
RefusedAt line at cause answer = (answer ≡ Err cause) × (at ≡ line)
