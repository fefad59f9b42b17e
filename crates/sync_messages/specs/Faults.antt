-- What a fault reports of a reading.
use Rattle.std.specs.Prelude.{◌≡◌, Result, Err}
use Rattle.sync_messages.specs.declared.fault.SyncFault.{SyncFault}
use Rattle.sync_messages.specs.declared.fault.SyncFault.TheVariants.{Ber, BadMode, BadUuidLength, BadState, NoMemory}

-- the fault is that of the reading; out of memory may come in place of any answer
abbrev pub SyncFails : {Y : Type 0} → SyncFault → Result Y SyncFault → Type 0
SyncFails (Ber fault) read = read ≡ Err (Ber fault)
SyncFails (BadMode number) read = read ≡ Err (BadMode number)
SyncFails (BadUuidLength count) read = read ≡ Err (BadUuidLength count)
SyncFails (BadState number) read = read ≡ Err (BadState number)
SyncFails NoMemory read = Unit {0}
