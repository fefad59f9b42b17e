-- What a refusal reports of a reading, and readings one after another.
use Rattle.std.specs.Prelude.{◌≡◌, ⊤, ℕ, Result, Ok, Err}
use Rattle.sync_wire.specs.declared.fault.DecodeFault.{DecodeFault}
use Rattle.sync_wire.specs.declared.fault.DecodeFault.TheVariants.{OutOfPlace, BadValue, UuidDiffers, BadEntry, NoMemory}

-- the refusal is that of the reading; out of memory may come in place of any answer
abbrev pub DecodeFails : {Y : Type 0} → DecodeFault → Result Y DecodeFault → Type 0
DecodeFails OutOfPlace read = read ≡ Err OutOfPlace
DecodeFails BadValue read = read ≡ Err BadValue
DecodeFails (UuidDiffers uuid other) read = read ≡ Err (UuidDiffers uuid other)
DecodeFails (BadEntry code) read = read ≡ Err (BadEntry code)
DecodeFails NoMemory read = ⊤

-- the second step where the first gave a value
abbrev pub and_then :
    {X Y : Type 0} → Result X DecodeFault → (X → Result Y DecodeFault) → Result Y DecodeFault
and_then (Ok x) next = next x
and_then (Err refusal) next = Err refusal

abbrev pub on_ok : {X Y : Type 0} → (X → Y) → Result X DecodeFault → Result Y DecodeFault
on_ok f (Ok x) = Ok (f x)
on_ok f (Err refusal) = Err refusal

-- an entry that cannot be held, with the code that rejects it
abbrev pub bad_entry : ℕ → DecodeFault
bad_entry code = BadEntry code
