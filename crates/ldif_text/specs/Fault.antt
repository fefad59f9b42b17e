-- What a reading says, and what a function reports of it.
use Rattle.std.specs.Prelude.{◌≡◌, Result, Ok, Err}
use Rattle.ldif_text.specs.declared.fault.LdifFault.{LdifFault}
use Rattle.ldif_text.specs.declared.fault.LdifFault.TheVariants.{BadLine, BadBase64, BadChange, NoMemory}

-- what a reading goes on with, where it was not refused
infixl 10 ◌>>=◌
abbrev pub ◌>>=◌ :
    {A B : Type 0} → Result A LdifFault → (A → Result B LdifFault) → Result B LdifFault
(Ok a) >>= read = read a
(Err fault) >>= read = Err fault

-- a fault is that of the reading, but when out of memory, which reports nothing of it
abbrev pub Refuses : {Y : Type 0} → LdifFault → Result Y LdifFault → Type 0
Refuses NoMemory read = Unit {0}
Refuses (BadLine number) read = read ≡ Err (BadLine number)
Refuses (BadBase64 number) read = read ≡ Err (BadBase64 number)
Refuses (BadChange number) read = read ≡ Err (BadChange number)
