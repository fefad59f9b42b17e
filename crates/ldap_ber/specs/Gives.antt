-- What a function answered of a reading.
use Rattle.std.specs.Prelude.{◌≡◌, Result, Ok, Err}

-- a value is what is read, seen by `view`, and of a fault holds what `Fails` says
abbrev pub Gives : {X R E : Type 0} → (E → R → Type 0) → (X → R) → Result X E → R → Type 0
Gives Fails view (Ok x) read = read ≡ view x
Gives Fails view (Err fault) read = Fails fault read

-- the same of a function that takes no memory: of a fault, it is what is read
abbrev pub Answers : {X Y E : Type 0} → (X → Y) → Result X E → Result Y E → Type 0
Answers view = Gives (λ fault read. read ≡ Err fault) (λ x. Ok (view x))
