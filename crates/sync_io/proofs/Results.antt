-- What holds of an answer, a refusal or not.
use Rattle.std.specs.Prelude.{Result, Ok, Err, OnErr}

-- what holds anyway holds where there is a refusal
pub holds_anyway : {T E P : Type 0} (result : Result T E) → P → OnErr result P
holds_anyway (Ok value) holds = tt
holds_anyway (Err fault) holds = holds
