-- What is known of a code that is none, and of a reading that gave a value.
use Rattle.std.proofs.Common.{◌≡◌, ℕ, Bool, true, false, cond, Option, Some, None, Result, Ok, Err, refl}
use Rattle.std.specs.Option.{option_or}

-- where two give no code the first gives none
pub none_first : (one other : Option ℕ) → option_or one other ≡ None → one ≡ None
none_first None other e = refl
none_first (Some code) other e = e

-- where two give no code the second gives none
pub none_second : (one other : Option ℕ) → option_or one other ≡ None → other ≡ None
none_second None other e = e
none_second (Some code) other e = absurd (cc)

-- two values of one answer are equal
pub value_is : {X E : Type 0} (x y : X) → (let read : Result X E = Ok x in read) ≡ Ok y → x ≡ y
value_is x y same = (cc)

-- what is read past a test was not refused by it
pub past_test : {X E : Type 0} (b : Bool) (fault : E) (rest : Result X E) (x : X) → cond b (Err fault) rest ≡ Ok x → b ≡ false
past_test true fault rest x read = absurd (cc)
past_test false fault rest x read = refl

-- a reading that answers has passed the test before it
pub read_past : {X E : Type 0} (b : Bool) (fault : E) (rest : Result X E) (x : X) → cond b (Err fault) rest ≡ Ok x → rest ≡ Ok x
read_past true fault rest x read = absurd (cc)
read_past false fault rest x read = read
