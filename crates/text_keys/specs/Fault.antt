-- Why a value has no key.
use Rattle.std.specs.Prelude.{◌≡◌, ℕ, List, Option, None, IsUtf8, ⊤}
use Rattle.text_keys.specs.declared.fault.KeyFault.{KeyFault}
use Rattle.text_keys.specs.declared.fault.KeyFault.TheVariants.{NotUtf8, NotOfSyntax, NoMemory}

-- the fault reports why this value, with this key or none, was refused; out of memory
-- may come at any value
abbrev pub IsFaultOf : List ℕ → Option (List ℕ) → KeyFault → Type 0
IsFaultOf value key NotUtf8 = (¬ (IsUtf8 value)) × (key ≡ None)
IsFaultOf value key NotOfSyntax = IsUtf8 value × (key ≡ None)
IsFaultOf value key NoMemory = ⊤
