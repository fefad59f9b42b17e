-- What stands under a key of a configuration, and the fault of one that is refused.
use Rattle.std.specs.Prelude.{ℕ, ℤ, pos, int_le, unsigned_abs, ◌&&◌, not, Bool, false, List, Option, Some, None, Result, Ok, Err, is_some, if◌then◌else◌}
use Rattle.dn_names.specs.declared.fault.NameFault.{NameFault}
use Rattle.dn_names.specs.Names.{TypeAndValue}
use Rattle.dn_names.specs.Reading.{name_of_text}
use Rattle.toml.specs.Data.{Data, get, as_bool, as_str, as_integer}
use Rattle.sync_config.specs.declared.fault.ConfigFault.{ConfigFault}
use Rattle.sync_config.specs.declared.fault.ConfigFault.TheVariants.{MissingKey, BadValue}

-- a name, as its RDNs
abbrev pub Name : Type 0
Name = List (List TypeAndValue)

-- the key is there
abbrev pub has : List ℕ → Data → Bool
has key document = is_some (get key document)

-- ---- texts

abbrev pub text_in : List ℕ → Option (List ℕ) → Result (Option (List ℕ)) ConfigFault
text_in key None = Err (BadValue key)
text_in key (Some text) = Ok (Some text)

abbrev pub text_of : List ℕ → Option Data → Result (Option (List ℕ)) ConfigFault
text_of key None = Ok None
text_of key (Some value) = text_in key (as_str value)

-- the text under a key that may be absent
abbrev pub text_at : List ℕ → Data → Result (Option (List ℕ)) ConfigFault
text_at key document = text_of key (get key document)

abbrev pub required : List ℕ → Result (Option (List ℕ)) ConfigFault → Result (List ℕ) ConfigFault
required key (Ok None) = Err (MissingKey key)
required key (Ok (Some text)) = Ok text
required key (Err fault) = Err fault

-- ---- names

abbrev pub name_in : List ℕ → Result Name NameFault → Result (Option Name) ConfigFault
name_in key (Ok name) = Ok (Some name)
name_in key (Err fault) = Err (BadValue key)

abbrev pub name_of : List ℕ → Result (Option (List ℕ)) ConfigFault
    → Result (Option Name) ConfigFault
name_of key (Ok None) = Ok None
name_of key (Ok (Some text)) = name_in key (name_of_text text)
name_of key (Err fault) = Err fault

-- the name under a key that may be absent
abbrev pub name_at : List ℕ → Data → Result (Option Name) ConfigFault
name_at key document = name_of key (text_at key document)

-- ---- numbers

abbrev pub integer_in : List ℕ → ℕ → ℕ → Option ℤ → Result ℕ ConfigFault
integer_in key least most None = Err (BadValue key)
integer_in key least most (Some number) =
    if int_le (pos least) number && int_le number (pos most) then Ok (unsigned_abs number)
    else Err (BadValue key)

abbrev pub number_of : List ℕ → ℕ → ℕ → ℕ → Option Data → Result ℕ ConfigFault
number_of key least most absent None = Ok absent
number_of key least most absent (Some value) = integer_in key least most (as_integer value)

-- the number under a key, within these bounds, or this one where the key is absent
abbrev pub number_at : List ℕ → ℕ → ℕ → ℕ → Data → Result ℕ ConfigFault
number_at key least most absent document = number_of key least most absent (get key document)

-- ---- flags

abbrev pub flag_in : List ℕ → Option Bool → Result Bool ConfigFault
flag_in key None = Err (BadValue key)
flag_in key (Some flag) = Ok flag

-- a flag, which an absent key leaves down
abbrev pub flag_of : List ℕ → Option Data → Result Bool ConfigFault
flag_of key None = Ok false
flag_of key (Some value) = flag_in key (as_bool value)

-- ---- one key after another

-- goes on with what is found, or ends with its fault
abbrev pub with_found : {A B : Type 0}
    → Result A ConfigFault → (A → Result B ConfigFault) → Result B ConfigFault
with_found (Ok value) later = later value
with_found (Err fault) later = Err fault

-- ---- keys beside others

module _ {A : Type 0} where
  -- what is found, where the key is there or is not needed
  abbrev pub needed : List ℕ → Bool → Data → Result A ConfigFault → Result A ConfigFault
  needed key is_needed document found =
      if is_needed && not (has key document) then Err (MissingKey key) else found

  -- what is found, where the key is not there or is not forbidden
  abbrev pub forbidden : List ℕ → Bool → Data → Result A ConfigFault → Result A ConfigFault
  forbidden key is_forbidden document found =
      if is_forbidden && has key document then Err (BadValue key) else found
