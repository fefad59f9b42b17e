-- What holds of every name.
use Rattle.std.specs.Prelude.{◌≡◌, ℕ, ◌≤◌, Bool, true, not, ◌&&◌, ◌==◌, nat_le, List, length, is_some}
use Rattle.std.specs.List.{list_all, AllPass}
use Rattle.schema_rules.specs.Keys.{key_of}
use Rattle.dn_names.specs.Names.{TypeAndValue}
use Rattle.dn_names.specs.Keys.{has_double}
use Rattle.dn_names.specs.Writing.{rdn_text}

-- the most RDNs of a name, and the most bytes in which one is written
abbrev pub most_rdns : ℕ
most_rdns = 32

abbrev pub most_bytes : ℕ
most_bytes = 1024

-- the value is of the type's syntax, and the type is not operational
abbrev pub has_key : TypeAndValue → Bool
has_key pair = is_some (key_of pair.kind pair.value)

-- pairs that differ, one at least, in few enough bytes
abbrev pub is_rdn : List TypeAndValue → Bool
is_rdn pairs =
    not (length pairs == 0)
    && (list_all has_key pairs
    && (not (has_double pairs) && nat_le (length (rdn_text pairs)) most_bytes))

-- an RDN, which is written in n bytes
pub record IsRdnOf (pairs : List TypeAndValue) (bytes : ℕ) : Type 0 where
  pub rdn : is_rdn pairs ≡ true
  pub written : bytes ≡ length (rdn_text pairs)

pub record IsName (name : List (List TypeAndValue)) : Type 0 where
  pub rdns : AllPass is_rdn name
  pub few : length name ≤ most_rdns
