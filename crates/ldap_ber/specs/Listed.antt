-- How a list of octet strings keeps them.
use Rattle.std.specs.Prelude.{ℕ, List, [], ◌∷◌}
use Rattle.ldap_ber.specs.declared.octets.Listed.{Listed}
use Rattle.ldap_ber.specs.declared.octets.Listed.TheVariants.{One, Any}

-- the strings of the list
abbrev pub strings_of : Listed → List (List ℕ)
strings_of (One string) = string ∷ []
strings_of (Any strings) = strings.items
