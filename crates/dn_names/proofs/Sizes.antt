-- How long the text of a name is.
use Rattle.std.proofs.Common.{◌≡◌, ◌≢◌, ℕ, ◌+◌, ◌*◌, ◌<◌, ◌≤◌, not, ◌==◌, true, List, [], ◌∷◌, drop, get_or, length, length-append, refl, sym, ap, ◌∙◌, arith}
use Rattle.std.specs.List.{list_all, AllPass}
use Rattle.std.proofs.lemmas.Bool.{and_parts, leb-true}
use Rattle.std.proofs.lemmas.List.{at_drop_more}
use Rattle.std.proofs.lemmas.List.Elements.{All-head, All-tail}
use Rattle.schema_rules.specs.Attributes.{is_given, is_of_syntax}
use Rattle.schema_rules.specs.Schema.{type_name, is_operational}
use Rattle.schema_rules.specs.declared.attributes.Attribute.{Attribute}
use Rattle.schema_rules.proofs.Sizes.{found_named}
use Rattle.dn_names.specs.Keys.{has_double}
use Rattle.dn_names.specs.Names.{TypeAndValue}
use Rattle.dn_names.specs.Sound.{has_key, is_rdn, IsName}
use Rattle.dn_names.specs.Writing.{rdn_text, more_rdns_text, name_text}
use Rattle.dn_names.proofs.Equality.{found_type}

-- the name of a type of which values are given is not empty
pub type_has_name : (a : Attribute) → a.values ≢ [] → is_given a ≡ true → 1 ≤ length (type_name a.kind)
type_has_name a filled given = by a.values filled (and_parts (not (is_operational a.kind)) (list_all (is_of_syntax a.kind) a.values) given).1
  where
    by : (values : List (List ℕ)) → values ≢ [] → list_all (is_of_syntax a.kind) values ≡ true → 1 ≤ length (type_name a.kind)
    by [] some syntax = absurd (some refl)
    by (value ∷ values) some syntax =
        found_named (type_name a.kind) a.kind (found_type a.kind value (and_parts (is_of_syntax a.kind value) (list_all (is_of_syntax a.kind) values) syntax).0)

-- ---- names

-- an RDN is written in few enough bytes
pub rdn_size : (rdn : List TypeAndValue) → is_rdn rdn ≡ true → length (rdn_text rdn) ≤ 1024
rdn_size rdn is =
    let some = and_parts (not (length rdn == 0)) _ is in
    let keyed = and_parts (list_all has_key rdn) _ some.1 in
    let differ = and_parts (not (has_double rdn)) _ keyed.1 in
    leb-true _ _ differ.1

more_rdns_size : (rdns : List (List TypeAndValue)) → AllPass is_rdn rdns → length (more_rdns_text rdns) ≤ 1025 * length rdns
more_rdns_size [] are = omega arith
more_rdns_size (rdn ∷ rdns) are =
    let first = All-head (λ (x : List TypeAndValue). is_rdn x ≡ true) rdn rdns are in
    let rest = All-tail (λ (x : List TypeAndValue). is_rdn x ≡ true) rdn rdns are in
    omega (arith, length-append (rdn_text rdn) (more_rdns_text rdns), rdn_size rdn first, more_rdns_size rdns rest)

-- the bytes of the RDNs from one on are a comma, its own, and those of the RDNs after it
pub more_rdns_from : (rdns : List (List TypeAndValue)) (i : ℕ) (rdn : List TypeAndValue) → i < length rdns → rdn ≡ get_or rdns i rdn
    → length (more_rdns_text (drop i rdns)) ≡ 1 + length (rdn_text rdn) + length (more_rdns_text (drop (i + 1) rdns))
more_rdns_from rdns i rdn low at =
    let opened : length (more_rdns_text (drop i rdns)) ≡ length (more_rdns_text (rdn ∷ drop (i + 1) rdns)) =
    at_drop_more (λ (xs : List (List TypeAndValue)). length (more_rdns_text xs)) rdns i rdn low
    ∙ ap (λ (r : List TypeAndValue). length (more_rdns_text (r ∷ drop (i + 1) rdns))) (sym at) in
    omega (arith, opened, length-append (rdn_text rdn) (more_rdns_text (drop (i + 1) rdns)))

names_size : (name : List (List TypeAndValue)) → AllPass is_rdn name → length (name_text name) ≤ 1025 * length name
names_size [] are = omega arith
names_size (rdn ∷ rdns) are =
    let first = All-head (λ (x : List TypeAndValue). is_rdn x ≡ true) rdn rdns are in
    let rest = All-tail (λ (x : List TypeAndValue). is_rdn x ≡ true) rdn rdns are in
    omega (arith, length-append (rdn_text rdn) (more_rdns_text rdns), rdn_size rdn first, more_rdns_size rdns rest)

-- the text of a name has at most 32,800 octets
pub name_size : (name : List (List TypeAndValue)) → IsName name → length (name_text name) ≤ 32800
name_size name is = omega (arith, names_size name is.rdns, is.few)
