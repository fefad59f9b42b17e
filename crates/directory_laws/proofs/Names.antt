-- Names that a Rename puts together.
use Rattle.std.proofs.Common.{◌≡◌, ◌≤◌, ◌-◌, true, List, length, take, Option, Some, None, unwrap_or}
use Rattle.std.specs.Prelude.{IfSome}
use Rattle.std.specs.List.{AllPass}
use Rattle.std.proofs.lemmas.List.Elements.{All-cons, All-append, All-take, All-drop}
use Rattle.dn_names.specs.Names.{TypeAndValue, parent_of, moved_name}
use Rattle.dn_names.specs.Sound.{IsName, is_rdn, most_rdns}
use Rattle.entry_tree.specs.declared.entry.Entry.{Entry}
use Rattle.entry_tree.specs.Effects.{new_name}

abbrev passes : List TypeAndValue → Type 0
passes rdn = is_rdn rdn ≡ true

AllPass-above : (name : List (List TypeAndValue)) (superior : Option (List (List TypeAndValue))) → IsName name → IfSome superior IsName → AllPass is_rdn (unwrap_or superior (parent_of name))
AllPass-above name None is above = All-drop passes 1 name is.rdns
AllPass-above name (Some superior) is above = above.rdns

-- the new name of a Rename consists of RDNs
pub AllPass-new_name : (e : Entry) (rdn : List TypeAndValue) (superior : Option (List (List TypeAndValue))) → IsName e.dn → is_rdn rdn ≡ true → IfSome superior IsName
    → AllPass is_rdn (new_name e rdn superior)
AllPass-new_name e rdn superior is sound above =
    All-cons passes rdn (unwrap_or superior (parent_of e.dn)) sound (AllPass-above e.dn superior is above)

-- a name that is moved is a name, where it is not too long
pub IsName-moved_name : (name from to : List (List TypeAndValue)) → IsName name → AllPass is_rdn to → length (moved_name name from to) ≤ most_rdns → IsName (moved_name name from to)
IsName-moved_name name from to is all few = record {
  rdns = All-append passes (take (length name - length from) name) to (All-take passes (length name - length from) name is.rdns) all;
  few = few;
}
