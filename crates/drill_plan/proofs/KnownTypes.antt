-- The attribute types of a drill by their names.
use Rattle.std.proofs.Common.{◌≡◌, ℕ, true, List, Some, is_some, refl, sym, ap, ◌∙◌}
use Rattle.std.specs.Prelude.{codes}
use Rattle.std.proofs.lemmas.Option.{same_Some}
use Rattle.schema_rules.specs.Schema.{types, type_named}

-- the type of `objectClass`
pub object_class_is : type_named (codes "objectClass") ≡ Some 0
unfolding types type_named
object_class_is = refl

-- the type of `cn`
pub common_name_is : type_named (codes "cn") ≡ Some 1
unfolding types type_named
common_name_is = refl

-- the type of `sn`
pub surname_is : type_named (codes "sn") ≡ Some 2
unfolding types type_named
surname_is = refl

-- the type of `ou`
pub unit_name_is : type_named (codes "ou") ≡ Some 9
unfolding types type_named
unit_name_is = refl

-- the type of `o`
pub organization_name_is : type_named (codes "o") ≡ Some 10
unfolding types type_named
organization_name_is = refl

-- the type of `dc`
pub component_is : type_named (codes "dc") ≡ Some 12
unfolding types type_named
component_is = refl

-- the type of `departmentNumber`
pub department_is : type_named (codes "departmentNumber") ≡ Some 14
unfolding types type_named
department_is = refl

-- a name that names a type
pub named_some : (name : List ℕ) (kind : ℕ) → type_named name ≡ Some kind → is_some (type_named name) ≡ true
named_some name kind is = ap is_some is

-- a name has one type
pub one_type : (name : List ℕ) (kind found : ℕ) → type_named name ≡ Some kind → type_named name ≡ Some found → found ≡ kind
one_type name kind found is there = same_Some found kind (sym there ∙ is)
