-- The attributes of each entry of a drill are lists of attributes: each type once, none without values.
use Rattle.std.proofs.Common.{◌≡◌, ◌≢◌, ℕ, false, List, [], ◌∷◌, sym, subst, arith}
use Rattle.std.specs.Prelude.{codes}
use Rattle.std.specs.Fmt.{decimal}
use Rattle.std.proofs.lemmas.List.Elements.{All-nil}
use Rattle.schema_rules.specs.declared.attributes.Attribute.{Attribute}
use Rattle.schema_rules.specs.Attributes.{IsAttributeList, with_values}
use Rattle.schema_rules.proofs.Joining.{IsAttributeList-with_values}
use Rattle.drill_plan.specs.Names.{of_one, suffix_attributes, unit_text, unit_attributes, entry_text, entry_attributes}

none : IsAttributeList []
none = record { once = λ i j d before within. absurd (omega (arith, within)); filled = All-nil (λ (a : Attribute). a.values ≢ []) }

some : (value : List ℕ) (values : List (List ℕ)) → ◌≢◌ {A = List (List ℕ)} (value ∷ values) []
some value values same = cc

-- an attribute of a type that is not there yet
more : (xs : List Attribute) (kind : ℕ) (value : List ℕ) (values : List (List ℕ)) → IsAttributeList xs
    → IsAttributeList (with_values xs kind (value ∷ values))
more xs kind value values list = IsAttributeList-with_values xs kind (value ∷ values) list (some value values)

-- those of the suffix
pub suffix_list : IsAttributeList suffix_attributes
suffix_list =
    let classes : List Attribute = record { kind = 0; values = codes "organization" ∷ codes "dcObject" ∷ [] } ∷ [] in
    more (record { kind = 0; values = codes "organization" ∷ codes "dcObject" ∷ [] } ∷ of_one 10 (codes "drill") ∷ []) 12 (codes "drill") []
    (more classes 10 (codes "drill") [] (more [] 0 (codes "organization") (codes "dcObject" ∷ []) none))

-- those of a unit
pub unit_list : (writer : ℕ) → IsAttributeList (unit_attributes writer)
unit_list writer =
    more (of_one 0 (codes "organizationalUnit") ∷ []) 9 (unit_text writer false) []
    (more [] 0 (codes "organizationalUnit") [] none)

-- those of an entry below it
pub entry_list : (slot step kind : ℕ) → IsAttributeList (entry_attributes slot step kind)
entry_list slot step kind =
    let person : List Attribute = of_one 0 (codes "inetOrgPerson") ∷ [] in
    let named : List Attribute = of_one 0 (codes "inetOrgPerson") ∷ of_one 1 (entry_text slot) ∷ [] in
    more (of_one 0 (codes "inetOrgPerson") ∷ of_one 1 (entry_text slot) ∷ of_one 2 (decimal step) ∷ []) 14 (decimal kind) []
    (more named 2 (decimal step) [] (more person 1 (entry_text slot) [] (more [] 0 (codes "inetOrgPerson") [] none)))

-- attributes that are such a list
pub listed_as : (items attrs : List Attribute) → items ≡ attrs → IsAttributeList attrs → IsAttributeList items
listed_as items attrs same list = subst IsAttributeList (sym same) list
