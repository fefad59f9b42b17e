-- The attribute types and the object classes of this directory (RFC 4512, sections 2.4 and 2.5).
use Rattle.std.specs.Prelude.{ℕ, zero, suc, ◌+◌, Bool, true, false, ◌||◌, List, [], ◌∷◌, length, map, codes, Option, None, Some, option_and_then, position, bytes_eq}
use Rattle.std.specs.Str.{str_eq_ignore_ascii_case}
use Rattle.std.specs.List.{slice_index_or, list_any}
use Prim.Native.String.{String}
use Rattle.schema_rules.specs.declared.types.Rule.{Rule}
use Rattle.schema_rules.specs.declared.types.Rule.TheVariants.{Class, Folded, FoldedAscii, ExactAscii, Whole, Flag, Time, Operational}
use Rattle.schema_rules.specs.declared.classes.ClassKind.{ClassKind}
use Rattle.schema_rules.specs.declared.classes.ClassKind.TheVariants.{Abstract, Structural, Auxiliary}

-- ---- attribute types

pub record TypeRow : Type 0 where
  pub name : List ℕ
  pub rule : Rule
  pub single : Bool

abbrev pub many_valued : String → Rule → TypeRow
many_valued name rule = record { name = codes name; rule = rule; single = false }

abbrev pub single_valued : String → Rule → TypeRow
single_valued name rule = record { name = codes name; rule = rule; single = true }

-- a type is known by its place in this list
unfoldable pub types : List TypeRow
types =
    many_valued "objectClass" Class ∷
    many_valued "cn" Folded ∷
    many_valued "sn" Folded ∷
    many_valued "givenName" Folded ∷
    single_valued "displayName" Folded ∷
    many_valued "uid" Folded ∷
    many_valued "mail" FoldedAscii ∷
    many_valued "title" Folded ∷
    many_valued "description" Folded ∷
    many_valued "ou" Folded ∷
    many_valued "o" Folded ∷
    many_valued "l" Folded ∷
    single_valued "dc" FoldedAscii ∷
    many_valued "telephoneNumber" FoldedAscii ∷
    many_valued "departmentNumber" Folded ∷
    single_valued "employeeNumber" Folded ∷
    single_valued "uidNumber" Whole ∷
    single_valued "gidNumber" Whole ∷
    many_valued "memberUid" ExactAscii ∷
    single_valued "homeDirectory" ExactAscii ∷
    single_valued "syncActive" Flag ∷
    single_valued "syncExpiry" Time ∷
    single_valued "entryUUID" Operational ∷
    single_valued "entryCSN" Operational ∷ []

-- past the end of the list nothing is a type
abbrev pub no_type : TypeRow
no_type = single_valued "" Operational

abbrev pub type_row : ℕ → TypeRow
type_row kind = slice_index_or types kind no_type

abbrev pub type_name : ℕ → List ℕ
type_name kind = (type_row kind).name

abbrev pub type_rule : ℕ → Rule
type_rule kind = (type_row kind).rule

abbrev pub is_single : ℕ → Bool
is_single kind = (type_row kind).single

abbrev pub is_operational_rule : Rule → Bool
is_operational_rule Class = false
is_operational_rule Folded = false
is_operational_rule FoldedAscii = false
is_operational_rule ExactAscii = false
is_operational_rule Whole = false
is_operational_rule Flag = false
is_operational_rule Time = false
is_operational_rule Operational = true

abbrev pub is_operational : ℕ → Bool
is_operational kind = is_operational_rule (type_rule kind)

-- the type of a name, whatever the case of its letters (RFC 4512, section 2.5: a descriptor)
unfoldable pub type_named : List ℕ → Option ℕ
type_named name = position (λ row. str_eq_ignore_ascii_case row.name name) types

-- ---- object classes

pub record ClassRow : Type 0 where
  pub name : List ℕ
  pub kind : ClassKind
  pub superior : Option (List ℕ)
  pub must : List (List ℕ)
  pub may : List (List ℕ)

abbrev pub derived : String → ClassKind → String → List String → List String → ClassRow
derived superior kind name must may =
    record {
      name = codes name;
      kind = kind;
      superior = Some (codes superior);
      must = map codes must;
      may = map codes may;
    }

-- a class is known by its place in this list
unfoldable pub classes : List ClassRow
classes =
    record {
      name = codes "top";
      kind = Abstract;
      superior = None;
      must = codes "objectClass" ∷ [];
      may = [];
    } ∷
    derived "top" Structural "organization" ("o" ∷ [])
    ("description" ∷ "l" ∷ "telephoneNumber" ∷ []) ∷
    derived "top" Structural "organizationalUnit" ("ou" ∷ [])
    ("description" ∷ "l" ∷ "telephoneNumber" ∷ []) ∷
    derived "top" Structural "person" ("sn" ∷ "cn" ∷ []) ("telephoneNumber" ∷ "description" ∷ []) ∷
    derived "person" Structural "organizationalPerson" [] ("title" ∷ "ou" ∷ "l" ∷ []) ∷
    derived "organizationalPerson" Structural "inetOrgPerson" []
    ("givenName" ∷ "displayName" ∷ "uid" ∷ "mail" ∷ "departmentNumber" ∷ "employeeNumber" ∷ "o"
    ∷ []) ∷
    derived "top" Structural "posixGroup" ("cn" ∷ "gidNumber" ∷ [])
    ("memberUid" ∷ "description" ∷ []) ∷
    derived "top" Auxiliary "dcObject" ("dc" ∷ []) [] ∷
    derived "top" Auxiliary "posixAccount"
    ("cn" ∷ "uid" ∷ "uidNumber" ∷ "gidNumber" ∷ "homeDirectory" ∷ []) ("description" ∷ []) ∷
    derived "top" Auxiliary "syncSubject" [] ("syncActive" ∷ "syncExpiry" ∷ []) ∷ []

-- past the end of the list nothing is a class
abbrev pub no_class : ClassRow
no_class = record { name = []; kind = Abstract; superior = None; must = []; may = [] }

abbrev pub class_row : ℕ → ClassRow
class_row class = slice_index_or classes class no_class

-- the class of a name, whatever the case of its letters
unfoldable pub class_named : List ℕ → Option ℕ
class_named name = position (λ row. str_eq_ignore_ascii_case row.name name) classes

abbrev pub is_structural_kind : ClassKind → Bool
is_structural_kind Abstract = false
is_structural_kind Structural = true
is_structural_kind Auxiliary = false

abbrev pub is_structural : ℕ → Bool
is_structural class = is_structural_kind (class_row class).kind

-- the class that this one is derived from
abbrev pub superior_of : ℕ → Option ℕ
superior_of class = option_and_then class_named (class_row class).superior

-- a class and its superiors, the nearest first, at most n
abbrev pub line_within : ℕ → Option ℕ → List ℕ
line_within zero class = []
line_within (suc n) None = []
line_within (suc n) (Some class) = class ∷ line_within n (superior_of class)

-- a class and all its superiors; no line is longer than the table (RFC 4512, section 2.4)
unfoldable pub line_of : ℕ → List ℕ
line_of class = line_within (length classes) (Some class)

abbrev pub line_from : Option ℕ → List ℕ
line_from None = []
line_from (Some class) = line_of class

-- how many classes stand in the table up to this one
abbrev pub height : Option ℕ → ℕ
height None = 0
height (Some class) = class + 1

-- the types that an entry of the class has
abbrev pub required_types : ℕ → List (List ℕ)
required_types class = (class_row class).must

abbrev pub is_among : List ℕ → List (List ℕ) → Bool
is_among name names = list_any (λ other. bytes_eq other name) names

-- an entry of the class has the type, or may have it
abbrev pub allows : ℕ → List ℕ → Bool
allows class name = is_among name (class_row class).must || is_among name (class_row class).may
