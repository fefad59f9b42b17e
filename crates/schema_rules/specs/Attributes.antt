-- Lists of attributes, and what the schema says of them (RFC 4512, sections 2.2 and 2.3).
use Rattle.std.specs.Prelude.{◌≢◌, ℕ, ◌+◌, Bool, false, not, ◌&&◌, ◌||◌, ◌==◌, nat_lt, if◌then◌else◌, List, [], ◌∷◌, ◌++◌, length, map, filter, sum_by, codes, bytes_eq, Option, None, Some, is_some, option_map, Result, Ok, Err, All, AllPairs}
use Rattle.std.specs.Option.{option_or}
use Rattle.std.specs.List.{list_any, list_all, filter_map, flat_map}
use Rattle.ldap_constants.specs.declared.result_codes.TheConstants.{UNDEFINED_ATTRIBUTE_TYPE, CONSTRAINT_VIOLATION, ATTRIBUTE_OR_VALUE_EXISTS, INVALID_ATTRIBUTE_SYNTAX, OBJECT_CLASS_VIOLATION}
use Rattle.schema_rules.specs.declared.attributes.Attribute.{Attribute}
use Rattle.schema_rules.specs.declared.raw.RawAttribute.{RawAttribute}
use Rattle.schema_rules.specs.Schema.{type_named, type_name, is_single, is_operational, class_named, is_structural, line_of, required_types, allows}
use Rattle.schema_rules.specs.Keys.{key_of, keys_of}

-- each type once, and none without values
pub record IsAttributeList (attributes : List Attribute) : Type 0 where
  pub once : AllPairs (λ a b. a.kind ≢ b.kind) attributes
  pub filled : All (λ a. a.values ≢ []) attributes

-- what the values weigh, each with the name of its type
abbrev pub values_weight : List ℕ → List (List ℕ) → ℕ
values_weight name values = sum_by (λ value. length name + length value) values

abbrev pub weight_of : List Attribute → ℕ
weight_of attributes = sum_by (λ a. values_weight (type_name a.kind) a.values) attributes

-- some attribute is of the type
abbrev pub has_kind : List Attribute → ℕ → Bool
has_kind attributes kind = list_any (λ a. a.kind == kind) attributes

-- the values of a type, those of all its attributes in order
abbrev pub values_of : List Attribute → ℕ → List (List ℕ)
values_of attributes kind = flat_map (λ a. a.values) (filter (λ a. a.kind == kind) attributes)

-- the attributes with these values of a type more: after its other values, or
-- after all attributes
abbrev pub with_values : List Attribute → ℕ → List (List ℕ) → List Attribute
with_values [] kind values = record { kind = kind; values = values } ∷ []
with_values (a ∷ rest) kind values =
    if a.kind == kind then record { kind = a.kind; values = a.values ++ values } ∷ rest
    else a ∷ with_values rest kind values

-- ---- attributes as they come in

abbrev pub is_of_syntax : ℕ → List ℕ → Bool
is_of_syntax kind value = is_some (key_of kind value)

-- the code of values of a type that a client may give: one at least, and each of the type's syntax
abbrev pub values_code : ℕ → List (List ℕ) → Option ℕ
values_code kind values =
    if length values == 0 then Some INVALID_ATTRIBUTE_SYNTAX
    else if list_all (is_of_syntax kind) values then None else Some INVALID_ATTRIBUTE_SYNTAX

abbrev pub typed_code : Option ℕ → List (List ℕ) → Option ℕ
typed_code None values = Some UNDEFINED_ATTRIBUTE_TYPE
typed_code (Some kind) values =
    if is_operational kind then Some CONSTRAINT_VIOLATION else values_code kind values

-- the code of an attribute by itself
abbrev pub raw_code : RawAttribute → Option ℕ
raw_code raw = typed_code (type_named raw.name) raw.values

-- the first code of the attributes, each by itself
abbrev pub first_code : List RawAttribute → Option ℕ
first_code [] = None
first_code (raw ∷ raws) = option_or (raw_code raw) (first_code raws)

-- the attribute, with the type that its name names
abbrev pub typed : RawAttribute → Option Attribute
typed raw = option_map (λ kind. record { kind = kind; values = raw.values }) (type_named raw.name)

-- the types of the attributes, each once, in the order in which they first come
abbrev pub kinds_of : List Attribute → List ℕ
kinds_of [] = []
kinds_of (a ∷ rest) = a.kind ∷ filter (λ kind. not (kind == a.kind)) (kinds_of rest)

-- one attribute for each type
abbrev pub joined : List Attribute → List Attribute
joined attributes =
    map (λ kind. record { kind = kind; values = values_of attributes kind }) (kinds_of attributes)

-- a key comes twice
abbrev pub has_duplicates : List (List ℕ) → Bool
has_duplicates [] = false
has_duplicates (key ∷ keys) = list_any (λ other. bytes_eq other key) keys || has_duplicates keys

-- two values of the attribute are equal
abbrev pub repeats_value : Attribute → Bool
repeats_value a = has_duplicates (keys_of a.kind a.values)

abbrev pub without_duplicates : List Attribute → Result (List Attribute) ℕ
without_duplicates attributes =
    if list_any repeats_value attributes then Err ATTRIBUTE_OR_VALUE_EXISTS else Ok attributes

abbrev pub read_joined : Option ℕ → List Attribute → Result (List Attribute) ℕ
read_joined None attributes = without_duplicates attributes
read_joined (Some code) attributes = Err code

-- what the attributes are read as, or the first code against them
unfoldable pub read_attributes : List RawAttribute → Result (List Attribute) ℕ
read_attributes raws = read_joined (first_code raws) (joined (filter_map typed raws))

-- a client may give the attribute
abbrev pub is_given : Attribute → Bool
is_given a = not (is_operational a.kind) && list_all (is_of_syntax a.kind) a.values

-- and no two of its values are equal
abbrev pub is_sound : Attribute → Bool
is_sound a = is_given a && not (repeats_value a)

-- the attribute as it is sent: the name of its type, and its values
abbrev pub raw_of : Attribute → RawAttribute
raw_of a = record { name = type_name a.kind; values = a.values }

-- ---- the check of an entry (RFC 4512, section 2.4)

abbrev pub is_named : List ℕ → Attribute → Bool
is_named name a = bytes_eq (type_name a.kind) name

abbrev pub has_type : List Attribute → List ℕ → Bool
has_type attributes name = list_any (is_named name) attributes

-- a single-valued type has more than one value
abbrev pub is_crowded : Attribute → Bool
is_crowded a = is_single a.kind && nat_lt 1 (length a.values)

-- the classes that the entry gives
abbrev pub classes_given : List Attribute → List ℕ
classes_given attributes =
    flat_map (λ a. filter_map class_named a.values)
    (filter (is_named (codes "objectClass")) attributes)

-- one of two classes is a superior of the other, or they are the same
abbrev pub is_on_line : ℕ → ℕ → Bool
is_on_line one two =
    list_any (λ class. class == two) (line_of one) || list_any (λ class. class == one) (line_of two)

-- the classes lie on one line of superiors
abbrev pub is_one_line : List ℕ → Bool
is_one_line classes = list_all (λ one. list_all (is_on_line one) classes) classes

-- what the classes ask for is there
abbrev pub has_required : List Attribute → List ℕ → Bool
has_required attributes classes =
    list_all (λ class. list_all (has_type attributes) (required_types class)) classes

-- one of the classes allows the type
abbrev pub is_allowed : List ℕ → List ℕ → Bool
is_allowed classes name = list_any (λ class. allows class name) classes

-- what an entry meets that has these structural classes, and all these classes
abbrev pub conforms : List Attribute → List ℕ → List ℕ → Bool
conforms attributes structural classes =
    has_type attributes (codes "objectClass") && not (length structural == 0)
    && is_one_line structural && has_required attributes classes
    && list_all (λ a. is_allowed classes (type_name a.kind)) attributes

-- the first code against an entry; a superior counts as given where its class is given
unfoldable pub entry_code : List Attribute → Option ℕ
entry_code attributes =
    let given = classes_given attributes in
    if list_any is_crowded attributes then Some CONSTRAINT_VIOLATION
    else if conforms attributes (filter is_structural given) (flat_map line_of given) then None
    else Some OBJECT_CLASS_VIOLATION
