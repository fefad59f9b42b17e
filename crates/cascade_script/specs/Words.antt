-- The words of a script's lines.
use Rattle.std.specs.Prelude.{ℕ, ◌+◌, ◌-◌, ◌*◌, Bool, true, false, ◌&&◌, ◌||◌, not, nat_le, Option, Some, None, Result, Ok, Err, List, [], ◌∷◌, length, fold, if◌then◌else◌, ◌==◌, slice_index, option_and_then, codes}
use Rattle.std.specs.Str.{bytes_eq}
use Rattle.std.specs.List.{list_all}
use Rattle.dn_names.specs.declared.fault.NameFault.{NameFault}
use Rattle.dn_names.specs.Names.{TypeAndValue}
use Rattle.dn_names.specs.Reading.{name_of_text}
use Rattle.entry_tree.specs.declared.spec.Scope.{Scope}
use Rattle.entry_tree.specs.declared.spec.Scope.TheVariants.{Base, One, Sub}
use Rattle.entry_tree.specs.Selection.{Search}
use Rattle.ldap_filter.specs.declared.fault.FilterFault.{FilterFault}
use Rattle.ldap_filter.specs.Reading.{read_filter}
use Rattle.ldap_filter.specs.FilterTree.{FilterTree}
use Rattle.ldif_text.specs.Field.{cut}

infixl 10 ◌>>=◌
abbrev pub ◌>>=◌ : {A B : Type 0} → Option A → (A → Option B) → Option B
o >>= f = option_and_then f o

abbrev pub guarded : Bool → Option (Unit {0})
guarded test = if test then Some tt else None

-- the first choice that is there
abbrev pub otherwise : {A B : Type 0} → Option A → (A → Option B) → Option B → Option B
otherwise None f b = b
otherwise (Some a) f b = f a

-- ---- cuts

-- the two sides of the first mark of a list of bytes that has one
abbrev pub after_cut : List ℕ → Option (List ℕ) → Option (List ℕ × List ℕ)
after_cut first_part None = None
after_cut first_part (Some back) = Some (first_part, back)

abbrev pub until : ℕ → List ℕ → Option (List ℕ × List ℕ)
until mark bytes = after_cut (cut mark bytes).0 (cut mark bytes).1

-- the bytes without this prefix, if they have it
abbrev pub stripped : List ℕ → List ℕ → Option (List ℕ)
stripped [] bytes = Some bytes
stripped (p ∷ prefix) [] = None
stripped (p ∷ prefix) (b ∷ bytes) = if b == p then stripped prefix bytes else None

-- ---- words

abbrev pub is_empty : List ℕ → Bool
is_empty [] = true
is_empty (b ∷ bytes) = false

abbrev pub is_letter_or_digit : ℕ → Bool
is_letter_or_digit b =
    ((nat_le 97 b && nat_le b 122) || (nat_le 65 b && nat_le b 90)) || (nat_le 48 b && nat_le b 57)

-- 1 to 32 ASCII letters and digits
abbrev pub is_node_name : List ℕ → Bool
is_node_name bytes =
    (not (is_empty bytes) && nat_le (length bytes) 32) && list_all is_letter_or_digit bytes

unfoldable pub node_name : List ℕ → Option (List ℕ)
node_name bytes = do
  _ ← guarded (is_node_name bytes)
  Some bytes

-- a node's name, and what stands after the space after it
unfoldable pub named : List ℕ → Option (List ℕ × List ℕ)
named text = do
  word ← until 32 text
  name ← node_name word.0
  Some (name, word.1)

abbrev pub is_digit : ℕ → Bool
is_digit b = nat_le 48 b && nat_le b 57

abbrev pub value_of : List ℕ → ℕ
value_of digits = fold (λ value digit. value * 10 + (digit - 48)) 0 digits

-- decimal digits, of which there is one at least, and the first is no zero before others
abbrev pub is_number : List ℕ → Bool
is_number text =
    if is_empty text then false
    else ((length text == 1 || not (slice_index text 0 == 48)) && list_all is_digit text)

abbrev pub value_up_to : ℕ → List ℕ → Option ℕ
value_up_to most digits = if nat_le (value_of digits) most then Some (value_of digits) else None

-- a number up to this one
unfoldable pub number : ℕ → List ℕ → Option ℕ
number most text = if is_number text then value_up_to most text else None

-- the greatest number that a command may give: the last microsecond of the year 9999
abbrev pub greatest_number : ℕ
greatest_number = 253402300799999999

-- what stands between quotation marks, and after them
unfoldable pub quoted : List ℕ → Option (List ℕ × List ℕ)
quoted text = do
  rest ← stripped (34 ∷ []) text
  until 34 rest

-- the line ends here
unfoldable pub at_end : List ℕ → Option (Unit {0})
at_end text = guarded (is_empty text)

-- ---- what is wanted

abbrev pub name_or_none :
    Result (List (List TypeAndValue)) NameFault → Option (List (List TypeAndValue))
name_or_none (Ok name) = Some name
name_or_none (Err fault) = None

-- the name that a text spells (RFC 4514, section 3)
unfoldable pub name_in : List ℕ → Option (List (List TypeAndValue))
name_in text = name_or_none (name_of_text text)

abbrev pub filter_or_none : Result FilterTree FilterFault → Option FilterTree
filter_or_none (Ok filter) = Some filter
filter_or_none (Err fault) = None

-- the filter that a text spells (RFC 4515, section 3)
unfoldable pub filter_in : List ℕ → Option FilterTree
filter_in text = filter_or_none (read_filter text)

unfoldable pub scope_in : List ℕ → Option Scope
scope_in word =
    if bytes_eq word (codes "base") then Some Base
    else (if bytes_eq word (codes "one") then Some One
    else (if bytes_eq word (codes "sub") then Some Sub else None))

-- `SCOPE "BASE" "FILTER"`, and what stands after it
unfoldable pub search_in : List ℕ → Option (Search × List ℕ)
search_in text = do
  word ← until 32 text
  scope ← scope_in word.0
  base ← quoted word.1
  name ← name_in base.0
  rest ← stripped (32 ∷ []) base.1
  filter ← quoted rest
  tree ← filter_in filter.0
  Some (record { base = name; scope = scope; filter = tree }, filter.1)
