-- Filters of searches (RFC 4511, section 4.5.1.7; RFC 4526).
use Rattle.std.specs.Prelude.{◌≡◌, ℕ, zero, suc, ◌-◌, List, [], ◌∷◌, ◌++◌, length, Bool, true, ◌&&◌, if◌then◌else◌, Option, Some, Result, Ok, Err}
use Rattle.std.specs.List.{flat_map}
use Rattle.ldap_ber.specs.Reader.{◌>>=◌, tag_at, has_tag}
use Rattle.ldap_ber.specs.Form.{Form, OctetString, Both, Meaning, Tagged, Sequence, ListOf}
use Rattle.ldap_ber.specs.Reading.{Reading, both_at, meaning_at, made_at, tagged_at, sequence_at, list_at}
use Rattle.ldap_ber.specs.Canonical.{element}
use Rattle.ldap_filter.specs.FilterTree.{FilterTree, Trees, all_of, any_of, negated, equal, substrings, at_least, at_most, present, approx, extensible, no_trees, more_trees, trees, listed}
use Rattle.ldap_filter.specs.Pieces.{has_piece}
use Rattle.ldap_parts.specs.Faults.{place_of}
use Rattle.ldap_parts.specs.Components.{OptionForm, octet_string_at, option_at, string_octets}

-- ---- how they are spelled

-- as many of a component as there are elements with this tag
abbrev pub While : {X : Type 0} → ℕ → Form X → Form (List X)
While tag R bytes [] rest = (rest ≡ bytes) × (tag_at bytes ≡ Some tag → ⊥)
While tag R bytes (x ∷ xs) rest =
    (tag_at bytes ≡ Some tag) × (between : List ℕ) × R bytes x between × While tag R between xs rest

-- what a value begins with, what it holds after that, and what it ends with
abbrev pub Parts : Type 0
Parts = Option (List ℕ) × (List (List ℕ) × Option (List ℕ))

-- one piece at least
abbrev pub ArePieces : Parts → Parts → Type 0
ArePieces read pieces = (read ≡ pieces) × (has_piece read.0 read.1.0 read.1.1 ≡ true)

abbrev pub PiecesForm : Form Parts
PiecesForm =
    Meaning ArePieces
    (Tagged 48 (Both (OptionForm 128) (Both (While 129 (OctetString 129)) (OptionForm 130))))

-- SubstringFilter
abbrev pub SubstringsForm : Form (List ℕ × Parts)
SubstringsForm = Sequence 164 (Both (OctetString 4) PiecesForm)

-- AttributeValueAssertion
abbrev pub AssertionForm : ℕ → Form (List ℕ × List ℕ)
AssertionForm tag = Sequence tag (Both (OctetString 4) (OctetString 4))

-- a filter of no more levels than this, of which an item counts as one
unfoldable pub FilterIn : ℕ → Form FilterTree
FilterIn zero bytes filter rest = ⊥
FilterIn (suc levels) bytes (all_of parts) rest =
    ListOf 160 (FilterIn levels) bytes (listed parts) rest
FilterIn (suc levels) bytes (any_of parts) rest =
    ListOf 161 (FilterIn levels) bytes (listed parts) rest
FilterIn (suc levels) bytes (negated part) rest = Tagged 162 (FilterIn levels) bytes part rest
FilterIn (suc levels) bytes (equal name value) rest = AssertionForm 163 bytes (name, value) rest
FilterIn (suc levels) bytes (substrings name initial middle last) rest =
    SubstringsForm bytes (name, (initial, (middle, last))) rest
FilterIn (suc levels) bytes (at_least name value) rest = AssertionForm 165 bytes (name, value) rest
FilterIn (suc levels) bytes (at_most name value) rest = AssertionForm 166 bytes (name, value) rest
FilterIn (suc levels) bytes (present name) rest = OctetString 135 bytes name rest
FilterIn (suc levels) bytes (approx name value) rest = AssertionForm 168 bytes (name, value) rest
FilterIn (suc levels) bytes (extensible body) rest = OctetString 169 bytes body rest

-- ---- how they are read

abbrev pub while_in : {X : Type 0} → ℕ → Reading ℕ X → ℕ → Reading ℕ (List X)
while_in tag f zero stop bytes = Ok ([], bytes)
while_in tag f (suc most) stop bytes =
    if has_tag tag bytes
    then (f stop bytes >>= λ x. while_in tag f most stop x.1 >>= λ xs. Ok (x.0 ∷ xs.0, xs.1))
    else Ok ([], bytes)

unfoldable pub while_at : {X : Type 0} → ℕ → Reading ℕ X → Reading ℕ (List X)
while_at tag f stop bytes = while_in tag f (length bytes) stop bytes

-- an element without a piece is refused
abbrev pub pieces_of : ℕ → Parts → Result Parts ℕ
pieces_of place pieces = if has_piece pieces.0 pieces.1.0 pieces.1.1 then Ok pieces else Err place

abbrev pub parts_at : Reading ℕ Parts
parts_at = both_at (option_at 128) (both_at (while_at 129 (octet_string_at 129)) (option_at 130))

abbrev pub pieces_at : Reading ℕ Parts
pieces_at = meaning_at pieces_of (tagged_at place_of 48 parts_at)

abbrev pub substrings_at : Reading ℕ (List ℕ × Parts)
substrings_at = sequence_at place_of 164 (both_at (octet_string_at 4) pieces_at)

abbrev pub assertion_at : ℕ → Reading ℕ (List ℕ × List ℕ)
assertion_at tag = sequence_at place_of tag (both_at (octet_string_at 4) (octet_string_at 4))

abbrev pub all_with : List FilterTree → FilterTree
all_with parts = all_of (trees parts)

abbrev pub any_with : List FilterTree → FilterTree
any_with parts = any_of (trees parts)

abbrev pub substrings_with : List ℕ × Parts → FilterTree
substrings_with item = substrings item.0 item.1.0 item.1.1.0 item.1.1.1

abbrev pub equal_with : List ℕ × List ℕ → FilterTree
equal_with item = equal item.0 item.1

abbrev pub at_least_with : List ℕ × List ℕ → FilterTree
at_least_with item = at_least item.0 item.1

abbrev pub at_most_with : List ℕ × List ℕ → FilterTree
at_most_with item = at_most item.0 item.1

abbrev pub approx_with : List ℕ × List ℕ → FilterTree
approx_with item = approx item.0 item.1

-- the items
unfoldable pub item_at : Reading ℕ FilterTree
item_at stop bytes =
    if has_tag 163 bytes then made_at equal_with (assertion_at 163) stop bytes else
    if has_tag 164 bytes then made_at substrings_with substrings_at stop bytes else
    if has_tag 165 bytes then made_at at_least_with (assertion_at 165) stop bytes else
    if has_tag 166 bytes then made_at at_most_with (assertion_at 166) stop bytes else
    if has_tag 135 bytes then made_at present (octet_string_at 135) stop bytes else
    if has_tag 168 bytes then made_at approx_with (assertion_at 168) stop bytes else
    made_at extensible (octet_string_at 169) stop bytes

unfoldable pub filter_in : ℕ → Reading ℕ FilterTree
filter_in zero stop bytes = Err (stop - length bytes)
filter_in (suc levels) stop bytes =
    if has_tag 160 bytes then made_at all_with (list_at place_of 160 (filter_in levels)) stop bytes
    else if has_tag 161 bytes
    then made_at any_with (list_at place_of 161 (filter_in levels)) stop bytes
    else if has_tag 162 bytes
    then made_at negated (tagged_at place_of 162 (filter_in levels)) stop bytes
    else item_at stop bytes

-- ---- how they are written

abbrev pub pieces_octets : Parts → List ℕ
pieces_octets pieces =
    element 48
    (string_octets 128 pieces.0
    ++ (flat_map (element 129) pieces.1.0 ++ string_octets 130 pieces.1.1))

abbrev pub substrings_octets : List ℕ × Parts → List ℕ
substrings_octets item = element 164 (element 4 item.0 ++ pieces_octets item.1)

abbrev pub assertion_octets : ℕ → List ℕ × List ℕ → List ℕ
assertion_octets tag item = element tag (element 4 item.0 ++ element 4 item.1)

abbrev mutual
  pub filter_octets : FilterTree → List ℕ
  filter_octets (all_of parts) = element 160 (filters_octets parts)
  filter_octets (any_of parts) = element 161 (filters_octets parts)
  filter_octets (negated part) = element 162 (filter_octets part)
  filter_octets (equal name value) = assertion_octets 163 (name, value)
  filter_octets (substrings name initial middle last) =
      substrings_octets (name, (initial, (middle, last)))
  filter_octets (at_least name value) = assertion_octets 165 (name, value)
  filter_octets (at_most name value) = assertion_octets 166 (name, value)
  filter_octets (present name) = element 135 name
  filter_octets (approx name value) = assertion_octets 168 (name, value)
  filter_octets (extensible body) = element 169 body

  pub filters_octets : Trees → List ℕ
  filters_octets no_trees = []
  filters_octets (more_trees t ts) = filter_octets t ++ filters_octets ts

-- each substring filter has a piece
abbrev mutual
  pub have_piece : FilterTree → Bool
  have_piece (all_of parts) = all_have_piece parts
  have_piece (any_of parts) = all_have_piece parts
  have_piece (negated part) = have_piece part
  have_piece (equal name value) = true
  have_piece (substrings name initial middle last) = has_piece initial middle last
  have_piece (at_least name value) = true
  have_piece (at_most name value) = true
  have_piece (present name) = true
  have_piece (approx name value) = true
  have_piece (extensible body) = true

  pub all_have_piece : Trees → Bool
  all_have_piece no_trees = true
  all_have_piece (more_trees t ts) = have_piece t && all_have_piece ts
