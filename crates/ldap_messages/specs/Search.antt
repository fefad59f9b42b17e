-- Search, its entries and its references (RFC 4511, section 4.5).
use Rattle.std.specs.Prelude.{ℕ, List, ◌++◌, Bool}
use Rattle.ldap_ber.specs.Form.{Form, OctetString, Boolean, Both, Sequence}
use Rattle.ldap_ber.specs.Reading.{Reading, both_at, sequence_at}
use Rattle.ldap_ber.specs.Canonical.{element, boolean_octets}
use Rattle.schema_rules.specs.declared.raw.RawAttribute.{RawAttribute}
use Rattle.ldap_filter.specs.FilterTree.{FilterTree}
use Rattle.ldap_parts.specs.Faults.{place_of}
use Rattle.ldap_parts.specs.Components.{RangeForm, StringsForm, octet_string_at, boolean_value_at, range_at, strings_at, number_octets, strings_octets}
use Rattle.ldap_parts.specs.Attributes.{AttributesForm, attributes_at, attributes_octets}
use Rattle.ldap_parts.specs.Filters.{FilterIn, filter_in, filter_octets}
use Rattle.ldap_messages.specs.declared.search.SearchScope.{SearchScope}
use Rattle.ldap_messages.specs.Uris.{UrisForm, uris_at, uris_octets}
use Rattle.ldap_messages.specs.declared.search.SearchScope.TheVariants.{Base, One, Sub}

abbrev pub scope_number : SearchScope → ℕ
scope_number Base = 0
scope_number One = 1
scope_number Sub = 2

-- how far a search reaches: the base, the scope's number, how aliases are followed, the limits, and
-- whether types alone are asked for
abbrev pub SearchBounds : Type 0
SearchBounds = List ℕ × (ℕ × (ℕ × (ℕ × (ℕ × Bool))))

-- the reach, the filter and the attributes
abbrev pub SearchParts : Type 0
SearchParts = SearchBounds × (FilterTree × List (List ℕ))

abbrev pub SearchBoundsForm : Form SearchBounds
SearchBoundsForm =
    Both (OctetString 4)
    (Both (RangeForm 0 2 10)
    (Both (RangeForm 0 3 10)
    (Both (RangeForm 0 2147483647 2) (Both (RangeForm 0 2147483647 2) (Boolean 1)))))

abbrev pub SearchForm : Form SearchParts
SearchForm = Sequence 99 (Both SearchBoundsForm (Both (FilterIn 32) (StringsForm 48)))

abbrev pub EntryForm : Form (List ℕ × List RawAttribute)
EntryForm = Sequence 100 (Both (OctetString 4) AttributesForm)

abbrev pub ReferenceForm : Form (List (List ℕ))
ReferenceForm = UrisForm 115

abbrev pub scope_at : Reading ℕ ℕ
scope_at = range_at 0 2 10

unfoldable pub search_bounds_at : Reading ℕ SearchBounds
search_bounds_at stop bytes =
    both_at (octet_string_at 4)
    (both_at scope_at
    (both_at (range_at 0 3 10)
    (both_at (range_at 0 2147483647 2) (both_at (range_at 0 2147483647 2) boolean_value_at)))) stop
    bytes

unfoldable pub search_at : Reading ℕ SearchParts
search_at stop bytes =
    sequence_at place_of 99
    (both_at search_bounds_at (both_at (filter_in 32) (strings_at 48))) stop bytes

unfoldable pub entry_at : Reading ℕ (List ℕ × List RawAttribute)
entry_at stop bytes =
    sequence_at place_of 100 (both_at (octet_string_at 4) attributes_at) stop bytes

abbrev pub reference_at : Reading ℕ (List (List ℕ))
reference_at = uris_at 115

unfoldable pub search_bounds_octets : SearchBounds → List ℕ
search_bounds_octets search_bounds =
    element 4 search_bounds.0
    ++ (number_octets 10 search_bounds.1.0
    ++ (number_octets 10 search_bounds.1.1.0
    ++ (number_octets 2 search_bounds.1.1.1.0
    ++ (number_octets 2 search_bounds.1.1.1.1.0
    ++ element 1 (boolean_octets search_bounds.1.1.1.1.1)))))

abbrev pub search_octets : SearchParts → List ℕ
search_octets parts =
    element 99 (search_bounds_octets parts.0 ++
    (filter_octets parts.1.0 ++ strings_octets 48 parts.1.1))

abbrev pub entry_octets : List ℕ × List RawAttribute → List ℕ
entry_octets parts = element 100 (element 4 parts.0 ++ attributes_octets parts.1)

abbrev pub reference_octets : List (List ℕ) → List ℕ
reference_octets uris = uris_octets 115 uris
