use Rattle.std.proofs.Common.{ℕ, ◌≤◌, List}
use Rattle.ldap_ber.proofs.CanonicalLemmas.{Always}
use Rattle.schema_rules.specs.declared.raw.RawAttribute.{RawAttribute}
use Rattle.ldap_parts.specs.Components.{RangeForm, StringsForm, number_octets, strings_octets}
use Rattle.ldap_parts.specs.Attributes.{AttributesForm, attributes_octets}
use Rattle.ldap_parts.specs.Filters.{AssertionForm, FilterIn, assertion_octets, filter_octets}
use Rattle.ldap_parts.proofs.AgreementLemmas.{is_a_spelling}
use Rattle.ldap_parts.proofs.ComponentLemmas.{range_spelled, option_spelled}
use Rattle.ldap_parts.proofs.StringLemmas.{strings_spelled}
use Rattle.ldap_parts.proofs.AttributeLemmas.{attributes_spelled}
use Rattle.ldap_parts.proofs.ControlLemmas.{controls_spelled}
use Rattle.ldap_parts.proofs.FilterSpellings.{FitsIn, assertion_spelled, filter_spelled}
use Rattle.ldap_parts.proofs.laws.canonical_spellings.Goals as goal

pub returns-clause-option : goal.returns-clause-option
returns-clause-option c = λ tag option rest low small after. (option_spelled tag low).spells option rest small tt after

pub returns-clause-range : goal.returns-clause-range
returns-clause-range c = λ least most tag number low few least_or_more most_or_less.
    is_a_spelling (RangeForm least most tag) (number_octets tag) (λ value. (least ≤ value) × (value ≤ most)) (range_spelled least most tag low few) number (least_or_more, most_or_less)

pub returns-clause-strings : goal.returns-clause-strings
returns-clause-strings c = λ tag strings low. is_a_spelling (StringsForm tag) (strings_octets tag) (Always {X = List (List ℕ)}) (strings_spelled tag low) strings tt

pub returns-clause-attributes : goal.returns-clause-attributes
returns-clause-attributes c = λ attributes. is_a_spelling AttributesForm attributes_octets (Always {X = List RawAttribute}) attributes_spelled attributes tt

pub returns-clause-controls : goal.returns-clause-controls
returns-clause-controls c = λ controls rest small after. controls_spelled.spells controls rest small tt after

pub returns-clause-assertion : goal.returns-clause-assertion
returns-clause-assertion c = λ tag item low. is_a_spelling (AssertionForm tag) (assertion_octets tag) (λ item. Unit {0} × Unit {0}) (assertion_spelled tag low) item (tt, tt)

pub returns-clause-filter : goal.returns-clause-filter
returns-clause-filter c = λ levels filter deep some. is_a_spelling (FilterIn levels) filter_octets (FitsIn levels) (filter_spelled levels) filter (deep, some)
