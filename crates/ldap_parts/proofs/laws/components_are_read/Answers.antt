use Rattle.ldap_parts.specs.Components.{RangeForm, OptionForm, StringsForm, range_at, option_at, strings_at}
use Rattle.ldap_parts.specs.Attributes.{AttributesForm, attributes_at}
use Rattle.ldap_parts.specs.Controls.{ControlsForm, controls_at}
use Rattle.ldap_parts.specs.Filters.{AssertionForm, FilterIn, assertion_at, filter_in}
use Rattle.ldap_parts.proofs.AgreementLemmas.{agree}
use Rattle.ldap_parts.proofs.ComponentLemmas.{range_exact, option_exact}
use Rattle.ldap_parts.proofs.StringLemmas.{strings_exact}
use Rattle.ldap_parts.proofs.AttributeLemmas.{attributes_exact}
use Rattle.ldap_parts.proofs.ControlLemmas.{controls_exact}
use Rattle.ldap_parts.proofs.FilterLemmas.{assertion_exact, filter_exact}
use Rattle.ldap_parts.proofs.laws.components_are_read.Goals as goal

pub returns-clause-option : goal.returns-clause-option
returns-clause-option c = λ tag. agree (OptionForm tag) (option_at tag) (option_exact tag)

pub returns-clause-range : goal.returns-clause-range
returns-clause-range c = λ least most tag. agree (RangeForm least most tag) (range_at least most tag) (range_exact least most tag)

pub returns-clause-strings : goal.returns-clause-strings
returns-clause-strings c = λ tag. agree (StringsForm tag) (strings_at tag) (strings_exact tag)

pub returns-clause-attributes : goal.returns-clause-attributes
returns-clause-attributes c = agree AttributesForm attributes_at attributes_exact

pub returns-clause-controls : goal.returns-clause-controls
returns-clause-controls c = agree ControlsForm controls_at controls_exact

pub returns-clause-assertion : goal.returns-clause-assertion
returns-clause-assertion c = λ tag. agree (AssertionForm tag) (assertion_at tag) (assertion_exact tag)

pub returns-clause-filter : goal.returns-clause-filter
returns-clause-filter c = λ levels. agree (FilterIn levels) (filter_in levels) (filter_exact levels)
