-- What the equality asks for was found before.
use Rattle.std.proofs.Common.{◌≡◌, Option, subst}
use Rattle.std.specs.Prelude.{IfOk}
use Rattle.ldap_filter.specs.declared.matching.AskedKey.{AskedKey}
use Rattle.ldap_filter.specs.Truth.{equality}
use Rattle.ldap_filter.proofs.truth.equality_on.Goals as goal

pub returns : goal.returns
returns c =
    subst (λ (asked : Option AskedKey). IfOk c.asked_on.result (λ truth. truth ≡ equality c.args.attributes.now asked))
    c.args.equality.now.found c.asked_on.ensures
