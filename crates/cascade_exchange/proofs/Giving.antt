-- A cookie that is lost or given, of which nothing is printed.
use Rattle.std.proofs.Common.{◌≡◌, ℕ, true, Option, Some, None, List, [], ◌∷◌, ap, sym}
use Rattle.std.specs.Prelude.{Ok, Err, Result}
use Rattle.entry_tree.specs.Selection.{Search}
use Rattle.sync_consumer.specs.Taking.{ConsumerState, wanting}
use Rattle.sync_provider.specs.Machine.{ProviderState}
use Rattle.cascade_script.specs.declared.fault.Cause.{Cause}
use Rattle.cascade_script.specs.declared.fault.Cause.TheVariants.{BadCommand, UnknownNode, NameTaken, BadRecord, LimitReached, OutsideSuffix, LaterCookie, Circle, NoMemory}
use Rattle.cascade_nodes.specs.declared.node.ConsumerNode.{ConsumerNode}
use Rattle.cascade_exchange.specs.Cookies.{is_later}
use Rattle.cascade_exchange.specs.Exchange.{agreement_of, with_text, holding, loses_cookie, sets_cookie, with_spec}
use Rattle.cascade_report.specs.Origins.{Lineage}
use Rattle.cascade_exchange.specs.Parts.{Does, SetsCookie}
use Rattle.cascade_report.specs.Report.{Report}
use Rattle.cascade_report.proofs.Reports.{said-none}
use Rattle.cascade_report.specs.ReportLines.ReportLine.{Holds}

holding_does : (lin : Lineage) (p : ProviderState) (f after : ConsumerNode) (cookie : Option (List ℕ)) (old : Report) → after ≡ with_text f cookie → Does (holding (agreement_of p f lin) cookie) old (agreement_of p after lin) old (Ok tt)
holding_does lin p f after cookie old is = (Holds f.name cookie ∷ [], ap (λ g. Ok (agreement_of p g lin, Holds f.name cookie ∷ [])) (sym is), sym (said-none old))

-- losing the cookie is the part of an event that does so
pub loses_cookie_does : (lin : Lineage) (p : ProviderState) (f after : ConsumerNode) (old : Report) → after ≡ with_text f None → Does (loses_cookie (agreement_of p f lin)) old (agreement_of p after lin) old (Ok tt)
loses_cookie_does lin p f after old is = holding_does lin p f after None old is

-- the text is later than what is held
refuses : (lin : Lineage) (p : ProviderState) (f : ConsumerNode) (text : List ℕ) (cause : Cause) → is_later f.consumer.copy.cookie text ≡ true → cause ≡ LaterCookie f.consumer.copy.cookie text → sets_cookie text (agreement_of p f lin) ≡ Err cause
refuses lin p f text cause later is = rw later (ap Err (sym is))

-- giving a cookie is the part of an event that does so
pub sets_cookie_does : (lin : Lineage) (p : ProviderState) (f after : ConsumerNode) (text : List ℕ) (old : Report) (result : Result (Unit {0}) Cause) → SetsCookie f text after result → Does (sets_cookie text (agreement_of p f lin)) old (agreement_of p after lin) old result
sets_cookie_does lin p f after text old (Ok done) h = rw h.0 (holding_does lin p f after (Some text) old h.1)
sets_cookie_does lin p f after text old (Err BadCommand) h = refuses lin p f text BadCommand h.0 h.1
sets_cookie_does lin p f after text old (Err UnknownNode) h = refuses lin p f text UnknownNode h.0 h.1
sets_cookie_does lin p f after text old (Err NameTaken) h = refuses lin p f text NameTaken h.0 h.1
sets_cookie_does lin p f after text old (Err BadRecord) h = refuses lin p f text BadRecord h.0 h.1
sets_cookie_does lin p f after text old (Err (LimitReached number)) h = refuses lin p f text (LimitReached number) h.0 h.1
sets_cookie_does lin p f after text old (Err OutsideSuffix) h = refuses lin p f text OutsideSuffix h.0 h.1
sets_cookie_does lin p f after text old (Err (LaterCookie held other)) h = refuses lin p f text (LaterCookie held other) h.0 h.1
sets_cookie_does lin p f after text old (Err Circle) h = refuses lin p f text Circle h.0 h.1
sets_cookie_does lin p f after text old (Err NoMemory) h = tt

-- something else is wanted
pub with_spec_does : (lin : Lineage) (p : ProviderState) (f : ConsumerNode) (after : ConsumerState) (search : Search) (old : Report) → after ≡ wanting f.consumer search
    → Does (with_spec search (agreement_of p f lin)) old (agreement_of p (record f { consumer = after }) lin) old (Ok tt)
with_spec_does lin p f after search old is =
    (Holds f.name None ∷ [], ap (λ c. Ok (agreement_of p (record f { consumer = c }) lin, Holds f.name None ∷ [])) (sym is), sym (said-none old))
