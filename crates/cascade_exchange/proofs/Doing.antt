-- What parts of an event do, one after another.
use Rattle.std.proofs.Common.{◌≡◌, [], ◌∷◌, ◌++◌, ap, sym, subst, ◌∙◌}
use Rattle.std.specs.Prelude.{Ok, Err, Result}
use Rattle.cascade_script.specs.declared.fault.Cause.{Cause}
use Rattle.cascade_script.specs.declared.fault.Cause.TheVariants.{BadCommand, UnknownNode, NameTaken, BadRecord, LimitReached, OutsideSuffix, LaterCookie, Circle, NoMemory}
use Rattle.sync_provider.specs.Machine.{ProviderState}
use Rattle.cascade_nodes.specs.declared.node.ConsumerNode.{ConsumerNode}
use Rattle.cascade_exchange.specs.Exchange.{Agreement, ExchangeOutcome, agreement_of, after_lines, and_then}
use Rattle.cascade_report.specs.Report.{Report, said}
use Rattle.cascade_report.specs.Origins.{Lineage}
use Rattle.cascade_exchange.specs.Parts.{Does}
use Rattle.cascade_report.specs.ReportLines.{ReportLine}
use Rattle.cascade_report.proofs.Reports.{said-none, said-append}

-- no line, or one
pub reported_none : (outcome : ExchangeOutcome) (old new : Report) (after : Agreement) → outcome ≡ Ok (after, []) → new ≡ old → Does outcome old after new (Ok tt)
reported_none outcome old new after is e = ([], is, e ∙ sym (said-none old))

-- a part with one line is done where that line was put at the end
pub reported_one : (outcome : ExchangeOutcome) (old new : Report) (after : Agreement) (line : ReportLine) → outcome ≡ Ok (after, line ∷ []) → new ≡ said old (line ∷ []) → Does outcome old after new (Ok tt)
reported_one outcome old new after line is e = (line ∷ [], is, e)

-- two parts
pub does_then : (first : ExchangeOutcome) (next : Agreement → ExchangeOutcome) (old mid new : Report) (between after : Agreement) → Does first old between mid (Ok tt) → Does (next between) mid after new (Ok tt)
    → Does (and_then first next) old after new (Ok tt)
does_then first next old mid new between after one two =
    let whole : and_then first next ≡ Ok (after, one.0 ++ two.0) = ap (λ o. and_then o next) one.1 ∙ ap (after_lines one.0) two.1 in (
      one.0 ++ two.0,
      whole,
      two.2 ∙ ap (λ t. said t two.0) one.2 ∙ said-append old one.0 two.0,
    )

-- a refusal of the first
pub refused_first : (first : ExchangeOutcome) (next : Agreement → ExchangeOutcome) (old text new : Report) (p after : Agreement) (cause : Cause) → Does first old p text (Err cause) → Does (and_then first next) old after new (Err cause)
refused_first first next old text new p after BadCommand h = ap (λ o. and_then o next) h
refused_first first next old text new p after UnknownNode h = ap (λ o. and_then o next) h
refused_first first next old text new p after NameTaken h = ap (λ o. and_then o next) h
refused_first first next old text new p after BadRecord h = ap (λ o. and_then o next) h
refused_first first next old text new p after (LimitReached number) h = ap (λ o. and_then o next) h
refused_first first next old text new p after OutsideSuffix h = ap (λ o. and_then o next) h
refused_first first next old text new p after (LaterCookie held given) h = ap (λ o. and_then o next) h
refused_first first next old text new p after Circle h = ap (λ o. and_then o next) h
refused_first first next old text new p after NoMemory h = tt

-- of the second, after the first was done
pub refused_second : (first : ExchangeOutcome) (next : Agreement → ExchangeOutcome) (old mid text new : Report) (between p after : Agreement) (cause : Cause) → Does first old between mid (Ok tt) → Does (next between) mid p text (Err cause)
    → Does (and_then first next) old after new (Err cause)
refused_second first next old mid text new between p after BadCommand one h = ap (λ o. and_then o next) one.1 ∙ ap (after_lines one.0) h
refused_second first next old mid text new between p after UnknownNode one h = ap (λ o. and_then o next) one.1 ∙ ap (after_lines one.0) h
refused_second first next old mid text new between p after NameTaken one h = ap (λ o. and_then o next) one.1 ∙ ap (after_lines one.0) h
refused_second first next old mid text new between p after BadRecord one h = ap (λ o. and_then o next) one.1 ∙ ap (after_lines one.0) h
refused_second first next old mid text new between p after (LimitReached number) one h = ap (λ o. and_then o next) one.1 ∙ ap (after_lines one.0) h
refused_second first next old mid text new between p after OutsideSuffix one h = ap (λ o. and_then o next) one.1 ∙ ap (after_lines one.0) h
refused_second first next old mid text new between p after (LaterCookie held given) one h = ap (λ o. and_then o next) one.1 ∙ ap (after_lines one.0) h
refused_second first next old mid text new between p after Circle one h = ap (λ o. and_then o next) one.1 ∙ ap (after_lines one.0) h
refused_second first next old mid text new between p after NoMemory one h = tt

-- by what came of the second
pub then_as : (first : ExchangeOutcome) (next : Agreement → ExchangeOutcome) (old mid new : Report) (between after : Agreement) (result : Result (Unit {0}) Cause) → Does first old between mid (Ok tt) → Does (next between) mid after new result
    → Does (and_then first next) old after new result
then_as first next old mid new between after (Ok done) one two = does_then first next old mid new between after one two
then_as first next old mid new between after (Err cause) one two = refused_second first next old mid new new between after after cause one two

-- ---- the lineage, which no line changes

-- a part that is done leaves the lineage
pub lineage_stays : (outcome : ExchangeOutcome) (old new : Report) (after : Agreement) → Does outcome old after new (Ok tt) → new.lineage ≡ old.lineage
lineage_stays outcome old new after does = ap (λ (t : Report). t.lineage) does.2

-- what a part does under one lineage, seen under the same one
pub does_at : (part : Agreement → ExchangeOutcome) (old new : Report) (p p' : ProviderState) (f f' : ConsumerNode) (one other : Lineage) (result : Result (Unit {0}) Cause) → one ≡ other
    → Does (part (agreement_of p f one)) old (agreement_of p' f' one) new result → Does (part (agreement_of p f other)) old (agreement_of p' f' other) new result
does_at part old new p p' f f' one other result same does = subst (λ lin. Does (part (agreement_of p f lin)) old (agreement_of p' f' lin) new result) same does

-- a part with a provider and its consumer node, after another one
pub then_at : (first : ExchangeOutcome) (next : Agreement → ExchangeOutcome) (old mid new : Report) (p1 p2 : ProviderState) (f1 f2 : ConsumerNode) (result : Result (Unit {0}) Cause)
    → Does first old (agreement_of p1 f1 old.lineage) mid (Ok tt) → Does (next (agreement_of p1 f1 mid.lineage)) mid (agreement_of p2 f2 mid.lineage) new result
    → Does (and_then first next) old (agreement_of p2 f2 old.lineage) new result
then_at first next old mid new p1 p2 f1 f2 result one two =
    then_as first next old mid new (agreement_of p1 f1 old.lineage) (agreement_of p2 f2 old.lineage) result one
    (does_at next mid new p1 p2 f1 f2 mid.lineage old.lineage result (lineage_stays first old mid (agreement_of p1 f1 old.lineage) one) two)
