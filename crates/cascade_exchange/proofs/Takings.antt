-- Messages that are taken up to a fault, for which a search is to be given up yet.
use Rattle.std.proofs.Common.{◌≡◌, ◌<◌, ◌≤◌, ◌-◌, ℕ, zero, suc, Bool, true, false, Option, Some, None, List, [], ◌∷◌, ◌++◌, refl, ap, sym, subst, ◌∙◌, arith}
use Rattle.std.specs.Prelude.{Ok, Err}
use Rattle.ldap_messages.specs.Whole.{MessageValue}
use Rattle.sync_provider.specs.Machine.{ProviderState}
use Rattle.cascade_nodes.specs.declared.node.ConsumerNode.{ConsumerNode}
use Rattle.cascade_script.specs.declared.fault.Cause.{Cause}
use Rattle.cascade_script.specs.declared.fault.Cause.TheVariants.{NoMemory}
use Rattle.cascade_exchange.specs.Exchange.{Agreement, ExchangeOutcome, agreement_of, after_lines, closed, copy_of, emptied, given_up, taking, takes}
use Rattle.cascade_exchange.specs.Going.{GoesOn}
use Rattle.cascade_exchange.specs.Reception.{decoded, received_next}
use Rattle.cascade_exchange.specs.Parts.{Does, TakesOne, left_by, IsReceivedSoFar, TakesNext, TakesStep}
use Rattle.cascade_report.specs.Origins.{Lineage}
use Rattle.cascade_report.specs.Report.{Report, said}
use Rattle.cascade_report.specs.ReportLines.{ReportLine}
use Rattle.cascade_report.specs.ReportLines.ReportLine.{Nothing}
use Rattle.cascade_report.proofs.Reports.{said-append}
use Rattle.cascade_exchange.proofs.Loops.{took_one, took_none, took_all}
use Rattle.cascade_exchange.proofs.Reception.{takes_one}

-- ---- out of memory

-- it says nothing of what is done
pub starves : (outcome : ExchangeOutcome) (after : Agreement) (old new : Report) (cause : Cause) → cause ≡ NoMemory → Does outcome old after new (Err cause)
starves outcome after old new cause is = subst (λ c. Does outcome old after new (Err c)) (sym is) tt

-- out of memory a taking may end as it does
pub one_starves : (p after : Agreement) (found : Option (Agreement × ReportLine)) (old new : Report) (cause : Cause) → cause ≡ NoMemory → TakesOne p found old after new (Err cause)
one_starves p after found old new cause is = subst (λ c. TakesOne p found old after new (Err c)) (sym is) tt

-- ---- one message

-- the link held none
pub next_none : (p after : Agreement) (found : Option (Agreement × ReportLine)) (old new : Report) (answer : Option Bool) → answer ≡ None → TakesNext p found old after new (Ok answer) → TakesOne p found old after new (Ok false)
next_none p after found old new answer is next = subst (λ x. TakesNext p found old after new (Ok x)) is next

-- it held one, after which the search goes on or does not
pub next_some : (p after : Agreement) (found : Option (Agreement × ReportLine)) (old new : Report) (answer : Option Bool) (goes_on so : Bool) → answer ≡ Some goes_on → goes_on ≡ so → TakesNext p found old after new (Ok answer)
    → TakesOne p found old (left_by so after) new (Ok true)
next_some p after found old new answer goes_on so is same next =
    let found' : answer ≡ Some so = is ∙ ap Some same in
    subst (λ x. TakesNext p found old after new (Ok x)) found' next

-- the first message of the link is decoded and taken
pub takes_so_far : (lin : Lineage) (p : ProviderState) (f f1 : ConsumerNode) (bytes : List ℕ) (rest : List (List ℕ)) (found : Option MessageValue) (old new : Report) (goes_on : Bool) → f.link ≡ bytes ∷ rest → found ≡ decoded bytes
    → IsReceivedSoFar (agreement_of p (record f { link = rest }) lin) (received_next f.consumer.copy found) old (agreement_of p f1 lin) new (Ok goes_on)
    → TakesNext (agreement_of p f lin) (taking (agreement_of p f lin)) old (agreement_of p f1 lin) new (Ok (Some goes_on))
takes_so_far lin p f f1 bytes rest found old new true first is h = takes_one lin p p f f1 bytes rest found old new first is h
takes_so_far lin p f f1 bytes rest found old new false first is h = takes_one lin p (closed p f1.search) f (emptied f1 (copy_of f1)) bytes rest found old new first is h

-- ---- one after another

-- where a part is done that goes on to the whole, the whole is done
pub goes_through : (whole left : ExchangeOutcome) (after : Agreement) (old mid new : Report) → GoesOn whole left old mid → Does left mid after new (Ok tt) → Does whole old after new (Ok tt)
goes_through whole left after old mid new so does = (
  so.0 ++ does.0,
  so.1 ∙ ap (after_lines so.0) does.1,
  does.2 ∙ ap (λ t. said t does.0) so.2 ∙ said-append old so.0 does.0,
)

-- a fault leaves nothing to take
pub took_fault : (whole : ExchangeOutcome) (n : ℕ) (p after : Agreement) (old mid text new : Report) → 0 < n → GoesOn whole (takes n p) old mid → TakesOne p (taking p) mid (left_by false after) text (Ok true)
    → (1 < n → new ≡ said text (Nothing after.consumer_node.name ∷ [])) → (n ≤ 1 → new ≡ text) → Does whole old (left_by false after) new (Ok tt)
took_fault whole zero p after old mid text new some so one more last = absurd (omega arith)
took_fault whole (suc zero) p after old mid text new some so one more last =
    let up = given_up after (copy_of after.consumer_node) in
    let left : GoesOn whole (takes (suc zero - 1) up) old text = took_one whole (suc zero) p up old mid text true some so one refl in
    subst (λ t. Does whole old up t (Ok tt)) (sym (last (omega arith))) (took_all whole (suc zero - 1) up old text (omega arith) left)
took_fault whole (suc (suc count)) p after old mid text new some so one more last =
    let up = given_up after (copy_of after.consumer_node) in
    let left : GoesOn whole (takes (suc (suc count) - 1) up) old text = took_one whole (suc (suc count)) p up old mid text true some so one refl in
    took_none whole (suc (suc count) - 1) up up old text text new false (omega arith) left (refl, refl, refl) refl (more (omega arith))

-- a step that ends the taking
pub step_ends : (whole : ExchangeOutcome) (n : ℕ) (p : ProviderState) (f f1 : ConsumerNode) (one other : Lineage) (old mid new : Report) (answer : Option Bool) (goes_on : Bool) → one ≡ other → GoesOn whole (takes n (agreement_of p f other)) old mid
    → TakesStep n (agreement_of p f one) mid (agreement_of p f1 one) new (Ok answer) → answer ≡ Some goes_on → Does whole old (left_by goes_on (agreement_of p f1 other)) new (Ok tt)
step_ends whole n p f f1 one other old mid new answer goes_on same so step is =
    let found : TakesStep n (agreement_of p f one) mid (agreement_of p f1 one) new (Ok (Some goes_on)) = subst (λ x. TakesStep n (agreement_of p f one) mid (agreement_of p f1 one) new (Ok x)) is step in
    let here : Does (takes n (agreement_of p f other)) mid (left_by goes_on (agreement_of p f1 other)) new (Ok tt) = subst (λ lin. Does (takes n (agreement_of p f lin)) mid (left_by goes_on (agreement_of p f1 lin)) new (Ok tt)) same found in
    goes_through whole (takes n (agreement_of p f other)) (left_by goes_on (agreement_of p f1 other)) old mid new so here

-- and one after which it goes on
pub step_goes : (whole : ExchangeOutcome) (n : ℕ) (p : ProviderState) (f f1 : ConsumerNode) (one other : Lineage) (old mid new : Report) (answer : Option Bool) → one ≡ other → 0 < n → GoesOn whole (takes n (agreement_of p f other)) old mid
    → TakesStep n (agreement_of p f one) mid (agreement_of p f1 one) new (Ok answer) → answer ≡ None → GoesOn whole (takes (n - 1) (agreement_of p f1 other)) old new
step_goes whole n p f f1 one other old mid new answer same some so step is =
    let found : TakesOne (agreement_of p f one) (taking (agreement_of p f one)) mid (agreement_of p f1 one) new (Ok true) = subst (λ x. TakesStep n (agreement_of p f one) mid (agreement_of p f1 one) new (Ok x)) is step in
    let here : TakesOne (agreement_of p f other) (taking (agreement_of p f other)) mid (agreement_of p f1 other) new (Ok true) = subst (λ lin. TakesOne (agreement_of p f lin) (taking (agreement_of p f lin)) mid (agreement_of p f1 lin) new (Ok true)) same found in
    took_one whole n (agreement_of p f other) (agreement_of p f1 other) old mid new true some so here refl

-- whether the search goes on, as it was found
pub left_so : (whole : ExchangeOutcome) (after : Agreement) (old new : Report) (goes_on so : Bool) → goes_on ≡ so → Does whole old (left_by goes_on after) new (Ok tt) → Does whole old (left_by so after) new (Ok tt)
left_so whole after old new goes_on so is does = subst (λ b. Does whole old (left_by b after) new (Ok tt)) is does
