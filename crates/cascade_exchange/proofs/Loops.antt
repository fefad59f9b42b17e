-- Messages that are sent or taken one after another.
use Rattle.std.proofs.Common.{◌≡◌, ◌+◌, ◌-◌, ◌<◌, ◌≤◌, ℕ, zero, suc, Bool, true, false, Some, None, List, [], ◌∷◌, ◌++◌, length, refl, ap, sym, subst, ◌∙◌, arith, append-nil, append_assoc}
use Rattle.std.specs.Prelude.{Ok, Err, Result}
use Rattle.sync_provider.specs.Machine.{ProviderState}
use Rattle.cascade_nodes.specs.declared.node.ConsumerNode.{ConsumerNode}
use Rattle.cascade_nodes.specs.Link.{most_link}
use Rattle.cascade_script.specs.declared.fault.Cause.{Cause}
use Rattle.cascade_script.specs.declared.fault.Cause.TheVariants.{BadCommand, UnknownNode, NameTaken, BadRecord, LimitReached, OutsideSuffix, LaterCookie, Circle, NoMemory}
use Rattle.cascade_exchange.specs.Exchange.{Agreement, ExchangeOutcome, agreement_of, after_lines, name_of, copy_of, sending, sent_before, sent, taken_as, taken_from, taking, taken_before, taken_some, takes, drains}
use Rattle.cascade_exchange.specs.Exchange.Sending.{Sends, Overflows}
use Rattle.cascade_exchange.specs.Going.{GoesOn, Drains}
use Rattle.cascade_exchange.specs.Reception.{Came, received}
use Rattle.cascade_exchange.specs.Reception.{Came as came}
use Rattle.cascade_report.specs.Report.{Report, said}
use Rattle.cascade_report.specs.Origins.{Lineage}
use Rattle.cascade_exchange.specs.Parts.{Does, SendsOne, TakesOne}
use Rattle.cascade_report.specs.ReportLines.{ReportLine}
use Rattle.cascade_report.proofs.Reports.{said-none, said-append}
use Rattle.cascade_report.specs.ReportLines.ReportLine.{Sent, Nothing}
use Rattle.cascade_exchange.proofs.Exchanging.{KeepsTaking, taking_keeps}

-- ---- what goes on

-- before the first step all is left to do
pub begins : (whole : ExchangeOutcome) (text : Report) → GoesOn whole whole text text
begins (Ok next) text = ([], refl, sym (said-none text))
begins (Err cause) text = ([], refl, sym (said-none text))

-- no line changes the lineage
pub went : (whole left : ExchangeOutcome) (old new : Report) → GoesOn whole left old new → new.lineage ≡ old.lineage
went whole left old new so = ap (λ (t : Report). t.lineage) so.2

-- a taking or a sending under one lineage, seen under the same one
pub takes_at : (p p1 : ProviderState) (f f1 : ConsumerNode) (one other : Lineage) (old new : Report) (result : Result Bool Cause) → one ≡ other
    → TakesOne (agreement_of p f one) (taking (agreement_of p f one)) old (agreement_of p1 f1 one) new result → TakesOne (agreement_of p f other) (taking (agreement_of p f other)) old (agreement_of p1 f1 other) new result
takes_at p p1 f f1 one other old new result same does =
    subst (λ lin. TakesOne (agreement_of p f lin) (taking (agreement_of p f lin)) old (agreement_of p1 f1 lin) new result) same does

-- the sending of a message does not depend on the lineage
pub sends_at : (p p1 : ProviderState) (f f1 : ConsumerNode) (one other : Lineage) (old new : Report) (result : Result Bool Cause) → one ≡ other
    → SendsOne (agreement_of p f one) (sending (agreement_of p f one)) old (agreement_of p1 f1 one) new result → SendsOne (agreement_of p f other) (sending (agreement_of p f other)) old (agreement_of p1 f1 other) new result
sends_at p p1 f f1 one other old new result same does =
    subst (λ lin. SendsOne (agreement_of p f lin) (sending (agreement_of p f lin)) old (agreement_of p1 f1 lin) new result) same does

lines_after : (lines more : List ReportLine) (outcome : ExchangeOutcome) → after_lines lines (after_lines more outcome) ≡ after_lines (lines ++ more) outcome
lines_after lines more (Ok next) = ap (λ l. Ok (next.0, l)) (sym (append_assoc lines more next.1))
lines_after lines more (Err cause) = refl

-- one line more
pub goes_on : (whole left next : ExchangeOutcome) (old mid new : Report) (line : ReportLine) → GoesOn whole left old mid → left ≡ after_lines (line ∷ []) next → new ≡ said mid (line ∷ []) → GoesOn whole next old new
goes_on whole left next old mid new line so step' text = (
  so.0 ++ line ∷ [],
  so.1 ∙ ap (after_lines so.0) step' ∙ lines_after so.0 (line ∷ []) next,
  text ∙ ap (λ t. said t (line ∷ [])) so.2 ∙ said-append old so.0 (line ∷ []),
)

-- nothing is left
pub done : (whole : ExchangeOutcome) (after : Agreement) (old new : Report) → GoesOn whole (Ok (after, [])) old new → Does whole old after new (Ok tt)
done whole after old new so = (so.0, so.1 ∙ ap (λ l. Ok (after, l)) (append-nil so.0), so.2)

-- one line is left
last_line : (whole : ExchangeOutcome) (after : Agreement) (old mid new : Report) (line : ReportLine) → GoesOn whole (Ok (after, line ∷ [])) old mid → new ≡ said mid (line ∷ []) → Does whole old after new (Ok tt)
last_line whole after old mid new line so text = done whole after old new (goes_on whole (Ok (after, line ∷ [])) (Ok (after, [])) old mid new line so refl text)

-- ---- taking

takes_more : (count : ℕ) (p after : Agreement) (line : ReportLine) → taking p ≡ Some (after, line) → takes (suc count) p ≡ after_lines (line ∷ []) (takes count after)
takes_more count p after line e =
    let kept = subst (KeepsTaking p) e (taking_keeps p) in
    ap (λ x. Ok (taken_before (λ q. taken_some count (Nothing (name_of p) ∷ []) q) p (Nothing (name_of p) ∷ []) x)) e
    ∙ ap (λ n. after_lines (line ∷ []) (Ok (taken_some count (Nothing n ∷ []) after))) (sym kept.name)

takes_none : (count : ℕ) (p : Agreement) → taking p ≡ None → takes (suc count) p ≡ Ok (p, Nothing (name_of p) ∷ [])
takes_none count p e = ap (λ x. Ok (taken_before (λ q. taken_some count (Nothing (name_of p) ∷ []) q) p (Nothing (name_of p) ∷ []) x)) e

-- after one more message fewer are left to take
pub took_one : (whole : ExchangeOutcome) (n : ℕ) (p after : Agreement) (old mid new : Report) (got : Bool) → 0 < n → GoesOn whole (takes n p) old mid → TakesOne p (taking p) mid after new (Ok got) → got ≡ true
    → GoesOn whole (takes (n - 1) after) old new
took_one whole zero p after old mid new got some so one is = absurd (omega arith)
took_one whole (suc count) p after old mid new got some so one is =
    let one' : TakesOne p (taking p) mid after new (Ok true) = subst (λ b. TakesOne p (taking p) mid after new (Ok b)) is one in
    subst (λ k. GoesOn whole (takes k after) old new) (let e : count ≡ suc count - 1 = omega arith in e)
    (goes_on whole (takes (suc count) p) (takes count after) old mid new one'.0 so (takes_more count p after one'.0 one'.1) one'.2)

-- where the link is empty the taking is done
pub took_none : (whole : ExchangeOutcome) (n : ℕ) (p after : Agreement) (old mid text new : Report) (got : Bool) → 0 < n → GoesOn whole (takes n p) old mid → TakesOne p (taking p) mid after text (Ok got) → got ≡ false
    → new ≡ said text (Nothing after.consumer_node.name ∷ []) → Does whole old after new (Ok tt)
took_none whole zero p after old mid text new got some so one is line = absurd (omega arith)
took_none whole (suc count) p after old mid text new got some so one is line =
    let none : TakesOne p (taking p) mid after text (Ok false) = subst (λ b. TakesOne p (taking p) mid after text (Ok b)) is one in
    let left : GoesOn whole (Ok (p, Nothing (name_of p) ∷ [])) old mid = subst (λ o. GoesOn whole o old mid) (takes_none count p none.0) so in
    let line' : new ≡ said mid (Nothing p.consumer_node.name ∷ []) = line ∙ ap (λ (q : Agreement). said text (Nothing q.consumer_node.name ∷ [])) none.1 ∙ ap (λ t. said t (Nothing p.consumer_node.name ∷ [])) none.2 in
    subst (λ q. Does whole old q new (Ok tt)) (sym none.1) (last_line whole p old mid new (Nothing (name_of p)) left line')

-- after the last message the taking is done
pub took_all : (whole : ExchangeOutcome) (n : ℕ) (p : Agreement) (old new : Report) → n ≤ 0 → GoesOn whole (takes n p) old new → Does whole old p new (Ok tt)
took_all whole zero p old new none so = done whole p old new so
took_all whole (suc count) p old new none so = absurd (omega (arith, none))

-- ---- all that the link holds

drained_one : (most : ℕ) (p after : Agreement) (line : ReportLine) → taking p ≡ Some (after, line) → taken_some (suc most) [] p ≡ ((taken_some most [] after).0, line ∷ (taken_some most [] after).1)
drained_one most p after line e = ap (λ x. taken_before (λ q. taken_some most [] q) p [] x) e

-- nothing is taken where the link holds nothing
pub drained_none : (most : ℕ) (p : Agreement) → taking p ≡ None → taken_some most [] p ≡ (p, [])
drained_none zero p e = refl
drained_none (suc most) p e = ap (λ x. taken_before (λ q. taken_some most [] q) p [] x) e

-- a taking leaves less in the link
less_as : (p : Agreement) (rest : List (List ℕ)) (message : List ℕ) (found : Came) (n : ℕ) → n ≡ length rest + 1 → length (taken_as p rest (received (copy_of p.consumer_node) message).0 found).0.consumer_node.link < n
less_as p rest message came.Staged n e = omega (arith, e)
less_as p rest message (came.Stored commit) n e = omega (arith, e)
less_as p rest message came.Copied n e = omega (arith, e)
less_as p rest message (came.Over code) n e = omega (arith, e)
less_as p rest message (came.Refused fault) n e = omega (arith, e)

less_from : (p after : Agreement) (line : ReportLine) (link : List (List ℕ)) → taken_from p link ≡ Some (after, line) → length after.consumer_node.link < length link
less_from p after line [] e = cc
less_from p after line (message ∷ rest) e =
    let same : (taken_as p rest (received (copy_of p.consumer_node) message).0 (received (copy_of p.consumer_node) message).1) ≡ (after, line) = cc in
    subst (λ (q : Agreement × ReportLine). length q.0.consumer_node.link < length (message ∷ rest)) same (less_as p rest message (received (copy_of p.consumer_node) message).1 (length (message ∷ rest)) (omega arith))

takes_less : (p after : Agreement) (old new : Report) → TakesOne p (taking p) old after new (Ok true) → length after.consumer_node.link < length p.consumer_node.link
takes_less p after old new one = less_from p after one.0 p.consumer_node.link one.1

-- a taken message leaves fewer in the link
pub takes_from_link : (p after : Agreement) (old new : Report) (got : Bool) → TakesOne p (taking p) old after new (Ok got) → got ≡ true → length after.consumer_node.link < length p.consumer_node.link
takes_from_link p after old new got one is = takes_less p after old new (subst (λ b. TakesOne p (taking p) old after new (Ok b)) is one)

-- before the first message all of the link is left
pub drains_begin : (p : Agreement) (text : Report) → Drains (drains p) p text text
drains_begin p text = (length p.consumer_node.link, omega arith, begins (drains p) text)

-- no line changes the lineage
pub drains_went : (whole : ExchangeOutcome) (p : Agreement) (old new : Report) → Drains whole p old new → new.lineage ≡ old.lineage
drains_went whole p old new d = went whole (Ok (taken_some d.0 [] p)) old new d.2

drains_more : (whole : ExchangeOutcome) (p after : Agreement) (old mid new : Report) → Drains whole p old mid → TakesOne p (taking p) mid after new (Ok true) → Drains whole after old new
drains_more whole p after old mid new (zero, few, so) one = absurd (omega (arith, few, takes_less p after mid new one))
drains_more whole p after old mid new (suc most, few, so) one = (
  most,
  omega (arith, few, takes_less p after mid new one),
  goes_on whole (Ok (taken_some (suc most) [] p)) (Ok (taken_some most [] after)) old mid new one.0 so (ap Ok (drained_one most p after one.0 one.1)) one.2,
)

-- after one more message less of the link is left
pub drains_on : (whole : ExchangeOutcome) (p after : Agreement) (old mid new : Report) (got : Bool) → Drains whole p old mid → TakesOne p (taking p) mid after new (Ok got) → got ≡ true → Drains whole after old new
drains_on whole p after old mid new got d one is = drains_more whole p after old mid new d (subst (λ b. TakesOne p (taking p) mid after new (Ok b)) is one)

-- where the link is empty it is drained
pub drains_end : (whole : ExchangeOutcome) (p after : Agreement) (old mid new : Report) (got : Bool) → Drains whole p old mid → TakesOne p (taking p) mid after new (Ok got) → got ≡ false → Does whole old after new (Ok tt)
drains_end whole p after old mid new got d one is =
    let none : TakesOne p (taking p) mid after new (Ok false) = subst (λ b. TakesOne p (taking p) mid after new (Ok b)) is one in
    let left : GoesOn whole (Ok (p, [])) old mid = subst (λ x. GoesOn whole (Ok x) old mid) (drained_none d.0 p none.0) d.2 in
    subst (λ q. Does whole old q new (Ok tt)) (sym none.1) (subst (λ t. Does whole old p t (Ok tt)) (sym none.2) (done whole p old mid left))

-- ---- sending

sends_more : (count : ℕ) (p after : Agreement) (message : List ℕ) → sending p ≡ Sends after message → sent (suc count) p ≡ after_lines (Sent (name_of p) message ∷ []) (sent count after)
sends_more count p after message e = ap (sent_before (λ q. sent count q) p) e

-- after one more message fewer are left to send
pub sent_one : (whole : ExchangeOutcome) (n : ℕ) (p after : Agreement) (old mid new : Report) → 0 < n → GoesOn whole (sent n p) old mid → SendsOne p (sending p) mid after new (Ok true) → GoesOn whole (sent (n - 1) after) old new
sent_one whole zero p after old mid new some so one = absurd (omega arith)
sent_one whole (suc count) p after old mid new some so one =
    subst (λ k. GoesOn whole (sent k after) old new) (let e : count ≡ suc count - 1 = omega arith in e)
    (goes_on whole (sent (suc count) p) (sent count after) old mid new (Sent (name_of p) one.0) so (sends_more count p after one.0 one.1) one.2)

-- where nothing is pending the sending is done
pub sent_none : (whole : ExchangeOutcome) (n : ℕ) (p after : Agreement) (old mid text new : Report) → 0 < n → GoesOn whole (sent n p) old mid → SendsOne p (sending p) mid after text (Ok false) → new ≡ said text (Nothing after.consumer_node.name ∷ [])
    → Does whole old after new (Ok tt)
sent_none whole zero p after old mid text new some so none line = absurd (omega arith)
sent_none whole (suc count) p after old mid text new some so none line =
    let left : GoesOn whole (Ok (p, Nothing (name_of p) ∷ [])) old mid = subst (λ o. GoesOn whole o old mid) (ap (sent_before (λ q. sent count q) p) none.0) so in
    let line' : new ≡ said mid (Nothing p.consumer_node.name ∷ []) = line ∙ ap (λ (q : Agreement). said text (Nothing q.consumer_node.name ∷ [])) none.1 ∙ ap (λ t. said t (Nothing p.consumer_node.name ∷ [])) none.2 in
    subst (λ q. Does whole old q new (Ok tt)) (sym none.1) (last_line whole p old mid new (Nothing (name_of p)) left line')

-- after the last message the sending is done
pub sent_all : (whole : ExchangeOutcome) (n : ℕ) (p : Agreement) (old new : Report) → n ≤ 0 → GoesOn whole (sent n p) old new → Does whole old p new (Ok tt)
sent_all whole zero p old new none so = done whole p old new so
sent_all whole (suc count) p old new none so = absurd (omega (arith, none))

-- ---- a sending that is refused

-- where the link has no room all is
sent_full : (whole : ExchangeOutcome) (n : ℕ) (p : Agreement) (old mid : Report) (cause : Cause) → 0 < n → GoesOn whole (sent n p) old mid → sending p ≡ Overflows → cause ≡ LimitReached most_link → whole ≡ Err cause
sent_full whole zero p old mid cause some so over is = absurd (omega arith)
sent_full whole (suc n) p old mid cause some so over is = so.1 ∙ ap (λ x. after_lines so.0 (sent_before (λ q. sent n q) p x)) over ∙ ap Err (sym is)

-- a message for which the link has no room refuses all
pub sent_over : (whole : ExchangeOutcome) (n : ℕ) (p after last : Agreement) (old mid text new : Report) (cause : Cause) → 0 < n → GoesOn whole (sent n p) old mid → SendsOne p (sending p) mid after text (Err cause) → Does whole old last new (Err cause)
sent_over whole n p after last old mid text new BadCommand some so h = sent_full whole n p old mid BadCommand some so h.0 h.1
sent_over whole n p after last old mid text new UnknownNode some so h = sent_full whole n p old mid UnknownNode some so h.0 h.1
sent_over whole n p after last old mid text new NameTaken some so h = sent_full whole n p old mid NameTaken some so h.0 h.1
sent_over whole n p after last old mid text new BadRecord some so h = sent_full whole n p old mid BadRecord some so h.0 h.1
sent_over whole n p after last old mid text new (LimitReached number) some so h = sent_full whole n p old mid (LimitReached number) some so h.0 h.1
sent_over whole n p after last old mid text new OutsideSuffix some so h = sent_full whole n p old mid OutsideSuffix some so h.0 h.1
sent_over whole n p after last old mid text new (LaterCookie held given) some so h = sent_full whole n p old mid (LaterCookie held given) some so h.0 h.1
sent_over whole n p after last old mid text new Circle some so h = sent_full whole n p old mid Circle some so h.0 h.1
sent_over whole n p after last old mid text new NoMemory some so h = tt
