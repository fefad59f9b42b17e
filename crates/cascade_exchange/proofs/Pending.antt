-- What a search has pending, which is sent and taken to its end.
use Rattle.std.proofs.Common.{◌≡◌, ◌<◌, ◌≤◌, ℕ, zero, suc, Bool, true, false, Option, Some, None, List, [], ◌∷◌, length, refl, ap, sym, subst, ◌∙◌, inl, inr, arith}
use Rattle.std.proofs.lemmas.Bool.{cases_Bool}
use Rattle.std.specs.Prelude.{Ok, Err}
use Rattle.ldap_messages.specs.Whole.{MessageValue, message_octets}
use Rattle.sync_model.specs.Copy.{Copy}
use Rattle.sync_model.specs.Message.{SyncMessage}
use Rattle.sync_provider.specs.HandingOut.{HandOut, turn_of_message, turn_of_pending, turn_of_found, search_at, turn_at, handed_on, after_turn}
use Rattle.sync_provider.specs.HandingOut.HandOut.{Hands, Closes, Waits, Unknown}
use Rattle.sync_provider.specs.Machine.{ProviderState}
use Rattle.sync_provider.specs.Search.{SearchState, pending, advanced}
use Rattle.sync_provider.proofs.Nearer.{one_less}
use Rattle.directory_writes.proofs.Keyed.{put_on-same}
use Rattle.cascade_script.specs.declared.fault.Cause.{Cause}
use Rattle.cascade_script.specs.declared.fault.Cause.TheVariants.{BadCommand, UnknownNode, NameTaken, BadRecord, LimitReached, OutsideSuffix, LaterCookie, Circle, NoMemory}
use Rattle.cascade_nodes.specs.declared.node.ConsumerNode.{ConsumerNode}
use Rattle.cascade_exchange.specs.Exchange.{Agreement, agreement_of, ExchangeOutcome, after_lines, name_of, copy_of, fits, linked, Sending, turn_of, handed, sends, sending_by, sending, taken_as, taken_from, taking, taken_before, taken_some, pending_count, left_to_send, ran_before, ran_some, runs}
use Rattle.cascade_exchange.specs.Exchange.Sending.{Sends, Rests, Overflows}
use Rattle.cascade_exchange.specs.Going.{GoesOn, Runs}
use Rattle.cascade_exchange.specs.Reception.{Came, received}
use Rattle.cascade_exchange.specs.Reception.{Came as came}
use Rattle.cascade_nodes.specs.Link.{most_link}
use Rattle.cascade_report.specs.Origins.{Lineage}
use Rattle.cascade_report.specs.Report.{Report}
use Rattle.cascade_exchange.specs.Parts.{Does, SendsOne, TakesOne}
use Rattle.cascade_report.specs.ReportLines.{ReportLine}
use Rattle.cascade_report.specs.ReportLines.ReportLine.{Sent}
use Rattle.cascade_exchange.proofs.Loops.{begins, went, goes_on, done, drained_none}

-- how many messages the search has pending
abbrev pub Left : Agreement → ℕ
Left p = left_to_send p p.consumer_node.search

-- ---- a sending leaves less pending

-- a sending leaves fewer messages pending
abbrev pub LeavesLess : ℕ → Sending → Type 0
LeavesLess n (Sends after message) = Left after < n
LeavesLess n Rests = Unit {0}
LeavesLess n Overflows = 0 < n

sends_less : (p : Agreement) (search : Option ℕ) (message : List ℕ) (n : ℕ) → 0 < n
    → left_to_send (agreement_of (handed p.provider p.consumer_node.search) (linked p.consumer_node search message) p.lineage) search < n → LeavesLess n (sends p search message)
sends_less p search message n some less =
    elim (cases_Bool (fits p.consumer_node message)) [ inl room ↦ rw room less | inr full ↦ rw full some ]

-- the search that was handed a message has one less pending
left_after : (lin : Lineage) → (p : ProviderState) (f : ConsumerNode) (search : Option ℕ) (number : ℕ) (s : SearchState) (first : SyncMessage) (rest : List SyncMessage) (whole : MessageValue) → search ≡ Some number
    → search_at p.searches number ≡ Some s → pending p.directory s ≡ first ∷ rest → turn_at p.directory p.searches number ≡ Hands whole → left_to_send (agreement_of (handed p search) f lin) search ≡ length rest
left_after lin p f search number s first rest whole at found waits turn =
    ap (λ q. left_to_send (agreement_of (handed p q) f lin) q) at
    ∙ ap (λ t. pending_count p.directory (search_at (after_turn p.directory p.searches number t) number)) turn
    ∙ ap (λ x. pending_count p.directory (search_at (handed_on p.directory p.searches number x) number)) found
    ∙ ap (pending_count p.directory) (put_on-same p.searches number (advanced p.directory s) s found)
    ∙ one_less p.directory s first rest whole waits (sym (ap (turn_of_pending s.id) waits) ∙ sym (ap (turn_of_found p.directory) found) ∙ turn)

by_turn : (p : Agreement) (number : ℕ) (s : SearchState) (first : SyncMessage) (rest : List SyncMessage) (turn : HandOut) → p.consumer_node.search ≡ Some number → search_at p.provider.searches number ≡ Some s
    → pending p.provider.directory s ≡ first ∷ rest → turn_at p.provider.directory p.provider.searches number ≡ turn → LeavesLess (suc (length rest)) (sending_by p turn)
by_turn p number s first rest (Hands whole) at found waits is =
    let message : List ℕ = message_octets whole in
    let left : left_to_send (agreement_of (handed p.provider p.consumer_node.search) (linked p.consumer_node p.consumer_node.search message) p.lineage) p.consumer_node.search ≡ length rest =
    left_after p.lineage p.provider (linked p.consumer_node p.consumer_node.search message) p.consumer_node.search number s first rest whole at found waits is in
    sends_less p p.consumer_node.search message (suc (length rest)) (omega arith) (omega (arith, left))
by_turn p number s first rest (Closes code whole) at found waits is = sends_less p None (message_octets whole) (suc (length rest)) (omega arith) (omega arith)
by_turn p number s first rest Waits at found waits is = tt
by_turn p number s first rest Unknown at found waits is = tt

by_pending : (p : Agreement) (number : ℕ) (s : SearchState) (waiting : List SyncMessage) → p.consumer_node.search ≡ Some number → search_at p.provider.searches number ≡ Some s → pending p.provider.directory s ≡ waiting
    → turn_at p.provider.directory p.provider.searches number ≡ turn_of_pending s.id waiting → LeavesLess (length waiting) (sending_by p (turn_of_pending s.id waiting))
by_pending p number s [] at found waits is = tt
by_pending p number s (first ∷ rest) at found waits is = by_turn p number s first rest (turn_of_message s.id first) at found waits is

by_found : (p : Agreement) (number : ℕ) (found : Option SearchState) → p.consumer_node.search ≡ Some number → search_at p.provider.searches number ≡ found
    → LeavesLess (pending_count p.provider.directory found) (sending_by p (turn_of_found p.provider.directory found))
by_found p number None at is = tt
by_found p number (Some s) at is = by_pending p number s (pending p.provider.directory s) at is refl (ap (turn_of_found p.provider.directory) is)

by_search : (p : Agreement) (search : Option ℕ) → p.consumer_node.search ≡ search → LeavesLess (left_to_send p search) (sending_by p (turn_of p.provider search))
by_search p None at = tt
by_search p (Some number) at = by_found p number (search_at p.provider.searches number) at refl

-- each sending leaves fewer messages pending
pub leaves_less : (p : Agreement) → LeavesLess (Left p) (sending p)
leaves_less p = by_search p p.consumer_node.search refl

-- ---- a taking leaves no more pending

abbrev LeavesNoMore : ℕ → Option (Agreement × ReportLine) → Type 0
LeavesNoMore n None = Unit {0}
LeavesNoMore n (Some first) = Left first.0 ≤ n

as_no_more : (p : Agreement) (rest : List (List ℕ)) (copy : Copy) (found : Came) → LeavesNoMore (Left p) (Some (taken_as p rest copy found))
as_no_more p rest copy came.Staged = omega arith
as_no_more p rest copy (came.Stored commit) = omega arith
as_no_more p rest copy came.Copied = omega arith
as_no_more p rest copy (came.Over code) = omega arith
as_no_more p rest copy (came.Refused fault) = omega arith

from_no_more : (p : Agreement) (link : List (List ℕ)) → LeavesNoMore (Left p) (taken_from p link)
from_no_more p [] = tt
from_no_more p (message ∷ rest) = as_no_more p rest (received (copy_of p.consumer_node) message).0 (received (copy_of p.consumer_node) message).1

-- after a taking no more is left to send than before it
pub takes_no_more : (p after : Agreement) (old new : Report) (some : Bool) → TakesOne p (taking p) old after new (Ok some) → left_to_send after after.consumer_node.search ≤ left_to_send p p.consumer_node.search
takes_no_more p after old new true one = subst (LeavesNoMore (Left p)) one.1 (from_no_more p p.consumer_node.link)
takes_no_more p after old new false one = subst (λ q. Left q ≤ Left p) (sym one.1) (omega arith)

sends_from_pending : (p after : Agreement) (old new : Report) → SendsOne p (sending p) old after new (Ok true) → left_to_send after after.consumer_node.search < left_to_send p p.consumer_node.search
sends_from_pending p after old new one = subst (LeavesLess (Left p)) one.1 (leaves_less p)

was_sent : (p after : Agreement) (found : Sending) (old new : Report) (got : Bool) → SendsOne p found old after new (Ok got) → got ≡ true → SendsOne p found old after new (Ok true)
was_sent p after found old new got one is = subst (λ b. SendsOne p found old after new (Ok b)) is one

-- a message that was sent leaves the lineage
pub sent_lineage : (p after : Agreement) (old new : Report) (got : Bool) → SendsOne p (sending p) old after new (Ok got) → got ≡ true → new.lineage ≡ old.lineage
sent_lineage p after old new got one is = let sent = was_sent p after (sending p) old new got one is in ap (λ (t : Report). t.lineage) sent.2

-- a message that is sent and taken leaves fewer pending
pub run_leaves_less : (p mid after : Agreement) (text0 text1 new : Report) (got took : Bool) → SendsOne p (sending p) text0 mid text1 (Ok got) → got ≡ true → TakesOne mid (taking mid) text1 after new (Ok took)
    → left_to_send after after.consumer_node.search < left_to_send p p.consumer_node.search
run_leaves_less p mid after text0 text1 new got took sent is taken =
    omega (arith, sends_from_pending p mid text0 text1 (was_sent p mid (sending p) text0 text1 got sent is), takes_no_more mid after text1 new took taken)

-- ---- a search that runs to its end

-- what a taking does, in at most one step
took_most_one : (p after : Agreement) (line : ReportLine) → taking p ≡ Some (after, line) → taken_some 1 [] p ≡ (after, line ∷ [])
took_most_one p after line e = ap (λ x. taken_before (λ q. taken_some 0 [] q) p [] x) e

first_line : (line : ReportLine) (lines : List ReportLine) (outcome : ExchangeOutcome) → after_lines (line ∷ lines) outcome ≡ after_lines (line ∷ []) (after_lines lines outcome)
first_line line lines (Ok next) = refl
first_line line lines (Err cause) = refl

no_lines : (outcome : ExchangeOutcome) → after_lines [] outcome ≡ outcome
no_lines (Ok next) = refl
no_lines (Err cause) = refl

-- what is left after a sending: what was taken of it, and the rest of the run
ran_sent : (most : ℕ) (p mid : Agreement) (message : List ℕ) → sending p ≡ Sends mid message
    → ran_some (suc most) p ≡ after_lines (Sent (name_of p) message ∷ []) (after_lines (taken_some 1 [] mid).1 (ran_some most (taken_some 1 [] mid).0))
ran_sent most p mid message e =
    ap (ran_before (λ q. ran_some most q) p) e ∙ first_line (Sent (name_of p) message) (taken_some 1 [] mid).1 (ran_some most (taken_some 1 [] mid).0)

ran_none : (most : ℕ) (p : Agreement) → sending p ≡ Rests → ran_some most p ≡ Ok (p, [])
ran_none zero p e = refl
ran_none (suc most) p e = ap (ran_before (λ q. ran_some most q) p) e

abbrev TakenOf : ℕ → Agreement × List ReportLine → ExchangeOutcome
TakenOf most x = after_lines x.1 (ran_some most x.0)

run_takes : (whole : ExchangeOutcome) (most : ℕ) (mid after : Agreement) (old text new : Report) (some : Bool) → GoesOn whole (TakenOf most (taken_some 1 [] mid)) old text
    → TakesOne mid (taking mid) text after new (Ok some) → GoesOn whole (ran_some most after) old new
run_takes whole most mid after old text new true so one =
    goes_on whole (TakenOf most (taken_some 1 [] mid)) (ran_some most after) old text new one.0 so (ap (TakenOf most) (took_most_one mid after one.0 one.1)) one.2
run_takes whole most mid after old text new false so one =
    let left : TakenOf most (taken_some 1 [] mid) ≡ ran_some most mid = ap (TakenOf most) (drained_none 1 mid one.0) ∙ no_lines (ran_some most mid) in
    let here : GoesOn whole (ran_some most mid) old text = subst (λ o. GoesOn whole o old text) left so in
    subst (λ q. GoesOn whole (ran_some most q) old new) (sym one.1) (subst (λ t. GoesOn whole (ran_some most mid) old t) (sym one.2) here)

-- before the first message all that is pending is left
pub run_begins : (p : Agreement) (text : Report) → Runs (runs p) p text text
run_begins p text = (left_to_send p p.consumer_node.search, omega arith, begins (runs p) text)

-- no line changes the lineage
pub run_went : (whole : ExchangeOutcome) (p : Agreement) (old new : Report) → Runs whole p old new → new.lineage ≡ old.lineage
run_went whole p old new r = went whole (ran_some r.0 p) old new r.2

run_more : (whole : ExchangeOutcome) (p mid after : Agreement) (old text0 text1 new : Report) (took : Bool) → Runs whole p old text0 → SendsOne p (sending p) text0 mid text1 (Ok true)
    → TakesOne mid (taking mid) text1 after new (Ok took) → Runs whole after old new
run_more whole p mid after old text0 text1 new took (zero, few, so) sent taken = absurd (omega (arith, few, sends_from_pending p mid text0 text1 sent))
run_more whole p mid after old text0 text1 new took (suc most, few, so) sent taken =
    let between : GoesOn whole (TakenOf most (taken_some 1 [] mid)) old text1 =
    goes_on whole (ran_some (suc most) p) (TakenOf most (taken_some 1 [] mid)) old text0 text1 (Sent (name_of p) sent.0) so (ran_sent most p mid sent.0 sent.1) sent.2 in (
      most,
      omega (arith, few, run_leaves_less p mid after text0 text1 new true took sent refl taken),
      run_takes whole most mid after old text1 new took between taken,
    )

-- after one more message less is left
pub run_goes_on : (whole : ExchangeOutcome) (p mid after : Agreement) (old text0 text1 new : Report) (got took : Bool) → Runs whole p old text0 → SendsOne p (sending p) text0 mid text1 (Ok got) → got ≡ true
    → TakesOne mid (taking mid) text1 after new (Ok took) → Runs whole after old new
run_goes_on whole p mid after old text0 text1 new got took r sent is taken = run_more whole p mid after old text0 text1 new took r (was_sent p mid (sending p) text0 text1 got sent is) taken

-- where nothing is pending the run is done
pub run_ends : (whole : ExchangeOutcome) (p after : Agreement) (old text new : Report) (got : Bool) → Runs whole p old text → SendsOne p (sending p) text after new (Ok got) → got ≡ false → Does whole old after new (Ok tt)
run_ends whole p after old text new got r one is =
    let none : SendsOne p (sending p) text after new (Ok false) = subst (λ b. SendsOne p (sending p) text after new (Ok b)) is one in
    let left : GoesOn whole (Ok (p, [])) old text = subst (λ o. GoesOn whole o old text) (ran_none r.0 p none.0) r.2 in
    subst (λ q. Does whole old q new (Ok tt)) (sym none.1) (subst (λ t. Does whole old p t (Ok tt)) (sym none.2) (done whole p old text left))

-- ---- a link that is full

over_some : (most : ℕ) (p : Agreement) → left_to_send p p.consumer_node.search ≤ most → sending p ≡ Overflows → ran_some most p ≡ Err (LimitReached most_link)
over_some zero p few e = let some : 0 < left_to_send p p.consumer_node.search = subst (LeavesLess (Left p)) e (leaves_less p) in absurd (omega (arith, few, some))
over_some (suc most) p few e = ap (ran_before (λ q. ran_some most q) p) e

run_refused : (whole : ExchangeOutcome) (p : Agreement) (old text : Report) (cause : Cause) → Runs whole p old text → sending p ≡ Overflows → cause ≡ LimitReached most_link → whole ≡ Err cause
run_refused whole p old text cause (most, few, so) over is = so.1 ∙ ap (after_lines so.0) (over_some most p few over) ∙ ap Err (sym is)

-- a message that the link has no room for ends the run with the limit
pub run_overflows : (whole : ExchangeOutcome) (p after last : Agreement) (old text text1 new : Report) (cause : Cause) → Runs whole p old text → SendsOne p (sending p) text after text1 (Err cause)
    → Does whole old last new (Err cause)
run_overflows whole p after last old text text1 new BadCommand r h = run_refused whole p old text BadCommand r h.0 h.1
run_overflows whole p after last old text text1 new UnknownNode r h = run_refused whole p old text UnknownNode r h.0 h.1
run_overflows whole p after last old text text1 new NameTaken r h = run_refused whole p old text NameTaken r h.0 h.1
run_overflows whole p after last old text text1 new BadRecord r h = run_refused whole p old text BadRecord r h.0 h.1
run_overflows whole p after last old text text1 new (LimitReached number) r h = run_refused whole p old text (LimitReached number) r h.0 h.1
run_overflows whole p after last old text text1 new OutsideSuffix r h = run_refused whole p old text OutsideSuffix r h.0 h.1
run_overflows whole p after last old text text1 new (LaterCookie held given) r h = run_refused whole p old text (LaterCookie held given) r h.0 h.1
run_overflows whole p after last old text text1 new Circle r h = run_refused whole p old text Circle r h.0 h.1
run_overflows whole p after last old text text1 new NoMemory r h = tt

-- out of memory alone refuses a taking
pub taking_starves : (outcome : ExchangeOutcome) (p after last : Agreement) (found : Option (Agreement × ReportLine)) (old text text1 new : Report) (cause : Cause) → TakesOne p found text after text1 (Err cause)
    → Does outcome old last new (Err cause)
taking_starves outcome p after last found old text text1 new BadCommand h = absurd h
taking_starves outcome p after last found old text text1 new UnknownNode h = absurd h
taking_starves outcome p after last found old text text1 new NameTaken h = absurd h
taking_starves outcome p after last found old text text1 new BadRecord h = absurd h
taking_starves outcome p after last found old text text1 new (LimitReached number) h = absurd h
taking_starves outcome p after last found old text text1 new OutsideSuffix h = absurd h
taking_starves outcome p after last found old text text1 new (LaterCookie held given) h = absurd h
taking_starves outcome p after last found old text text1 new Circle h = absurd h
taking_starves outcome p after last found old text text1 new NoMemory h = tt
