-- Searches that are opened or refused.
use Rattle.std.proofs.Common.{◌≡◌, ℕ, Bool, true, false, cond, Some, List, [], ◌∷◌, refl, ap, sym, subst, ◌∙◌}
use Rattle.std.specs.Prelude.{◌==◌, Ok, Err, Result}
use Rattle.ldap_constants.specs.declared.result_codes.TheConstants.{E_SYNC_REFRESH_REQUIRED}
use Rattle.entry_tree.specs.Selection.{Search}
use Rattle.ldap_messages.specs.declared.message.Message.{Message}
use Rattle.ldap_messages.specs.Whole.{MessageValue, message_value}
use Rattle.sync_consumer.specs.declared.consumer.Taken.{Taken}
use Rattle.sync_messages.specs.Request.{request_of, request_octets}
use Rattle.sync_messages.specs.declared.request.Mode.{Mode}
use Rattle.sync_messages.specs.declared.request.Mode.TheVariants.{RefreshOnly}
use Rattle.sync_wire.specs.Requesting.{persists}
use Rattle.sync_consumer.specs.Taking.{ConsumerState, asked_of, request_of as asks, taken_of}
use Rattle.sync_model.specs.Copy.{Copy}
use Rattle.sync_provider.specs.Accepting as accepting
use Rattle.sync_provider.specs.Accepting.{start_of_read, persists_of_read}
use Rattle.sync_provider.specs.Machine.{ProviderState}
use Rattle.sync_provider.specs.declared.searches.Accepted.TheVariants as accepted
use Rattle.cascade_script.specs.declared.fault.Cause.{Cause}
use Rattle.cascade_script.specs.declared.fault.Cause.TheVariants.{BadCommand, UnknownNode, NameTaken, BadRecord, LimitReached, OutsideSuffix, LaterCookie, Circle, NoMemory}
use Rattle.cascade_nodes.specs.declared.node.ConsumerNode.{ConsumerNode}
use Rattle.cascade_exchange.specs.Exchange.{Agreement, ExchangeOutcome, agreement_of, and_then, with_copy, asking, start_of, answer_of, is_required, end_with, refused_copy, is_busy, cut, idle, opened_by, opened_idle, asked_again}
use Rattle.cascade_nodes.specs.Opening.{message_id, answer_to_request, answer_to, with_opened, after_accepted}
use Rattle.cascade_exchange.specs.Reception.{Came, received_of}
use Rattle.cascade_report.specs.Origins.{Lineage}
use Rattle.cascade_report.specs.Report.{Report, said}
use Rattle.cascade_exchange.specs.Parts.{Does, Opens, Refuses, first_value}
use Rattle.cascade_report.specs.ReportLines.{ReportLine}
use Rattle.cascade_report.specs.ReportLines.ReportLine.{Opened, Refused}
use Rattle.cascade_exchange.proofs.Decoding.{received_reported}
use Rattle.cascade_exchange.proofs.Doing.{reported_one, refused_first, then_at}

-- the copy after a message, whatever is reported of it
pub taken_copy : (c after : ConsumerState) (m : Message) (t : Taken) → after.spec ≡ c.spec → after.reload ≡ c.reload → (after.copy, t) ≡ taken_of c.copy m
    → after ≡ record c { copy = (received_of c.copy (Some (message_value m))).0 }
taken_copy c after m t spec reload is =
    let copy : after.copy ≡ (received_of c.copy (Some (message_value m))).0 = ap (λ (x : Copy × Taken). x.0) is ∙ sym (ap (λ (x : Copy × Came). x.0) (received_reported c.copy m)) in
    λ i. record { spec = spec i; reload = reload i; copy = copy i }

-- the value of the control of its request is read again as what it asks
pub asked_value : (f : ConsumerState) (mode : Mode) (m : Message) (value : List ℕ) → message_value m ≡ asks f message_id mode → value ≡ first_value m.controls
    → request_of (request_octets (asked_of f mode)) ≡ Ok (asked_of f mode) → request_of value ≡ Ok (asked_of f mode)
asked_value f mode m value whole is again = ap request_of (is ∙ ap (λ (w : MessageValue). first_value w.1.1) whole) ∙ again

-- a search that is refused ends with the code, in a SearchResultDone
pub refuses : (f : ConsumerNode) (after : ConsumerState) (m : Message) (code : ℕ) (old new : Report) → message_value m ≡ end_with code → after ≡ record f.consumer { copy = (received_of f.consumer.copy (Some (message_value m))).0 }
    → ((persists : Bool) → new ≡ said old (Refused f.name persists code ∷ [])) → Refuses f code old (record f { consumer = after }) new (Ok (code == E_SYNC_REFRESH_REQUIRED))
refuses f after m code old new same is line =
    let copy : after ≡ record f.consumer { copy = refused_copy f.consumer.copy code } = is ∙ ap (λ w. record f.consumer { copy = (received_of f.consumer.copy (Some w)).0 }) same in
    (ap (λ c. record f { consumer = c }) copy, line, refl)

-- a search that is opened, with the number of writes that it is opened at
pub opens_idle : (lin : Lineage) → (mode : Mode) (p p' : ProviderState) (f f1 : ConsumerNode) (search : Search) (control : List ℕ) (number writes : ℕ) (old new : Report) → f1 ≡ with_copy f (asking (persists mode) f.consumer.copy) → search ≡ f1.consumer.spec → request_of control ≡ Ok (asked_of f.consumer mode)
    → accepting.AnswersAccept (accepted.Opened number writes) (answer_to p search control) → p' ≡ after_accepted p search control (accepted.Opened number writes) → new ≡ said old (Opened f1.name (persists mode) writes ∷ [])
    → Opens mode (agreement_of p f lin) old (agreement_of p' (record f1 { search = Some number }) lin) new (Ok false)
opens_idle lin mode p p' f f1 search control number writes old new asked' wanted value answer after line =
    let spec : search ≡ f.consumer.spec = wanted ∙ ap (λ (g : ConsumerNode). g.consumer.spec) asked' in
    let reported' : answer_of mode (agreement_of p f lin) ≡ accepted.Opened number writes = sym (ap (λ s. answer_to_request p s (Ok (asked_of f.consumer mode))) spec) ∙ sym (ap (answer_to_request p search) value) ∙ answer in
    let start = start_of (agreement_of p f lin) in
    let provider : p' ≡ with_opened p number f.consumer.spec start (persists mode) =
    after ∙ ap (λ r. with_opened p number search (start_of_read p.directory r) (persists_of_read r)) value ∙ ap (λ s. with_opened p number s start (persists mode)) spec in
    let consumer_node : record f1 { search = Some number } ≡ record (with_copy f (asking (persists mode) f.consumer.copy)) { search = Some number } = ap (λ (g : ConsumerNode). record g { search = Some number }) asked' in
    let reported : ReportLine = Opened f.name (persists mode) writes in
    let whole : opened_idle mode (agreement_of p f lin) ≡ Ok (agreement_of p' (record f1 { search = Some number }) lin, reported ∷ []) =
    ap (opened_by mode (agreement_of p f lin)) reported'
    ∙ sym (ap (λ q. Ok (q, reported ∷ [])) (ap (λ q. agreement_of q (record f1 { search = Some number }) lin) provider ∙ ap (λ g. agreement_of (with_opened p number f.consumer.spec start (persists mode)) g lin) consumer_node)) in (
      reported_one (opened_idle mode (agreement_of p f lin)) old new (agreement_of p' (record f1 { search = Some number }) lin) reported whole (line ∙ ap (λ (g : ConsumerNode). said old (Opened g.name (persists mode) writes ∷ [])) asked'),
      sym (ap is_required reported'),
    )

-- a search that is refused
pub refused_idle : (lin : Lineage) → (mode : Mode) (p p' : ProviderState) (f f1 f2 : ConsumerNode) (search : Search) (control : List ℕ) (code : ℕ) (old new : Report) (again : Bool) → f1 ≡ with_copy f (asking (persists mode) f.consumer.copy) → search ≡ f1.consumer.spec → request_of control ≡ Ok (asked_of f.consumer mode)
    → accepting.AnswersAccept (accepted.Refused code) (answer_to p search control) → p' ≡ after_accepted p search control (accepted.Refused code) → Refuses f1 code old f2 new (Ok again)
    → Opens mode (agreement_of p f lin) old (agreement_of p' f2 lin) new (Ok again)
refused_idle lin mode p p' f f1 f2 search control code old new again asked' wanted value answer after h =
    let spec : search ≡ f.consumer.spec = wanted ∙ ap (λ (g : ConsumerNode). g.consumer.spec) asked' in
    let reported' : answer_of mode (agreement_of p f lin) ≡ accepted.Refused code = sym (ap (λ s. answer_to_request p s (Ok (asked_of f.consumer mode))) spec) ∙ sym (ap (answer_to_request p search) value) ∙ answer in
    let consumer_node : f2 ≡ with_copy f (refused_copy (asking (persists mode) f.consumer.copy) code) = h.0 ∙ ap (λ (g : ConsumerNode). with_copy g (refused_copy g.consumer.copy code)) asked' in
    let reported : ReportLine = Refused f.name (persists mode) code in
    let whole : opened_idle mode (agreement_of p f lin) ≡ Ok (agreement_of p' f2 lin, reported ∷ []) =
    ap (opened_by mode (agreement_of p f lin)) reported' ∙ sym (ap (λ q. Ok (q, reported ∷ [])) (ap (λ q. agreement_of q f2 lin) after ∙ ap (λ g. agreement_of p g lin) consumer_node)) in (
      reported_one (opened_idle mode (agreement_of p f lin)) old new (agreement_of p' f2 lin) reported whole (h.1 (persists mode) ∙ ap (λ (g : ConsumerNode). said old (Refused g.name (persists mode) code ∷ [])) asked'),
      h.2 ∙ sym (ap is_required reported'),
    )

-- the same by what came of the refusal; out of memory says nothing
pub refused_as : (lin : Lineage) → (mode : Mode) (p p' : ProviderState) (f f1 f2 : ConsumerNode) (search : Search) (control : List ℕ) (code : ℕ) (old new : Report) (result : Result Bool Cause) → f1 ≡ with_copy f (asking (persists mode) f.consumer.copy) → search ≡ f1.consumer.spec
    → request_of control ≡ Ok (asked_of f.consumer mode) → accepting.AnswersAccept (accepted.Refused code) (answer_to p search control) → p' ≡ after_accepted p search control (accepted.Refused code) → Refuses f1 code old f2 new result
    → Opens mode (agreement_of p f lin) old (agreement_of p' f2 lin) new result
refused_as lin mode p p' f f1 f2 search control code old new (Ok again) asked' wanted value answer after h = refused_idle lin mode p p' f f1 f2 search control code old new again asked' wanted value answer after h
refused_as lin mode p p' f f1 f2 search control code old new (Err BadCommand) asked' wanted value answer after h = absurd h
refused_as lin mode p p' f f1 f2 search control code old new (Err UnknownNode) asked' wanted value answer after h = absurd h
refused_as lin mode p p' f f1 f2 search control code old new (Err NameTaken) asked' wanted value answer after h = absurd h
refused_as lin mode p p' f f1 f2 search control code old new (Err BadRecord) asked' wanted value answer after h = absurd h
refused_as lin mode p p' f f1 f2 search control code old new (Err (LimitReached number)) asked' wanted value answer after h = absurd h
refused_as lin mode p p' f f1 f2 search control code old new (Err OutsideSuffix) asked' wanted value answer after h = absurd h
refused_as lin mode p p' f f1 f2 search control code old new (Err (LaterCookie held given)) asked' wanted value answer after h = absurd h
refused_as lin mode p p' f f1 f2 search control code old new (Err Circle) asked' wanted value answer after h = absurd h
refused_as lin mode p p' f f1 f2 search control code old new (Err NoMemory) asked' wanted value answer after h = tt

-- ---- a second time

-- the refusal of a part says nothing of what is left
err_anyhow : (outcome : ExchangeOutcome) (old text new : Report) (p after : Agreement) (cause : Cause) → Does outcome old p text (Err cause) → Does outcome old after new (Err cause)
err_anyhow outcome old text new p after BadCommand h = h
err_anyhow outcome old text new p after UnknownNode h = h
err_anyhow outcome old text new p after NameTaken h = h
err_anyhow outcome old text new p after BadRecord h = h
err_anyhow outcome old text new p after (LimitReached number) h = h
err_anyhow outcome old text new p after OutsideSuffix h = h
err_anyhow outcome old text new p after (LaterCookie held given) h = h
err_anyhow outcome old text new p after Circle h = h
err_anyhow outcome old text new p after NoMemory h = tt

-- an opening is refused for what rejects the search that it asks for
pub asked_refused : (mode : Mode) (pair between last : Agreement) (old text new : Report) (cause : Cause) → Opens mode pair old between text (Err cause) → Does (opened_idle mode pair) old last new (Err cause)
asked_refused mode pair between last old text new cause h = err_anyhow (opened_idle mode pair) old text new between last cause h

-- a second opening is refused for what rejects the search that it asks for
pub again_refused : (pair between last : Agreement) (old text new : Report) (cause : Cause) → Opens RefreshOnly pair old between text (Err cause) → Does (asked_again pair) old last new (Err cause)
again_refused pair between last old text new cause h = by (is_required (answer_of RefreshOnly pair))
  where
    by : (required : Bool) → Does (cond required (and_then (opened_idle RefreshOnly pair) (opened_idle RefreshOnly)) (opened_idle RefreshOnly pair)) old last new (Err cause)
    by true = refused_first (opened_idle RefreshOnly pair) (opened_idle RefreshOnly) old text new between last cause h
    by false = err_anyhow (opened_idle RefreshOnly pair) old text new between last cause h

-- the cookie does not serve, and the consumer asks once more
pub again_twice : (pair : Agreement) (p1 p2 : ProviderState) (f1 f2 : ConsumerNode) (old mid new : Report) (again : Bool) (result : Result (Unit {0}) Cause)
    → Opens RefreshOnly pair old (agreement_of p1 f1 old.lineage) mid (Ok again) → again ≡ true
    → Does (opened_idle RefreshOnly (agreement_of p1 f1 mid.lineage)) mid (agreement_of p2 f2 mid.lineage) new result → Does (asked_again pair) old (agreement_of p2 f2 old.lineage) new result
again_twice pair p1 p2 f1 f2 old mid new again result first is second =
    let required : is_required (answer_of RefreshOnly pair) ≡ true = sym first.1 ∙ is in
    let same : asked_again pair ≡ and_then (opened_idle RefreshOnly pair) (opened_idle RefreshOnly) = rw required refl in
    subst (λ o. Does o old (agreement_of p2 f2 old.lineage) new result) (sym same)
    (then_at (opened_idle RefreshOnly pair) (opened_idle RefreshOnly) old mid new p1 p2 f1 f2 result first.0 second)

-- it does, and nothing more is asked
pub again_once : (pair after : Agreement) (old new : Report) (again : Bool) → Opens RefreshOnly pair old after new (Ok again) → again ≡ false → Does (asked_again pair) old after new (Ok tt)
again_once pair after old new again first is =
    let served : is_required (answer_of RefreshOnly pair) ≡ false = sym first.1 ∙ is in
    let same : asked_again pair ≡ opened_idle RefreshOnly pair = rw served refl in
    subst (λ o. Does o old after new (Ok tt)) (sym same) first.0

-- ---- a busy consumer

-- it is cut, whatever comes of that
pub idle_cut : (pair after : Agreement) (old new : Report) (busy : Bool) (result : Result (Unit {0}) Cause) → busy ≡ is_busy pair.consumer_node → busy ≡ true → Does (cut pair) old after new result → Does (idle pair) old after new result
idle_cut pair after old new busy result is taken does =
    let busy' : is_busy pair.consumer_node ≡ true = sym is ∙ taken in
    let same : idle pair ≡ cut pair = rw busy' refl in
    subst (λ o. Does o old after new result) (sym same) does
