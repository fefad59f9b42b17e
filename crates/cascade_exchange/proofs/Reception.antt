-- Messages that are taken from the link.
use Rattle.std.proofs.Common.{◌≡◌, ℕ, Bool, true, false, cond, Option, Some, None, List, [], ◌∷◌, refl, ap, sym, subst, ◌∙◌}
use Rattle.std.specs.Prelude.{Result, Ok, codes}
use Rattle.ldap_messages.specs.declared.message.Message.{Message}
use Rattle.ldap_messages.specs.Whole.{MessageValue, message_value}
use Rattle.sync_consumer.specs.declared.consumer.Taken.{Taken}
use Rattle.sync_consumer.specs.declared.consumer.Taken.TheVariants as taken
use Rattle.sync_consumer.specs.Taking.{ConsumerState, taken_of, without_search}
use Rattle.sync_model.specs.Copy.{Copy}
use Rattle.sync_consumer.specs.declared.commit.Commit as answered_by
use Rattle.sync_provider.specs.Machine.{ProviderState}
use Rattle.cascade_nodes.specs.declared.node.ConsumerNode.{ConsumerNode}
use Rattle.cascade_script.specs.declared.fault.Cause.{Cause}
use Rattle.cascade_exchange.specs.Exchange.{agreement_of, copy_of, given_up, closed, taken_as, taken_from, taking, stored_reported}
use Rattle.cascade_exchange.specs.Reception.{Came, decoded, whole_said, says_end_without_cookie, received, received_of, received_by, received_next, refused_for}
use Rattle.cascade_exchange.specs.Reception.{Came as came}
use Rattle.cascade_exchange.specs.Naming.{peer_name}
use Rattle.cascade_report.specs.Origins.{Lineage}
use Rattle.cascade_report.specs.Report.{Report, said}
use Rattle.cascade_exchange.specs.Parts.{TakesOne, IsReceived, IsReceivedSoFar}
use Rattle.cascade_report.specs.ReportLines.{commit_reported, ReportLine as reported}
use Rattle.cascade_exchange.proofs.Decoding.{came_reported, received_reported}

-- ---- from the bytes in the link

-- what stands in the link counts only as what is left of it
of_rest : (lin : Lineage) → (p : ProviderState) (f : ConsumerNode) (rest : List (List ℕ)) (copy : Copy) (found : Came)
    → taken_as (agreement_of p f lin) rest copy found ≡ taken_as (agreement_of p (record f { link = rest }) lin) rest copy found
of_rest lin p f rest copy came.Staged = refl
of_rest lin p f rest copy (came.Stored commit) = refl
of_rest lin p f rest copy came.Copied = refl
of_rest lin p f rest copy (came.Over code) = refl
of_rest lin p f rest copy (came.Refused fault) = refl

-- the first message of the link is decoded and taken
pub takes_one : (lin : Lineage) → (p p1 : ProviderState) (f f1 : ConsumerNode) (bytes : List ℕ) (rest : List (List ℕ)) (found : Option MessageValue) (old new : Report) → f.link ≡ bytes ∷ rest → found ≡ decoded bytes
    → IsReceived (agreement_of p (record f { link = rest }) lin) (received_next f.consumer.copy found) old (agreement_of p1 f1 lin) new (Ok tt) → TakesOne (agreement_of p f lin) (taking (agreement_of p f lin)) old (agreement_of p1 f1 lin) new (Ok true)
takes_one lin p p1 f f1 bytes rest found old new first is h =
    let decode : received (copy_of f) bytes ≡ received_next f.consumer.copy found = ap (received_next f.consumer.copy) (sym is) in
    let came' = received_next f.consumer.copy found in (
      h.0,
      ap (taken_from (agreement_of p f lin)) first ∙ ap (λ x. Some (taken_as (agreement_of p f lin) rest x.0 x.1)) decode ∙ ap Some (of_rest lin p f rest came'.0 came'.1 ∙ h.1),
      h.2,
    )

-- bytes that spell no message
pub garbled : (lin : Lineage) → (p p1 : ProviderState) (f f1 : ConsumerNode) (found : Option MessageValue) (old new : Report) → found ≡ None → agreement_of p1 f1 lin ≡ given_up (agreement_of p f lin) f.consumer.copy
    → new ≡ said old (reported.Faulted f.name (codes "BadMessage") ∷ []) → IsReceived (agreement_of p f lin) (received_next f.consumer.copy found) old (agreement_of p1 f1 lin) new (Ok tt)
garbled lin p p1 f f1 found old new none after line =
    let line' = reported.Faulted f.name (codes "BadMessage") in
    let received' : IsReceived (agreement_of p f lin) (received_next f.consumer.copy None) old (agreement_of p1 f1 lin) new (Ok tt) = (line', ap (λ q. (q, line')) (sym after), line) in
    subst (λ x. IsReceived (agreement_of p f lin) (received_next f.consumer.copy x) old (agreement_of p1 f1 lin) new (Ok tt)) (sym none) received'

-- the end of a refresh without a cookie
pub refused_end : (lin : Lineage) → (p p1 : ProviderState) (f f1 : ConsumerNode) (m : Message) (old new : Report) → says_end_without_cookie (whole_said false (message_value m)) ≡ true → agreement_of p1 f1 lin ≡ given_up (agreement_of p f lin) f.consumer.copy
    → new ≡ said old (reported.Faulted f.name (codes "OutOfPlace") ∷ []) → IsReceived (agreement_of p f lin) (received_next f.consumer.copy (Some (message_value m))) old (agreement_of p1 f1 lin) new (Ok tt)
refused_end lin p p1 f f1 m old new is after line =
    let line' = reported.Faulted f.name (codes "OutOfPlace") in
    let received' : IsReceived (agreement_of p f lin) (refused_for f.consumer.copy (codes "OutOfPlace")) old (agreement_of p1 f1 lin) new (Ok tt) = (line', ap (λ q. (q, line')) (sym after), line) in
    subst (λ b. IsReceived (agreement_of p f lin) (cond b (refused_for f.consumer.copy (codes "OutOfPlace")) (received_of f.consumer.copy (Some (message_value m)))) old (agreement_of p1 f1 lin) new (Ok tt)) (sym is) received'

-- and any other message
pub no_such_end : (lin : Lineage) → (p p1 : ProviderState) (f f1 : ConsumerNode) (m : Message) (old new : Report) (result : Result Bool Cause) → says_end_without_cookie (whole_said false (message_value m)) ≡ false
    → IsReceivedSoFar (agreement_of p f lin) (received_of f.consumer.copy (Some (message_value m))) old (agreement_of p1 f1 lin) new result → IsReceivedSoFar (agreement_of p f lin) (received_next f.consumer.copy (Some (message_value m))) old (agreement_of p1 f1 lin) new result
no_such_end lin p p1 f f1 m old new result is h =
    subst (λ b. IsReceivedSoFar (agreement_of p f lin) (cond b (refused_for f.consumer.copy (codes "OutOfPlace")) (received_of f.consumer.copy (Some (message_value m)))) old (agreement_of p1 f1 lin) new result) (sym is) h

-- no message is taken from an empty link
pub nothing_there : (lin : Lineage) → (p : ProviderState) (f : ConsumerNode) (text : Report) → f.link ≡ [] → TakesOne (agreement_of p f lin) (taking (agreement_of p f lin)) text (agreement_of p f lin) text (Ok false)
nothing_there lin p f text none = (ap (taken_from (agreement_of p f lin)) none, refl, refl)

-- ---- a message that was taken

-- the consumer keeps what it wants
same_following : (c after : ConsumerState) → after.spec ≡ c.spec → after.reload ≡ c.reload → record c { copy = after.copy } ≡ after
same_following c after spec reload = λ i. record { spec = sym spec i; reload = sym reload i; copy = after.copy }

came_as : (lin : Lineage) → (p : ProviderState) (f : ConsumerNode) (after : ConsumerState) (m : Message) (t : Taken) → (after.copy, t) ≡ taken_of f.consumer.copy m
    → taken_as (agreement_of p f lin) f.link (received_by f.consumer.copy.session f.consumer.copy (message_value m)).0 (received_by f.consumer.copy.session f.consumer.copy (message_value m)).1
    ≡ taken_as (agreement_of p f lin) f.link after.copy (came_reported t)
came_as lin p f after m t is =
    ap (λ (x : Copy × Came). taken_as (agreement_of p f lin) f.link x.0 x.1) (received_reported f.consumer.copy m ∙ ap (λ (y : Copy × Taken). (y.0, came_reported y.1)) (sym is))

abbrev Receives : Lineage → ProviderState → ConsumerNode → ConsumerState → Message → Report → Report → Type 0
Receives lin p f after m old new = IsReceived (agreement_of p f lin) (received_of f.consumer.copy (Some (message_value m))) old (agreement_of p (record f { consumer = after }) lin) new (Ok tt)

-- a message that was staged gives the line `taken`
pub receives_staged : (lin : Lineage) → (p : ProviderState) (f : ConsumerNode) (after : ConsumerState) (m : Message) (old new : Report) → after.spec ≡ f.consumer.spec → after.reload ≡ f.consumer.reload
    → (after.copy, taken.Staged) ≡ taken_of f.consumer.copy m → new ≡ said old (reported.Taken f.name ∷ []) → Receives lin p f after m old new
receives_staged lin p f after m old new spec reload is line = (
  reported.Taken f.name,
  came_as lin p f after m taken.Staged is ∙ ap (λ c. (agreement_of p (record f { consumer = c }) lin, reported.Taken f.name)) (same_following f.consumer after spec reload),
  line,
)

-- a message that ends a refresh without a cookie gives the line `taken`
pub receives_copied : (lin : Lineage) → (p : ProviderState) (f : ConsumerNode) (after : ConsumerState) (m : Message) (commit : _) (old new : Report) → after.spec ≡ f.consumer.spec → after.reload ≡ f.consumer.reload
    → (after.copy, taken.Copied commit) ≡ taken_of f.consumer.copy m → new ≡ said old (reported.Taken f.name ∷ []) → Receives lin p f after m old new
receives_copied lin p f after m commit old new spec reload is line = (
  reported.Taken f.name,
  came_as lin p f after m (taken.Copied commit) is ∙ ap (λ c. (agreement_of p (record f { consumer = c }) lin, reported.Taken f.name)) (same_following f.consumer after spec reload),
  line,
)

-- a message that puts the stage into effect gives the line `stored`
pub receives_stored : (lin : Lineage) → (p : ProviderState) (f : ConsumerNode) (after : ConsumerState) (m : Message) (commit : answered_by.Commit) (old new : Report) → after.spec ≡ f.consumer.spec → after.reload ≡ f.consumer.reload
    → (after.copy, taken.Stored commit) ≡ taken_of f.consumer.copy m → new ≡ said old (stored_reported (agreement_of p (record f { consumer = after }) lin) after.copy (commit_reported commit) ∷ []) → Receives lin p f after m old new
receives_stored lin p f after m commit old new spec reload is line = (
  stored_reported (agreement_of p (record f { consumer = after }) lin) after.copy (commit_reported commit),
  came_as lin p f after m (taken.Stored commit) is
      ∙ ap (λ c. (agreement_of p (record f { consumer = c }) lin, stored_reported (agreement_of p (record f { consumer = c }) lin) after.copy (commit_reported commit))) (same_following f.consumer after spec reload),
  line,
)

-- the end of a search gives the line `ended`
pub receives_over : (lin : Lineage) → (p : ProviderState) (f : ConsumerNode) (after : ConsumerState) (m : Message) (code : _) (old new : Report) → after.spec ≡ f.consumer.spec → after.reload ≡ f.consumer.reload
    → (after.copy, taken.Over code) ≡ taken_of f.consumer.copy m → new ≡ said old (reported.Ended f.name code ∷ []) → Receives lin p f after m old new
receives_over lin p f after m code old new spec reload is line = (
  reported.Ended f.name code,
  came_as lin p f after m (taken.Over code) is ∙ ap (λ c. (agreement_of p (record f { consumer = c }) lin, reported.Ended f.name code)) (same_following f.consumer after spec reload),
  line,
)

-- a message that is refused gives the line `fault`
pub receives_fault : (lin : Lineage) → (p p1 : ProviderState) (f f1 : ConsumerNode) (after : ConsumerState) (m : Message) (fault : _) (old new : Report) → after.spec ≡ f.consumer.spec → after.reload ≡ f.consumer.reload
    → (after.copy, taken.Fault fault) ≡ taken_of f.consumer.copy m → agreement_of p1 f1 lin ≡ given_up (agreement_of p (record f { consumer = after }) lin) after.copy
    → new ≡ said old (reported.Faulted f.name (peer_name fault) ∷ []) → IsReceived (agreement_of p f lin) (received_of f.consumer.copy (Some (message_value m))) old (agreement_of p1 f1 lin) new (Ok tt)
receives_fault lin p p1 f f1 after m fault old new spec reload is up line = (
  reported.Faulted f.name (peer_name fault),
  came_as lin p f after m (taken.Fault fault) is
      ∙ ap (λ (c : ConsumerState). (record { provider = closed p f.search; consumer_node = record f { consumer = record c { copy = without_search after.copy }; link = []; search = None }; lineage = lin }, reported.Faulted f.name (peer_name fault))) (same_following f.consumer after spec reload)
      ∙ ap (λ q. (q, reported.Faulted f.name (peer_name fault))) (sym up),
  line,
)
