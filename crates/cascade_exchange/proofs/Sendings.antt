-- Messages that are handed out, and put into the link.
use Rattle.std.proofs.Common.{◌≡◌, ℕ, true, false, Option, Some, None, List, [], ◌∷◌, refl, ap, sym, subst, ◌∙◌}
use Rattle.std.specs.Prelude.{Ok, Err}
use Rattle.ldap_messages.specs.declared.message.Message.{Message}
use Rattle.ldap_messages.specs.Whole.{MessageValue, message_value, message_octets}
use Rattle.sync_provider.specs.HandingOut.{HandOut}
use Rattle.sync_provider.specs.HandingOut.HandOut.{Hands, Closes, Waits, Unknown}
use Rattle.sync_provider.specs.Machine.{ProviderState}
use Rattle.cascade_script.specs.declared.fault.Cause.{Cause}
use Rattle.cascade_script.specs.declared.fault.Cause.TheVariants.{BadCommand, UnknownNode, NameTaken, BadRecord, LimitReached, OutsideSuffix, LaterCookie, Circle, NoMemory}
use Rattle.cascade_nodes.specs.declared.node.ConsumerNode.{ConsumerNode}
use Rattle.cascade_exchange.specs.Exchange.{Agreement, agreement_of, turn_of, handed, fits, linked, Sending, sends, sending_by, sending}
use Rattle.cascade_exchange.specs.Exchange.Sending.{Sends, Overflows}
use Rattle.cascade_report.specs.Origins.{Lineage}
use Rattle.cascade_report.specs.Report.{Report, said}
use Rattle.cascade_exchange.specs.Parts.{HandsOut, SendsOne, Links, search_after, whole_in}
use Rattle.cascade_report.specs.ReportLines.ReportLine.{Sent}

-- the pair after a turn of the search
abbrev After : Lineage → ProviderState → ConsumerNode → HandOut → Agreement
After lin p f turn = record { provider = handed p f.search; consumer_node = record f { search = search_after f.search turn }; lineage = lin }

-- ---- one message

fitting : (pair : Agreement) (search : Option ℕ) (message : List ℕ) → fits pair.consumer_node message ≡ true
    → sends pair search message ≡ Sends (record pair { provider = handed pair.provider pair.consumer_node.search; consumer_node = linked pair.consumer_node search message }) message
fitting pair search message fit = rw fit refl

-- a message for which the link has no room overflows it
full : (pair : Agreement) (search : Option ℕ) (message : List ℕ) → fits pair.consumer_node message ≡ false → sends pair search message ≡ Overflows
full pair search message over = rw over refl

-- a message is sent where it is handed out and goes into the link
sent_as : (lin : Lineage) → (p p1 : ProviderState) (f f1 f2 : ConsumerNode) (search : Option ℕ) (message : List ℕ) (old new : Report) → agreement_of p1 f1 lin ≡ record { provider = handed p f.search; consumer_node = record f { search = search }; lineage = lin }
    → Links f1 message old f2 new (Ok tt) → SendsOne (agreement_of p f lin) (sends (agreement_of p f lin) search message) old (agreement_of p1 f2 lin) new (Ok true)
sent_as lin p p1 f f1 f2 search message old new out link' =
    let provider : p1 ≡ handed p f.search = ap (λ (q : Agreement). q.provider) out in
    let consumer_node : f1 ≡ record f { search = search } = ap (λ (q : Agreement). q.consumer_node) out in
    let fit : fits f message ≡ true = sym (ap (λ g. fits g message) consumer_node) ∙ link'.0 in
    let last : f2 ≡ linked f search message = link'.1 ∙ ap (λ (g : ConsumerNode). linked g g.search message) consumer_node in (
      message,
      fitting (agreement_of p f lin) search message fit ∙ sym (ap (λ q. Sends q message) (ap (λ q. agreement_of q f2 lin) provider ∙ ap (λ g. agreement_of (handed p f.search) g lin) last)),
      link'.2 ∙ ap (λ (g : ConsumerNode). said old (Sent g.name message ∷ [])) consumer_node,
    )

-- a message that is handed out and put into the link is sent
sends_one : (lin : Lineage) → (p p1 : ProviderState) (f f1 f2 : ConsumerNode) (turn : HandOut) (whole : MessageValue) (old new : Report) → agreement_of p1 f1 lin ≡ After lin p f turn → whole_in turn ≡ Some whole
    → Links f1 (message_octets whole) old f2 new (Ok tt) → SendsOne (agreement_of p f lin) (sending_by (agreement_of p f lin) turn) old (agreement_of p1 f2 lin) new (Ok true)
sends_one lin p p1 f f1 f2 (Hands w) whole old new out is link' =
    let same : w ≡ whole = cc in
    subst (λ v. SendsOne (agreement_of p f lin) (sends (agreement_of p f lin) f.search (message_octets v)) old (agreement_of p1 f2 lin) new (Ok true)) (sym same) (sent_as lin p p1 f f1 f2 f.search (message_octets whole) old new out link')
sends_one lin p p1 f f1 f2 (Closes code w) whole old new out is link' =
    let same : w ≡ whole = cc in
    subst (λ v. SendsOne (agreement_of p f lin) (sends (agreement_of p f lin) None (message_octets v)) old (agreement_of p1 f2 lin) new (Ok true)) (sym same) (sent_as lin p p1 f f1 f2 None (message_octets whole) old new out link')
sends_one lin p p1 f f1 f2 Waits whole old new out is link' = cc
sends_one lin p p1 f f1 f2 Unknown whole old new out is link' = cc

rests : (lin : Lineage) → (p p1 : ProviderState) (f f1 : ConsumerNode) (turn : HandOut) (text : Report) → agreement_of p1 f1 lin ≡ agreement_of p f lin → whole_in turn ≡ None → SendsOne (agreement_of p f lin) (sending_by (agreement_of p f lin) turn) text (agreement_of p1 f1 lin) text (Ok false)
rests lin p p1 f f1 (Hands w) text out is = cc
rests lin p p1 f f1 (Closes code w) text out is = cc
rests lin p p1 f f1 Waits text out is = (refl, out, refl)
rests lin p p1 f f1 Unknown text out is = (refl, out, refl)

-- a message that does not fit
full_as : (lin : Lineage) → (p p1 : ProviderState) (f f1 : ConsumerNode) (search : Option ℕ) (message : List ℕ) (old text : Report) (after : Agreement) (f2 : ConsumerNode) (cause : Cause) → agreement_of p1 f1 lin ≡ record { provider = handed p f.search; consumer_node = record f { search = search }; lineage = lin }
    → Links f1 message old f2 text (Err cause) → SendsOne (agreement_of p f lin) (sends (agreement_of p f lin) search message) old after text (Err cause)
full_as lin p p1 f f1 search message old text after f2 BadCommand out h = (full (agreement_of p f lin) search message (sym (ap (λ (q : Agreement). fits q.consumer_node message) out) ∙ h.0), h.1)
full_as lin p p1 f f1 search message old text after f2 UnknownNode out h = (full (agreement_of p f lin) search message (sym (ap (λ (q : Agreement). fits q.consumer_node message) out) ∙ h.0), h.1)
full_as lin p p1 f f1 search message old text after f2 NameTaken out h = (full (agreement_of p f lin) search message (sym (ap (λ (q : Agreement). fits q.consumer_node message) out) ∙ h.0), h.1)
full_as lin p p1 f f1 search message old text after f2 BadRecord out h = (full (agreement_of p f lin) search message (sym (ap (λ (q : Agreement). fits q.consumer_node message) out) ∙ h.0), h.1)
full_as lin p p1 f f1 search message old text after f2 (LimitReached number) out h = (full (agreement_of p f lin) search message (sym (ap (λ (q : Agreement). fits q.consumer_node message) out) ∙ h.0), h.1)
full_as lin p p1 f f1 search message old text after f2 OutsideSuffix out h = (full (agreement_of p f lin) search message (sym (ap (λ (q : Agreement). fits q.consumer_node message) out) ∙ h.0), h.1)
full_as lin p p1 f f1 search message old text after f2 (LaterCookie held given) out h = (full (agreement_of p f lin) search message (sym (ap (λ (q : Agreement). fits q.consumer_node message) out) ∙ h.0), h.1)
full_as lin p p1 f f1 search message old text after f2 Circle out h = (full (agreement_of p f lin) search message (sym (ap (λ (q : Agreement). fits q.consumer_node message) out) ∙ h.0), h.1)
full_as lin p p1 f f1 search message old text after f2 NoMemory out h = tt

overflows : (lin : Lineage) → (p p1 : ProviderState) (f f1 f2 : ConsumerNode) (turn : HandOut) (whole : MessageValue) (old text : Report) (after : Agreement) (cause : Cause) → agreement_of p1 f1 lin ≡ After lin p f turn → whole_in turn ≡ Some whole
    → Links f1 (message_octets whole) old f2 text (Err cause) → SendsOne (agreement_of p f lin) (sending_by (agreement_of p f lin) turn) old after text (Err cause)
overflows lin p p1 f f1 f2 (Hands w) whole old text after cause out is h =
    let same : w ≡ whole = cc in
    subst (λ v. SendsOne (agreement_of p f lin) (sends (agreement_of p f lin) f.search (message_octets v)) old after text (Err cause)) (sym same) (full_as lin p p1 f f1 f.search (message_octets whole) old text after f2 cause out h)
overflows lin p p1 f f1 f2 (Closes code w) whole old text after cause out is h =
    let same : w ≡ whole = cc in
    subst (λ v. SendsOne (agreement_of p f lin) (sends (agreement_of p f lin) None (message_octets v)) old after text (Err cause)) (sym same) (full_as lin p p1 f f1 None (message_octets whole) old text after f2 cause out h)
overflows lin p p1 f f1 f2 Waits whole old text after cause out is h = cc
overflows lin p p1 f f1 f2 Unknown whole old text after cause out is h = cc

-- ---- what the next message of the search is, where one is handed out

-- a message that is handed out and fits the link is sent
pub sends_found : (lin : Lineage) → (p p1 : ProviderState) (f f1 f2 : ConsumerNode) (found : Option Message) (m : Message) (old new : Report) → HandsOut (agreement_of p f lin) (turn_of p f.search) (agreement_of p1 f1 lin) (Ok found) → found ≡ Some m
    → Links f1 (message_octets (message_value m)) old f2 new (Ok tt) → SendsOne (agreement_of p f lin) (sending (agreement_of p f lin)) old (agreement_of p1 f2 lin) new (Ok true)
sends_found lin p p1 f f1 f2 found m old new out is link' =
    let out' : HandsOut (agreement_of p f lin) (turn_of p f.search) (agreement_of p1 f1 lin) (Ok (Some m)) = subst (λ x. HandsOut (agreement_of p f lin) (turn_of p f.search) (agreement_of p1 f1 lin) (Ok x)) is out in
    sends_one lin p p1 f f1 f2 (turn_of p f.search) (message_value m) old new out'.0 out'.1 link'

-- a message that does not fit the link passes its limit
pub overflows_found : (lin : Lineage) → (p p1 : ProviderState) (f f1 f2 : ConsumerNode) (found : Option Message) (m : Message) (old text : Report) (after : Agreement) (cause : Cause) → HandsOut (agreement_of p f lin) (turn_of p f.search) (agreement_of p1 f1 lin) (Ok found) → found ≡ Some m
    → Links f1 (message_octets (message_value m)) old f2 text (Err cause) → SendsOne (agreement_of p f lin) (sending (agreement_of p f lin)) old after text (Err cause)
overflows_found lin p p1 f f1 f2 found m old text after cause out is h =
    let out' : HandsOut (agreement_of p f lin) (turn_of p f.search) (agreement_of p1 f1 lin) (Ok (Some m)) = subst (λ x. HandsOut (agreement_of p f lin) (turn_of p f.search) (agreement_of p1 f1 lin) (Ok x)) is out in
    overflows lin p p1 f f1 f2 (turn_of p f.search) (message_value m) old text after cause out'.0 out'.1 h

-- where nothing is handed out nothing is sent
pub rests_found : (lin : Lineage) → (p p1 : ProviderState) (f f1 : ConsumerNode) (found : Option Message) (text : Report) → HandsOut (agreement_of p f lin) (turn_of p f.search) (agreement_of p1 f1 lin) (Ok found) → found ≡ None
    → SendsOne (agreement_of p f lin) (sending (agreement_of p f lin)) text (agreement_of p1 f1 lin) text (Ok false)
rests_found lin p p1 f f1 found text out is =
    let out' : HandsOut (agreement_of p f lin) (turn_of p f.search) (agreement_of p1 f1 lin) (Ok None) = subst (λ x. HandsOut (agreement_of p f lin) (turn_of p f.search) (agreement_of p1 f1 lin) (Ok x)) is out in
    rests lin p p1 f f1 (turn_of p f.search) text out'.0 out'.1

-- out of memory says nothing
pub sending_starves : (p after : Agreement) (found : Sending) (old new : Report) (cause : Cause) → cause ≡ NoMemory → SendsOne p found old after new (Err cause)
sending_starves p after found old new cause is = subst (λ c. SendsOne p found old after new (Err c)) (sym is) tt
