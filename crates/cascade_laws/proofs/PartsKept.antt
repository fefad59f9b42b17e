-- Each part of an event keeps what its consumer is fed, and reports it right.
use Rattle.std.proofs.Common.{ℕ, zero, suc, Option, Some, None, List, [], ◌∷◌, ◌++◌, length, subst}
use Rattle.dn_names.specs.Names.{TypeAndValue}
use Rattle.cascade_exchange.specs.declared.exchange.Exchange.{Exchange}
use Rattle.cascade_exchange.specs.declared.exchange.Exchange.TheVariants as goes
use Rattle.cascade_world.specs.Exchange.{Agreement, Sending, Sends, Rests, Overflows, name_of, sending, sent_before, sent, taking, taken_before, taken_some, takes, left_to_send, ran_before, ran_some, runs, drains, settles, and_then, part_of}
use Rattle.cascade_laws.specs.Headline.{Known}
use Rattle.cascade_world.specs.ReportLines.{ReportLine}
use Rattle.cascade_world.specs.ReportLines.{ReportLine as reported}
use Rattle.cascade_laws.proofs.CatchingUp.{drains_drained, settles_from}
use Rattle.cascade_laws.proofs.Composing.{IsKeptIn, Keeps, known_by_lines, kept-then, kept-part, keeps-then, kept-still}
use Rattle.cascade_laws.proofs.Feeding.{IsSource, IsFed, IsKept, WantsTheSame, PartsAreKept}
use Rattle.cascade_laws.proofs.FedCutting.{nothing_kept, cut_keeps, idle_keeps}
use Rattle.cascade_laws.proofs.FedCookies.{loses_cookie_keeps, sets_cookie_keeps}
use Rattle.cascade_laws.proofs.FedOpening.{opens_keeps}
use Rattle.cascade_laws.proofs.FedSending.{SendingKept, sending_kept}
use Rattle.cascade_laws.proofs.FedTaking.{TakingKept, taking_kept}

abbrev Name : Type 0
Name = List (List TypeAndValue)

-- ---- sending

sent_keeps : (count : ℕ) (number : ℕ) (suffix : Name) → Keeps number suffix (sent count)
sent_keeps zero number suffix pair known source fed room = kept-still number suffix pair known source fed
sent_keeps (suc count) number suffix pair known source fed room = by (sent_keeps count number suffix) (sending pair) (sending_kept number suffix pair known source fed)
  where
    by : Keeps number suffix (sent count) → (next : Sending) → SendingKept number suffix pair known next
        → IsKeptIn number suffix pair known (sent_before (λ after. sent count after) pair next)
    by keeps (Sends after message) kept = kept-part number suffix pair after (reported.Sent (name_of pair) message ∷ []) known (sent count) kept room keeps
    by keeps Rests kept = nothing_kept number suffix pair (name_of pair) known source fed
    by keeps Overflows kept = tt

-- ---- taking

-- what is reported where nothing is taken
abbrev IsIdle : ℕ → Name → List ReportLine → Type 0
IsIdle number suffix idle =
    (pair : Agreement) (known : Known) → IsSource number suffix pair.provider → IsFed number pair.provider pair.consumer_node known
    → IsKept number suffix pair pair idle known

abbrev TakenKept : ℕ → Name → Agreement → Known → Agreement × List ReportLine → Type 0
TakenKept number suffix pair known taken = IsKept number suffix pair taken.0 taken.1 known

taken_keeps : (count : ℕ) (number : ℕ) (suffix : Name) (idle : List ReportLine) → IsIdle number suffix idle → (pair : Agreement) (known : Known)
    → IsSource number suffix pair.provider → IsFed number pair.provider pair.consumer_node known → TakenKept number suffix pair known (taken_some count idle pair)
taken_keeps zero number suffix idle rests pair known source fed = kept-still number suffix pair known source fed
taken_keeps (suc count) number suffix idle rests pair known source fed =
    by (taken_keeps count number suffix idle rests) (taking pair) (taking_kept number suffix pair known source fed)
  where
    by : ((next : Agreement) (k : Known) → IsSource number suffix next.provider → IsFed number next.provider next.consumer_node k → TakenKept number suffix next k (taken_some count idle next))
        → (first : Option (Agreement × ReportLine)) → TakingKept number suffix pair known first
        → TakenKept number suffix pair known (taken_before (λ after. taken_some count idle after) pair idle first)
    by keeps None kept = rests pair known source fed
    by keeps (Some first) kept =
        let later = taken_some count idle first.0 in
        kept-then number suffix pair first.0 later.0 (first.1 ∷ []) later.1 known kept
        (keeps first.0 (known_by_lines pair.consumer_node.name known (first.1 ∷ [])) kept.source kept.fed)

takes_keeps : (count : ℕ) (number : ℕ) (suffix : Name) → Keeps number suffix (takes count)
takes_keeps count number suffix pair known source fed room =
    taken_keeps count number suffix (reported.Nothing (name_of pair) ∷ []) (λ other k now is. nothing_kept number suffix other (name_of pair) k now is) pair known source fed

still : (number : ℕ) (suffix : Name) → IsIdle number suffix []
still number suffix pair known source fed = kept-still number suffix pair known source fed

-- ---- settling

ran_keeps : (count : ℕ) (number : ℕ) (suffix : Name) → Keeps number suffix (ran_some count)
ran_keeps zero number suffix pair known source fed room = kept-still number suffix pair known source fed
ran_keeps (suc count) number suffix pair known source fed room = by (ran_keeps count number suffix) (sending pair) (sending_kept number suffix pair known source fed)
  where
    by : Keeps number suffix (ran_some count) → (next : Sending) → SendingKept number suffix pair known next
        → IsKeptIn number suffix pair known (ran_before (λ after. ran_some count after) pair next)
    by keeps (Sends after message) kept =
        let line = reported.Sent (name_of pair) message ∷ [] in
        let taken = taken_some 1 [] after in
        let then = taken_keeps 1 number suffix [] (still number suffix) after (known_by_lines pair.consumer_node.name known line) kept.source kept.fed in
        kept-part number suffix pair taken.0 (line ++ taken.1) known (ran_some count) (kept-then number suffix pair after taken.0 line taken.1 known kept then) room keeps
    by keeps Rests kept = kept-still number suffix pair known source fed
    by keeps Overflows kept = tt

runs_keeps : (number : ℕ) (suffix : Name) → Keeps number suffix runs
runs_keeps number suffix pair known source fed room = ran_keeps (left_to_send pair pair.consumer_node.search) number suffix pair known source fed room

drains_keeps : (number : ℕ) (suffix : Name) → Keeps number suffix drains
drains_keeps number suffix pair known source fed room = taken_keeps (length pair.consumer_node.link) number suffix [] (still number suffix) pair known source fed

settles_keeps : (number : ℕ) (suffix : Name) → Keeps number suffix settles
settles_keeps number suffix pair known source fed room =
    settles_from number suffix pair known (and_then (drains pair) runs)
    (keeps-then number suffix drains runs (drains_keeps number suffix) (runs_keeps number suffix) pair known source fed room)
    (drains_drained pair) room

-- ---- each part

part_keeps : (exchange : Exchange) → WantsTheSame exchange → (number : ℕ) (suffix : Name) → Keeps number suffix (part_of exchange)
part_keeps (goes.Open mode) same number suffix = opens_keeps mode number suffix
part_keeps (goes.Send count) same number suffix = sent_keeps count number suffix
part_keeps (goes.Take count) same number suffix = takes_keeps count number suffix
part_keeps goes.Cut same number suffix = cut_keeps number suffix
part_keeps goes.Settle same number suffix = settles_keeps number suffix
part_keeps goes.LoseCookie same number suffix = loses_cookie_keeps number suffix
part_keeps (goes.SetCookie text) same number suffix = sets_cookie_keeps text number suffix
part_keeps goes.CutIfBusy same number suffix = idle_keeps number suffix
part_keeps (goes.Respec spec) same number suffix = absurd same

-- opening, sending, taking, cutting, settling and what is done to a cookie keep what each part
-- keeps
pub parts_are_kept : PartsAreKept
parts_are_kept number suffix before after lines known exchange same source fed room is =
    subst (IsKeptIn number suffix before known) is (part_keeps exchange same number suffix before known source fed room)
