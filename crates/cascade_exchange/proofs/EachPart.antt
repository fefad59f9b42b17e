-- What each small step between a consumer and its provider leaves, each part of an event leaves.
use Rattle.std.proofs.Common.{◌≡◌, ℕ, zero, suc, Bool, true, false, cond, Option, Some, None, List, [], ◌∷◌, ◌++◌, length, refl}
use Rattle.std.specs.Prelude.{Ok, Err}
use Rattle.ldap_messages.specs.Whole.{message_octets}
use Rattle.sync_messages.specs.declared.request.Mode.{Mode}
use Rattle.sync_messages.specs.declared.request.Mode.TheVariants.{RefreshOnly}
use Rattle.sync_model.specs.Copy.{Copy}
use Rattle.sync_provider.specs.HandingOut.{HandOut}
use Rattle.sync_provider.specs.HandingOut.HandOut.{Hands, Closes, Waits, Unknown}
use Rattle.sync_provider.specs.declared.searches.Accepted.{Accepted}
use Rattle.cascade_script.specs.declared.fault.Cause.TheVariants.{LaterCookie}
use Rattle.cascade_exchange.specs.Cookies.{is_later}
use Rattle.cascade_exchange.specs.Exchange.{Agreement, ExchangeOutcome, after_lines, and_then, name_of, copy_of, Sending, turn_of, handed, linked, fits, sends, sending_by, sending, sent_before, sent, given_up, taken_as, taken_from, taking, taken_before, taken_some, takes, is_busy, cut, idle, opened_by, answer_of, opened_idle, opens, is_required, asked_again, opens_anew, left_to_send, ran_before, ran_some, runs, drains, settled_reported, follows_on, refreshes, catches_up, settles, holding, sets_cookie}
use Rattle.cascade_exchange.specs.Exchange.Sending.{Sends, Rests, Overflows}
use Rattle.cascade_exchange.specs.Reception.{Came, received}
use Rattle.cascade_exchange.specs.Reception.{Came as came}
use Rattle.cascade_report.specs.ReportLines.{ReportLine}
use Rattle.cascade_report.specs.ReportLines.{ReportLine as reported}

-- what is left where a part is done
abbrev pub LeavesIn : (Agreement → Agreement → List ReportLine → Type 0) → Agreement → ExchangeOutcome → Type 0
LeavesIn Leaves pair (Ok next) = Leaves pair next.0 next.1
LeavesIn Leaves pair (Err cause) = Unit {0}

-- and where a message is taken
abbrev pub LeavesTaking : (Agreement → Agreement → List ReportLine → Type 0) → Agreement → Option (Agreement × ReportLine) → Type 0
LeavesTaking Leaves pair None = Unit {0}
LeavesTaking Leaves pair (Some first) = Leaves pair first.0 (first.1 ∷ [])

-- searches of each mode are asked for
abbrev pub AnyMode : Mode → Type 0
AnyMode mode = Unit {0}

-- the small steps, with the modes in which searches are asked for
pub record SmallSteps (Leaves : Agreement → Agreement → List ReportLine → Type 0) (Asks : Mode → Type 0) : Type 0 where
  pub still : (pair : Agreement) → Leaves pair pair []
  pub through : (one two three : Agreement) (lines more : List ReportLine) → Leaves one two lines → Leaves two three more → Leaves one three (lines ++ more)
  pub sends : (pair : Agreement) (search : Option ℕ) (message : List ℕ)
      → Leaves pair (record pair { provider = handed pair.provider pair.consumer_node.search; consumer_node = linked pair.consumer_node search message }) (reported.Sent (name_of pair) message ∷ [])
  pub takes : (pair : Agreement) (message : List ℕ) (rest : List (List ℕ)) → pair.consumer_node.link ≡ message ∷ rest → LeavesTaking Leaves pair (taken_from pair (message ∷ rest))
  pub nothing : (name : List ℕ) (pair : Agreement) → name_of pair ≡ name → Leaves pair pair (reported.Nothing name ∷ [])
  pub cuts : (pair : Agreement) → Leaves pair (given_up pair (copy_of pair.consumer_node)) (reported.Cut (name_of pair) ∷ [])
  pub opens : (mode : Mode) → Asks mode → (pair : Agreement) (answer : Accepted) → LeavesIn Leaves pair (opened_by mode pair answer)
  pub settled : (pair : Agreement) → Leaves pair pair (reported.Settled (name_of pair) (length pair.provider.directory.writes) ∷ [])

-- ---- the name, whatever is taken

abbrev IsNamed : List ℕ → Option (Agreement × ReportLine) → Type 0
IsNamed name None = Unit {0}
IsNamed name (Some first) = name_of first.0 ≡ name

as_named : (name : List ℕ) (pair : Agreement) (rest : List (List ℕ)) (copy : Copy) (found : Came) → name_of pair ≡ name → name_of (taken_as pair rest copy found).0 ≡ name
as_named name pair rest copy came.Staged is = is
as_named name pair rest copy came.Copied is = is
as_named name pair rest copy (came.Stored commit) is = is
as_named name pair rest copy (came.Over code) is = is
as_named name pair rest copy (came.Refused fault) is = is

from_named : (name : List ℕ) (pair : Agreement) (link : List (List ℕ)) → name_of pair ≡ name → IsNamed name (taken_from pair link)
from_named name pair [] is = tt
from_named name pair (message ∷ rest) is = as_named name pair rest (received (copy_of pair.consumer_node) message).0 (received (copy_of pair.consumer_node) message).1 is

module _ (Leaves : Agreement → Agreement → List ReportLine → Type 0) (Asks : Mode → Type 0) (steps : SmallSteps Leaves Asks) where
  lines_leave : (pair after : Agreement) (lines : List ReportLine) (outcome : ExchangeOutcome) → Leaves pair after lines → LeavesIn Leaves after outcome → LeavesIn Leaves pair (after_lines lines outcome)
  lines_leave pair after lines (Ok next) first more = steps.through pair after next.0 lines next.1 first more
  lines_leave pair after lines (Err cause) first more = tt

  -- one part after another
  pub then_leaves : (pair : Agreement) (first : ExchangeOutcome) (next : Agreement → ExchangeOutcome) → LeavesIn Leaves pair first → ((after : Agreement) → LeavesIn Leaves after (next after)) → LeavesIn Leaves pair (and_then first next)
  then_leaves pair (Ok done) next one more = lines_leave pair done.0 done.1 (next done.0) one (more done.0)
  then_leaves pair (Err cause) next one more = tt

  if_leaves : (pair : Agreement) (test : Bool) (one other : ExchangeOutcome) → LeavesIn Leaves pair one → LeavesIn Leaves pair other → LeavesIn Leaves pair (cond test one other)
  if_leaves pair true one other h k = h
  if_leaves pair false one other h k = k

  -- ---- sending

  abbrev LeavesSending : Agreement → Sending → Type 0
  LeavesSending pair (Sends after message) = Leaves pair after (reported.Sent (name_of pair) message ∷ [])
  LeavesSending pair Rests = Unit {0}
  LeavesSending pair Overflows = Unit {0}

  sends_leave : (pair : Agreement) (search : Option ℕ) (message : List ℕ) → LeavesSending pair (sends pair search message)
  sends_leave pair search message = by (fits pair.consumer_node message)
    where
      by : (room : Bool) → LeavesSending pair (cond room (Sends (record pair { provider = handed pair.provider pair.consumer_node.search; consumer_node = linked pair.consumer_node search message }) message) Overflows)
      by true = steps.sends pair search message
      by false = tt

  sending_leaves : (pair : Agreement) (turn : HandOut) → LeavesSending pair (sending_by pair turn)
  sending_leaves pair (Hands whole) = sends_leave pair pair.consumer_node.search (message_octets whole)
  sending_leaves pair (Closes code whole) = sends_leave pair None (message_octets whole)
  sending_leaves pair Waits = tt
  sending_leaves pair Unknown = tt

  one_leaves : (pair : Agreement) → LeavesSending pair (sending pair)
  one_leaves pair = sending_leaves pair (turn_of pair.provider pair.consumer_node.search)

  sent_before_leaves : (pair : Agreement) (next : Agreement → ExchangeOutcome) (found : Sending) → LeavesSending pair found → ((after : Agreement) → LeavesIn Leaves after (next after)) → LeavesIn Leaves pair (sent_before next pair found)
  sent_before_leaves pair next (Sends after message) one more = lines_leave pair after (reported.Sent (name_of pair) message ∷ []) (next after) one (more after)
  sent_before_leaves pair next Rests one more = steps.nothing (name_of pair) pair refl
  sent_before_leaves pair next Overflows one more = tt

  -- messages that are sent
  pub sent_leaves : (count : ℕ) (pair : Agreement) → LeavesIn Leaves pair (sent count pair)
  sent_leaves zero pair = steps.still pair
  sent_leaves (suc count) pair = sent_before_leaves pair (λ after. sent count after) (sending pair) (one_leaves pair) (λ after. sent_leaves count after)

  -- ---- taking

  taken_from_leaves : (pair : Agreement) (link : List (List ℕ)) → pair.consumer_node.link ≡ link → LeavesTaking Leaves pair (taken_from pair link)
  taken_from_leaves pair [] is = tt
  taken_from_leaves pair (message ∷ rest) is = steps.takes pair message rest is

  -- one message that is taken
  pub taking_leaves : (pair : Agreement) → LeavesTaking Leaves pair (taking pair)
  taking_leaves pair = taken_from_leaves pair pair.consumer_node.link refl

  taken_before_leaves : (name : List ℕ) (pair : Agreement) (next : Agreement → Agreement × List ReportLine) (idle : List ReportLine) (found : Option (Agreement × ReportLine)) → LeavesTaking Leaves pair found → IsNamed name found → Leaves pair pair idle
      → ((after : Agreement) → name_of after ≡ name → Leaves after (next after).0 (next after).1) → Leaves pair (taken_before next pair idle found).0 (taken_before next pair idle found).1
  taken_before_leaves name pair next idle None one named none more = none
  taken_before_leaves name pair next idle (Some first) one named none more = steps.through pair first.0 (next first.0).0 (first.1 ∷ []) (next first.0).1 one (more first.0 named)

  taken_some_leaves : (count : ℕ) (name : List ℕ) (idle : List ReportLine) (pair : Agreement) → name_of pair ≡ name → ((p : Agreement) → name_of p ≡ name → Leaves p p idle) → Leaves pair (taken_some count idle pair).0 (taken_some count idle pair).1
  taken_some_leaves zero name idle pair named none = steps.still pair
  taken_some_leaves (suc count) name idle pair named none =
      taken_before_leaves name pair (λ after. taken_some count idle after) idle (taking pair) (taking_leaves pair) (from_named name pair pair.consumer_node.link named) (none pair named)
      (λ after named'. taken_some_leaves count name idle after named' none)

  -- messages that are taken
  pub takes_leave : (count : ℕ) (pair : Agreement) → LeavesIn Leaves pair (takes count pair)
  takes_leave count pair = taken_some_leaves count (name_of pair) (reported.Nothing (name_of pair) ∷ []) pair refl (λ p named. steps.nothing (name_of pair) p named)

  -- ---- cutting and opening

  -- a cut
  pub cut_leaves : (pair : Agreement) → LeavesIn Leaves pair (cut pair)
  cut_leaves pair =
      if_leaves pair (is_busy pair.consumer_node) (Ok (given_up pair (copy_of pair.consumer_node), reported.Cut (name_of pair) ∷ [])) (Ok (pair, reported.Nothing (name_of pair) ∷ [])) (steps.cuts pair) (steps.nothing (name_of pair) pair refl)

  -- a cut of a busy consumer
  pub idle_leaves : (pair : Agreement) → LeavesIn Leaves pair (idle pair)
  idle_leaves pair = if_leaves pair (is_busy pair.consumer_node) (cut pair) (Ok (pair, [])) (cut_leaves pair) (steps.still pair)

  idly_leaves : (mode : Mode) → Asks mode → (pair : Agreement) → LeavesIn Leaves pair (opened_idle mode pair)
  idly_leaves mode asks pair = steps.opens mode asks pair (answer_of mode pair)

  -- an opening
  pub opens_leave : (mode : Mode) → Asks mode → (pair : Agreement) → LeavesIn Leaves pair (opens mode pair)
  opens_leave mode asks pair = then_leaves pair (idle pair) (opened_idle mode) (idle_leaves pair) (idly_leaves mode asks)

  again_leaves : Asks RefreshOnly → (pair : Agreement) → LeavesIn Leaves pair (asked_again pair)
  again_leaves asks pair =
      if_leaves pair (is_required (answer_of RefreshOnly pair)) (and_then (opened_idle RefreshOnly pair) (opened_idle RefreshOnly)) (opened_idle RefreshOnly pair)
      (then_leaves pair (opened_idle RefreshOnly pair) (opened_idle RefreshOnly) (idly_leaves RefreshOnly asks pair) (idly_leaves RefreshOnly asks)) (idly_leaves RefreshOnly asks pair)

  -- ---- settling

  ran_before_leaves : (pair : Agreement) (next : Agreement → ExchangeOutcome) (found : Sending) → LeavesSending pair found → ((after : Agreement) → LeavesIn Leaves after (next after)) → LeavesIn Leaves pair (ran_before next pair found)
  ran_before_leaves pair next (Sends after message) one more =
      lines_leave pair (taken_some 1 [] after).0 (reported.Sent (name_of pair) message ∷ (taken_some 1 [] after).1) (next (taken_some 1 [] after).0)
      (steps.through pair after (taken_some 1 [] after).0 (reported.Sent (name_of pair) message ∷ []) (taken_some 1 [] after).1 one (taken_some_leaves 1 (name_of after) [] after refl (λ p named. steps.still p)))
      (more (taken_some 1 [] after).0)
  ran_before_leaves pair next Rests one more = steps.still pair
  ran_before_leaves pair next Overflows one more = tt

  ran_some_leaves : (count : ℕ) (pair : Agreement) → LeavesIn Leaves pair (ran_some count pair)
  ran_some_leaves zero pair = steps.still pair
  ran_some_leaves (suc count) pair = ran_before_leaves pair (λ after. ran_some count after) (sending pair) (one_leaves pair) (λ after. ran_some_leaves count after)

  runs_leave : (pair : Agreement) → LeavesIn Leaves pair (runs pair)
  runs_leave pair = ran_some_leaves (left_to_send pair pair.consumer_node.search) pair

  drains_leave : (pair : Agreement) → LeavesIn Leaves pair (drains pair)
  drains_leave pair = taken_some_leaves (length pair.consumer_node.link) (name_of pair) [] pair refl (λ p named. steps.still p)

  catching_leaves : Asks RefreshOnly → (pair : Agreement) → LeavesIn Leaves pair (catches_up pair)
  catching_leaves asks pair =
      if_leaves pair (follows_on pair) (Ok (pair, [])) (refreshes pair) (steps.still pair)
      (then_leaves pair (opens_anew pair) runs (then_leaves pair (idle pair) asked_again (idle_leaves pair) (again_leaves asks)) runs_leave)

  -- a settling
  pub settles_leave : Asks RefreshOnly → (pair : Agreement) → LeavesIn Leaves pair (settles pair)
  settles_leave asks pair =
      then_leaves pair (and_then (and_then (drains pair) runs) catches_up) settled_reported
      (then_leaves pair (and_then (drains pair) runs) catches_up (then_leaves pair (drains pair) runs (drains_leave pair) runs_leave) (catching_leaves asks)) steps.settled

  -- ---- cookies

  -- a cookie that is given
  pub sets_cookie_leaves : (text : List ℕ) (pair : Agreement) → LeavesIn Leaves pair (holding pair (Some text)) → LeavesIn Leaves pair (sets_cookie text pair)
  sets_cookie_leaves text pair holds = if_leaves pair (is_later (copy_of pair.consumer_node).cookie text) (Err (LaterCookie (copy_of pair.consumer_node).cookie text)) (holding pair (Some text)) tt holds
