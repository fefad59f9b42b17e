-- No part of an event writes to the provider, and the stages that it reports lead from what the consumer held to what it holds.
use Rattle.std.proofs.Common.{◌≡◌, ℕ, Bool, true, false, cond, Option, Some, None, List, [], ◌∷◌, ◌++◌, length, refl, ap, sym, subst, ◌∙◌}
use Rattle.std.specs.Prelude.{Result, Ok, Err, ◌==◌, not, pos, codes}
use Rattle.std.specs.Ordering.{int_eq}
use Rattle.std.proofs.lemmas.Bool.{false≢true}
use Rattle.std.proofs.lemmas.List.Concat.{flat_map-append, flat_map-cons}
use Rattle.entry_tree.specs.Effects.{committed}
use Rattle.entry_tree.specs.Fitting.{is_directory_content}
use Rattle.entry_tree.specs.Selection.{Search, search_of}
use Rattle.entry_tree.specs.declared.entry.Entry.{Entry}
use Rattle.ldap_constants.specs.declared.result_codes.TheConstants.{SUCCESS}
use Rattle.ldap_messages.specs.declared.protocol.Protocol.TheVariants as op
use Rattle.ldap_messages.specs.Operation.{Operation}
use Rattle.ldap_messages.specs.Operation.{Operation as operation}
use Rattle.ldap_messages.specs.Whole.{MessageValue}
use Rattle.ldap_parts.specs.declared.control.Control.{Control}
use Rattle.sync_messages.specs.declared.request.Mode.{Mode}
use Rattle.sync_model.specs.Message.{SyncMessage}
use Rattle.sync_model.specs.Copy.{Commit, Copy, SyncSession, Answer as answer, over, refused}
use Rattle.sync_model.specs.Copy.Fault.{OutOfPlace}
use Rattle.sync_model.specs.Keeping.{Keeps}
use Rattle.sync_model.specs.Within.{limit_fault, refused_by, taken_within}
use Rattle.sync_model.proofs.Keeping.{taking_keeps}
use Rattle.sync_model.proofs.WithoutCookie.{Agrees}
use Rattle.sync_wire.specs.Requesting.{persists}
use Rattle.sync_wire.specs.declared.fault.DecodeFault.{DecodeFault}
use Rattle.sync_consumer.specs.Committing.{stage_in, IsReadyOn}
use Rattle.sync_consumer.specs.Taking.{without_search}
use Rattle.sync_consumer.proofs.Fits.{AnswerFits, Says, taking_fits, says_operation}
use Rattle.sync_consumer.proofs.Naming.{held_allowed}
use Rattle.sync_consumer.proofs.Upholding.{idle_kept, message_held}
use Rattle.sync_provider.specs.declared.searches.Accepted.{Accepted}
use Rattle.sync_provider.specs.declared.searches.Accepted.TheVariants as accepted
use Rattle.cascade_nodes.specs.Commits.{with_stages, AreHeldAfter}
use Rattle.cascade_exchange.specs.declared.exchange.Exchange.{Exchange}
use Rattle.cascade_exchange.specs.declared.exchange.Exchange.TheVariants as goes
use Rattle.cascade_exchange.specs.Exchange.{Agreement, ExchangeOutcome, part_of, fits, name_of, copy_of, handed, linked, sends, given_up, with_received, storing, stored_reported, taken_as, takes, idle, asking, refused_copy, opened_by, opens, holding, with_spec, respecs}
use Rattle.cascade_exchange.specs.Reception.{Came, operation_said, whole_said, came_of, refused_for, received_as, received_by, received_of, received_next, decoded, received, ends_without_cookie, says_end_without_cookie}
use Rattle.cascade_exchange.specs.Reception.{Came as came}
use Rattle.cascade_report.specs.ReportLines.{StoredStage, ReportLine, stage_of, stages_in, stages_of}
use Rattle.cascade_report.specs.ReportLines.{ReportLine as reported}
use Rattle.cascade_exchange.proofs.EachPart.{LeavesIn, AnyMode, SmallSteps, then_leaves, sent_leaves, takes_leave, cut_leaves, idle_leaves, opens_leave, settles_leave, sets_cookie_leaves}
use Rattle.cascade_exchange.proofs.EndsWithoutCookie.{ending_answer, whole_same_end}

-- a copy that holds what it may, with a stage that is ready to take effect
abbrev pub IsTidy : Copy → Type 0
IsTidy copy = IsReadyOn copy.held (stage_in copy.session)

-- ---- what is decoded

-- a tidy copy with the same entries
record IsStill (before after : Copy) : Type 0 where
  tidy : IsTidy after
  held : after.held ≡ before.held

-- a tidy copy with the same entries, or with those that a stage with a cookie leads to
abbrev IsDecoded : Copy → Copy → Came → Type 0
IsDecoded before after came.Staged = IsStill before after
IsDecoded before after (came.Stored commit) = IsTidy after × (committed before.held commit.puts commit.drops ≡ after.held)
IsDecoded before after came.Copied = ⊥
IsDecoded before after (came.Over code) = IsStill before after
IsDecoded before after (came.Refused fault) = IsStill before after

abbrev DecodedIs : Copy → Copy × Came → Type 0
DecodedIs before received' = IsDecoded before received'.0 received'.1

still_itself : (copy : Copy) → IsTidy copy → IsStill copy copy
still_itself copy tidy = record { tidy = tidy; held = refl }

quit : (copy : Copy) → IsTidy copy → IsStill copy (without_search copy)
quit copy tidy = record { tidy = idle_kept copy.held (stage_in copy.session) tidy; held = refl }

by_answer : (no_cookie : Bool) (copy after : Copy) (given' : answer) → no_cookie ≡ false → Agrees no_cookie given' → Keeps copy after given' → AnswerFits copy.held after.held given' → IsTidy copy → IsTidy after → IsDecoded copy after (came_of given')
by_answer no_cookie copy after answer.Staged none agrees keeps fits' tidy now = record { tidy = now; held = keeps.held }
by_answer no_cookie copy after (answer.Stored commit) none agrees keeps fits' tidy now = (now, fits'.1 tidy.held.0)
by_answer no_cookie copy after (answer.Copied commit) none agrees keeps fits' tidy now = absurd (false≢true (sym none ∙ agrees))
by_answer no_cookie copy after (answer.Over code) none agrees keeps fits' tidy now = record { tidy = now; held = ap (λ (c : Copy). c.held) keeps }
by_answer no_cookie copy after (answer.Refused found) none agrees keeps fits' tidy now = record { tidy = now; held = ap (λ (c : Copy). c.held) keeps }

said_is : (id : ℕ) (copy : Copy) (said : Result SyncMessage DecodeFault) → Says said → says_end_without_cookie said ≡ false → IsTidy copy → DecodedIs copy (received_as id copy said)
said_is id copy (Err found) says none tidy = quit copy tidy
said_is id copy (Ok message) says none tidy =
    let fit = taking_fits id copy message says tidy.staged in
    by_answer (ends_without_cookie message) copy (taken_within id copy message).0 (taken_within id copy message).1 none (ending_answer id copy message) (taking_keeps id copy message) fit.1 tidy
    (record { held = message_held id copy message tidy.held; staged = fit.0 })

-- what a message brings is fit
op_says : (persisting : Bool) (controls : List Control) (o : Operation) → Says (operation_said persisting controls o)
op_says persisting controls (operation.entry parts) = says_operation persisting controls (op.SearchResultEntry parts.0 parts.1)
op_says persisting controls (operation.reference parts) = tt
op_says persisting controls (operation.intermediate parts) = says_operation persisting controls (op.IntermediateResponse parts.0 parts.1)
op_says persisting controls (operation.search_done parts) = says_operation persisting controls (op.SearchResultDone parts)
op_says persisting controls (operation.bind parts) = tt
op_says persisting controls (operation.unbind parts) = tt
op_says persisting controls (operation.search parts) = tt
op_says persisting controls (operation.modify parts) = tt
op_says persisting controls (operation.add parts) = tt
op_says persisting controls (operation.delete parts) = tt
op_says persisting controls (operation.rename parts) = tt
op_says persisting controls (operation.compare parts) = tt
op_says persisting controls (operation.abandon parts) = tt
op_says persisting controls (operation.extended parts) = tt
op_says persisting controls (operation.bind_response parts) = tt
op_says persisting controls (operation.modify_response parts) = tt
op_says persisting controls (operation.add_response parts) = tt
op_says persisting controls (operation.delete_response parts) = tt
op_says persisting controls (operation.rename_response parts) = tt
op_says persisting controls (operation.compare_response parts) = tt
op_says persisting controls (operation.extended_response parts) = tt

if_is : (b : Bool) (copy : Copy) (one other : Copy × Came) → DecodedIs copy one → DecodedIs copy other → DecodedIs copy (cond b one other)
if_is true copy one other h k = h
if_is false copy one other h k = k

by_is : (search : Option SyncSession) (copy : Copy) (whole : MessageValue) → says_end_without_cookie (whole_said false whole) ≡ false → IsTidy copy → DecodedIs copy (received_by search copy whole)
by_is None copy whole none tidy = quit copy tidy
by_is (Some session) copy whole none tidy =
    if_is (whole.0 == session.id) copy (received_as whole.0 copy (whole_said session.persisting whole)) (refused_for copy (codes "OutOfPlace"))
    (said_is whole.0 copy (whole_said session.persisting whole) (op_says session.persisting whole.1.1 whole.1.0) (whole_same_end session.persisting whole ∙ none) tidy)
    (quit copy tidy)

next_is : (copy : Copy) (found : Option MessageValue) → IsTidy copy → DecodedIs copy (received_next copy found)
next_is copy None tidy = quit copy tidy
next_is copy (Some whole) tidy = by (says_end_without_cookie (whole_said false whole)) refl
  where
    by : (no_cookie : Bool) → says_end_without_cookie (whole_said false whole) ≡ no_cookie → DecodedIs copy (cond no_cookie (refused_for copy (codes "OutOfPlace")) (received_of copy (Some whole)))
    by true is = quit copy tidy
    by false is = by_is copy.session copy whole is tidy

decoded_is : (copy : Copy) (bytes : List ℕ) → IsTidy copy → DecodedIs copy (received copy bytes)
decoded_is copy bytes tidy = next_is copy (decoded bytes) tidy

-- ---- what is carried from one pair to another

-- a tidy copy, with the entries that these stages lead to
pub record Carries (before after : Copy) (stages : List StoredStage) : Type 0 where
  pub tidy : IsTidy after
  pub can : AreHeldAfter before.held stages
  pub held : after.held ≡ with_stages before.held stages

-- so it is where the first copy is tidy
pub record IsCarried (before after : Agreement) (lines : List ReportLine) : Type 0 where
  pub copy : IsTidy before.consumer_node.consumer.copy → Carries before.consumer_node.consumer.copy after.consumer_node.consumer.copy (stages_of lines)

-- a part that is done leaves of a tidy copy a tidy one, with its stages in effect
abbrev pub CarriedIn : Agreement → ExchangeOutcome → Type 0
CarriedIn before outcome = LeavesIn IsCarried before outcome

with_more : (entries : List Entry) (stages more : List StoredStage) → with_stages entries (stages ++ more) ≡ with_stages (with_stages entries stages) more
with_more entries [] more = refl
with_more entries (stage ∷ stages) more = with_more (committed entries stage.puts stage.drops) stages more

held_more : (entries : List Entry) (stages more : List StoredStage) → AreHeldAfter entries stages → AreHeldAfter (with_stages entries stages) more → AreHeldAfter entries (stages ++ more)
held_more entries [] more first then = then
held_more entries (stage ∷ stages) more first then = (first.0, held_more (committed entries stage.puts stage.drops) stages more first.1 then)

carries_both : (a b c : Copy) (stages more : List StoredStage) → Carries a b stages → Carries b c more → Carries a c (stages ++ more)
carries_both a b c stages more first then = record {
  tidy = then.tidy;
  can = held_more a.held stages more first.can (subst (λ es. AreHeldAfter es more) first.held then.can);
  held = then.held ∙ ap (λ es. with_stages es more) first.held ∙ sym (with_more a.held stages more);
}

both : (a b c : Agreement) (lines more : List ReportLine) → IsCarried a b lines → IsCarried b c more → IsCarried a c (lines ++ more)
both a b c lines more first then = record {
  copy = λ tidy.
      let begun = first.copy tidy in
      subst (Carries a.consumer_node.consumer.copy c.consumer_node.consumer.copy) (sym (flat_map-append stages_in lines more))
      (carries_both a.consumer_node.consumer.copy b.consumer_node.consumer.copy c.consumer_node.consumer.copy (stages_of lines) (stages_of more) begun (then.copy begun.tidy));
}

same : (p : Agreement) → IsCarried p p []
same p = record { copy = λ tidy. record { tidy = tidy; can = tt; held = refl } }

-- with a line of which no stage is reported
quiet : (a b : Agreement) (line : ReportLine) → stages_in line ≡ [] → (IsTidy a.consumer_node.consumer.copy → IsStill a.consumer_node.consumer.copy b.consumer_node.consumer.copy) → IsCarried a b (line ∷ [])
quiet a b line none still = record {
  copy = λ tidy.
      let is = still tidy in
      let stages : stages_of (line ∷ []) ≡ [] = flat_map-cons stages_in line [] ∙ ap (λ s. s ++ []) none in
      subst (Carries a.consumer_node.consumer.copy b.consumer_node.consumer.copy) (sym stages) (record { tidy = is.tidy; can = tt; held = is.held });
}

-- ---- the small steps

sends_carried : (p : Agreement) (search : Option ℕ) (message : List ℕ)
    → IsCarried p (record p { provider = handed p.provider p.consumer_node.search; consumer_node = linked p.consumer_node search message }) (reported.Sent (name_of p) message ∷ [])
sends_carried p search message =
    quiet p (record p { provider = handed p.provider p.consumer_node.search; consumer_node = linked p.consumer_node search message }) (reported.Sent (name_of p) message) refl (still_itself p.consumer_node.consumer.copy)

quietly : (p : Agreement) (line : ReportLine) → stages_in line ≡ [] → IsCarried p p (line ∷ [])
quietly p line none = quiet p p line none (still_itself p.consumer_node.consumer.copy)

up_carried : (p : Agreement) (copy : Copy) (line : ReportLine) → stages_in line ≡ [] → (IsTidy p.consumer_node.consumer.copy → IsStill p.consumer_node.consumer.copy copy) → IsCarried p (given_up p copy) (line ∷ [])
up_carried p copy line none still =
    quiet p (given_up p copy) line none (λ tidy. let is = still tidy in record { tidy = (quit copy is.tidy).tidy; held = is.held })

stored_carried : (p : Agreement) (rest : List (List ℕ)) (copy : Copy) (commit : Commit) → (IsTidy p.consumer_node.consumer.copy → IsDecoded p.consumer_node.consumer.copy copy (came.Stored commit))
    → IsCarried p (with_received p rest copy) (stored_reported p copy commit ∷ [])
stored_carried p rest copy commit stored = record {
  copy = λ tidy.
      let is = stored tidy in
      let stage = stage_of (storing p copy commit) in
      let stages : stages_of (stored_reported p copy commit ∷ []) ≡ stage ∷ [] = flat_map-cons stages_in (stored_reported p copy commit) [] in
      let kept : Carries p.consumer_node.consumer.copy copy (stage ∷ []) =
      record { tidy = is.0; can = (ap is_directory_content is.1 ∙ held_allowed copy.held is.0.held.1, tt); held = sym is.1 } in
      subst (Carries p.consumer_node.consumer.copy copy) (sym stages) kept;
}

as_carried : (p : Agreement) (rest : List (List ℕ)) (copy : Copy) (found : Came) → (IsTidy p.consumer_node.consumer.copy → IsDecoded p.consumer_node.consumer.copy copy found)
    → IsCarried p (taken_as p rest copy found).0 ((taken_as p rest copy found).1 ∷ [])
as_carried p rest copy came.Staged is = quiet p (with_received p rest copy) (reported.Taken (name_of p)) refl is
as_carried p rest copy (came.Stored commit) is = stored_carried p rest copy commit is
as_carried p rest copy came.Copied is = record { copy = λ tidy. absurd (is tidy) }
as_carried p rest copy (came.Over code) is = quiet p (with_received p rest copy) (reported.Ended (name_of p) code) refl is
as_carried p rest copy (came.Refused fault) is = up_carried p copy (reported.Faulted (name_of p) fault) refl is

asked_still : (stays : Bool) (copy : Copy) → IsTidy copy → IsStill copy (asking stays copy)
asked_still stays copy tidy = record { tidy = idle_kept copy.held (stage_in copy.session) tidy; held = refl }

-- the end of a search that is refused
over_still : (stays : Bool) (copy : Copy) (code : ℕ) → IsTidy copy → IsStill copy (refused_copy (asking stays copy) code)
over_still true copy code tidy = record { tidy = idle_kept copy.held (stage_in copy.session) tidy; held = refl }
over_still false copy code tidy = by (not (int_eq (pos code) (pos SUCCESS)))
  where
    outcome : Bool → Copy × answer
    outcome fails = cond fails (over (asking false copy) (pos code)) (refused (asking false copy) OutOfPlace)

    ends : Bool → Copy
    ends fails = (refused_by (limit_fault false (outcome fails).0 (outcome fails).1) (asking false copy) (outcome fails)).0

    by : (fails : Bool) → IsStill copy (ends fails)
    by true = record { tidy = idle_kept copy.held (stage_in copy.session) tidy; held = refl }
    by false = record { tidy = idle_kept copy.held (stage_in copy.session) tidy; held = refl }

opened_carried : (mode : Mode) (p : Agreement) (answer' : Accepted) → CarriedIn p (opened_by mode p answer')
opened_carried mode p (accepted.Opened number writes) = quiet p _ (reported.Opened (name_of p) (persists mode) writes) refl (asked_still (persists mode) p.consumer_node.consumer.copy)
opened_carried mode p (accepted.Refused code) = quiet p _ (reported.Refused (name_of p) (persists mode) code) refl (over_still (persists mode) p.consumer_node.consumer.copy code)
opened_carried mode p accepted.NoMemory = same p

steps_carry : SmallSteps IsCarried AnyMode
steps_carry = record {
  still = same;
  through = both;
  sends = sends_carried;
  takes = λ p message rest is. as_carried p rest (received (copy_of p.consumer_node) message).0 (received (copy_of p.consumer_node) message).1 (decoded_is (copy_of p.consumer_node) message);
  nothing = λ name p named. quietly p (reported.Nothing name) refl;
  cuts = λ p. up_carried p (copy_of p.consumer_node) (reported.Cut (name_of p)) refl (still_itself p.consumer_node.consumer.copy);
  opens = λ mode asked p answer'. opened_carried mode p answer';
  settled = λ p. quietly p (reported.Settled (name_of p) (length p.provider.directory.writes)) refl;
}

-- ---- cookies and wishes

holding_carried : (p : Agreement) (cookie : Option (List ℕ)) → CarriedIn p (holding p cookie)
holding_carried p cookie = quiet p _ (reported.Holds (name_of p) cookie) refl (λ tidy. record { tidy = tidy; held = refl })

with_spec_carried : (search : Search) (p : Agreement) → CarriedIn p (with_spec search p)
with_spec_carried search p = quiet p _ (reported.Holds (name_of p) None) refl (λ tidy. record { tidy = idle_kept p.consumer_node.consumer.copy.held (stage_in p.consumer_node.consumer.copy.session) tidy; held = refl })

-- so does another wish
pub respecs_carried : (search : Search) (p : Agreement) → CarriedIn p (respecs search p)
respecs_carried search p = then_leaves IsCarried AnyMode steps_carry p (idle p) (with_spec search) (idle_leaves IsCarried AnyMode steps_carry p) (with_spec_carried search)

-- ---- all parts

-- so does each exchange
pub part_carried : (what : Exchange) (p : Agreement) → CarriedIn p (part_of what p)
part_carried (goes.Open mode) p = opens_leave IsCarried AnyMode steps_carry mode tt p
part_carried (goes.Send count) p = sent_leaves IsCarried AnyMode steps_carry count p
part_carried (goes.Take count) p = takes_leave IsCarried AnyMode steps_carry count p
part_carried goes.Cut p = cut_leaves IsCarried AnyMode steps_carry p
part_carried goes.Settle p = settles_leave IsCarried AnyMode steps_carry tt p
part_carried goes.LoseCookie p = holding_carried p None
part_carried (goes.SetCookie text) p = sets_cookie_leaves IsCarried AnyMode steps_carry text p (holding_carried p (Some text))
part_carried goes.CutIfBusy p = idle_leaves IsCarried AnyMode steps_carry p
part_carried (goes.Respec spec) p = respecs_carried (search_of spec) p
