-- What a message stages is ready to take effect, where the entry that it brings is fit, and what takes effect is a commit.
use Rattle.std.proofs.Common.{◌≡◌, ℕ, Bool, true, false, not, ◌&&◌, cond, List, [], ◌∷◌, Option, Some, None, Result, Ok, Err, refl, Ordering, Less, Equal, Greater, nat_cmp}
use Rattle.std.specs.Prelude.{⊤, pos, ◌||◌, ◌==◌, find}
use Rattle.std.specs.List.{list_all, cons_option}
use Rattle.std.specs.Ordering.{int_eq, match_ordering}
use Rattle.std.proofs.lemmas.Bool.{and_parts, and_from, eq-eqb}
use Rattle.ldap_constants.specs.declared.result_codes.TheConstants.{SUCCESS}
use Rattle.entry_tree.specs.declared.entry.Entry.{Entry}
use Rattle.entry_tree.specs.Effects.{committed}
use Rattle.entry_tree.specs.Fitting.{is_within_entry_limit}
use Rattle.entry_tree.specs.Sound.{is_sound_put}
use Rattle.entry_tree.specs.State.{ascends}
use Rattle.ldap_messages.specs.declared.protocol.Protocol.{Protocol}
use Rattle.ldap_messages.specs.declared.protocol.Protocol.TheVariants as op
use Rattle.ldap_parts.specs.declared.control.Control.{Control}
use Rattle.schema_rules.specs.declared.raw.RawAttribute.{RawAttribute}
use Rattle.sync_messages.specs.declared.info.SyncInfo.{SyncInfo}
use Rattle.sync_messages.specs.declared.info.SyncInfo.TheVariants as info
use Rattle.sync_messages.specs.declared.state.State.{State}
use Rattle.sync_messages.specs.declared.state.State.TheVariants as state
use Rattle.sync_messages.specs.declared.state.SyncState.{SyncState}
use Rattle.sync_model.specs.Message.{CookieText, SyncMessage}
use Rattle.sync_model.specs.Message.SyncMessage.{AddOrModify, Delete, Present, IdSet, NewCookie, RefreshDelete, RefreshPresent, Done, Ignored}
use Rattle.sync_model.specs.Copy as model
use Rattle.sync_model.specs.Copy.{Answer as answer, Fault as fault, Copy, SyncSession, Stage, staged, all_dropped, effected, puts_of, unmentioned, is_known, refused, goes_on, with_cookie, refreshed, over, named_unless, taken_names, ends_phase, persists_on, taken_info, taken_done, taken_in, taken}
use Rattle.sync_model.specs.Within.{puts_entry, limit_fault, refused_by, taken_within}
use Rattle.sync_wire.specs.Decoding.{is_present, contents, entry_said, info_said, is_sync_info, control_said, operation_said}
use Rattle.sync_wire.specs.Refusals.{and_then, on_ok}
use Rattle.sync_wire.specs.Values.{sync_state, sync_done, sync_info}
use Rattle.sync_wire.specs.WireEntry.{checked_uuid, entry_of}
use Rattle.sync_wire.specs.declared.fault.DecodeFault.{DecodeFault}
use Rattle.sync_wire.specs.declared.fault.DecodeFault.TheVariants.{OutOfPlace}
use Rattle.sync_consumer.specs.Committing.{is_of, stage_in, IsReady}
use Rattle.sync_consumer.specs.Taking.{AreFit}
use Rattle.sync_consumer.proofs.Committing.{own-staged, stage_commits}
use Rattle.sync_consumer.proofs.Keyed.{rises-staged_each}
use Rattle.sync_consumer.proofs.Wired.{IsFit, EntryFits, entry_fits}

-- ---- lists of fit entries

abbrev pub FitOption : Option Entry → Type 0
FitOption None = ⊤
FitOption (Some entry) = IsFit entry

none_fit : AreFit []
none_fit = record { sound = refl; light = refl }

more_fit : (o : Option Entry) (entries : List Entry) → FitOption o → AreFit entries → AreFit (cons_option o entries)
more_fit None entries fit rest = rest
more_fit (Some entry) entries fit rest = record {
  sound = and_from (is_sound_put entry) (list_all is_sound_put entries) fit.sound rest.sound;
  light = and_from (is_within_entry_limit entry) (list_all is_within_entry_limit entries) fit.light rest.light;
}

rest_fit : (o : Option Entry) (entries : List Entry) → AreFit (cons_option o entries) → FitOption o × AreFit entries
rest_fit None entries all = (tt, all)
rest_fit (Some entry) entries all =
    let sound = and_parts (is_sound_put entry) (list_all is_sound_put entries) all.sound in
    let light = and_parts (is_within_entry_limit entry) (list_all is_within_entry_limit entries) all.light in
    (record { sound = sound.0; light = light.0 }, record { sound = sound.1; light = light.1 })

-- ---- stages

abbrev PutsAreFit : Stage → Type 0
PutsAreFit stage = AreFit (puts_of stage)

puts_fit : (stage : Stage) (uuid : ℕ) (change : Option Entry) → FitOption change → PutsAreFit stage → PutsAreFit (staged uuid change stage)
puts_fit [] uuid change fit all = more_fit change [] fit none_fit
puts_fit (c ∷ stage) uuid change fit all =
    let parts = rest_fit c.1 (puts_of stage) all in
    by (nat_cmp uuid c.0) parts.1 (more_fit c.1 (puts_of (staged uuid change stage)) parts.0 (puts_fit stage uuid change fit parts.1))
  where
    by : (o : Ordering) → PutsAreFit stage → PutsAreFit (c ∷ staged uuid change stage)
        → PutsAreFit (match_ordering o ((uuid, change) ∷ c ∷ stage) ((c.0, change) ∷ stage) (c ∷ staged uuid change stage))
    by Less rest more = more_fit change (puts_of (c ∷ stage)) fit all
    by Equal rest more = more_fit change (puts_of stage) fit rest
    by Greater rest more = more

-- the empty stage is ready
pub none_ready : IsReady []
none_ready = record { ordered = refl; own = refl; fit = none_fit }

staged_ready : (stage : Stage) (uuid : ℕ) (change : Option Entry) → is_of uuid change ≡ true → FitOption change → IsReady stage → IsReady (staged uuid change stage)
staged_ready stage uuid change own fit all = record {
  ordered = rises-staged_each stage uuid change all.ordered;
  own = own-staged stage uuid change own all.own;
  fit = puts_fit stage uuid change fit all.fit;
}

dropped_ready : (uuids : List ℕ) (stage : Stage) → IsReady stage → IsReady (all_dropped stage uuids)
dropped_ready [] stage all = all
dropped_ready (uuid ∷ uuids) stage all = dropped_ready uuids (staged uuid None stage) (staged_ready stage uuid None refl tt all)

-- ---- outcomes

-- what a commit puts is fit, and it leaves these entries
abbrev pub Leaves : List Entry → List Entry → model.Commit → Type 0
Leaves before after commit = AreFit commit.puts × (ascends before ≡ true → committed before commit.puts commit.drops ≡ after)

-- what an answer puts and drops is a commit from the entries before to those after
abbrev pub AnswerFits : List Entry → List Entry → model.Answer → Type 0
AnswerFits before after answer.Staged = ⊤
AnswerFits before after (answer.Stored commit) = Leaves before after commit
AnswerFits before after (answer.Copied commit) = Leaves before after commit
AnswerFits before after (answer.Over code) = ⊤
AnswerFits before after (answer.Refused found) = ⊤

-- what is staged, and what took effect
abbrev pub Fits : Copy → Copy × model.Answer → Type 0
Fits before outcome = IsReady (stage_in outcome.0.session) × AnswerFits before.held outcome.0.held outcome.1

-- where a stage takes effect
took_effect : (held : List Entry) (stage : Stage) (cookie : Option CookieText) → IsReady stage → Leaves held (effected held stage) (model.commit_of stage cookie)
took_effect held stage cookie all = (all.fit, stage_commits held stage all.ordered all.own)

either : (b : Bool) (before : Copy) (one other : Copy × model.Answer) → Fits before one → Fits before other → Fits before (cond b one other)
either true before one other fit fit' = fit
either false before one other fit fit' = fit'

with_cookie_fits : (copy : Copy) (session : SyncSession) (cookie : Option CookieText) → IsReady session.stage → Fits copy (with_cookie copy session cookie)
with_cookie_fits copy session None all = (all, tt)
with_cookie_fits copy session (Some cookie) all = either session.persisting copy _ (goes_on copy session) (none_ready, took_effect copy.held session.stage (Some cookie) all) (all, tt)

refreshed_fits : (copy : Copy) (session : SyncSession) (cookie : Option CookieText) (next : Option SyncSession)
    → IsReady session.stage → IsReady (stage_in next) → Fits copy (refreshed copy session cookie next)
refreshed_fits copy session None next all none = (none, took_effect copy.held session.stage None all)
refreshed_fits copy session (Some cookie) next all none = (none, took_effect copy.held session.stage (Some cookie) all)

named_fits : (copy : Copy) (session : SyncSession) (uuids : List ℕ) (unknown : Option ℕ) → IsReady session.stage → Fits copy (named_unless unknown copy session uuids)
named_fits copy session uuids None all = (all, tt)
named_fits copy session uuids (Some uuid) all = (none_ready, tt)

names_fit : (copy : Copy) (session : SyncSession) (uuids : List ℕ) → IsReady session.stage → Fits copy (taken_names copy session uuids)
names_fit copy session uuids all =
    let unknown : Option ℕ = find (λ uuid. not (is_known copy.held session.stage uuid)) uuids in
    either session.persisting copy (refused copy fault.OutOfPlace) (named_unless unknown copy session uuids) (none_ready, tt) (named_fits copy session uuids unknown all)

ended_ready : (held : List Entry) (session : SyncSession) (deletes : Bool) → IsReady session.stage → IsReady (ends_phase held session deletes).stage
ended_ready held session true all = all
ended_ready held session false all = dropped_ready (unmentioned session.named session.stage held) session.stage all

info_fits : (copy : Copy) (session : SyncSession) (deletes done : Bool) (cookie : Option CookieText) → IsReady session.stage → Fits copy (taken_info copy session deletes done cookie)
info_fits copy session deletes done cookie all =
    let now : SyncSession = ends_phase copy.held session deletes in
    let ready : IsReady now.stage = ended_ready copy.held session deletes all in
    either (session.persisting || ((done && not session.persists) || (not deletes && session.ended))) copy (refused copy fault.OutOfPlace)
    (cond done (refreshed copy now cookie (Some (persists_on now))) (goes_on copy now))
    (none_ready, tt)
    (either done copy (refreshed copy now cookie (Some (persists_on now))) (goes_on copy now) (refreshed_fits copy now cookie (Some (persists_on now)) ready none_ready) (ready, tt))

done_fits : (copy : Copy) (session : SyncSession) (control : Option (Bool × Option CookieText)) → IsReady session.stage → Fits copy (taken_done copy session control)
done_fits copy session None all = (none_ready, tt)
done_fits copy session (Some control) all =
    either (not control.0 && session.ended) copy (refused copy fault.OutOfPlace) (refreshed copy (ends_phase copy.held session control.0) control.1 None)
    (none_ready, tt) (refreshed_fits copy (ends_phase copy.held session control.0) control.1 None (ended_ready copy.held session control.0 all) none_ready)

-- ---- messages

-- the entry that a message brings is fit
abbrev pub Brings : SyncMessage → Type 0
Brings (AddOrModify adds entry cookie) = IsFit entry
Brings (Delete uuid name cookie) = ⊤
Brings (Present uuid cookie) = ⊤
Brings (IdSet deletes uuids cookie) = ⊤
Brings (NewCookie cookie) = ⊤
Brings (RefreshDelete done cookie) = ⊤
Brings (RefreshPresent done cookie) = ⊤
Brings (Done code control) = ⊤
Brings Ignored = ⊤

in_fits : (copy : Copy) (session : SyncSession) (message : SyncMessage) → Brings message → IsReady session.stage → Fits copy (taken_in copy session message)
in_fits copy session (AddOrModify adds entry cookie) fit all =
    with_cookie_fits copy (record session { stage = staged entry.uuid (Some entry) session.stage }) cookie (staged_ready session.stage entry.uuid (Some entry) (eq-eqb entry.uuid entry.uuid refl) fit all)
in_fits copy session (Delete uuid name cookie) fit all =
    with_cookie_fits copy (record session { stage = staged uuid None session.stage }) cookie (staged_ready session.stage uuid None refl tt all)
in_fits copy session (Present uuid cookie) fit all = names_fit copy session (uuid ∷ []) all
in_fits copy session (IdSet deletes uuids cookie) fit all =
    let dropped : SyncSession = record session { stage = all_dropped session.stage uuids } in
    either deletes copy (with_cookie copy dropped cookie) (taken_names copy session uuids)
    (with_cookie_fits copy dropped cookie (dropped_ready uuids session.stage all)) (names_fit copy session uuids all)
in_fits copy session (NewCookie cookie) fit all = with_cookie_fits copy session (Some cookie) all
in_fits copy session (RefreshDelete done cookie) fit all = info_fits copy session true done cookie all
in_fits copy session (RefreshPresent done cookie) fit all = info_fits copy session false done cookie all
in_fits copy session (Done code control) fit all =
    either (session.persists || not (int_eq code (pos SUCCESS))) copy (over copy code) (taken_done copy session control) (none_ready, tt) (done_fits copy session control all)
in_fits copy session Ignored fit all = (all, tt)

by_fits : (search : Option SyncSession) (id : ℕ) (copy : Copy) (message : SyncMessage) → Brings message → IsReady (stage_in search) → Fits copy (model.taken_by search id copy message)
by_fits None id copy message fit all = (none_ready, tt)
by_fits (Some session) id copy message fit all =
    either (id == session.id) copy (taken_in copy session message) (refused copy fault.OutOfPlace) (in_fits copy session message fit all) (none_ready, tt)

limits_fit : (copy : Copy) (found : Option model.Fault) (outcome : Copy × model.Answer) → Fits copy outcome → Fits copy (refused_by found copy outcome)
limits_fit copy None outcome fit = fit
limits_fit copy (Some found) outcome fit = (none_ready, tt)

-- what came of a message fits, where the stage was ready
pub taking_fits : (id : ℕ) (copy : Copy) (message : SyncMessage) → Brings message → IsReady (stage_in copy.session) → Fits copy (taken_within id copy message)
taking_fits id copy message fit all =
    limits_fit copy (limit_fault (puts_entry message) (taken id copy message).0 (taken id copy message).1) (taken id copy message) (by_fits copy.session id copy message fit all)

-- ---- what is decoded

-- what is said, if anything, brings no entry that is not fit
abbrev pub Says : Result SyncMessage DecodeFault → Type 0
Says (Ok message) = Brings message
Says (Err found) = ⊤

says_then : {X : Type 0} (first : Result X DecodeFault) (next : X → Result SyncMessage DecodeFault) → ((x : X) → Says (next x)) → Says (and_then first next)
says_then (Ok x) next fits = fits x
says_then (Err found) next fits = tt

says_ok : {X : Type 0} (f : X → SyncMessage) (first : Result X DecodeFault) → ((x : X) → Brings (f x)) → Says (on_ok f first)
says_ok f (Ok x) fits = fits x
says_ok f (Err found) fits = tt

says_put : (adds : Bool) (cookie : Option CookieText) (found : Result Entry DecodeFault) → EntryFits found → Says (on_ok (λ entry. AddOrModify adds entry cookie) found)
says_put adds cookie (Ok entry) fit = fit
says_put adds cookie (Err found) fit = tt

says_if : (b : Bool) (one other : Result SyncMessage DecodeFault) → Says one → Says other → Says (cond b one other)
says_if true one other fit fit' = fit
says_if false one other fit fit' = fit'

says_contents : (s : State) (uuid : ℕ) (cookie : Option CookieText) (name : List ℕ) (raws : List RawAttribute) → Says (contents s uuid cookie name raws)
says_contents state.Present uuid cookie name raws = tt
says_contents state.Add uuid cookie name raws = says_put true cookie (entry_of uuid name raws) (entry_fits uuid name raws)
says_contents state.Modify uuid cookie name raws = says_put false cookie (entry_of uuid name raws) (entry_fits uuid name raws)
says_contents state.Delete uuid cookie name raws = tt

says_entry : (persisting : Bool) (name : List ℕ) (raws : List RawAttribute) (sync : SyncState) → Says (entry_said persisting name raws sync)
says_entry persisting name raws sync =
    let rest : Unit {0} → Result SyncMessage DecodeFault = λ checked. contents sync.state sync.uuid sync.cookie name raws in
    says_if (persisting && is_present sync.state) (Err OutOfPlace) (and_then (checked_uuid sync.uuid raws) rest) tt
    (says_then (checked_uuid sync.uuid raws) rest (λ checked. says_contents sync.state sync.uuid sync.cookie name raws))

says_info : (found : SyncInfo) → Brings (info_said found)
says_info (info.NewCookie cookie) = tt
says_info (info.RefreshDelete cookie done) = tt
says_info (info.RefreshPresent cookie done) = tt
says_info (info.IdSet cookie deletes uuids) = tt

-- what an operation means of an entry is sound
pub says_operation : (persisting : Bool) (controls : List Control) (operation : Protocol) → Says (operation_said persisting controls operation)
says_operation persisting controls (op.SearchResultEntry name raws) =
    says_then (sync_state controls) (entry_said persisting name raws) (λ sync. says_entry persisting name raws sync)
says_operation persisting controls (op.SearchResultReference uris) = tt
says_operation persisting controls (op.IntermediateResponse name value) =
    says_if (is_sync_info name) (on_ok info_said (sync_info value)) (Ok Ignored) (says_ok info_said (sync_info value) says_info) tt
says_operation persisting controls (op.SearchResultDone result) = says_ok (λ control. Done result.code (control_said control)) (sync_done controls) (λ control. tt)
says_operation persisting controls (op.BindRequest version name authentication) = tt
says_operation persisting controls (op.BindResponse result sasl) = tt
says_operation persisting controls op.UnbindRequest = tt
says_operation persisting controls (op.SearchRequest asked) = tt
says_operation persisting controls (op.Write change) = tt
says_operation persisting controls (op.ModifyResponse result) = tt
says_operation persisting controls (op.AddResponse result) = tt
says_operation persisting controls (op.DelResponse result) = tt
says_operation persisting controls (op.ModifyDnResponse result) = tt
says_operation persisting controls (op.CompareRequest entry name value) = tt
says_operation persisting controls (op.CompareResponse result) = tt
says_operation persisting controls (op.AbandonRequest id) = tt
says_operation persisting controls (op.ExtendedRequest name value) = tt
says_operation persisting controls (op.ExtendedResponse result name value) = tt
