-- A provider of a script: its answers, and the message ID of its searches.
use Rattle.std.proofs.Common.{◌≡◌, ◌≢◌, ◌≤◌, ℕ, Bool, true, false, Option, Some, None, List, [], ◌∷◌, refl, ap, sym, subst, ◌∙◌, arith, eq-eqb, eqb-true}
use Rattle.std.specs.BTreeMap.{insert_entry}
use Rattle.std.specs.Ordering.{nat_cmp}
use Rattle.std.specs.Prelude.{◌==◌, Ok, Err, Result, IfSome}
use Rattle.ldap_constants.specs.declared.result_codes.TheConstants.{OTHER}
use Rattle.directory_writes.specs.Directory.{DirectoryState, judged}
use Rattle.entry_tree.specs.declared.entry.Entry.{Entry}
use Rattle.entry_tree.specs.declared.op.Op.TheVariants.{Commit}
use Rattle.sync_provider.specs.Committing.{commit_refusal}
use Rattle.sync_provider.specs.declared.writing.CommitFault.{CommitFault}
use Rattle.entry_tree.specs.Selection.{search_of}
use Rattle.entry_tree.specs.declared.op.Op.{Op}
use Rattle.entry_tree.specs.declared.op.Write.{Write}
use Rattle.ldap_messages.specs.Whole.{HasSpelling}
use Rattle.sync_messages.specs.Request.{request_of}
use Rattle.sync_messages.specs.declared.fault.SyncFault.{SyncFault}
use Rattle.sync_messages.specs.declared.request.SyncRequest.{SyncRequest}
use Rattle.sync_model.specs.Message.{SyncMessage}
use Rattle.sync_model.specs.Message.SyncMessage.{AddOrModify, Delete, Present, IdSet, NewCookie, RefreshDelete, RefreshPresent, Done, Ignored}
use Rattle.sync_provider.specs.Accepting as accepting
use Rattle.sync_provider.specs.HandingOut.{HandOut, turn_of_message, turn_of_pending, turn_of_found, turn_at, turn_of, search_at, closed, handed_on, after_turn, after_a_turn}
use Rattle.sync_provider.specs.HandingOut.HandOut.{Hands, Closes, Waits, Unknown}
use Rattle.sync_provider.specs.Machine.{ProviderState, each_search_notified, searches_after, judged_by, wrote, after_commit, committed, committed_each}
use Rattle.sync_provider.specs.Queueing.{search_notified}
use Rattle.sync_provider.specs.Placing.{put_back}
use Rattle.sync_provider.specs.Returning.{KeptSearch, snapshot_of}
use Rattle.sync_provider.specs.Search.{SearchState, pending, opening, advanced}
use Rattle.sync_provider.specs.declared.committing.StagedCommit.{StagedCommit}
use Rattle.sync_provider.specs.declared.handed.Handed.{Handed}
use Rattle.sync_provider.specs.declared.handed.Handed.TheVariants as handed
use Rattle.sync_provider.specs.declared.searches.Accepted.{Accepted}
use Rattle.sync_provider.specs.declared.searches.Accepted.TheVariants as accepted
use Rattle.sync_provider.specs.declared.searches.SyncSearch.{SyncSearch}
use Rattle.sync_provider.proofs.Looking.{each-opened, each-closed, each-put_on, each-at}
use Rattle.sync_provider.proofs.SearchNotified.{search_notified_same}
use Rattle.cascade_nodes.specs.Opening.{message_id, answer_to, answer_to_request, after_accepted}
use Rattle.cascade_nodes.specs.Ours.{IsOurs, AreOurs, IsSpelled}

-- ---- acceptance

by_request : (p : ProviderState) (ask : SyncSearch) (request : Result SyncRequest SyncFault) → accepting.answer_to_request p.directory p.searches ask request ≡ answer_to_request p (search_of ask.spec) request
by_request p ask (Err fault) = refl
by_request p ask (Ok request) = refl

-- what answers a search of a script is what the provider answers to it
pub answered : (p : ProviderState) (ask : SyncSearch) (answer : Accepted) → accepting.AnswersAccept answer (accepting.answer_to p.directory p.searches ask) → accepting.AnswersAccept answer (answer_to p (search_of ask.spec) ask.control)
answered p ask answer h = subst (accepting.AnswersAccept answer) (by_request p ask (request_of ask.control)) h

-- after a search of a script is accepted all searches still have its message ID
pub accepted_ours : (p : ProviderState) (ask : SyncSearch) (answer : Accepted) → ask.id ≡ message_id → AreOurs p.searches → AreOurs (accepting.after_answer p.directory p.searches ask answer)
accepted_ours p ask (accepted.Opened number writes) id ours = each-opened IsOurs p.searches number _ ours id
accepted_ours p ask (accepted.Refused code) id ours = ours
accepted_ours p ask accepted.NoMemory id ours = ours

-- the searches after it, which the messages of a script number
pub accepted_state : (p after : ProviderState) (ask : SyncSearch) (answer : Accepted) → ask.id ≡ message_id → after ≡ record p { searches = accepting.after_answer p.directory p.searches ask answer } → after ≡ after_accepted p (search_of ask.spec) ask.control answer
accepted_state p after ask (accepted.Opened number writes) id is =
    is ∙ ap (λ n. record p { searches = insert_entry nat_cmp p.searches number (opening p.directory n (search_of ask.spec) (accepting.start_of_ask p.directory ask) (accepting.persists_of_ask ask)) }) id
accepted_state p after ask (accepted.Refused code) id is = is
accepted_state p after ask accepted.NoMemory id is = is

-- ---- writes

search_notified_ours : (limit : ℕ) (d : DirectoryState) (write : Write) (s : SearchState) → IsOurs s → IsOurs (search_notified limit d write s)
search_notified_ours limit d write s ours = (search_notified_same limit d write s).id ∙ ours

each_ours : (limit : ℕ) (d : DirectoryState) (write : Write) (searches : List (ℕ × SearchState)) → AreOurs searches → AreOurs (each_search_notified limit d write searches)
each_ours limit d write [] ours = tt
each_ours limit d write (search ∷ searches) ours = (search_notified_ours limit d write search.1 ours.0, each_ours limit d write searches ours.1)

after_ours_by : (p : ProviderState) (found : Result Write ℕ) → AreOurs p.searches → AreOurs (searches_after p found)
after_ours_by p (Ok write) ours = each_ours p.queue_limit p.directory write p.searches ours
after_ours_by p (Err code) ours = ours

-- the searches of a provider after a write, or as they were where memory ran out
pub wrote_ours : (p after : ProviderState) (op : Op) (now code : ℕ) → AreOurs p.searches → (code ≢ OTHER → after ≡ wrote p op now) → (code ≡ OTHER → after ≡ p) → AreOurs after.searches
wrote_ours p after op now code ours done starved = by (code == OTHER) refl
  where
    ours_of : (q : ProviderState) → after ≡ q → AreOurs q.searches → AreOurs after.searches
    ours_of q is there = subst (λ (r : ProviderState). AreOurs r.searches) (sym is) there

    by : (full : Bool) → (code == OTHER) ≡ full → AreOurs after.searches
    by true is = ours_of p (starved (eqb-true code OTHER is)) ours
    by false is = ours_of (wrote p op now) (done (λ same. differs is same)) (after_ours_by p (judged_by p.kind p.directory op now) ours)
      where
        differs : (code == OTHER) ≡ false → code ≡ OTHER → ⊥
        differs is same = let hit : (code == OTHER) ≡ true = eq-eqb code OTHER same in cc

-- the searches of a replica after a commit, or as they were where it is refused
committed_ours_by : (p : ProviderState) (op : Op) (now : ℕ) (refusal : Option CommitFault) → AreOurs p.searches → AreOurs (after_commit p op now refusal).searches
committed_ours_by p op now None ours = after_ours_by p (judged p.directory op now) ours
committed_ours_by p op now (Some fault) ours = ours

committed_ours : (p : ProviderState) (puts : List Entry) (drops : List ℕ) (now : ℕ) → AreOurs p.searches → AreOurs (committed p puts drops now).searches
committed_ours p puts drops now ours = committed_ours_by p (Commit puts drops) now (commit_refusal p.kind p.directory puts drops now) ours

-- so they have after some commits
pub each_committed_ours : (p : ProviderState) (commits : List StagedCommit) (now : ℕ) → AreOurs p.searches → AreOurs (committed_each p commits now).searches
each_committed_ours p [] now ours = ours
each_committed_ours p (commit ∷ commits) now ours =
    each_committed_ours (committed p commit.puts commit.drops now) commits now (committed_ours p commit.puts commit.drops now ours)

-- the search of a moment
found_ours : (es : List (ℕ × SearchState)) (number : ℕ) (found : Option SearchState) → search_at es number ≡ found → AreOurs es → IfSome found IsOurs
found_ours es number None at ours = tt
found_ours es number (Some s) at ours = each-at IsOurs es number s ours at

-- the search of a snapshot had it too
pub ours_then : (p : ProviderState) (snapshot : KeptSearch) (number : ℕ) → snapshot ≡ snapshot_of p number → AreOurs p.searches → IfSome snapshot.search IsOurs
ours_then p snapshot number is ours = subst (λ (m : KeptSearch). IfSome m.search IsOurs) (sym is) (found_ours p.searches number (search_at p.searches number) refl ours)

-- the searches once it is back
pub put_back_ours : (es : List (ℕ × SearchState)) (number : ℕ) (found : Option SearchState) → AreOurs es → IfSome found IsOurs → AreOurs (put_back es number found)
put_back_ours es number None ours one = each-closed IsOurs es number ours
put_back_ours es number (Some s) ours one = each-opened IsOurs es number s ours one

-- ---- turns

on_ours : (d : DirectoryState) (es : List (ℕ × SearchState)) (number : ℕ) (found : Option SearchState) → search_at es number ≡ found → AreOurs es → AreOurs (handed_on d es number found)
on_ours d es number None at ours = ours
on_ours d es number (Some s) at ours = each-put_on IsOurs es number (advanced d s) ours (each-at IsOurs es number s ours at)

-- the searches after a turn
after_ours : (d : DirectoryState) (es : List (ℕ × SearchState)) (number : ℕ) (turn : HandOut) → AreOurs es → AreOurs (after_turn d es number turn)
after_ours d es number (Hands message) ours = on_ours d es number (search_at es number) refl ours
after_ours d es number (Closes code message) ours = each-closed IsOurs es number ours
after_ours d es number Waits ours = ours
after_ours d es number Unknown ours = ours

-- so they have after a hand-out
pub turn_ours : (d : DirectoryState) (es : List (ℕ × SearchState)) (number : ℕ) (turn : Option HandOut) → AreOurs es → AreOurs (after_a_turn d es number turn)
turn_ours d es number None ours = ours
turn_ours d es number (Some turn) ours = after_ours d es number turn ours

-- so they have after one of them is closed
pub dropped_ours : (es : List (ℕ × SearchState)) (number : ℕ) → AreOurs es → AreOurs (closed es number)
dropped_ours es number ours = each-closed IsOurs es number ours

-- ---- spellings

abbrev IsSpelledTurn : HandOut → Type 0
IsSpelledTurn (Hands message) = HasSpelling message
IsSpelledTurn (Closes code message) = HasSpelling message
IsSpelledTurn Waits = Unit {0}
IsSpelledTurn Unknown = Unit {0}

of_message : (id : ℕ) (message : SyncMessage) → id ≤ 2147483647 → IsSpelledTurn (turn_of_message id message)
of_message id (AddOrModify adds entry cookie) small = (small, tt)
of_message id (Delete uuid name cookie) small = (small, tt)
of_message id (Present uuid cookie) small = (small, tt)
of_message id (IdSet deletes uuids cookie) small = (small, tt)
of_message id (NewCookie cookie) small = (small, tt)
of_message id (RefreshDelete done cookie) small = (small, tt)
of_message id (RefreshPresent done cookie) small = (small, tt)
of_message id (Done code control) small = (small, tt)
of_message id Ignored small = (small, tt)

of_pending : (id : ℕ) (pending : List SyncMessage) → id ≤ 2147483647 → IsSpelledTurn (turn_of_pending id pending)
of_pending id [] small = tt
of_pending id (message ∷ rest) small = of_message id message small

of_found : (d : DirectoryState) (es : List (ℕ × SearchState)) (number : ℕ) (found : Option SearchState) → search_at es number ≡ found → AreOurs es → IsSpelledTurn (turn_of_found d found)
of_found d es number None at ours = tt
of_found d es number (Some s) at ours =
    let id : s.id ≡ message_id = each-at IsOurs es number s ours at in
    of_pending s.id (pending d s) (omega (arith, id))

turn_spelled : (d : DirectoryState) (es : List (ℕ × SearchState)) (number : ℕ) → AreOurs es → IsSpelledTurn (turn_at d es number)
turn_spelled d es number ours = of_found d es number (search_at es number) refl ours

spelled_as : (turn : HandOut) (found : Handed) → IsSpelledTurn turn → IfSome (turn_of found) (λ there. there ≡ turn) → IsSpelled found
spelled_as turn (handed.Message message) has is = subst IsSpelledTurn (sym is) has
spelled_as turn (handed.Ended code message) has is = subst IsSpelledTurn (sym is) has
spelled_as turn handed.Nothing has is = tt
spelled_as turn handed.NoSuchSearch has is = tt
spelled_as turn handed.NoMemory has is = tt

-- what is handed out of such a search has an encoding
pub spelled : (d : DirectoryState) (es : List (ℕ × SearchState)) (number : ℕ) (found : Handed) → AreOurs es → IfSome (turn_of found) (λ turn. turn ≡ turn_at d es number) → IsSpelled found
spelled d es number found ours is = spelled_as (turn_at d es number) found (turn_spelled d es number ours) is
