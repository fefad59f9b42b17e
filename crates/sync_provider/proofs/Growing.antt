-- What a search is to send, over a history that grows.
use Rattle.std.proofs.Common.{◌≡◌, ℕ, zero, suc, ◌+◌, Bool, true, false, cond, List, [], ◌∷◌, ◌++◌, refl, sym, ap, ◌∙◌, subst, append_assoc}
use Rattle.std.specs.Prelude.{Option, Some, None, option_map, Result, Ok, Err, flat_map}
use Rattle.std.specs.BTreeMap.{is_at}
use Rattle.std.specs.Ordering.{nat_cmp}
use Rattle.std.proofs.lemmas.Map.Made.{lookup-map_values}
use Rattle.entry_tree.specs.declared.op.Op.TheVariants.{Commit}
use Rattle.entry_tree.specs.declared.op.Write.{Write}
use Rattle.entry_tree.specs.declared.entry.Entry.{Entry}
use Rattle.sync_model.specs.Message.{CookieText, SyncMessage}
use Rattle.sync_model.specs.Message.SyncMessage.{AddOrModify, Delete, Present, IdSet, NewCookie, RefreshDelete, RefreshPresent, Done, Ignored}
use Rattle.sync_model.specs.Stream.{SyncOperation, Start, RefreshPiece, WalkDecision, content_after, is_delete_phase, decide_piece, decide_late, last_mark, late_uuids, gathered, end_of, after_walk, refresh, notified, notified_all, group, later, stream}
use Rattle.sync_model.proofs.Gather.{Each, each_weaker, IsPart, each-append, each-gathered}
use Rattle.sync_model.proofs.NextMessages.{any_decision}
use Rattle.entry_tree.specs.declared.touched.EntryChange.{EntryChange}
use Rattle.entry_tree.specs.Touched.{touched}
use Rattle.directory_writes.specs.Directory.{DirectoryState, judged, with_write, with_judged}
use Rattle.sync_provider.specs.HandingOut.{search_at}
use Rattle.sync_provider.specs.Law.{BeginsWith, refresh_at}
use Rattle.sync_provider.specs.Committing.{commit_refusal}
use Rattle.sync_provider.specs.Machine.{ProviderState, ProviderCall, each_search_notified, judged_by, called, run}
use Rattle.sync_provider.specs.Machine.ProviderCall.{Writes, Commits, Accepts, HandsOut, Drops, SetsLogLimit, SetsQueueLimit}
use Rattle.sync_provider.specs.Queueing.{search_notified}
use Rattle.sync_provider.specs.Search.{SearchState, session_of, sliced_from, is_end}
use Rattle.sync_provider.proofs.Commits.{commit_case}
use Rattle.sync_provider.proofs.SearchNotified.{IsSame}

-- ---- histories that begin with a directory's writes

-- writes that begin with one more begin with those before it
pub begins_before : (d : DirectoryState) (w : Write) (writes : List Write) → BeginsWith (with_write d w) writes → BeginsWith d writes
begins_before d w writes begins = (w ∷ begins.0, sym (append_assoc d.writes (w ∷ []) begins.0) ∙ begins.1)

judged_begins : (d : DirectoryState) (outcome : Result Write ℕ) (writes : List Write) → BeginsWith (with_judged d outcome) writes → BeginsWith d writes
judged_begins d (Ok w) writes begins = begins_before d w writes begins
judged_begins d (Err code) writes begins = begins

-- what begins with the writes after a call begins with those before it
pub called_begins : (p : ProviderState) (call : ProviderCall) (writes : List Write) → BeginsWith (called p call).directory writes → BeginsWith p.directory writes
called_begins p (Writes op now) writes begins = judged_begins p.directory (judged_by p.kind p.directory op now) writes begins
called_begins p (Commits puts drops now) writes begins =
    commit_case (λ q. BeginsWith q.directory writes → BeginsWith p.directory writes) p (Commit puts drops) now (commit_refusal p.kind p.directory puts drops now)
    (λ same. same) (judged_begins p.directory (judged p.directory (Commit puts drops) now) writes) begins
called_begins p (Accepts ask) writes begins = begins
called_begins p (HandsOut number) writes begins = begins
called_begins p (Drops number) writes begins = begins
called_begins p (SetsLogLimit limit) writes begins = begins
called_begins p (SetsQueueLimit limit) writes begins = begins

-- so they do after some calls
pub run_begins : (calls : List ProviderCall) (p : ProviderState) (writes : List Write) → BeginsWith (run p calls).directory writes → BeginsWith p.directory writes
run_begins [] p writes begins = begins
run_begins (call ∷ calls) p writes begins = called_begins p call writes (run_begins calls (called p call) writes begins)

-- ---- the same search later

-- its refresh is the same over each history
pub refresh_like : (d0 : DirectoryState) (s0 : SearchState) (d : DirectoryState) (s : SearchState) → d.sid ≡ d0.sid → d.history ≡ d0.history → IsSame s0 s → (writes : List Write)
    → refresh_at d0 s0 writes ≡ refresh_at d s writes
refresh_like d0 s0 d s sid history same writes i =
    sliced_from (session_of (sym same.persists i) (sym sid i) (sym history i) (sym same.spec i) writes) (sym same.start i) (sym same.accepted i)

-- ---- a search among the open ones after a write

-- under its number an open search is after a write what the write makes of it
pub search_notified_at : (limit : ℕ) (d : DirectoryState) (w : Write) (es : List (ℕ × SearchState)) (number : ℕ) (s : SearchState) → search_at es number ≡ Some s
    → search_at (each_search_notified limit d w es) number ≡ Some (search_notified limit d w s)
search_notified_at limit d w es number s found =
    lookup-map_values (search_notified limit d w) (is_at (nat_cmp number)) es ∙ ap (option_map (search_notified limit d w)) found

-- ---- a search that goes on is sent no SearchResultDone

abbrev pub GoesOn : SyncMessage → Type 0
GoesOn m = is_end m ≡ false

-- an entry and a set of names are no end
pub part_goes : (deletes : Bool) (m : SyncMessage) → IsPart deletes (λ entry. Unit {0}) (λ uuid. Unit {0}) m → GoesOn m
part_goes deletes (AddOrModify adds entry cookie) is = refl
part_goes deletes (IdSet d uuids cookie) is = refl
part_goes deletes (Delete uuid name cookie) is = absurd is
part_goes deletes (Present uuid cookie) is = absurd is
part_goes deletes (NewCookie cookie) is = absurd is
part_goes deletes (RefreshDelete done cookie) is = absurd is
part_goes deletes (RefreshPresent done cookie) is = absurd is
part_goes deletes (Done code control) is = absurd is
part_goes deletes Ignored is = absurd is

-- nor is the end of the refresh of a search that goes on after it
end_goes : (deletes : Bool) (cookie : CookieText) → GoesOn (end_of true deletes cookie)
end_goes true cookie = refl
end_goes false cookie = refl

-- nor is any message of some decisions
pub gathered_goes : (deletes : Bool) (decisions : List WalkDecision) → Each GoesOn (gathered deletes decisions)
gathered_goes deletes decisions =
    each_weaker (IsPart deletes (λ entry. Unit {0}) (λ uuid. Unit {0})) GoesOn (gathered deletes decisions) (part_goes deletes)
    (each-gathered deletes (λ entry. Unit {0}) (λ uuid. Unit {0}) decisions (any_decision decisions))

-- a break of the walk is no end
pub break_goes : (covered : Bool) → Each GoesOn (cond covered [] (RefreshPresent false None ∷ []))
break_goes true = tt
break_goes false = (refl, tt)

-- nor is what follows the walk
after_walk_goes : (operation : SyncOperation) (covered : Bool) (last : ℕ) (late : List ℕ) → operation.persists ≡ true → Each GoesOn (after_walk operation covered last late)
after_walk_goes operation covered last [] goes = (ap (λ b. is_end (end_of b covered (operation.cookies last))) goes ∙ end_goes covered (operation.cookies last), tt)
after_walk_goes operation covered last (u ∷ us) goes =
    each-append GoesOn (cond covered [] (RefreshPresent false None ∷ [])) (gathered true decisions ++ end_of operation.persists true (operation.cookies last) ∷ []) (break_goes covered)
    (each-append GoesOn (gathered true decisions) (end_of operation.persists true (operation.cookies last) ∷ []) (gathered_goes true decisions)
    (ap (λ b. is_end (end_of b true (operation.cookies last))) goes ∙ end_goes true (operation.cookies last), tt))
  where
    decisions : List WalkDecision
    decisions = flat_map (decide_late operation last) (u ∷ us)

notified_goes : (cookie : Option CookieText) (uuid : ℕ) (was now : Option Entry) → Each GoesOn (notified cookie uuid was now)
notified_goes cookie uuid None None = tt
notified_goes cookie uuid (Some was) None = (refl, tt)
notified_goes cookie uuid None (Some now) = (refl, tt)
notified_goes cookie uuid (Some was) (Some now) = (refl, tt)

notified_all_goes : (entry_changes : List EntryChange) (cookie : CookieText) → Each GoesOn (notified_all cookie entry_changes)
notified_all_goes [] cookie = tt
notified_all_goes (t ∷ []) cookie = notified_goes (Some cookie) t.uuid t.before t.after
notified_all_goes (t ∷ u ∷ entry_changes) cookie =
    each-append GoesOn (notified None t.uuid t.before t.after) (notified_all cookie (u ∷ entry_changes)) (notified_goes None t.uuid t.before t.after) (notified_all_goes (u ∷ entry_changes) cookie)

-- nor is one of later writes
later_all_go : (count : ℕ) (operation : SyncOperation) (from : ℕ) → Each GoesOn (later operation from count)
later_all_go zero operation from = tt
later_all_go (suc count) operation from =
    each-append GoesOn (later operation from count) (group operation (from + count)) (later_all_go count operation from)
    (notified_all_goes (touched (content_after operation (from + count)) (content_after operation (from + count + 1))) (operation.cookies (from + count + 1)))

-- nor is any of a search that goes on, however its refresh is decided
pub stream_goes : (operation : SyncOperation) (start : Start) (opened : ℕ) (pieces : List RefreshPiece) (count : ℕ) → operation.persists ≡ true → Each GoesOn (stream operation start opened pieces count)
stream_goes operation start opened pieces count goes =
    each-append GoesOn (refresh operation start opened pieces) (cond operation.persists (later operation (last_mark opened pieces) count) [])
    (each-append GoesOn (gathered (is_delete_phase start) (flat_map (decide_piece operation start) pieces))
    (after_walk operation (is_delete_phase start) (last_mark opened pieces) (late_uuids operation opened (last_mark opened pieces)))
    (gathered_goes (is_delete_phase start) (flat_map (decide_piece operation start) pieces))
    (after_walk_goes operation (is_delete_phase start) (last_mark opened pieces) (late_uuids operation opened (last_mark opened pieces)) goes))
    (subst (λ b. Each GoesOn (cond b (later operation (last_mark opened pieces) count) [])) (sym goes) (later_all_go count operation (last_mark opened pieces)))
