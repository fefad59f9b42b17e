-- Each call leaves every open search at its place in its Stream.
use Rattle.std.proofs.Common.{◌≡◌, ℕ, ◌+◌, ◌<◌, Bool, false, List, [], ◌∷◌, ◌++◌, length, Option, Some, None, refl, ap, sym, ◌∙◌, arith, subst, append-nil, length-append}
use Rattle.std.specs.Prelude.{Result, Ok, Err}
use Rattle.entry_tree.specs.declared.op.Op.TheVariants.{Commit}
use Rattle.entry_tree.specs.declared.op.Write.{Write}
use Rattle.entry_tree.specs.Selection.{Search, search_of}
use Rattle.sync_model.specs.Message.{SyncMessage}
use Rattle.sync_model.specs.Stream.{Start}
use Rattle.sync_slices.specs.Law.{IsAt}
use Rattle.sync_slices.specs.Slices.{SliceProgress, pending_now}
use Rattle.sync_slices.proofs.Deciding.{first_is}
use Rattle.sync_slices.proofs.HandingOut.{IsHanded, hands_nothing, hands_first}
use Rattle.sync_slices.proofs.Writing.{write_is}
use Rattle.directory_writes.specs.Directory.{DirectoryState, judged, with_write, with_judged, with_log_limit}
use Rattle.sync_provider.specs.Accepting as accepting
use Rattle.sync_provider.specs.Accepting.{answer_to, start_of_ask, persists_of_ask}
use Rattle.sync_provider.specs.HandingOut.{HandOut, turn_at, search_at, handed_on, after_turn}
use Rattle.sync_provider.specs.HandingOut.HandOut.{Hands, Closes, Waits, Unknown}
use Rattle.sync_provider.specs.Law.{BeginsWith, IsAtItsPlace, IsPlaced, KeepsItsPlace, EachSearch}
use Rattle.sync_provider.specs.Committing.{commit_refusal}
use Rattle.sync_provider.specs.Machine.{ProviderState, ProviderCall, each_search_notified, searches_after, judged_by, called, run}
use Rattle.sync_provider.specs.Machine.ProviderCall.{Writes, Commits, Accepts, HandsOut, Drops, SetsLogLimit, SetsQueueLimit}
use Rattle.sync_provider.specs.Queueing.{search_notified}
use Rattle.sync_provider.specs.Search.{SearchState, sliced, opening, advanced}
use Rattle.sync_provider.specs.declared.searches.Accepted.{Accepted}
use Rattle.sync_provider.specs.declared.searches.Accepted.TheVariants.{Opened, Refused, NoMemory}
use Rattle.sync_provider.specs.declared.searches.SyncSearch.{SyncSearch}
use Rattle.sync_provider.proofs.Agreeing.{at_longer}
use Rattle.sync_provider.proofs.Commits.{commit_case}
use Rattle.sync_provider.proofs.SearchNotified.{progress_then, search_notified_open}
use Rattle.sync_provider.proofs.Looking.{each-opened, each-closed, each-put_on, each-at, each-weaker}

abbrev Searches : Type 0
Searches = List (ℕ × SearchState)

-- the writes of a directory begin with themselves
pub begins_with_own : (d : DirectoryState) → BeginsWith d d.writes
begins_with_own d = ([], append-nil d.writes)

-- what is kept of a search at its place over the directory's own writes is at its place over each longer history
pub placed_by : (d : DirectoryState) (s : SearchState) (handed handed_later : List SyncMessage) → IsAt (sliced d s) (length d.writes) s.progress handed handed_later → IsAtItsPlace d s handed handed_later
placed_by d s handed handed_later at = λ writes begins. at_longer d.sid d.history s d.writes begins.0 writes begins.1 (length d.writes) (omega arith) s.progress handed handed_later at

-- some identities are decided at once
pub positive : (d : DirectoryState) (s : SearchState) → 0 < (sliced d s).size
positive d s = omega arith

-- ---- a write

module _ (limit : ℕ) (d : DirectoryState) (w : Write) (s : SearchState) where
  -- what it sends or changes is kept
  pub written_place : (handed handed_later : List SyncMessage) → IsAtItsPlace d s handed handed_later → IsAtItsPlace (with_write d w) (record s { progress = progress_then limit d w s }) handed handed_later
  written_place handed handed_later place =
      placed_by (with_write d w) (record s { progress = progress_then limit d w s }) handed handed_later
      (subst (λ count. IsAt (sliced (with_write d w) s) count (progress_then limit d w s) handed handed_later) (sym long)
      (write_is (sliced (with_write d w) s) (length d.writes) s.progress handed handed_later (place (d.writes ++ w ∷ []) (w ∷ [], refl))))
    where
      long : length (d.writes ++ w ∷ []) ≡ length d.writes + 1
      long = length-append d.writes (w ∷ [])

  -- nothing is handed out by a write
  abbrev pub search_notified_placed : (search_notified limit d w s).over ≡ false → IsPlaced d s → IsPlaced (with_write d w) (search_notified limit d w s)
  search_notified_placed still placed = record {
    handed = placed.handed;
    handed_later = placed.handed_later;
    place =
        subst (λ after. IsAtItsPlace (with_write d w) after placed.handed placed.handed_later) (sym (search_notified_open limit d w s still).1)
        (written_place placed.handed placed.handed_later placed.place);
  }

  search_notified_keeps : KeepsItsPlace d s → KeepsItsPlace (with_write d w) (search_notified limit d w s)
  search_notified_keeps keeps = λ still. search_notified_placed still (keeps (search_notified_open limit d w s still).0)

each_place : (es : Searches) (limit : ℕ) (d : DirectoryState) (w : Write) → EachSearch (KeepsItsPlace d) es → EachSearch (KeepsItsPlace (with_write d w)) (each_search_notified limit d w es)
each_place [] limit d w each = tt
each_place (e ∷ es) limit d w each = (search_notified_keeps limit d w e.1 each.0, each_place es limit d w each.1)

judged_places : (p : ProviderState) (outcome : Result Write ℕ) → EachSearch (KeepsItsPlace p.directory) p.searches
    → EachSearch (KeepsItsPlace (with_judged p.directory outcome)) (searches_after p outcome)
judged_places p (Ok w) each = each_place p.searches p.queue_limit p.directory w each
judged_places p (Err code) each = each

-- ---- a search that is accepted

-- it stands at the beginning of its stream
pub opening_place : (d : DirectoryState) (id : ℕ) (spec : Search) (start : Start) (persists : Bool) → IsAtItsPlace d (opening d id spec start persists) [] []
opening_place d id spec start persists = placed_by d (opening d id spec start persists) [] [] (first_is (sliced d (opening d id spec start persists)))

answered_places : (d : DirectoryState) (es : Searches) (ask : SyncSearch) (answer : Accepted) → EachSearch (KeepsItsPlace d) es
    → EachSearch (KeepsItsPlace d) (accepting.after_answer d es ask answer)
answered_places d es ask (Opened number writes) each =
    each-opened (KeepsItsPlace d) es number _ each (λ off. record { handed = []; handed_later = []; place = opening_place d ask.id (search_of ask.spec) (start_of_ask d ask) (persists_of_ask ask) })
answered_places d es ask (Refused code) each = each
answered_places d es ask NoMemory each = each

-- ---- a turn

-- a list with a first message is not empty
pub some_left : (m : SyncMessage) (ms : List SyncMessage) → m ∷ ms ≡ [] → ⊥
some_left m ms e = cc

-- the place after a message was handed out, which was one more
pub record IsNext (d : DirectoryState) (s : SearchState) (before : List SyncMessage) (m : SyncMessage) : Type 0 where
  pub now : IsPlaced d s
  pub all : now.handed ++ now.handed_later ≡ before ++ m ∷ []

-- by counts
pub next_counted : (d : DirectoryState) (s : SearchState) (handed handed_later : List SyncMessage) (m : SyncMessage) (next : IsNext d s (handed ++ handed_later) m)
    → length next.now.handed + length next.now.handed_later ≡ length handed + length handed_later + 1
next_counted d s handed handed_later m next =
    let one : length (next.now.handed ++ next.now.handed_later) ≡ length next.now.handed + length next.now.handed_later = length-append next.now.handed next.now.handed_later in
    let two : length ((handed ++ handed_later) ++ m ∷ []) ≡ length (handed ++ handed_later) + 1 = length-append (handed ++ handed_later) (m ∷ []) in
    let three : length (handed ++ handed_later) ≡ length handed + length handed_later = length-append handed handed_later in
    let same : length (next.now.handed ++ next.now.handed_later) ≡ length ((handed ++ handed_later) ++ m ∷ []) = ap length next.all in
    omega (arith, one, two, three, same)

module _ (d : DirectoryState) (s : SearchState) (placed : IsPlaced d s) where
  own : IsAt (sliced d s) (length d.writes) s.progress placed.handed placed.handed_later
  own = placed.place d.writes (begins_with_own d)

  -- the first of what is left was handed out
  pub next_place : (m : SyncMessage) (ms : List SyncMessage) → pending_now (sliced d s) (length d.writes) s.progress ≡ m ∷ ms
      → IsNext d (advanced d s) (placed.handed ++ placed.handed_later) m
  next_place m ms some = record {
    now = record { handed = next.handed; handed_later = next.handed_later; place = placed_by d (advanced d s) next.handed next.handed_later next.at };
    all = next.all;
  }
    where
      next : IsHanded (sliced d s) (length d.writes) (advanced d s).progress (placed.handed ++ placed.handed_later) m
      next = hands_first (sliced d s) (length d.writes) s.progress (positive d s) m ms some placed.handed placed.handed_later own

  -- or nothing was
  advanced_placed : IsPlaced d (advanced d s)
  advanced_placed = by (pending_now (sliced d s) (length d.writes) s.progress) refl
    where
      by : (ms : List SyncMessage) → pending_now (sliced d s) (length d.writes) s.progress ≡ ms → IsPlaced d (advanced d s)
      by [] none = subst (λ (progress : SliceProgress). IsPlaced d (record s { progress = progress })) (sym (hands_nothing (sliced d s) (length d.writes) s.progress none)) placed
      by (m ∷ ms) some = (next_place m ms some).now

-- so it is of one that is not over
advanced_keeps : (d : DirectoryState) (s : SearchState) → KeepsItsPlace d s → KeepsItsPlace d (advanced d s)
advanced_keeps d s keeps = λ off. advanced_placed d s (keeps off)

on_places : (d : DirectoryState) (es : Searches) (number : ℕ) (found : Option SearchState) → search_at es number ≡ found → EachSearch (KeepsItsPlace d) es
    → EachSearch (KeepsItsPlace d) (handed_on d es number found)
on_places d es number None at each = each
on_places d es number (Some s) at each =
    each-put_on (KeepsItsPlace d) es number (advanced d s) each (advanced_keeps d s (each-at (KeepsItsPlace d) es number s each at))

turn_places : (d : DirectoryState) (es : Searches) (number : ℕ) (turn : HandOut) → EachSearch (KeepsItsPlace d) es → EachSearch (KeepsItsPlace d) (after_turn d es number turn)
turn_places d es number (Hands message) each = on_places d es number (search_at es number) refl each
turn_places d es number (Closes code message) each = each-closed (KeepsItsPlace d) es number each
turn_places d es number Waits each = each
turn_places d es number Unknown each = each

-- ---- all calls

-- the log is no matter
abbrev pub limited_placed : (d : DirectoryState) (limit : ℕ) (s : SearchState) → IsPlaced d s → IsPlaced (with_log_limit d limit) s
limited_placed d limit s placed = record { handed = placed.handed; handed_later = placed.handed_later; place = placed.place }

called_places : (p : ProviderState) (call : ProviderCall) → EachSearch (KeepsItsPlace p.directory) p.searches → EachSearch (KeepsItsPlace (called p call).directory) (called p call).searches
called_places p (Writes op now) each = judged_places p (judged_by p.kind p.directory op now) each
called_places p (Commits puts drops now) each =
    commit_case (λ q. EachSearch (KeepsItsPlace q.directory) q.searches) p (Commit puts drops) now (commit_refusal p.kind p.directory puts drops now) each
    (judged_places p (judged p.directory (Commit puts drops) now) each)
called_places p (Accepts ask) each = answered_places p.directory p.searches ask (answer_to p.directory p.searches ask) each
called_places p (HandsOut number) each = turn_places p.directory p.searches number (turn_at p.directory p.searches number) each
called_places p (Drops number) each = each-closed (KeepsItsPlace p.directory) p.searches number each
called_places p (SetsLogLimit limit) each =
    each-weaker (KeepsItsPlace p.directory) (KeepsItsPlace (with_log_limit p.directory limit)) p.searches (λ s keeps off. limited_placed p.directory limit s (keeps off)) each
called_places p (SetsQueueLimit limit) each = each

-- each search stays at its place
pub run_places : (calls : List ProviderCall) (p : ProviderState) → EachSearch (KeepsItsPlace p.directory) p.searches → EachSearch (KeepsItsPlace (run p calls).directory) (run p calls).searches
run_places [] p each = each
run_places (call ∷ calls) p each = run_places calls (called p call) (called_places p call each)
