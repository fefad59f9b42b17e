-- A search that is followed from its acceptance on, over every list of calls: it reports its Stream, and is over exactly
-- where a write was too much.
use Rattle.std.proofs.Common.{◌≡◌, ℕ, Bool, true, false, cond, nat_eq, List, [], ◌∷◌, ◌++◌, length, Option, Some, None, refl, ap, sym, ◌∙◌, inl, inr, ◌⊎◌, subst, append_assoc, eqb-true, eq-eqb}
use Rattle.std.specs.Prelude.{Result, Ok, Err, option_map}
use Rattle.std.proofs.lemmas.Bool.{false≢true}
use Rattle.std.proofs.lemmas.List.{append-nil}
use Rattle.entry_tree.specs.declared.op.Op.TheVariants.{Commit}
use Rattle.entry_tree.specs.declared.op.Op.{Op}
use Rattle.entry_tree.specs.declared.op.Write.{Write}
use Rattle.sync_model.specs.Message.{SyncMessage}
use Rattle.sync_slices.specs.Slices.{given_up}
use Rattle.directory_writes.specs.Directory.{DirectoryState, judged, with_log_limit}
use Rattle.directory_writes.proofs.Keyed.{closed-other}
use Rattle.sync_provider.specs.Accepting.{answer_to}
use Rattle.sync_provider.specs.HandingOut.{turn_at, search_at, closed, after_turn}
use Rattle.sync_provider.specs.Law.{BeginsWith, refresh_at, stream_of, Delivery, pending_of, pending_at, marks_of, over_of, delivered_now, ended_now, first_delivered, delivered, Delivers, asked, DeliversItsStream, Tally, after_write, after_commit, after_hand_out, tally_after, AreCounted}
use Rattle.sync_provider.specs.Committing.{commit_refusal}
use Rattle.sync_provider.specs.Machine.{ProviderState, ProviderCall, after_judged, judged_by, after_commit as provider_after, accepted, called, run}
use Rattle.sync_provider.specs.Machine.ProviderCall.{Writes, Commits, Accepts, HandsOut, Drops, SetsLogLimit, SetsQueueLimit}
use Rattle.sync_provider.specs.Queueing.{search_notified}
use Rattle.sync_provider.specs.Search.{SearchState, pending, advanced, is_end}
use Rattle.sync_provider.specs.declared.searches.Accepted.TheVariants.{Opened}
use Rattle.sync_provider.specs.declared.searches.SyncSearch.{SyncSearch}
use Rattle.sync_provider.specs.declared.writing.CommitFault.{CommitFault}
use Rattle.sync_provider.proofs.Ended.{IsPast, ended_done, stays_counted}
use Rattle.sync_provider.proofs.Growing.{run_begins, search_notified_at}
use Rattle.sync_provider.proofs.Kept.{opened_free, answered_other, turn_other, waiting_turn, next_turn, asked_at}
use Rattle.sync_provider.proofs.Overflows.{Matches, search_notified_match, waits_match, next_match, end_match, limited_match, asked_matches}
use Rattle.sync_provider.proofs.Streams.{Stands, StandsAt, CutsWalk, IsNotified, search_notified_stands, not_over, advanced_stands, now_notified, end_notified, limited_stands, asked_stands}

-- a search that was opened on one directory, on what became of that, after these messages were handed out and counted
pub record IsFollowed (d0 : DirectoryState) (s0 : SearchState) (d : DirectoryState) (s : SearchState) (before : List SyncMessage) (t : Tally) : Type 0 where
  pub stands : Stands d0 s0 d s before
  pub matches : Matches s0 d s t

-- what it reports from there on is its Stream, with the numbers at its pieces, and it is over exactly where it is so, by the count
abbrev IsReported : DirectoryState → SearchState → List SyncMessage → List Write → Delivery → Tally → Type 0
IsReported d0 s0 before writes later count = IsNotified d0 s0 before writes later × AreCounted later count

-- so it is from a provider with the search on
abbrev FollowsFrom : DirectoryState → SearchState → ℕ → List Write → List ProviderCall → ProviderState → Type 0
FollowsFrom d0 s0 number writes calls p =
    (s : SearchState) (before : List SyncMessage) (t : Tally) → search_at p.searches number ≡ Some s → IsFollowed d0 s0 p.directory s before t
    → BeginsWith (run p calls).directory writes → IsReported d0 s0 before writes (delivered number p calls) (tally_after number s0 p t calls)

-- what is reported at one moment
now_reported : (d0 : DirectoryState) (s0 : SearchState) (p : ProviderState) (number : ℕ) (s : SearchState) (before handed left : List SyncMessage) (writes : List Write) (count : Tally)
    → search_at p.searches number ≡ Some s → Stands d0 s0 p.directory s before → handed ++ left ≡ pending p.directory s → Matches s0 p.directory s count → BeginsWith p.directory writes
    → IsReported d0 s0 before writes (delivered_now p number handed left) count
now_reported d0 s0 p number s before handed left writes count found stands is matches begins =
    (now_notified d0 s0 p number s before handed left writes found stands is begins, (ap marks_of found ∙ sym matches.marks, ap over_of found ∙ sym matches.over))

-- ---- a write

judged_followed : (d0 : DirectoryState) (s0 : SearchState) (number : ℕ) (writes : List Write) (calls : List ProviderCall) (p : ProviderState) (outcome : Result Write ℕ)
    → ((after : ProviderState) → FollowsFrom d0 s0 number writes calls after) → (s : SearchState) (before : List SyncMessage) (t : Tally) → search_at p.searches number ≡ Some s
    → IsFollowed d0 s0 p.directory s before t → BeginsWith (run (after_judged p outcome) calls).directory writes
    → IsReported d0 s0 before writes (delivered number (after_judged p outcome) calls) (tally_after number s0 (after_judged p outcome) (after_write p s0 outcome t) calls)
judged_followed d0 s0 number writes calls p (Ok w) rest s before t found is =
    rest (after_judged p (Ok w)) (search_notified p.queue_limit p.directory w s) before (after_write p s0 (Ok w) t) (search_notified_at p.queue_limit p.directory w p.searches number s found)
    (record { stands = search_notified_stands d0 s0 p.queue_limit p.directory w s before is.stands; matches = search_notified_match s0 p.queue_limit p.directory w s t is.matches })
judged_followed d0 s0 number writes calls p (Err code) rest s before t found is = rest (after_judged p (Err code)) s before t found is

commit_followed : (d0 : DirectoryState) (s0 : SearchState) (number : ℕ) (writes : List Write) (calls : List ProviderCall) (p : ProviderState) (op : Op) (now : ℕ) (refusal : Option CommitFault)
    → ((after : ProviderState) → FollowsFrom d0 s0 number writes calls after) → (s : SearchState) (before : List SyncMessage) (t : Tally) → search_at p.searches number ≡ Some s
    → IsFollowed d0 s0 p.directory s before t → BeginsWith (run (provider_after p op now refusal) calls).directory writes
    → IsReported d0 s0 before writes (delivered number (provider_after p op now refusal) calls) (tally_after number s0 (provider_after p op now refusal) (after_commit p s0 op now refusal t) calls)
commit_followed d0 s0 number writes calls p op now None rest s before t found is =
    judged_followed d0 s0 number writes calls p (judged p.directory op now) rest s before t found is
commit_followed d0 s0 number writes calls p op now (Some fault) rest s before t found is = rest p s before t found is

limited_followed : (d0 : DirectoryState) (s0 : SearchState) (d : DirectoryState) (limit : ℕ) (s : SearchState) (before : List SyncMessage) (t : Tally)
    → IsFollowed d0 s0 d s before t → IsFollowed d0 s0 (with_log_limit d limit) s before t
limited_followed d0 s0 d limit s before t is = record {
  stands = record { sid = is.stands.sid; history = is.stands.history; same = is.stands.same; place = limited_stands d limit s before is.stands.place };
  matches = limited_match s0 d limit s t is.matches;
}

-- ---- all calls

-- whatever they are
pub followed : (calls : List ProviderCall) (d0 : DirectoryState) (s0 : SearchState) (number : ℕ) (writes : List Write) (p : ProviderState) → FollowsFrom d0 s0 number writes calls p
followed [] d0 s0 number writes p s before t found is begins =
    now_reported d0 s0 p number s before [] (pending_at p number) writes t found is.stands (ap (pending_of p.directory) found) is.matches begins
followed (Writes op now ∷ calls) d0 s0 number writes p s before t found is begins =
    judged_followed d0 s0 number writes calls p (judged_by p.kind p.directory op now) (λ after. followed calls d0 s0 number writes after) s before t found is begins
followed (Commits puts drops now ∷ calls) d0 s0 number writes p s before t found is begins =
    commit_followed d0 s0 number writes calls p (Commit puts drops) now (commit_refusal p.kind p.directory puts drops now)
    (λ after. followed calls d0 s0 number writes after) s before t found is begins
followed (Accepts ask ∷ calls) d0 s0 number writes p s before t found is begins =
    followed calls d0 s0 number writes (called p (Accepts ask)) s before t
    (answered_other p.directory p.searches ask (answer_to p.directory p.searches ask) refl number s found) is begins
followed (SetsLogLimit limit ∷ calls) d0 s0 number writes p s before t found is begins =
    followed calls d0 s0 number writes (called p (SetsLogLimit limit)) s before t found (limited_followed d0 s0 p.directory limit s before t is) begins
followed (SetsQueueLimit limit ∷ calls) d0 s0 number writes p s before t found is begins =
    followed calls d0 s0 number writes (called p (SetsQueueLimit limit)) s before t found is begins
followed (HandsOut other ∷ calls) d0 s0 number writes p s before t found is begins =
    by (followed calls d0 s0 number writes (called p (HandsOut other))) (nat_eq other number) refl
  where
    after : ProviderState
    after = called p (HandsOut other)

    later : Delivery
    later = delivered number after calls

    Rest : Type 0
    Rest = FollowsFrom d0 s0 number writes calls after

    -- by the count
    counted_then : Tally → Tally
    counted_then count = tally_after number s0 after count calls

    d : DirectoryState
    d = p.directory

    own : (r : SearchState) → other ≡ number → search_at (after_turn d p.searches number (turn_at d p.searches number)) number ≡ Some r → search_at after.searches number ≡ Some r
    own r here there = subst (λ k. search_at (after_turn d p.searches k (turn_at d p.searches k)) number ≡ Some r) (sym here) there

    -- it ends here, and nothing changes any more
    given : s.over ≡ true → s.progress ≡ given_up s.progress
    given on = by_place is.stands.place
      where
        by_place : StandsAt d s before → s.progress ≡ given_up s.progress
        by_place (inl open') = absurd (false≢true (sym open'.0 ∙ on))
        by_place (inr cut) = cut.1.given

    past : (m : SyncMessage) (ms : List SyncMessage) → pending d s ≡ m ∷ ms → is_end m ≡ true → IsPast s0 d (after_hand_out p s0 t)
    past m ms some end = by_over s.over refl
      where
        by_over : (o : Bool) → s.over ≡ o → IsPast s0 d (after_hand_out p s0 t)
        by_over true on = inl (sym (end_match s0 p s t is.matches m ms given some).1 ∙ on)
        by_over false off = inr (ended_done d0 s0 p s before t m ms is.stands is.matches some end off)

    ended : (m : SyncMessage) (ms : List SyncMessage) → pending d s ≡ m ∷ ms → is_end m ≡ true → IsReported d0 s0 before writes (ended_now p number m ms) (counted_then (after_hand_out p s0 t))
    ended m ms some end =
        let match : ((advanced d s).progress.marks ≡ (after_hand_out p s0 t).marks) × (s.over ≡ (after_hand_out p s0 t).over) = end_match s0 p s t is.matches m ms given some in
        let stays : counted_then (after_hand_out p s0 t) ≡ after_hand_out p s0 t = stays_counted calls number s0 after (after_hand_out p s0 t) (past m ms some end) in (
          end_notified d0 s0 p number s before m ms writes found is.stands some (run_begins (HandsOut other ∷ calls) p writes begins),
          (
            ap (λ at. marks_of (option_map (advanced d) at)) found ∙ match.0 ∙ ap (λ (u : Tally). u.marks) (sym stays),
            ap over_of found ∙ match.1 ∙ ap (λ (u : Tally). u.over) (sym stays),
          ),
        )

    first : Rest → other ≡ number → (ms : List SyncMessage) → pending d s ≡ ms → IsReported d0 s0 before writes (first_delivered p number ms later) (counted_then (after_hand_out p s0 t))
    first rest here [] none =
        rest s before (after_hand_out p s0 t) (own s here (waiting_turn d p.searches number s found none)) (record { stands = is.stands; matches = waits_match s0 p s t is.matches none }) begins
    first rest here (m ∷ ms) some = ends (is_end m) refl
      where
        ends : (b : Bool) → is_end m ≡ b
            → IsReported d0 s0 before writes (cond {A = Delivery} b (ended_now p number m ms) (record later { handed = m ∷ later.handed })) (counted_then (after_hand_out p s0 t))
        ends true end = ended m ms some end
        ends false goes =
            let off : s.over ≡ false = not_over d s m ms some goes in
            let next : IsReported d0 s0 (before ++ m ∷ []) writes later (counted_then (after_hand_out p s0 t)) =
            rest (advanced d s) (before ++ m ∷ []) (after_hand_out p s0 t) (own (advanced d s) here (next_turn d p.searches number s m ms found some goes))
            (record { stands = advanced_stands d0 s0 d s before m ms is.stands some off; matches = next_match s0 p s t is.matches m ms off some }) begins in (
              record {
                shows = subst (λ sent. Delivers later.over sent (stream_of d0 s0 later.marks later.writes writes)) (append_assoc before (m ∷ []) (later.handed ++ later.pending)) next.0.shows;
                cuts = next.0.cuts;
              },
              next.1,
            )

    by : Rest → (b : Bool) → nat_eq other number ≡ b
        → IsReported d0 s0 before writes (cond {A = Delivery} b (first_delivered p number (pending_at p number) later) later) (counted_then (cond b (after_hand_out p s0 t) t))
    by rest true here =
        subst (λ o. IsReported d0 s0 before writes (first_delivered p number (pending_of d o) later) (counted_then (after_hand_out p s0 t))) (sym found)
        (first rest (eqb-true other number here) (pending d s) refl)
    by rest false apart =
        rest s before t (turn_other d p.searches other number (turn_at d p.searches other) (λ here. false≢true (sym apart ∙ eq-eqb other number (sym here))) ∙ found) is begins
followed (Drops other ∷ calls) d0 s0 number writes p s before t found is begins =
    by (λ there. followed calls d0 s0 number writes (called p (Drops other)) s before t there is begins) (nat_eq other number) refl
  where
    later : Delivery
    later = delivered number (called p (Drops other)) calls

    count_then : Tally
    count_then = tally_after number s0 (called p (Drops other)) t calls

    by : (search_at (closed p.searches other) number ≡ Some s → IsReported d0 s0 before writes later count_then) → (b : Bool) → nat_eq other number ≡ b
        → IsReported d0 s0 before writes (cond {A = Delivery} b (delivered_now p number [] (pending_at p number)) later) (cond b t count_then)
    by rest true here =
        now_reported d0 s0 p number s before [] (pending_at p number) writes t found is.stands (ap (pending_of p.directory) found) is.matches
        (run_begins (Drops other ∷ calls) p writes begins)
    by rest false apart = rest (closed-other p.searches other number (λ here. false≢true (sym apart ∙ eq-eqb other number (sym here))) ∙ found)

-- ---- from its acceptance on

module _ (p : ProviderState) (ask : SyncSearch) (number count : ℕ) (calls : List ProviderCall) (answered : answer_to p.directory p.searches ask ≡ Opened number count) where
  abbrev none_counted : Tally
  none_counted = record { handed = 0; marks = length p.directory.writes ∷ []; over = false }

  asked_reported : (writes : List Write) → BeginsWith (run (accepted p ask) calls).directory writes
      → IsReported p.directory (asked p ask) [] writes (delivered number (accepted p ask) calls) (tally_after number (asked p ask) (accepted p ask) none_counted calls)
  asked_reported writes begins =
      followed calls p.directory (asked p ask) number writes (accepted p ask) (asked p ask) [] none_counted (asked_at p ask number count answered)
      (record { stands = asked_stands p ask; matches = asked_matches p ask }) begins

  -- what it handed out, and what is pending, is its stream
  pub delivers_its_stream : DeliversItsStream p ask number calls
  delivers_its_stream writes begins = (asked_reported writes begins).0.shows

  -- its pieces cut its walk
  pub cuts_its_walk : (writes : List Write) → BeginsWith (run (accepted p ask) calls).directory writes
      → CutsWalk (refresh_at p.directory (asked p ask) writes) (delivered number (accepted p ask) calls).marks (delivered number (accepted p ask) calls).writes
  cuts_its_walk writes begins = (asked_reported writes begins).0.cuts

  -- its pieces are decided, and it is over, exactly as the count says
  pub overflows_exactly : AreCounted (delivered number (accepted p ask) calls) (tally_after number (asked p ask) (accepted p ask) (record { handed = 0; marks = count ∷ []; over = false }) calls)
  overflows_exactly =
      subst (λ n. AreCounted (delivered number (accepted p ask) calls) (tally_after number (asked p ask) (accepted p ask) (record { handed = 0; marks = n ∷ []; over = false }) calls))
      (sym (opened_free p.directory p.searches ask number count answered).counted)
      (asked_reported (run (accepted p ask) calls).directory.writes ([], append-nil (run (accepted p ask) calls).directory.writes)).1
