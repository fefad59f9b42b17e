-- What commits make of a provider, one after another.
use Rattle.std.proofs.Common.{◌≡◌, ℕ, List, [], ◌∷◌, ◌++◌, Option, Some, None, map, refl, ap, sym, subst, ◌∙◌}
use Rattle.std.specs.Prelude.{Ok, option_map}
use Rattle.std.specs.Option.{option_or}
use Rattle.csn_cookie.specs.Cookie.{cookie_text}
use Rattle.entry_tree.specs.declared.op.Op.TheVariants.{Commit}
use Rattle.entry_tree.specs.declared.op.Write.{Write}
use Rattle.directory_writes.specs.Commits as directory
use Rattle.directory_writes.specs.Directory.{DirectoryState, cookie_at, judged, with_write, written}
use Rattle.directory_writes.specs.declared.commit.DirectoryCommitFault.{DirectoryCommitFault}
use Rattle.directory_writes.specs.declared.commit.DirectoryCommitFault.TheVariants as cause
use Rattle.directory_writes.proofs.Writes.{planned_touches}
use Rattle.sync_provider.specs.Committing.{commit_refusal, fault_of, first_refusal, RejectsCommit}
use Rattle.sync_provider.specs.Machine.{ProviderState, after_commit, after_judged, committed, committed_each, each_search_notified, refusal_of_each}
use Rattle.sync_provider.specs.Queueing.{search_notified}
use Rattle.sync_provider.specs.ReadyCommits.{after_each, all_staged, write_of, AreReady, AreReadyCommits, IsReadyCommit}
use Rattle.sync_provider.specs.Search.{SearchState}
use Rattle.sync_provider.specs.Staging.{HeldSearch, searches_of, messages_for, staged_for, with_group, without_groups, pushed_staged, each_staged, each_unstaged, each_pushed}
use Rattle.sync_provider.specs.declared.committing.StagedCommit.{StagedCommit}
use Rattle.sync_provider.specs.declared.provider.Kind.{Kind}
use Rattle.sync_provider.specs.declared.provider.Kind.TheVariants.{Replica}
use Rattle.sync_provider.specs.declared.ready_commit.ReadyCommit.{ReadyCommit}
use Rattle.sync_provider.specs.declared.writing.CommitFault.{CommitFault}
use Rattle.sync_provider.proofs.Delivery.{view_of}
use Rattle.sync_provider.proofs.Filling.{pushed_last}
use Rattle.sync_provider.proofs.GoingOn.{HasGoneOn, gone_on-both, gone_on-search_notified, gone_on-itself, group_search_notified}
use Rattle.sync_provider.proofs.Groups.{group_is}
use Rattle.sync_provider.proofs.ReadyCommits.{are_ready}

-- ---- a search

-- a search after these commits
abbrev search_notified_each : ℕ → DirectoryState → List ReadyCommit → SearchState → SearchState
search_notified_each limit d [] s = s
search_notified_each limit d (commit ∷ each) s = search_notified_each limit (with_write d (write_of commit)) each (search_notified limit d (write_of commit) s)

-- what is staged for one search
abbrev held_staged : (sid history : ℕ) → List ReadyCommit → HeldSearch → HeldSearch
held_staged sid history [] held = held
held_staged sid history (commit ∷ each) held =
    held_staged sid history each (with_group commit.ready.preview.touched (cookie_text (cookie_at sid history commit.ready.preview.csn)) held)

-- what was staged for a search, group by group, is what the writes report to it in turn
held_search_notified : (limit : ℕ) (d : DirectoryState) (each : List ReadyCommit) (held : HeldSearch) → AreReady d each → HasGoneOn held.search (pushed_staged limit held.staged held.search)
    → pushed_staged limit (held_staged d.sid d.history each held).staged (held_staged d.sid d.history each held).search ≡ search_notified_each limit d each (pushed_staged limit held.staged held.search)
held_search_notified limit d [] held are on = refl
held_search_notified limit d (commit ∷ each) held are on =
    let s : SearchState = held.search in
    let t : SearchState = pushed_staged limit held.staged held.search in
    let w : Write = write_of commit in
    let changes = commit.ready.preview.touched in
    let cookie = cookie_text (cookie_at d.sid d.history commit.ready.preview.csn) in
    let said = ap (λ found. messages_for t.spec found cookie) (planned_touches d commit.op commit.ready.preview are.0.plan) ∙ group_is d t w in
    let here : pushed_staged limit (held.staged ++ staged_for s changes cookie ∷ []) s ≡ search_notified limit d w t =
    pushed_last limit held.staged (staged_for s changes cookie) s ∙ group_search_notified limit d w s t changes cookie said on in
    let later = subst (HasGoneOn s) (sym here) (gone_on-both s t (search_notified limit d w t) on (gone_on-search_notified limit d w t)) in
    held_search_notified limit (with_write d w) each (with_group changes cookie held) are.1 later ∙ ap (search_notified_each limit (with_write d w) each) here

-- ---- all searches

staged_none : (sid history : ℕ) (each : List ReadyCommit) → all_staged sid history each [] ≡ []
staged_none sid history [] = refl
staged_none sid history (commit ∷ each) = staged_none sid history each

staged_first : (sid history : ℕ) (each : List ReadyCommit) (number : ℕ) (held : HeldSearch) (es : List (ℕ × HeldSearch))
    → all_staged sid history each ((number, held) ∷ es) ≡ (number, held_staged sid history each held) ∷ all_staged sid history each es
staged_first sid history [] number held es = refl
staged_first sid history (commit ∷ each) number held es =
    let changes = commit.ready.preview.touched in
    let cookie = cookie_text (cookie_at sid history commit.ready.preview.csn) in
    staged_first sid history each number (with_group changes cookie held) (each_staged changes cookie es)

abbrev all_search_notified : ℕ → DirectoryState → List ReadyCommit → List (ℕ × SearchState) → List (ℕ × SearchState)
all_search_notified limit d each searches = map (λ search. (search.0, search_notified_each limit d each search.1)) searches

-- what was staged for commits that are ready is what they report
delivered_each : (limit : ℕ) (d : DirectoryState) (each : List ReadyCommit) (es : List (ℕ × HeldSearch)) → AreReady d each
    → each_pushed limit (all_staged d.sid d.history each (each_unstaged es)) ≡ all_search_notified limit d each (searches_of es)
delivered_each limit d each [] are = ap (each_pushed limit) (staged_none d.sid d.history each)
delivered_each limit d each (e ∷ es) are =
    ap (each_pushed limit) (staged_first d.sid d.history each e.0 (without_groups e.1) (each_unstaged es))
    ∙ (λ i. (e.0, held_search_notified limit d each (without_groups e.1) are (gone_on-itself e.1.search) i) ∷ delivered_each limit d each es are i)

-- ---- the provider

-- a provider after commits that are ready
abbrev put_each_in : ProviderState → List ReadyCommit → ProviderState
put_each_in p [] = p
put_each_in p (commit ∷ each) = put_each_in (after_judged p (Ok (write_of commit))) each

search_notified_none : (searches : List (ℕ × SearchState)) → map (λ search. (search.0, search.1)) searches ≡ searches
search_notified_none [] = refl
search_notified_none (search ∷ searches) = ap (λ ss. search ∷ ss) (search_notified_none searches)

search_notified_first : (limit : ℕ) (d : DirectoryState) (commit : ReadyCommit) (each : List ReadyCommit) (searches : List (ℕ × SearchState))
    → all_search_notified limit (with_write d (write_of commit)) each (each_search_notified limit d (write_of commit) searches) ≡ all_search_notified limit d (commit ∷ each) searches
search_notified_first limit d commit each [] = refl
search_notified_first limit d commit each (search ∷ searches) =
    ap (λ ss. (search.0, search_notified_each limit d (commit ∷ each) search.1) ∷ ss) (search_notified_first limit d commit each searches)

-- by its parts
put_each_is : (p : ProviderState) (each : List ReadyCommit)
    → put_each_in p each ≡ record p { directory = after_each p.directory each; searches = all_search_notified p.queue_limit p.directory each p.searches }
put_each_is p [] = λ i. record p { searches = sym (search_notified_none p.searches) i }
put_each_is p (commit ∷ each) =
    put_each_is (after_judged p (Ok (write_of commit))) each
    ∙ (λ i. record p { directory = after_each (with_write p.directory (write_of commit)) each; searches = search_notified_first p.queue_limit p.directory commit each p.searches i })

-- a commit that is ready is accepted by a replica
unopposed_at : (p : ProviderState) (now : ℕ) (staged : StagedCommit) → p.kind ≡ Replica → directory.commit_refusal p.directory staged.puts staged.drops now ≡ None
    → commit_refusal p.kind p.directory staged.puts staged.drops now ≡ None
unopposed_at p now staged kind none = ap (λ k. commit_refusal k p.directory staged.puts staged.drops now) kind ∙ ap (option_map fault_of) none

committed_one : (p : ProviderState) (now : ℕ) (commit : ReadyCommit) (staged : StagedCommit) → p.kind ≡ Replica → IsReadyCommit p.directory now commit staged
    → committed p staged.puts staged.drops now ≡ after_judged p (Ok (write_of commit))
committed_one p now commit staged kind is =
    ap (after_commit p (Commit staged.puts staged.drops) now) (unopposed_at p now staged kind is.unopposed) ∙ ap (after_judged p) is.judged

-- so are all
committed_all : (p : ProviderState) (now : ℕ) (each : List ReadyCommit) (commits : List StagedCommit) → p.kind ≡ Replica → AreReadyCommits now p.directory each commits
    → committed_each p commits now ≡ put_each_in p each
committed_all p now [] [] kind are = refl
committed_all p now [] (staged ∷ commits) kind are = absurd are
committed_all p now (commit ∷ each) [] kind are = absurd are
committed_all p now (commit ∷ each) (staged ∷ commits) kind are =
    ap (λ (q : ProviderState). committed_each q commits now) (committed_one p now commit staged kind are.0)
    ∙ committed_all (after_judged p (Ok (write_of commit))) now each commits kind are.1

-- a replica after commits that are ready: what was staged is what they report
pub committed_view : (kind : Kind) (d after : DirectoryState) (es staged pushed : List (ℕ × HeldSearch)) (limit : ℕ) (p : ProviderState) (now : ℕ) (each : List ReadyCommit) (commits : List StagedCommit) → view_of kind d es limit ≡ p
    → p.kind ≡ Replica → AreReadyCommits now d each commits → staged ≡ all_staged d.sid d.history each (each_unstaged es) → after ≡ after_each d each → searches_of pushed ≡ each_pushed limit staged
    → view_of kind after pushed limit ≡ committed_each p commits now
committed_view kind d after es staged pushed limit p now each commits view replica are made is all =
    (λ i. record {
      kind = kind;
      directory = is i;
      searches = (all ∙ ap (each_pushed limit) made ∙ delivered_each limit d each es (are_ready now d each commits are)) i;
      queue_limit = limit;
    })
    ∙ sym (put_each_is (view_of kind d es limit) each)
    ∙ sym (committed_all (view_of kind d es limit) now each commits (ap (λ (q : ProviderState). q.kind) view ∙ replica) are)
    ∙ ap (λ (q : ProviderState). committed_each q commits now) view

-- ---- what rejects commits

-- what is first against commits of a replica is what its directory has first against them
pub replica_refusal : (p : ProviderState) (commits : List StagedCommit) (now : ℕ) → p.kind ≡ Replica → refusal_of_each p commits now ≡ option_map fault_of (first_refusal p.directory commits now)
replica_refusal p [] now kind = refl
replica_refusal p (staged ∷ commits) now kind = by (replica_refusal after commits now kind) (directory.commit_refusal p.directory staged.puts staged.drops now) refl
  where
    after : ProviderState
    after = after_judged p (judged p.directory (Commit staged.puts staged.drops) now)

    kinded : commit_refusal p.kind p.directory staged.puts staged.drops now ≡ option_map fault_of (directory.commit_refusal p.directory staged.puts staged.drops now)
    kinded = ap (λ k. commit_refusal k p.directory staged.puts staged.drops now) kind

    whole : Option DirectoryCommitFault → Option CommitFault
    whole found = option_map fault_of (option_or found (first_refusal (written p.directory (Commit staged.puts staged.drops) now) commits now))

    by : refusal_of_each after commits now ≡ option_map fault_of (first_refusal after.directory commits now) → (found : Option DirectoryCommitFault)
        → directory.commit_refusal p.directory staged.puts staged.drops now ≡ found → refusal_of_each p (staged ∷ commits) now ≡ option_map fault_of (first_refusal p.directory (staged ∷ commits) now)
    by rest None none =
        let free = kinded ∙ ap (option_map fault_of) none in
        ap (λ o. option_or o (refusal_of_each (committed p staged.puts staged.drops now) commits now)) free
        ∙ ap (λ o. refusal_of_each (after_commit p (Commit staged.puts staged.drops) now o) commits now) free
        ∙ rest
        ∙ sym (ap whole none)
    by rest (Some fault) some =
        ap (λ o. option_or o (refusal_of_each (committed p staged.puts staged.drops now) commits now)) (kinded ∙ ap (option_map fault_of) some)
        ∙ sym (ap whole some)

-- at a replica nothing does where the directory has nothing against them
pub replica_unopposed : (p : ProviderState) (commits : List StagedCommit) (now : ℕ) → p.kind ≡ Replica → first_refusal p.directory commits now ≡ None → refusal_of_each p commits now ≡ None
replica_unopposed p commits now kind none = replica_refusal p commits now kind ∙ ap (option_map fault_of) none

fault_opposes : (found : Option DirectoryCommitFault) (fault : DirectoryCommitFault) → directory.Rejects found fault → RejectsCommit (option_map fault_of found) (fault_of fault)
fault_opposes found (cause.DuplicateName one other) is = ap (option_map fault_of) is
fault_opposes found (cause.LimitReached limit) is = ap (option_map fault_of) is
fault_opposes found cause.NoMemory is = tt

-- and it is reported so
pub replica_opposed : (p : ProviderState) (commits : List StagedCommit) (now : ℕ) (fault : DirectoryCommitFault) (reported : CommitFault) → p.kind ≡ Replica → directory.Rejects (first_refusal p.directory commits now) fault
    → reported ≡ fault_of fault → RejectsCommit (refusal_of_each p commits now) reported
replica_opposed p commits now fault reported kind against same =
    subst (RejectsCommit (refusal_of_each p commits now)) (sym same)
    (subst (λ found. RejectsCommit found (fault_of fault)) (sym (replica_refusal p commits now kind)) (fault_opposes (first_refusal p.directory commits now) fault against))
