-- What a call does to each search, by the number that it opens, hands a message out of or closes.
use Rattle.std.proofs.Common.{◌≡◌, ◌≢◌, ◌≤◌, ◌+◌, ℕ, List, [], ◌∷◌, ◌++◌, length, Option, Some, None, refl, ap, sym, subst, ◌∙◌, arith}
use Rattle.std.specs.Prelude.{Result, Ok, Err, option_map}
use Rattle.std.specs.BTreeMap.{is_at}
use Rattle.std.specs.Ordering.{nat_cmp}
use Rattle.std.proofs.lemmas.List.{length_push}
use Rattle.std.proofs.lemmas.Option.{none-some, same_Some}
use Rattle.std.proofs.lemmas.Map.Made.{lookup-map_values}
use Rattle.entry_tree.specs.declared.op.Op.{Op}
use Rattle.entry_tree.specs.declared.op.Op.TheVariants.{Commit}
use Rattle.entry_tree.specs.declared.op.Write.{Write}
use Rattle.directory_writes.specs.Directory.{DirectoryState, judged}
use Rattle.directory_writes.proofs.Keyed.{opened-same, opened-other, closed-other, put_on-same}
use Rattle.sync_provider.specs.Accepting as accepting
use Rattle.sync_provider.specs.Accepting.{answer_to}
use Rattle.sync_provider.specs.Committing.{commit_refusal}
use Rattle.sync_provider.specs.HandingOut.{HandOut, turn_of_pending, turn_of_found, turn_at, search_at, handed_on, after_turn}
use Rattle.sync_provider.specs.HandingOut.HandOut.{Hands, Closes, Waits, Unknown}
use Rattle.sync_provider.specs.Law.{asked}
use Rattle.sync_provider.specs.Machine.{ProviderState, ProviderCall, searches_after, after_judged, judged_by, after_commit, called}
use Rattle.sync_provider.specs.Machine.ProviderCall.{Writes, Commits, Accepts, HandsOut, Drops, SetsLogLimit, SetsQueueLimit}
use Rattle.sync_provider.specs.Placing.{Ascends}
use Rattle.sync_provider.specs.Queueing.{search_notified}
use Rattle.sync_provider.specs.Returning.{number_of_answer, number_of_call}
use Rattle.sync_provider.specs.Search.{SearchState, pending, advanced}
use Rattle.sync_provider.specs.declared.searches.Accepted.{Accepted}
use Rattle.sync_provider.specs.declared.searches.Accepted.TheVariants.{Opened, Refused, NoMemory}
use Rattle.sync_provider.specs.declared.writing.CommitFault.{CommitFault}
use Rattle.sync_provider.proofs.Ascending.{ascends-opened, ascends-closed, ascends-put_on, ascends-mapped}
use Rattle.sync_provider.proofs.Commits.{commit_case}
use Rattle.sync_provider.proofs.Kept.{turn_other}
use Rattle.sync_provider.proofs.Tables.{gone}

-- a provider but for its searches
abbrev pub without_searches : ProviderState → ProviderState
without_searches p = record p { searches = [] }

-- ---- the rest of the provider

-- its searches have no part in it
called_without : (p : ProviderState) (call : ProviderCall) → without_searches (called p call) ≡ without_searches (called (without_searches p) call)
called_without p (Writes op now) = refl
called_without p (Commits puts drops now) = by (commit_refusal p.kind p.directory puts drops now)
  where
    by : (refusal : Option CommitFault)
        → without_searches (after_commit p (Commit puts drops) now refusal) ≡ without_searches (after_commit (without_searches p) (Commit puts drops) now refusal)
    by None = refl
    by (Some fault) = refl
called_without p (Accepts ask) = refl
called_without p (HandsOut number) = refl
called_without p (Drops number) = refl
called_without p (SetsLogLimit limit) = refl
called_without p (SetsQueueLimit limit) = refl

-- a call does the same to two providers that differ in their searches alone
pub called_alike : (p q : ProviderState) (call : ProviderCall) → without_searches p ≡ without_searches q → without_searches (called p call) ≡ without_searches (called q call)
called_alike p q call alike = called_without p call ∙ ap (λ s. without_searches (called s call)) alike ∙ sym (called_without q call)

-- and nothing where it is one of a search
pub numbered_alike : (p : ProviderState) (call : ProviderCall) (number : ℕ) → number_of_call p call ≡ Some number → without_searches (called p call) ≡ without_searches p
numbered_alike p (Writes op now) number is = absurd (none-some number is)
numbered_alike p (Commits puts drops now) number is = absurd (none-some number is)
numbered_alike p (Accepts ask) number is = refl
numbered_alike p (HandsOut other) number is = refl
numbered_alike p (Drops other) number is = refl
numbered_alike p (SetsLogLimit limit) number is = absurd (none-some number is)
numbered_alike p (SetsQueueLimit limit) number is = absurd (none-some number is)

-- ---- a call of another search

-- a call of a search leaves the others
pub call_other : (p : ProviderState) (call : ProviderCall) (number n : ℕ) → number_of_call p call ≡ Some number → n ≢ number → search_at (called p call).searches n ≡ search_at p.searches n
call_other p (Writes op now) number n is far = absurd (none-some number is)
call_other p (Commits puts drops now) number n is far = absurd (none-some number is)
call_other p (Accepts ask) number n is far = by (answer_to p.directory p.searches ask) is
  where
    by : (answer : Accepted) → number_of_answer answer ≡ Some number → search_at (accepting.after_answer p.directory p.searches ask answer) n ≡ search_at p.searches n
    by (Opened other writes) is = opened-other p.searches other n (asked p ask) (λ same. far (same ∙ same_Some other number is))
    by (Refused code) is = refl
    by NoMemory is = refl
call_other p (HandsOut other) number n is far = turn_other p.directory p.searches other n (turn_at p.directory p.searches other) (λ same. far (same ∙ same_Some other number is))
call_other p (Drops other) number n is far = closed-other p.searches other n (λ same. far (same ∙ same_Some other number is))
call_other p (SetsLogLimit limit) number n is far = absurd (none-some number is)
call_other p (SetsQueueLimit limit) number n is far = absurd (none-some number is)

-- ---- a call of this search

abbrev handed_by : DirectoryState → SearchState → HandOut → Option SearchState
handed_by d s (Hands message) = Some (advanced d s)
handed_by d s (Closes code message) = None
handed_by d s Waits = Some s
handed_by d s Unknown = Some s

abbrev handed_from : DirectoryState → Option SearchState → Option SearchState
handed_from d None = None
handed_from d (Some s) = handed_by d s (turn_of_pending s.id (pending d s))

own_turn : (d : DirectoryState) (es : List (ℕ × SearchState)) (k : ℕ) → Ascends 0 es → search_at (after_turn d es k (turn_at d es k)) k ≡ handed_from d (search_at es k)
own_turn d es k ascends = by (search_at es k) refl
  where
    of : (s : SearchState) → search_at es k ≡ Some s → (turn : HandOut) → search_at (after_turn d es k turn) k ≡ handed_by d s turn
    of s is (Hands message) = ap (λ found. search_at (handed_on d es k found) k) is ∙ put_on-same es k (advanced d s) s is
    of s is (Closes code message) = gone es 0 k ascends
    of s is Waits = is
    of s is Unknown = is

    by : (found : Option SearchState) → search_at es k ≡ found → search_at (after_turn d es k (turn_of_found d found)) k ≡ handed_from d found
    by None is = is
    by (Some s) is = of s is (turn_of_pending s.id (pending d s))

-- the search of a call's number after it, by the rest of the provider and the search before
abbrev own_after : ProviderState → ProviderCall → Option SearchState → Option SearchState
own_after p (Writes op now) found = found
own_after p (Commits puts drops now) found = found
own_after p (Accepts ask) found = Some (asked p ask)
own_after p (HandsOut number) found = handed_from p.directory found
own_after p (Drops number) found = None
own_after p (SetsLogLimit limit) found = found
own_after p (SetsQueueLimit limit) found = found

own_is : (p : ProviderState) (call : ProviderCall) (number : ℕ) → Ascends 0 p.searches → number_of_call p call ≡ Some number
    → search_at (called p call).searches number ≡ own_after (without_searches p) call (search_at p.searches number)
own_is p (Writes op now) number ascends is = absurd (none-some number is)
own_is p (Commits puts drops now) number ascends is = absurd (none-some number is)
own_is p (Accepts ask) number ascends is = by (answer_to p.directory p.searches ask) is
  where
    by : (answer : Accepted) → number_of_answer answer ≡ Some number → search_at (accepting.after_answer p.directory p.searches ask answer) number ≡ Some (asked p ask)
    by (Opened other writes) is =
        ap (search_at (accepting.opened p.directory p.searches ask other)) (sym (same_Some other number is)) ∙ opened-same p.searches other (asked p ask)
    by (Refused code) is = absurd (none-some number is)
    by NoMemory is = absurd (none-some number is)
own_is p (HandsOut other) number ascends is =
    subst (λ n. search_at (after_turn p.directory p.searches other (turn_at p.directory p.searches other)) n ≡ handed_from p.directory (search_at p.searches n)) (same_Some other number is) (own_turn p.directory p.searches other ascends)
own_is p (Drops other) number ascends is =
    subst (λ n. search_at (called p (Drops other)).searches n ≡ None) (same_Some other number is) (gone p.searches 0 other ascends)
own_is p (SetsLogLimit limit) number ascends is = absurd (none-some number is)
own_is p (SetsQueueLimit limit) number ascends is = absurd (none-some number is)

-- a call of one search does the same to it in two providers that differ in other searches alone
pub call_own : (p q : ProviderState) (call : ProviderCall) (number : ℕ) → Ascends 0 p.searches → Ascends 0 q.searches → without_searches p ≡ without_searches q
    → number_of_call p call ≡ Some number → number_of_call q call ≡ Some number → search_at p.searches number ≡ search_at q.searches number
    → search_at (called p call).searches number ≡ search_at (called q call).searches number
call_own p q call number one other alike at_one at_other same =
    own_is p call number one at_one ∙ (λ i. own_after (alike i) call (same i)) ∙ sym (own_is q call number other at_other)

-- ---- a call of no search

abbrev search_notified_by : ProviderState → Result Write ℕ → Option SearchState → Option SearchState
search_notified_by p (Ok write) found = option_map (search_notified p.queue_limit p.directory write) found
search_notified_by p (Err code) found = found

abbrev search_notified_by_commit : ProviderState → Op → ℕ → Option CommitFault → Option SearchState → Option SearchState
search_notified_by_commit p op now None found = search_notified_by p (judged p.directory op now) found
search_notified_by_commit p op now (Some fault) found = found

-- each search after it, by the rest of the provider and the search before
abbrev all_after : ProviderState → ProviderCall → Option SearchState → Option SearchState
all_after p (Writes op now) found = search_notified_by p (judged_by p.kind p.directory op now) found
all_after p (Commits puts drops now) found = search_notified_by_commit p (Commit puts drops) now (commit_refusal p.kind p.directory puts drops now) found
all_after p (Accepts ask) found = found
all_after p (HandsOut number) found = found
all_after p (Drops number) found = found
all_after p (SetsLogLimit limit) found = found
all_after p (SetsQueueLimit limit) found = found

judged_at : (p : ProviderState) (outcome : Result Write ℕ) (n : ℕ) → search_at (searches_after p outcome) n ≡ search_notified_by (without_searches p) outcome (search_at p.searches n)
judged_at p (Ok write) n = lookup-map_values (search_notified p.queue_limit p.directory write) (is_at (nat_cmp n)) p.searches
judged_at p (Err code) n = refl

all_is : (p : ProviderState) (call : ProviderCall) (n : ℕ) → number_of_call p call ≡ None → search_at (called p call).searches n ≡ all_after (without_searches p) call (search_at p.searches n)
all_is p (Writes op now) n is = judged_at p (judged_by p.kind p.directory op now) n
all_is p (Commits puts drops now) n is = by (commit_refusal p.kind p.directory puts drops now)
  where
    by : (refusal : Option CommitFault)
        → search_at (after_commit p (Commit puts drops) now refusal).searches n ≡ search_notified_by_commit (without_searches p) (Commit puts drops) now refusal (search_at p.searches n)
    by None = judged_at p (judged p.directory (Commit puts drops) now) n
    by (Some fault) = refl
all_is p (Accepts ask) n is = by (answer_to p.directory p.searches ask) is
  where
    by : (answer : Accepted) → number_of_answer answer ≡ None → search_at (accepting.after_answer p.directory p.searches ask answer) n ≡ search_at p.searches n
    by (Opened other writes) is = absurd (none-some other (sym is))
    by (Refused code) is = refl
    by NoMemory is = refl
all_is p (HandsOut other) n is = absurd (none-some other (sym is))
all_is p (Drops other) n is = absurd (none-some other (sym is))
all_is p (SetsLogLimit limit) n is = refl
all_is p (SetsQueueLimit limit) n is = refl

-- a call of no search does the same to a search in two providers that differ in other searches alone
pub call_all : (p q : ProviderState) (call : ProviderCall) (n : ℕ) → without_searches p ≡ without_searches q → number_of_call p call ≡ None → number_of_call q call ≡ None
    → search_at p.searches n ≡ search_at q.searches n → search_at (called p call).searches n ≡ search_at (called q call).searches n
call_all p q call n alike one other same =
    all_is p call n one ∙ (λ i. all_after (alike i) call (same i)) ∙ sym (all_is q call n other)

-- ---- the order of the searches

judged_ascends : (p : ProviderState) (outcome : Result Write ℕ) → Ascends 0 p.searches → Ascends 0 (after_judged p outcome).searches
judged_ascends p (Ok write) ascends = ascends-mapped (search_notified p.queue_limit p.directory write) p.searches 0 ascends
judged_ascends p (Err code) ascends = ascends

-- the numbers of the searches ascend after each call
pub call_ascends : (p : ProviderState) (call : ProviderCall) → Ascends 0 p.searches → Ascends 0 (called p call).searches
call_ascends p (Writes op now) ascends = judged_ascends p (judged_by p.kind p.directory op now) ascends
call_ascends p (Commits puts drops now) ascends =
    commit_case (λ q. Ascends 0 q.searches) p (Commit puts drops) now (commit_refusal p.kind p.directory puts drops now) ascends (judged_ascends p (judged p.directory (Commit puts drops) now) ascends)
call_ascends p (Accepts ask) ascends = by (answer_to p.directory p.searches ask)
  where
    by : (answer : Accepted) → Ascends 0 (accepting.after_answer p.directory p.searches ask answer)
    by (Opened number writes) = ascends-opened p.searches 0 number (asked p ask) ascends (omega arith)
    by (Refused code) = ascends
    by NoMemory = ascends
call_ascends p (HandsOut number) ascends = by (turn_at p.directory p.searches number)
  where
    on : (found : Option SearchState) → Ascends 0 (handed_on p.directory p.searches number found)
    on None = ascends
    on (Some s) = ascends-put_on p.searches 0 number (advanced p.directory s) ascends

    by : (turn : HandOut) → Ascends 0 (after_turn p.directory p.searches number turn)
    by (Hands message) = on (search_at p.searches number)
    by (Closes code message) = ascends-closed p.searches 0 number ascends
    by Waits = ascends
    by Unknown = ascends
call_ascends p (Drops number) ascends = ascends-closed p.searches 0 number ascends
call_ascends p (SetsLogLimit limit) ascends = ascends
call_ascends p (SetsQueueLimit limit) ascends = ascends

-- ---- the writes

judged_low : (p : ProviderState) (outcome : Result Write ℕ) → length p.directory.writes ≤ length (after_judged p outcome).directory.writes
judged_low p (Ok write) = let longer : length (p.directory.writes ++ write ∷ []) ≡ length p.directory.writes + 1 = length_push p.directory.writes write in omega (arith, longer)
judged_low p (Err code) = omega arith

judged_quiet : (p : ProviderState) (outcome : Result Write ℕ) → length (after_judged p outcome).directory.writes ≡ length p.directory.writes → (after_judged p outcome).searches ≡ p.searches
judged_quiet p (Ok write) still =
    let longer : length (p.directory.writes ++ write ∷ []) ≡ length p.directory.writes + 1 = length_push p.directory.writes write in
    let same : length (p.directory.writes ++ write ∷ []) ≡ length p.directory.writes = still in
    absurd (omega (arith, longer, same))
judged_quiet p (Err code) still = refl

-- no call takes a write back
pub call_low : (p : ProviderState) (call : ProviderCall) → length p.directory.writes ≤ length (called p call).directory.writes
call_low p (Writes op now) = judged_low p (judged_by p.kind p.directory op now)
call_low p (Commits puts drops now) =
    commit_case (λ q. length p.directory.writes ≤ length q.directory.writes) p (Commit puts drops) now (commit_refusal p.kind p.directory puts drops now)
    (omega arith) (judged_low p (judged p.directory (Commit puts drops) now))
call_low p (Accepts ask) = omega arith
call_low p (HandsOut number) = omega arith
call_low p (Drops number) = omega arith
call_low p (SetsLogLimit limit) = omega arith
call_low p (SetsQueueLimit limit) = omega arith

-- a call of no search leaves the searches where no write comes
pub call_quiet : (p : ProviderState) (call : ProviderCall) → number_of_call p call ≡ None → length (called p call).directory.writes ≡ length p.directory.writes → (called p call).searches ≡ p.searches
call_quiet p (Writes op now) is still = judged_quiet p (judged_by p.kind p.directory op now) still
call_quiet p (Commits puts drops now) is still =
    commit_case (λ q. length q.directory.writes ≡ length p.directory.writes → q.searches ≡ p.searches) p (Commit puts drops) now (commit_refusal p.kind p.directory puts drops now)
    (λ same. refl) (judged_quiet p (judged p.directory (Commit puts drops) now)) still
call_quiet p (Accepts ask) is still = by (answer_to p.directory p.searches ask) is
  where
    by : (answer : Accepted) → number_of_answer answer ≡ None → accepting.after_answer p.directory p.searches ask answer ≡ p.searches
    by (Opened other writes) is = absurd (none-some other (sym is))
    by (Refused code) is = refl
    by NoMemory is = refl
call_quiet p (HandsOut other) is still = absurd (none-some other (sym is))
call_quiet p (Drops other) is still = absurd (none-some other (sym is))
call_quiet p (SetsLogLimit limit) is still = refl
call_quiet p (SetsQueueLimit limit) is still = refl
