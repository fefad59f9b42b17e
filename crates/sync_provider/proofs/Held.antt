-- The open searches as they are kept, by their numbers.
use Rattle.std.proofs.Common.{◌≡◌, ◌≤◌, ℕ, Bool, true, false, cond, List, [], ◌∷◌, length, Option, Some, None, refl, ap, sym, ◌∙◌, arith}
use Rattle.std.specs.Prelude.{is_some, option_map}
use Rattle.std.specs.BTreeMap.{insert_entry, is_at}
use Rattle.std.specs.Ordering.{nat_cmp, match_ordering}
use Rattle.std.specs.declared.cmp.Ordering.{Ordering}
use Rattle.std.specs.declared.cmp.Ordering.TheVariants.{Less, Equal, Greater}
use Rattle.std.proofs.lemmas.List.{length-map}
use Rattle.std.proofs.lemmas.Map.Made.{lookup-map_values}
use Rattle.directory_writes.specs.Directory.{DirectoryState}
use Rattle.directory_writes.proofs.Keyed.{kept_at, closed_at, put_on}
use Rattle.sync_provider.specs.HandingOut.{search_at, turn_of_pending, turn_of_found, turn_at}
use Rattle.sync_provider.specs.Placing.{put_back, ComesBack, shown}
use Rattle.sync_provider.specs.Search.{pending}
use Rattle.sync_provider.specs.Staging.{HeldSearch, searches_of, each_unstaged}

abbrev Held : Type 0
Held = List (ℕ × HeldSearch)

-- ---- one of them

-- the search of a number
pub search_held : (es : Held) (k : ℕ) → search_at (searches_of es) k ≡ option_map (λ held. held.search) (kept_at es k)
search_held es k = lookup-map_values (λ held. held.search) (is_at (nat_cmp k)) es

-- the one that is kept
pub search_found : (es : Held) (k : ℕ) (held : HeldSearch) → kept_at es k ≡ Some held → search_at (searches_of es) k ≡ Some held.search
search_found es k held found = search_held es k ∙ ap (option_map (λ held. held.search)) found

-- what is handed out of it
pub turn_found : (d : DirectoryState) (es : Held) (k : ℕ) (held : HeldSearch) → kept_at es k ≡ Some held → turn_at d (searches_of es) k ≡ turn_of_pending held.search.id (pending d held.search)
turn_found d es k held found = ap (turn_of_found d) (search_found es k held found)

-- none, where none is kept
pub search_none : (es : Held) (k : ℕ) → kept_at es k ≡ None → search_at (searches_of es) k ≡ None
search_none es k found = search_held es k ∙ ap (option_map (λ held. held.search)) found

-- there is one exactly where one is kept
pub search_some : (es : Held) (k : ℕ) → is_some (search_at (searches_of es) k) ≡ is_some (kept_at es k)
search_some es k = ap is_some (search_held es k) ∙ by (kept_at es k) where
  by : (found : Option HeldSearch) → is_some (option_map (λ held. held.search) found) ≡ is_some found
  by None = refl
  by (Some held) = refl

-- ---- after a change of one

-- one is closed
pub held_closed : (es : Held) (k : ℕ) → searches_of (closed_at es k) ≡ closed_at (searches_of es) k
held_closed [] k = refl
held_closed (e ∷ es) k = by (is_at (nat_cmp k) e.0) (held_closed es k) where
  by : (b : Bool) → searches_of (closed_at es k) ≡ closed_at (searches_of es) k
      → searches_of (cond b es (e ∷ closed_at es k)) ≡ cond b (searches_of es) ((e.0, e.1.search) ∷ closed_at (searches_of es) k)
  by true rest = refl
  by false rest = ap (λ xs. (e.0, e.1.search) ∷ xs) rest

-- one is in the place of another
pub held_put : (es : Held) (k : ℕ) (held : HeldSearch) → searches_of (put_on es k held) ≡ put_on (searches_of es) k held.search
held_put [] k held = refl
held_put (e ∷ es) k held = by (is_at (nat_cmp k) e.0) (held_put es k held) where
  by : (b : Bool) → searches_of (put_on es k held) ≡ put_on (searches_of es) k held.search
      → searches_of (cond b ((e.0, held) ∷ es) (e ∷ put_on es k held)) ≡ cond b ((e.0, held.search) ∷ searches_of es) ((e.0, e.1.search) ∷ put_on (searches_of es) k held.search)
  by true rest = refl
  by false rest = ap (λ xs. (e.0, e.1.search) ∷ xs) rest

-- one is opened
pub held_opened : (es : Held) (k : ℕ) (held : HeldSearch) → searches_of (insert_entry nat_cmp es k held) ≡ insert_entry nat_cmp (searches_of es) k held.search
held_opened [] k held = refl
held_opened (e ∷ es) k held = by (nat_cmp k e.0) (held_opened es k held) where
  by : (o : Ordering) → searches_of (insert_entry nat_cmp es k held) ≡ insert_entry nat_cmp (searches_of es) k held.search
      → searches_of (match_ordering o ((k, held) ∷ e ∷ es) ((e.0, held) ∷ es) (e ∷ insert_entry nat_cmp es k held))
      ≡ match_ordering o ((k, held.search) ∷ (e.0, e.1.search) ∷ searches_of es) ((e.0, held.search) ∷ searches_of es) ((e.0, e.1.search) ∷ insert_entry nat_cmp (searches_of es) k held.search)
  by Less rest = refl
  by Equal rest = refl
  by Greater rest = ap (λ xs. (e.0, e.1.search) ∷ xs) rest

-- there are no more searches than are kept
pub as_many : (es : Held) (n : ℕ) → length es ≤ n → length (searches_of es) ≤ n
as_many es n few = let same : length (searches_of es) ≡ length es = length-map es (λ held. (held.0, held.1.search)) in omega (arith, same, few)

-- what is put back, or taken out where nothing was
pub held_put_back : (es : Held) (k : ℕ) (found : Option HeldSearch) → searches_of (put_back es k found) ≡ put_back (searches_of es) k (shown found)
held_put_back es k None = held_closed es k
held_put_back es k (Some held) = held_opened es k held

-- one comes back
pub search_back : (es : Held) (k : ℕ) → ComesBack es k → ComesBack (searches_of es) k
search_back es k back =
    (λ i. put_back (sym (held_closed es k) i) k (search_held es k i))
    ∙ sym (held_put_back (closed_at es k) k (kept_at es k))
    ∙ ap searches_of back

-- ---- what is staged

-- the searches are as before where nothing is staged any more
pub unstaged_seen : (es : Held) → searches_of (each_unstaged es) ≡ searches_of es
unstaged_seen [] = refl
unstaged_seen (e ∷ es) = ap (λ xs. (e.0, e.1.search) ∷ xs) (unstaged_seen es)
