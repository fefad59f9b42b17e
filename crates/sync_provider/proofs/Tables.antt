-- Open searches in the places of their numbers.
use Rattle.std.proofs.Common.{◌≡◌, ◌<◌, ◌≤◌, ◌+◌, ◌-◌, ◌⊎◌, ℕ, zero, suc, Bool, true, false, cond, List, [], ◌∷◌, ◌++◌, length, map, take, drop, set, get_or, Option, Some, None, refl, ap, sym, subst, ◌∙◌, inl, inr, arith}
use Rattle.std.specs.Prelude.{option_map}
use Rattle.std.specs.BTreeMap.{insert_entry, is_at}
use Rattle.std.specs.Ordering.{nat_cmp, match_ordering}
use Rattle.std.proofs.lemmas.Bool.{cases_order}
use Rattle.std.proofs.lemmas.List.{length-set, map-id}
use Rattle.directory_writes.proofs.Keyed.{kept_at, closed_at, put_on, less_cmp, same_cmp, more_cmp, is_at-same, is_at-other}
use Rattle.sync_provider.specs.Placing.{AreFree, AreFreeFrom, Ascends, HasNoPlace, IsSearchNumber, IsTable, placed_from, put_back, ComesBack, shown, pushed_at, unstaged_at}
use Rattle.sync_provider.specs.Search.{SearchState}
use Rattle.sync_provider.specs.Staging.{HeldSearch, searches_of, pushed_staged, each_pushed}

abbrev Order : ℕ → ℕ → Type 0
Order a b = (a ≡ b) ⊎ ((a < b) ⊎ (b < a))

-- ---- numbers that ascend from one on

-- numbers that ascend from a greater one on
pub weaker : {X : Type 0} (es : List (ℕ × X)) (low next : ℕ) → low ≤ next → Ascends next es → Ascends low es
weaker [] low next less h = tt
weaker (e ∷ es) low next less h = (omega (arith, h.0), h.1)

-- the numbers of places do
pub placed_ascends : {X : Type 0} (places : List (Option X)) (first : ℕ) → Ascends first (placed_from first places)
placed_ascends [] first = tt
placed_ascends (None ∷ places) first = weaker (placed_from (suc first) places) first (suc first) (omega arith) (placed_ascends places (suc first))
placed_ascends (Some held ∷ places) first = (omega arith, placed_ascends places (suc first))

-- there are no more than places
pub placed_length : {X : Type 0} (places : List (Option X)) (first : ℕ) → length (placed_from first places) ≤ length places
placed_length [] first = omega arith
placed_length (None ∷ places) first = let rest : length (placed_from (suc first) places) ≤ length places = placed_length places (suc first) in omega (arith, rest)
placed_length (Some held ∷ places) first = let rest : length (placed_from (suc first) places) ≤ length places = placed_length places (suc first) in omega (arith, rest)

-- nothing is kept at a number below all
pub none_below : {X : Type 0} (es : List (ℕ × X)) (low k : ℕ) → Ascends low es → k < low → kept_at es k ≡ None
none_below [] low k h less = refl
none_below (e ∷ es) low k h less =
    let more : k < e.0 = omega (arith, h.0) in
    ap (λ b. cond b (Some e.1) (kept_at es k)) (is_at-other k e.0 (λ same. omega arith)) ∙ none_below es (suc e.0) k h.1 (omega arith)

closed_below : {X : Type 0} (es : List (ℕ × X)) (low k : ℕ) → Ascends low es → k < low → closed_at es k ≡ es
closed_below [] low k h less = refl
closed_below (e ∷ es) low k h less =
    let more : k < e.0 = omega (arith, h.0) in
    ap (λ b. cond b es (e ∷ closed_at es k)) (is_at-other k e.0 (λ same. omega arith)) ∙ ap (λ xs. e ∷ xs) (closed_below es (suc e.0) k h.1 (omega arith))

put_below : {X : Type 0} (es : List (ℕ × X)) (low k : ℕ) (x : X) → Ascends low es → k < low → insert_entry nat_cmp es k x ≡ (k, x) ∷ es
put_below [] low k x h less = refl
put_below (e ∷ es) low k x h less =
    let more : k < e.0 = omega (arith, h.0) in
    ap (λ o. match_ordering o ((k, x) ∷ e ∷ es) ((e.0, x) ∷ es) (e ∷ insert_entry nat_cmp es k x)) (less_cmp k e.0 more)

-- what is put back of a number above the first one
later_back : {X : Type 0} (e : ℕ × X) (es : List (ℕ × X)) (k : ℕ) → e.0 < k → (found : Option X) → put_back (e ∷ es) k found ≡ e ∷ put_back es k found
later_back e es k more None = ap (λ b. cond b es (e ∷ closed_at es k)) (is_at-other k e.0 (λ same. omega arith))
later_back e es k more (Some x) = ap (λ o. match_ordering o ((k, x) ∷ e ∷ es) ((e.0, x) ∷ es) (e ∷ insert_entry nat_cmp es k x)) (more_cmp k e.0 more)

-- what is taken out and put back leaves all as it was
pub comes_back : {X : Type 0} (es : List (ℕ × X)) (low k : ℕ) → Ascends low es → ComesBack es k
comes_back [] low k h = refl
comes_back (e ∷ es) low k h = by (comes_back es (suc e.0) k h.1) (cases_order k e.0)
  where
    by : ComesBack es k → Order k e.0 → ComesBack (e ∷ es) k
    by rest (inl same) =
        let here : is_at (nat_cmp k) e.0 ≡ true = is_at-same k e.0 same in
        (λ i. put_back (cond (here i) es (e ∷ closed_at es k)) k (cond (here i) (Some e.1) (kept_at es k)))
        ∙ put_below es (suc e.0) k e.1 h.1 (omega arith)
        ∙ ap (λ n. (n, e.1) ∷ es) same
    by rest (inr (inl less)) =
        let all : Ascends e.0 (e ∷ es) = (omega arith, h.1) in
        let same : closed_at (e ∷ es) k ≡ e ∷ es = closed_below (e ∷ es) e.0 k all less in
        (λ i. put_back (same i) k (none_below (e ∷ es) e.0 k all less i)) ∙ same
    by rest (inr (inr more)) =
        let apart : is_at (nat_cmp k) e.0 ≡ false = is_at-other k e.0 (λ same. omega arith) in
        (λ i. put_back (cond (apart i) es (e ∷ closed_at es k)) k (cond (apart i) (Some e.1) (kept_at es k)))
        ∙ later_back e (closed_at es k) k more (kept_at es k)
        ∙ ap (λ xs. e ∷ xs) rest

-- and what is put back otherwise stands in the place of what was taken out
put_again : {X : Type 0} (es : List (ℕ × X)) (low k : ℕ) (was x : X) → Ascends low es → kept_at es k ≡ Some was → insert_entry nat_cmp (closed_at es k) k x ≡ put_on es k x
put_again [] low k was x h found = absurd (far found)
  where
    far : None ≡ Some was → ⊥
    far e = cc
put_again (e ∷ es) low k was x h found = by (put_again es (suc e.0) k was x h.1) (cases_order k e.0)
  where
    far : None ≡ Some was → ⊥
    far e = cc

    by : (kept_at es k ≡ Some was → insert_entry nat_cmp (closed_at es k) k x ≡ put_on es k x) → Order k e.0 → insert_entry nat_cmp (closed_at (e ∷ es) k) k x ≡ put_on (e ∷ es) k x
    by rest (inl same) =
        let here : is_at (nat_cmp k) e.0 ≡ true = is_at-same k e.0 same in
        (λ i. insert_entry nat_cmp (cond (here i) es (e ∷ closed_at es k)) k x)
        ∙ put_below es (suc e.0) k x h.1 (omega arith)
        ∙ ap (λ n. (n, x) ∷ es) same
        ∙ sym (ap (λ b. cond b ((e.0, x) ∷ es) (e ∷ put_on es k x)) here)
    by rest (inr (inl less)) =
        let all : Ascends e.0 (e ∷ es) = (omega arith, h.1) in
        absurd (far (sym (none_below (e ∷ es) e.0 k all less) ∙ found))
    by rest (inr (inr more)) =
        let apart : is_at (nat_cmp k) e.0 ≡ false = is_at-other k e.0 (λ same. omega arith) in
        (λ i. insert_entry nat_cmp (cond (apart i) es (e ∷ closed_at es k)) k x)
        ∙ ap (λ o. match_ordering o ((k, x) ∷ e ∷ closed_at es k) ((e.0, x) ∷ closed_at es k) (e ∷ insert_entry nat_cmp (closed_at es k) k x)) (more_cmp k e.0 more)
        ∙ ap (λ xs. e ∷ xs) (rest (sym (ap (λ b. cond b (Some e.1) (kept_at es k)) apart) ∙ found))
        ∙ sym (ap (λ b. cond b ((e.0, x) ∷ es) (e ∷ put_on es k x)) apart)

-- where there was none nothing is taken out
pub closed_none : {X : Type 0} (es : List (ℕ × X)) (k : ℕ) → kept_at es k ≡ None → closed_at es k ≡ es
closed_none [] k none = refl
closed_none (e ∷ es) k none = by (closed_none es k) (is_at (nat_cmp k) e.0) refl
  where
    far : Some e.1 ≡ None → ⊥
    far is = cc

    by : (kept_at es k ≡ None → closed_at es k ≡ es) → (b : Bool) → is_at (nat_cmp k) e.0 ≡ b → closed_at (e ∷ es) k ≡ e ∷ es
    by rest true hit = absurd (far (sym (ap (λ b. cond b (Some e.1) (kept_at es k)) hit) ∙ none))
    by rest false miss = ap (λ b. cond b es (e ∷ closed_at es k)) miss ∙ ap (λ xs. e ∷ xs) (rest (sym (ap (λ b. cond b (Some e.1) (kept_at es k)) miss) ∙ none))

-- what is taken out is gone
pub gone : {X : Type 0} (es : List (ℕ × X)) (low k : ℕ) → Ascends low es → kept_at (closed_at es k) k ≡ None
gone [] low k h = refl
gone (e ∷ es) low k h = by (gone es (suc e.0) k h.1) (cases_order k e.0)
  where
    apart : is_at (nat_cmp k) e.0 ≡ false → kept_at (closed_at es k) k ≡ None → kept_at (closed_at (e ∷ es) k) k ≡ None
    apart far rest = ap (λ b. kept_at (cond b es (e ∷ closed_at es k)) k) far ∙ ap (λ b. cond b (Some e.1) (kept_at (closed_at es k) k)) far ∙ rest

    by : kept_at (closed_at es k) k ≡ None → Order k e.0 → kept_at (closed_at (e ∷ es) k) k ≡ None
    by rest (inl same) = ap (λ b. kept_at (cond b es (e ∷ closed_at es k)) k) (is_at-same k e.0 same) ∙ none_below es (suc e.0) k h.1 (omega (arith, same))
    by rest (inr (inl less)) = apart (is_at-other k e.0 (λ same. omega arith)) rest
    by rest (inr (inr more)) = apart (is_at-other k e.0 (λ same. omega arith)) rest

-- at the place of a closed search there is none
pub gone_of : {X : Type 0} (places : List (Option X)) (es : List (ℕ × X)) (k : ℕ) → es ≡ closed_at (placed_from 1 places) k → kept_at es k ≡ None
gone_of places es k is = ap (λ xs. kept_at xs k) is ∙ gone (placed_from 1 places) 1 k (placed_ascends places 1)

-- a search that is put back stands at its place
pub put_again_at : {X : Type 0} (places : List (Option X)) (k : ℕ) (was : X) → kept_at (placed_from 1 places) k ≡ Some was
    → (x : X) → insert_entry nat_cmp (closed_at (placed_from 1 places) k) k x ≡ put_on (placed_from 1 places) k x
put_again_at places k was found x = put_again (placed_from 1 places) 1 k was x (placed_ascends places 1) found

-- each comes back so
pub all_come_back : {X : Type 0} (places : List (Option X)) (k : ℕ) → ComesBack (placed_from 1 places) k
all_come_back places k = comes_back (placed_from 1 places) 1 k (placed_ascends places 1)

-- ---- by places

kept_from : {X : Type 0} (places : List (Option X)) (first k place : ℕ) (x : Option X) → k ≡ first + place → place < length places → x ≡ get_or places place x → kept_at (placed_from first places) k ≡ x
kept_from [] first k place x at low is = absurd (omega arith)
kept_from (None ∷ places) first k zero x at low is = none_below (placed_from (suc first) places) (suc first) k (placed_ascends places (suc first)) (omega arith) ∙ sym is
kept_from (None ∷ places) first k (suc place) x at low is = kept_from places (suc first) k place x (omega arith) (omega arith) is
kept_from (Some held ∷ places) first k zero x at low is =
    ap (λ b. cond b (Some held) (kept_at (placed_from (suc first) places) k)) (is_at-same k first (omega arith)) ∙ sym is
kept_from (Some held ∷ places) first k (suc place) x at low is =
    ap (λ b. cond b (Some held) (kept_at (placed_from (suc first) places) k)) (is_at-other k first (λ same. omega arith))
    ∙ kept_from places (suc first) k place x (omega arith) (omega arith) is

none_past : {X : Type 0} (places : List (Option X)) (first k : ℕ) → first + length places ≤ k → kept_at (placed_from first places) k ≡ None
none_past [] first k past = refl
none_past (None ∷ places) first k past = none_past places (suc first) k (omega arith)
none_past (Some held ∷ places) first k past =
    ap (λ b. cond b (Some held) (kept_at (placed_from (suc first) places) k)) (is_at-other k first (λ same. omega arith)) ∙ none_past places (suc first) k (omega arith)

filled_from : {X : Type 0} (places : List (Option X)) (first k place : ℕ) (x : X) → k ≡ first + place → place < length places → placed_from first (set places place (Some x)) ≡ insert_entry nat_cmp (placed_from first places) k x
filled_from [] first k place x at low = absurd (omega arith)
filled_from (None ∷ places) first k zero x at low =
    let same : first ≡ k = omega arith in
    ap (λ n. (n, x) ∷ placed_from (suc first) places) same ∙ sym (put_below (placed_from (suc first) places) (suc first) k x (placed_ascends places (suc first)) (omega arith))
filled_from (None ∷ places) first k (suc place) x at low = filled_from places (suc first) k place x (omega arith) (omega arith)
filled_from (Some held ∷ places) first k zero x at low =
    let rest = placed_from (suc first) places in
    sym (ap (λ o. match_ordering o ((k, x) ∷ (first, held) ∷ rest) ((first, x) ∷ rest) ((first, held) ∷ insert_entry nat_cmp rest k x)) (same_cmp k first (omega arith)))
filled_from (Some held ∷ places) first k (suc place) x at low =
    let rest = placed_from (suc first) places in
    ap (λ es. (first, held) ∷ es) (filled_from places (suc first) k place x (omega arith) (omega arith))
    ∙ sym (ap (λ o. match_ordering o ((k, x) ∷ (first, held) ∷ rest) ((first, x) ∷ rest) ((first, held) ∷ insert_entry nat_cmp rest k x)) (more_cmp k first (omega arith)))

emptied_from : {X : Type 0} (places : List (Option X)) (first k place : ℕ) → k ≡ first + place → placed_from first (set places place None) ≡ closed_at (placed_from first places) k
emptied_from [] first k place at = refl
emptied_from (None ∷ places) first k zero at = sym (closed_below (placed_from (suc first) places) (suc first) k (placed_ascends places (suc first)) (omega arith))
emptied_from (None ∷ places) first k (suc place) at = emptied_from places (suc first) k place (omega arith)
emptied_from (Some held ∷ places) first k zero at =
    let rest = placed_from (suc first) places in
    sym (ap (λ b. cond b rest ((first, held) ∷ closed_at rest k)) (is_at-same k first (omega arith)))
emptied_from (Some held ∷ places) first k (suc place) at =
    let rest = placed_from (suc first) places in
    ap (λ es. (first, held) ∷ es) (emptied_from places (suc first) k place (omega arith))
    ∙ sym (ap (λ b. cond b rest ((first, held) ∷ closed_at rest k)) (is_at-other k first (λ same. omega arith)))

-- ---- by numbers

-- a number without a place has no search
pub none_at : {X : Type 0} (places : List (Option X)) (used number : ℕ) → IsTable used places → HasNoPlace number → kept_at (placed_from 1 places) number ≡ None
none_at places used number table (inl zero_is) = none_below (placed_from 1 places) 1 number (placed_ascends places 1) (omega arith)
none_at places used number table (inr past) = none_past places 1 number (omega (arith, table.long, past))

-- so nothing is taken out there
pub nothing_there : {X : Type 0} (places : List (Option X)) (used number : ℕ) → IsTable used places → HasNoPlace number → closed_at (placed_from 1 places) number ≡ placed_from 1 places
nothing_there places used number table (inl zero_is) = closed_below (placed_from 1 places) 1 number (placed_ascends places 1) (omega arith)
nothing_there places used number table (inr past) = closed_past places 1 (omega (arith, table.long, past))
  where
    closed_past : {X : Type 0} (places : List (Option X)) (first : ℕ) → first + length places ≤ number → closed_at (placed_from first places) number ≡ placed_from first places
    closed_past [] first past = refl
    closed_past (None ∷ places) first past = closed_past places (suc first) (omega arith)
    closed_past (Some held ∷ places) first past =
        let rest = placed_from (suc first) places in
        ap (λ b. cond b rest ((first, held) ∷ closed_at rest number)) (is_at-other number first (λ same. omega arith)) ∙ ap (λ es. (first, held) ∷ es) (closed_past places (suc first) (omega arith))

-- the search of a number stands in its place
pub found_at : {X : Type 0} (places : List (Option X)) (used number place : ℕ) (x : Option X) → IsTable used places → (number ≡ place + 1) × (place < 64) → x ≡ get_or places place x → kept_at (placed_from 1 places) number ≡ x
found_at places used number place x table at is = kept_from places 1 number place x (omega (arith, at.0)) (omega (arith, at.1, table.long)) is

-- it is put there
pub filled : {X : Type 0} (places : List (Option X)) (used number : ℕ) (x : X) → IsTable used places → IsSearchNumber number → placed_from 1 (set places (number - 1) (Some x)) ≡ insert_entry nat_cmp (placed_from 1 places) number x
filled places used number x table is = filled_from places 1 number (number - 1) x (omega (arith, is.first)) (omega (arith, is.first, is.last, table.long))

-- and taken out
pub emptied : {X : Type 0} (places : List (Option X)) (number place : ℕ) → (number ≡ place + 1) × (place < 64) → placed_from 1 (set places place None) ≡ closed_at (placed_from 1 places) number
emptied places number place at = emptied_from places 1 number place (omega (arith, at.0))

-- ---- all places

abbrev Places : Type 0
Places = List (Option HeldSearch)

-- the searches are those that their places show
seen_from : (places : Places) (first : ℕ) → searches_of (placed_from first places) ≡ placed_from first (map shown places)
seen_from [] first = refl
seen_from (None ∷ places) first = seen_from places (suc first)
seen_from (Some held ∷ places) first = ap (λ es. (first, held.search) ∷ es) (seen_from places (suc first))

pushed_from : (limit : ℕ) (places : Places) (first : ℕ) → each_pushed limit (placed_from first places) ≡ placed_from first (map (pushed_at limit) places)
pushed_from limit [] first = refl
pushed_from limit (None ∷ places) first = pushed_from limit places (suc first)
pushed_from limit (Some held ∷ places) first = ap (λ es. (first, pushed_staged limit held.staged held.search) ∷ es) (pushed_from limit places (suc first))

-- places that show the same
pub same_seen : (one other : Places) → map shown one ≡ map shown other → searches_of (placed_from 1 one) ≡ searches_of (placed_from 1 other)
same_seen one other same = seen_from one 1 ∙ ap (placed_from 1) same ∙ sym (seen_from other 1)

map_long : {X Y : Type 0} (f : X → Y) (xs : List X) → length (map f xs) ≡ length xs
map_long f [] = refl
map_long f (x ∷ xs) = ap suc (map_long f xs)

-- lists of places that show the same are equally long
pub same_long : (one other : Places) → map shown one ≡ map shown other → length one ≡ length other
same_long one other same = sym (map_long shown one) ∙ ap length same ∙ map_long shown other

-- so is what is made of each place
pub made_long : (make : Option HeldSearch → Option HeldSearch) (one other : Places) → one ≡ map make other → length one ≡ length other
made_long make one other same = ap length same ∙ map_long make other

-- so are the places after messages are pushed
pub pushed_long : (limit : ℕ) (one other : Places) → map shown one ≡ map (pushed_at limit) other → length one ≡ length other
pushed_long limit one other same = sym (map_long shown one) ∙ ap length same ∙ map_long (pushed_at limit) other

-- what is pushed into each place is pushed into each search
pub each_seen_pushed : (limit : ℕ) (new old : Places) → map shown new ≡ map (pushed_at limit) old → searches_of (placed_from 1 new) ≡ each_pushed limit (placed_from 1 old)
each_seen_pushed limit new old same = seen_from new 1 ∙ ap (placed_from 1) same ∙ sym (pushed_from limit old 1)

-- what is made of each search is made of each place
placed_map_from : (f : HeldSearch → HeldSearch) (places : Places) (first : ℕ) → placed_from first (map (option_map f) places) ≡ map (λ kept. (kept.0, f kept.1)) (placed_from first places)
placed_map_from f [] first = refl
placed_map_from f (None ∷ places) first = placed_map_from f places (suc first)
placed_map_from f (Some held ∷ places) first = ap (λ es. (first, f held) ∷ es) (placed_map_from f places (suc first))

-- a change of each place is one of each search
pub placed_map : (f : HeldSearch → HeldSearch) (places : Places) → placed_from 1 (map (option_map f) places) ≡ map (λ kept. (kept.0, f kept.1)) (placed_from 1 places)
placed_map f places = placed_map_from f places 1

-- ---- places that are free

free_after : {X : Type 0} (places : List (Option X)) (n : ℕ) → AreFree places → AreFree (drop n places)
free_after places zero free = free
free_after [] (suc n) free = tt
free_after (None ∷ places) (suc n) free = free_after places n free
free_after (Some held ∷ places) (suc n) free = absurd free

-- those after more places are among those after fewer
pub free_further : {X : Type 0} (places : List (Option X)) (n more : ℕ) → n ≤ more → AreFreeFrom n places → AreFreeFrom more places
free_further places zero more less free = free_after places more free
free_further [] (suc n) more less free = free_after [] more free
free_further (place ∷ places) (suc n) zero less free = absurd (omega arith)
free_further (place ∷ places) (suc n) (suc more) less free = free_further places n more (omega arith) free

-- what is put before them leaves them free
pub free_beyond : {X : Type 0} (places : List (Option X)) (n i : ℕ) (x : Option X) → i < n → AreFreeFrom n places → AreFreeFrom n (set places i x)
free_beyond [] n i x less free = free
free_beyond (place ∷ places) zero i x less free = absurd (omega arith)
free_beyond (place ∷ places) (suc n) zero x less free = free
free_beyond (place ∷ places) (suc n) (suc i) x less free = free_beyond places n i x (omega arith) free

-- a place that gets free leaves them so
pub free_emptied : {X : Type 0} (places : List (Option X)) (n i : ℕ) → AreFreeFrom n places → AreFreeFrom n (set places i None)
free_emptied [] n i free = free
free_emptied (None ∷ places) zero zero free = free
free_emptied (None ∷ places) zero (suc i) free = free_emptied places zero i free
free_emptied (Some held ∷ places) zero i free = absurd free
free_emptied (place ∷ places) (suc n) zero free = free
free_emptied (place ∷ places) (suc n) (suc i) free = free_emptied places n i free

-- so do places that show what is made of them, where nothing is made of a free one
free_shown : (make : Option HeldSearch → Option SearchState) → make None ≡ None → (n : ℕ) (one other : Places) → map shown one ≡ map make other → AreFreeFrom n other → AreFreeFrom n one
free_shown make none n [] other same free = free_after [] n tt
free_shown make none n (x ∷ one) [] same free = absurd (cc)
free_shown make none zero (None ∷ one) (None ∷ other) same free = free_shown make none zero one other (ap (drop 1) same) free
free_shown make none zero (Some held ∷ one) (None ∷ other) same free = absurd (apart (ap (λ ss. get_or ss 0 None) same ∙ none))
  where
    apart : Some held.search ≡ None → ⊥
    apart h = cc
free_shown make none zero (x ∷ one) (Some held ∷ other) same free = absurd free
free_shown make none (suc n) (x ∷ one) (y ∷ other) same free = free_shown make none n one other (ap (drop 1) same) free

unstaged_free : (n : ℕ) (places : Places) → AreFreeFrom n places → AreFreeFrom n (map unstaged_at places)
unstaged_free zero [] free = tt
unstaged_free zero (None ∷ places) free = unstaged_free zero places free
unstaged_free zero (Some held ∷ places) free = absurd free
unstaged_free (suc n) [] free = tt
unstaged_free (suc n) (place ∷ places) free = unstaged_free n places free

none_free : {X : Type 0} (places : List (Option X)) (first : ℕ) → placed_from first places ≡ [] → AreFree places
none_free [] first none = tt
none_free (None ∷ places) first none = none_free places (suc first) none
none_free (Some held ∷ places) first none = absurd (cc)

-- ---- tables

-- at first each place is free
pub table_free : {X : Type 0} (places : List (Option X)) → length places ≡ 64 → placed_from 1 places ≡ [] → IsTable 0 places
table_free places long none = record { long = long; few = omega arith; free = none_free places 1 none }

-- a search is put at a number, up to which places are in use from now on
pub table_put : {X : Type 0} (places : List (Option X)) (used number next : ℕ) (x : X) → IsTable used places → IsSearchNumber number → used ≤ next → number ≤ next → next ≤ 64
    → IsTable next (set places (number - 1) (Some x))
table_put places used number next x table is more at few = record {
  long = length-set places (number - 1) (Some x) ∙ table.long;
  few = few;
  free = free_beyond places next (number - 1) (Some x) (omega (arith, is.first, at)) (free_further places used next more table.free);
}

-- a place gets free
pub table_emptied : {X : Type 0} (places : List (Option X)) (used i : ℕ) → IsTable used places → IsTable used (set places i None)
table_emptied places used i table = record {
  long = length-set places i None ∙ table.long;
  few = table.few;
  free = free_emptied places used i table.free;
}

-- places that show the same as others
pub table_same : (used : ℕ) (one other : Places) → IsTable used other → map shown one ≡ map shown other → IsTable used one
table_same used one other table same = record {
  long = same_long one other same ∙ table.long;
  few = table.few;
  free = free_shown shown refl used one other same table.free;
}

-- those into which messages are pushed
pub table_pushed : (limit used : ℕ) (one other : Places) → IsTable used other → map shown one ≡ map (pushed_at limit) other → IsTable used one
table_pushed limit used one other table same = record {
  long = pushed_long limit one other same ∙ table.long;
  few = table.few;
  free = free_shown (pushed_at limit) refl used one other same table.free;
}

-- and those without what was staged
pub table_unstaged : (used : ℕ) (one other : Places) → IsTable used other → one ≡ map unstaged_at other → IsTable used one
table_unstaged used one other table same = record {
  long = made_long unstaged_at one other same ∙ table.long;
  few = table.few;
  free = subst (λ (places : Places). AreFreeFrom used places) (sym same) (unstaged_free used other table.free);
}

-- ---- one place after another

-- a free place more
pub free_pushed : {X : Type 0} (places : List (Option X)) (first : ℕ) → placed_from first (places ++ None ∷ []) ≡ placed_from first places
free_pushed [] first = refl
free_pushed (None ∷ places) first = free_pushed places (suc first)
free_pushed (Some held ∷ places) first = ap (λ es. (first, held) ∷ es) (free_pushed places (suc first))

-- a place that shows the same
pub set_shown : (places : Places) (i : ℕ) (was now : Option HeldSearch) → was ≡ get_or places i was → shown now ≡ shown was → map shown (set places i now) ≡ map shown places
set_shown [] i was now is same = refl
set_shown (place ∷ places) zero was now is same = ap (λ s. s ∷ map shown places) (same ∙ ap shown is)
set_shown (place ∷ places) (suc i) was now is same = ap (λ ss. shown place ∷ ss) (set_shown places i was now is same)

-- after n of the places these are changed so, as far as it is seen, and the others are as before
pub record AreMade {S : Type 0} (see make : Option HeldSearch → S) (n : ℕ) (old new : Places) : Type 0 where
  pub done : map see (take n new) ≡ map make (take n old)
  pub rest : drop n new ≡ drop n old
  pub long : length new ≡ length old

-- at first no place is made
pub none_made : {S : Type 0} (see make : Option HeldSearch → S) (places : Places) → AreMade see make 0 places places
none_made see make places = record { done = refl; rest = refl; long = refl }

-- after the last one in use all are, where nothing is made of a free one
pub used_made : {S : Type 0} (see make : Option HeldSearch → S) (used n : ℕ) (old new : Places) → see None ≡ make None → AreMade see make n old new → used ≤ n → IsTable used old → map see new ≡ map make old
used_made see make used n old new none are all table = by n old new are.done are.rest are.long (free_further old used n all table.free)
  where
    none_of : (places : Places) → AreFree places → map see places ≡ map make places
    none_of [] h = refl
    none_of (None ∷ places) h = λ i. none i ∷ none_of places h i
    none_of (Some held ∷ places) h = absurd h

    by : (k : ℕ) (was now : Places) → map see (take k now) ≡ map make (take k was) → drop k now ≡ drop k was → length now ≡ length was → AreFreeFrom k was → map see now ≡ map make was
    by zero was now done rest long h = ap (map see) rest ∙ none_of was h
    by (suc k) [] [] done rest long h = refl
    by (suc k) [] (y ∷ now) done rest long h = absurd (omega (arith, long))
    by (suc k) (x ∷ was) [] done rest long h = absurd (omega (arith, long))
    by (suc k) (x ∷ was) (y ∷ now) done rest long h =
        let head : see y ≡ make x = ap (λ ss. get_or ss 0 (see y)) done in
        let tail = by k was now (ap (drop 1) done) rest (omega (arith, long)) h in
        λ i. head i ∷ tail i

-- all of them as they are
pub used_whole : (make : Option HeldSearch → Option HeldSearch) (used n : ℕ) (old new : Places) → make None ≡ None → AreMade (λ place. place) make n old new → used ≤ n → IsTable used old → new ≡ map make old
used_whole make used n old new none are all table = sym (map-id new) ∙ used_made (λ place. place) make used n old new (sym none) are all table

make_next : {S : Type 0} (see make : Option HeldSearch → S) (i : ℕ) (old new : Places) (was now : Option HeldSearch) → i < length old → AreMade see make i old new → was ≡ get_or new i was → see now ≡ make was
    → AreMade see make (suc i) old (set new i now)
make_next see make i [] new was now low are is same = absurd (omega arith)
make_next see make i (x ∷ old) [] was now low are is same = absurd (omega (arith, are.long))
make_next see make zero (x ∷ old) (y ∷ new) was now low are is same =
    let first : y ≡ x = ap (λ xs. get_or xs 0 x) are.rest in
    record {
      done = ap (λ s. s ∷ []) (same ∙ ap make (is ∙ first));
      rest = ap (drop 1) are.rest;
      long = are.long;
    }
make_next see make (suc i) (x ∷ old) (y ∷ new) was now low are is same =
    let inner : AreMade see make i old new = record { done = ap (drop 1) are.done; rest = are.rest; long = omega (arith, are.long) } in
    let next = make_next see make i old new was now (omega arith) inner is same in
    let head : see y ≡ make x = ap (λ ss. get_or ss 0 (see y)) are.done in
    record {
      done = λ k. head k ∷ next.done k;
      rest = next.rest;
      long = ap suc next.long;
    }

-- one place more is made
pub made_on : {S : Type 0} (see make : Option HeldSearch → S) (i : ℕ) (old new : Places) (was now : Option HeldSearch) → i < length old → AreMade see make i old new → was ≡ get_or new i was → see now ≡ make was
    → AreMade see make (i + 1) old (set new i now)
made_on see make i old new was now low are is same =
    let more : suc i ≡ i + 1 = omega arith in
    subst (λ n. AreMade see make n old (set new i now)) more (make_next see make i old new was now low are is same)
