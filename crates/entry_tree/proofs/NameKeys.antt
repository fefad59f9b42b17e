-- What stands at the path keys of an index after a step.
use Rattle.std.proofs.Common.{◌≡◌, ◌<◌, ◌≤◌, ◌+◌, ◌⊎◌, ℕ, Bool, true, false, not, ◌&&◌, ◌||◌, cond, nat_eq, List, [], ◌∷◌, ◌++◌, length, take, get_or, Option, Some, None, Vec, Global, sym, ap, refl, ◌∙◌, subst, arith, inl, inr}
use Rattle.std.specs.Prelude.{bytes_eq, IfSome}
use Rattle.std.specs.BTreeMap.{is_at, insert_entry}
use Rattle.std.specs.Cmp.Lexicographic.{slice_cmp, bytes_decides, nat_list_eq_equiv}
use Rattle.std.specs.List.{AllByRecursion, filter}
use Rattle.std.specs.List.Sorted.{IsStrictlySortedBy}
use Rattle.std.specs.Map.{keys_of, remove_entry}
use Rattle.std.specs.Ordering.{nat_cmp, is_eq, match_ordering}
use Rattle.std.specs.declared.cmp.Ordering.{Ordering}
use Rattle.std.specs.declared.cmp.Ordering.TheVariants.{Less, Equal, Greater}
use Rattle.std.proofs.lemmas.Bool.{false≢true, eqb-true, eq-eqb, cases_lt, lt-ltb, le-ltb}
use Rattle.std.proofs.lemmas.List.{take_more}
use Rattle.std.proofs.lemmas.List.Folds.{list_any-append}
use Rattle.std.proofs.lemmas.Map.Keys.{sorted_head, sorted_tail}
use Rattle.std.proofs.lemmas.Map.Lookups.{exact_bytes}
use Rattle.std.proofs.lemmas.Map.Text.{is_eq-slice_cmp}
use Rattle.entry_tree.specs.NameIndex.{Names, found_at, listed, ids_at, stands_at, HasNoEmpty, IsLeast, lesser, Sets, Writes}
use Rattle.entry_tree.proofs.Rising.{among, among-filter}

-- the order of keys, by their octets
abbrev pub key_cmp : Vec ℕ Global → Vec ℕ Global → Ordering
key_cmp one other = slice_cmp nat_cmp one.items other.items

-- the key is this path
abbrev pub is_key : List ℕ → Vec ℕ Global → Bool
is_key path = is_at (λ (key : Vec ℕ Global). slice_cmp nat_cmp path key.items)

-- bytes that pass the test are the same
pub same_bytes : (one other : List ℕ) → bytes_eq one other ≡ true → one ≡ other
same_bytes one other same = (bytes_decides one other).0 same

-- the text of a key that is this path
pub key_is : (path : List ℕ) (key : Vec ℕ Global) → is_key path key ≡ true → path ≡ key.items
key_is path key here = same_bytes path key.items (sym (is_eq-slice_cmp path key.items) ∙ here)

-- a key by its own text
pub own_key : (path : List ℕ) (key : Vec ℕ Global) → path ≡ key.items → is_key path key ≡ true
own_key path key is = is_eq-slice_cmp path key.items ∙ (bytes_decides path key.items).1 is

-- the test of a key, as one of octets
pub is_key-bytes_eq : (path : List ℕ) (key : Vec ℕ Global) → is_key path key ≡ bytes_eq key.items path
is_key-bytes_eq path key = is_eq-slice_cmp path key.items ∙ nat_list_eq_equiv.symm path key.items

-- ---- what is found after a key is written

-- keys that are in order differ
apart : (path : List ℕ) (one other : Vec ℕ Global) → key_cmp one other ≡ Greater → is_key path other ≡ true → bytes_eq one.items path ≡ true → ⊥
apart path one other more here same =
    let text : one.items ≡ other.items = same_bytes one.items path same ∙ key_is path other here in
    false≢true (sym (ap is_eq more) ∙ is_eq-slice_cmp one.items other.items ∙ (bytes_decides one.items other.items).1 text)

-- at this key stand these identities, and at others what stood there
pub found_written : (names : Names) (key ids : Vec ℕ Global) (path : List ℕ) → found_at (insert_entry key_cmp names key ids) path ≡ cond (bytes_eq key.items path) (Some ids) (found_at names path)
found_written [] key ids path = ap (λ b. cond b (Some ids) None) (is_key-bytes_eq path key)
found_written (e ∷ names) key ids path = by (key_cmp key e.0) refl (found_written names key ids path)
  where
    old : Option (Vec ℕ Global)
    old = found_at names path

    before : (s : Bool) → is_key path e.0 ≡ s → (b : Bool) → bytes_eq key.items path ≡ b → key_cmp key e.0 ≡ Equal → cond s (Some ids) old ≡ cond b (Some ids) (cond s (Some e.1) old)
    before true here true same equal = refl
    before true here false differ equal =
        let text : key.items ≡ e.0.items = exact_bytes key.items e.0.items equal in
        absurd (false≢true (sym differ ∙ (bytes_decides key.items path).1 (text ∙ sym (key_is path e.0 here))))
    before false off true same equal =
        let text : key.items ≡ e.0.items = exact_bytes key.items e.0.items equal in
        absurd (false≢true (sym off ∙ own_key path e.0 (sym (same_bytes key.items path same) ∙ text)))
    before false off false differ equal = refl

    after : (s : Bool) → is_key path e.0 ≡ s → (b : Bool) → bytes_eq key.items path ≡ b → key_cmp key e.0 ≡ Greater
        → (found : Option (Vec ℕ Global)) → found ≡ cond b (Some ids) old → cond s (Some e.1) found ≡ cond b (Some ids) (cond s (Some e.1) old)
    after true here true same more found rest = absurd (apart path key e.0 more here same)
    after true here false differ more found rest = refl
    after false off b same more found rest = rest

    by : (o : Ordering) → key_cmp key e.0 ≡ o → found_at (insert_entry key_cmp names key ids) path ≡ cond (bytes_eq key.items path) (Some ids) old
        → found_at (match_ordering o ((key, ids) ∷ e ∷ names) ((e.0, ids) ∷ names) (e ∷ insert_entry key_cmp names key ids)) path
        ≡ cond (bytes_eq key.items path) (Some ids) (cond (is_key path e.0) (Some e.1) old)
    by Less less rest = ap (λ b. cond b (Some ids) (cond (is_key path e.0) (Some e.1) old)) (is_key-bytes_eq path key)
    by Equal equal rest = before (is_key path e.0) refl (bytes_eq key.items path) refl equal
    by Greater more rest = after (is_key path e.0) refl (bytes_eq key.items path) refl more (found_at (insert_entry key_cmp names key ids) path) rest

-- ---- what is found after a key is taken out

-- a key that all others are after is not found among them
pub none_later : (key : Vec ℕ Global) (path : List ℕ) (names : Names) → path ≡ key.items → AllByRecursion (λ other. key_cmp key other ≡ Less) (keys_of names) → found_at names path ≡ None
none_later key path [] is above = refl
none_later key path (e ∷ names) is above =
    ap (λ b. cond b (Some e.1) (found_at names path)) (ap (λ text. is_eq (slice_cmp nat_cmp text e.0.items)) is ∙ ap is_eq above.0) ∙ none_later key path names is above.1

-- at this key stands nothing, and at others what stood there
pub found_without : (names : Names) (path other : List ℕ) → IsStrictlySortedBy key_cmp (keys_of names) → found_at (remove_entry (is_key path) names) other ≡ cond (bytes_eq path other) None (found_at names other)
found_without [] path other ordered = by (bytes_eq path other)
  where
    by : (b : Bool) → ◌≡◌ {A = Option (Vec ℕ Global)} None (cond b None None)
    by true = refl
    by false = refl
found_without (e ∷ names) path other ordered = by (is_key path e.0) refl (is_key other e.0) refl (bytes_eq path other) refl (found_without names path other (sorted_tail key_cmp e.0 (keys_of names) ordered))
  where
    by : (p : Bool) → is_key path e.0 ≡ p → (s : Bool) → is_key other e.0 ≡ s → (b : Bool) → bytes_eq path other ≡ b
        → found_at (remove_entry (is_key path) names) other ≡ cond b None (found_at names other)
        → found_at (cond p names (e ∷ remove_entry (is_key path) names)) other ≡ cond b None (cond s (Some e.1) (found_at names other))
    by true gone s own true same rest =
        none_later e.0 other names (sym (same_bytes path other same) ∙ key_is path e.0 gone) (sorted_head key_cmp e.0 (keys_of names) ordered)
    by true gone true own false differ rest =
        absurd (false≢true (sym differ ∙ (bytes_decides path other).1 (key_is path e.0 gone ∙ sym (key_is other e.0 own))))
    by true gone false off false differ rest = refl
    by false stays true own true same rest =
        absurd (false≢true (sym stays ∙ own_key path e.0 (same_bytes path other same ∙ key_is other e.0 own)))
    by false stays true own false differ rest = ap (λ b. cond b (Some e.1) (found_at (remove_entry (is_key path) names) other)) own
    by false stays false off b same rest = ap (λ b. cond b (Some e.1) (found_at (remove_entry (is_key path) names) other)) off ∙ rest

-- ---- identities that are written at a path key

module _ (old new : Names) (path : List ℕ) where
  -- these take the place of all that stood there
  module _ (key ids : Vec ℕ Global) (text : key.items ≡ path) (is : new ≡ insert_entry key_cmp old key ids) where
    found_new : (other : List ℕ) → found_at new other ≡ cond (bytes_eq path other) (Some ids) (found_at old other)
    found_new other =
        ap (λ names. found_at names other) is ∙ found_written old key ids other ∙ ap (λ own. cond (bytes_eq own other) (Some ids) (found_at old other)) text

    -- these identities stand at the path key then
    pub writes_some : Writes old new path ids.items
    writes_some other id = ap (λ found. among id (listed found)) (found_new other) ∙ by (bytes_eq path other)
      where
        by : (b : Bool) → among id (listed (cond b (Some ids) (found_at old other))) ≡ cond b (among id ids.items) (stands_at old other id)
        by true = refl
        by false = refl

    -- where they are some, at each key stands one at least
    pub some_written : 0 < length ids.items → HasNoEmpty old → HasNoEmpty new
    some_written some all other = subst (λ found. IfSome found (λ (s : Vec ℕ Global). 0 < length s.items)) (sym (found_new other)) (by (bytes_eq path other))
      where
        by : (b : Bool) → IfSome (cond b (Some ids) (found_at old other)) (λ (s : Vec ℕ Global). 0 < length s.items)
        by true = some
        by false = all other

  -- no identity stands there
  module _ (ids : List ℕ) (none : length ids ≡ 0) (ordered : IsStrictlySortedBy key_cmp (keys_of old)) (is : new ≡ remove_entry (is_key path) old) where
    found_less : (other : List ℕ) → found_at new other ≡ cond (bytes_eq path other) None (found_at old other)
    found_less other = ap (λ names. found_at names other) is ∙ found_without old path other ordered

    -- where they are none, the key is gone
    pub writes_none : Writes old new path ids
    writes_none other id = ap (λ found. among id (listed found)) (found_less other) ∙ by (bytes_eq path other) ids none
      where
        by : (b : Bool) (us : List ℕ) → length us ≡ 0 → among id (listed (cond b None (found_at old other))) ≡ cond b (among id us) (stands_at old other id)
        by true [] empty = refl
        by true (u ∷ us) empty = absurd (omega (arith, empty))
        by false us empty = refl

    -- and at each other key stands one at least
    pub some_without : HasNoEmpty old → HasNoEmpty new
    some_without all other = subst (λ found. IfSome found (λ (s : Vec ℕ Global). 0 < length s.items)) (sym (found_less other)) (by (bytes_eq path other))
      where
        by : (b : Bool) → IfSome (cond b None (found_at old other)) (λ (s : Vec ℕ Global). 0 < length s.items)
        by true = tt
        by false = all other

-- a list with something is not empty
pub some_items : {X : Type 0} (ids : List X) (empty : Bool) → empty ≡ nat_eq (length ids) 0 → empty ≡ false → 0 < length ids
some_items [] empty is off = absurd (false≢true (sym off ∙ is))
some_items (u ∷ ids) empty is off = omega arith

-- a list that is said to be empty has no element
pub no_items : {X : Type 0} (ids : List X) (empty : Bool) → empty ≡ nat_eq (length ids) 0 → empty ≡ true → length ids ≡ 0
no_items ids empty is on = eqb-true (length ids) 0 (sym is ∙ on)

-- ---- one identity

same_ids : (names : Names) (path other : List ℕ) (id : ℕ) → bytes_eq path other ≡ true → stands_at names path id ≡ stands_at names other id
same_ids names path other id same = ap (λ text. stands_at names text id) (same_bytes path other same)

-- the identity stands there beside the others
pub sets_noted : (old new : Names) (path : List ℕ) (uuid : ℕ) (others : List ℕ) → others ≡ filter (λ id. not (nat_eq id uuid)) (ids_at old path) → Writes old new path (others ++ uuid ∷ [])
    → Sets old new path uuid true
sets_noted old new path uuid others are writes other id =
    writes other id
    ∙ ap (λ b. cond (bytes_eq path other) b (stands_at old other id))
    (list_any-append (nat_eq id) others (uuid ∷ []) ∙ ap (λ us. among id us || (nat_eq id uuid || false)) are
    ∙ ap (λ b. b || (nat_eq id uuid || false)) (among-filter (λ u. not (nat_eq u uuid)) id (ids_at old path)))
    ∙ by (bytes_eq path other) refl (nat_eq id uuid)
  where
    at : (c : Bool) → ((not c && stands_at old path id) || (c || false)) ≡ cond c true (stands_at old path id)
    at true = refl
    at false = either (stands_at old path id)
      where
        either : (s : Bool) → (s || (false || false)) ≡ s
        either true = refl
        either false = refl

    by : (b : Bool) → bytes_eq path other ≡ b → (c : Bool)
        → cond b ((not c && stands_at old path id) || (c || false)) (stands_at old other id) ≡ cond (b && c) true (stands_at old other id)
    by true same c = at c ∙ ap (cond c true) (same_ids old path other id same)
    by false differ c = refl

-- the others alone stand there
pub sets_forgotten : (old new : Names) (path : List ℕ) (uuid : ℕ) (others : List ℕ) → others ≡ filter (λ id. not (nat_eq id uuid)) (ids_at old path) → Writes old new path others
    → Sets old new path uuid false
sets_forgotten old new path uuid others are writes other id =
    writes other id
    ∙ ap (λ b. cond (bytes_eq path other) b (stands_at old other id))
    (ap (among id) are ∙ among-filter (λ u. not (nat_eq u uuid)) id (ids_at old path))
    ∙ by (bytes_eq path other) refl (nat_eq id uuid)
  where
    at : (c : Bool) → (not c && stands_at old path id) ≡ cond c false (stands_at old path id)
    at true = refl
    at false = refl

    by : (b : Bool) → bytes_eq path other ≡ b → (c : Bool)
        → cond b (not c && stands_at old path id) (stands_at old other id) ≡ cond (b && c) false (stands_at old other id)
    by true same c = at c ∙ ap (cond c false) (same_ids old path other id same)
    by false differ c = refl

-- what is found at a path key
pub ids_found : (names : Names) (path : List ℕ) (ids : Vec ℕ Global) → Some ids ≡ found_at names path → ids.items ≡ ids_at names path
ids_found names path ids found = ap listed found

-- at a key that is not there stands no identity
pub ids_absent : (names : Names) (path : List ℕ) → found_at names path ≡ None → ids_at names path ≡ []
ids_absent names path none = ap listed none

-- ---- the least identity

-- the least of some numbers and one more
least_with : (ns : List ℕ) (least : Option ℕ) (n : ℕ) → IsLeast ns least → IsLeast (ns ++ n ∷ []) (Some (lesser least n))
least_with ns None n none = (there n ∙ own (among n ns), λ u is. by u (nat_eq u n) refl is)
  where
    there : (u : ℕ) → among u (ns ++ n ∷ []) ≡ (among u ns || (nat_eq u n || false))
    there u = list_any-append (nat_eq u) ns (n ∷ [])

    own : (b : Bool) → (b || (nat_eq n n || false)) ≡ true
    own true = refl
    own false = ap (λ c. c || false) (eq-eqb n n refl)

    by : (u : ℕ) (b : Bool) → nat_eq u n ≡ b → among u (ns ++ n ∷ []) ≡ true → n ≤ u
    by u true same is = let at : u ≡ n = eqb-true u n same in omega (arith, at)
    by u false other is = absurd (false≢true (sym ((λ i. none u i || (other i || false))) ∙ sym (there u) ∙ is))
least_with ns (Some least) n has = by (cases_lt least n)
  where
    there : (u : ℕ) → among u (ns ++ n ∷ []) ≡ (among u ns || (nat_eq u n || false))
    there u = list_any-append (nat_eq u) ns (n ∷ [])

    own : (b : Bool) → (b || (nat_eq n n || false)) ≡ true
    own true = refl
    own false = ap (λ c. c || false) (eq-eqb n n refl)

    one_of : (u : ℕ) (a b : Bool) → among u ns ≡ a → nat_eq u n ≡ b → among u (ns ++ n ∷ []) ≡ true → (least ≤ u) ⊎ (u ≡ n)
    one_of u true b here same is = inl (has.1 u here)
    one_of u false true off same is = inr (eqb-true u n same)
    one_of u false false off other is = absurd (false≢true (sym (λ i. off i || (other i || false)) ∙ sym (there u) ∙ is))

    below : least < n → (u : ℕ) → (least ≤ u) ⊎ (u ≡ n) → least ≤ u
    below less u (inl low) = low
    below less u (inr same) = omega (arith, same)

    above : n ≤ least → (u : ℕ) → (least ≤ u) ⊎ (u ≡ n) → n ≤ u
    above more u (inl low) = omega (arith, low)
    above more u (inr same) = omega (arith, same)

    by : (least < n) ⊎ (n ≤ least) → IsLeast (ns ++ n ∷ []) (Some (lesser (Some least) n))
    by (inl less) =
        subst (λ u. IsLeast (ns ++ n ∷ []) (Some u)) (sym (ap (λ b. cond b least n) (lt-ltb least n less)))
        (there least ∙ ap (λ b. b || (nat_eq least n || false)) has.0, λ u is. below less u (one_of u (among u ns) (nat_eq u n) refl refl is))
    by (inr more) =
        subst (λ u. IsLeast (ns ++ n ∷ []) (Some u)) (sym (ap (λ b. cond b least n) (le-ltb least n more)))
        (there n ∙ own (among n ns), λ u is. above more u (one_of u (among u ns) (nat_eq u n) refl refl is))

-- one more number of a list is looked at
pub least_more : (ns : List ℕ) (i : ℕ) (least : Option ℕ) → i < length ns → IsLeast (take i ns) least → IsLeast (take (i + 1) ns) (Some (lesser least (get_or ns i 0)))
least_more ns i least low so_far =
    subst (λ us. IsLeast us (Some (lesser least (get_or ns i 0)))) (sym (take_more ns i 0 low)) (least_with (take i ns) least (get_or ns i 0) so_far)
