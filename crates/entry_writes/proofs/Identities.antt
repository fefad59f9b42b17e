-- What differs where a write keeps, changes or removes each entry by itself.
use Rattle.std.proofs.Common.{◌≡◌, ◌<◌, ◌+◌, ℕ, zero, suc, Bool, true, false, ◌||◌, cond, nat_eq, nat_lt, List, [], ◌∷◌, ◌++◌, length, map, take, get_or, Option, Some, None, ap, sym, ◌∙◌, refl, ◌⊎◌, inl, inr, arith}
use Rattle.std.specs.Option.{option_and_then}
use Rattle.std.specs.List.{All, filter, filter_map, cons_option, find, list_all, list_any}
use Rattle.std.specs.Ordering.{nat_cmp, match_ordering}
use Rattle.std.specs.declared.cmp.Ordering.TheVariants.{Less, Equal, Greater}
use Rattle.std.specs.BTreeSet.{insert_key}
use Rattle.std.proofs.lemmas.Bool.{false≢true, eqb-true, eq-eqb, ne_eqb, ltb-true, lt-ltb, le-ltb, and_parts, and_from, cases_order}
use Rattle.std.proofs.lemmas.List.Sums.{AllPass-from_list_all, list_all-from_AllPass}
use Rattle.std.proofs.lemmas.List.{map-append, take_more}
use Rattle.std.proofs.lemmas.List.Elements.{filter-append}
use Rattle.std.proofs.lemmas.List.Folds.{list_any_at}
use Rattle.std.proofs.lemmas.Simd.{map-map}
use Rattle.entry_writes.specs.declared.entry.Entry.{Entry}
use Rattle.entry_writes.specs.declared.touched.EntryChange.{EntryChange}
use Rattle.entry_writes.specs.State.{ascends, entry_at, is_identified}
use Rattle.entry_writes.specs.Touched.{identities, joined, change_at, is_change, touched}

-- whether all entries are above an identity
abbrev pub above : ℕ → List Entry → Bool
above u es = list_all (λ later. nat_lt u later.uuid) es

-- whether one of the entries has this identity
abbrev pub holds : List Entry → ℕ → Bool
holds es u = list_any (λ e. nat_eq e.uuid u) es

map_same : {X Y : Type 0} (f g : X → Y) (xs : List X) → All (λ x. f x ≡ g x) xs → map f xs ≡ map g xs
map_same f g [] h = refl
map_same f g (x ∷ xs) h =
    ap (λ y. y ∷ map f xs) (h 0 x (omega arith)) ∙ ap (λ ys. g x ∷ ys) (map_same f g xs (λ k d low. h (suc k) d (omega arith)))

-- ---- look-ups

apart : (u v : ℕ) → nat_lt u v ≡ true → nat_eq v u ≡ false
apart u v less = let below : u < v = ltb-true u v less in ne_eqb v u (λ e. omega arith)

-- an identity below all entries has no entry
pub none_at : (es : List Entry) (u : ℕ) → above u es ≡ true → entry_at es u ≡ None
none_at [] u h = refl
none_at (e ∷ es) u h =
    let p = and_parts (nat_lt u e.uuid) (above u es) h in
    ap (λ b. cond b (Some e) (entry_at es u)) (apart u e.uuid p.0) ∙ none_at es u p.1

-- an identity below all entries is not held
pub none_held : (es : List Entry) (u : ℕ) → above u es ≡ true → holds es u ≡ false
none_held [] u h = refl
none_held (e ∷ es) u h =
    let p = and_parts (nat_lt u e.uuid) (above u es) h in
    ap (λ b. b || holds es u) (apart u e.uuid p.0) ∙ none_held es u p.1

-- entries above an identity are above each lower one
pub above_lower : (es : List Entry) (a b : ℕ) → a < b → above b es ≡ true → above a es ≡ true
above_lower [] a b less h = refl
above_lower (e ∷ es) a b less h =
    let p = and_parts (nat_lt b e.uuid) (above b es) h in
    let far : b < e.uuid = ltb-true b e.uuid p.0 in
    and_from (nat_lt a e.uuid) (above a es) (lt-ltb a e.uuid (omega arith)) (above_lower es a b less p.1)

-- what is below the first entry, below which none of the others is, is below all of them
pub above_all : (u : ℕ) (e : Entry) (es : List Entry) → u < e.uuid → above e.uuid es ≡ true → above u (e ∷ es) ≡ true
above_all u e es less later = and_from (nat_lt u e.uuid) (above u es) (lt-ltb u e.uuid less) (above_lower es u e.uuid less later)

-- each entry is found by its identity
pub at_each : (old : List Entry) → ascends old ≡ true → All (λ e. entry_at old e.uuid ≡ Some e) old
at_each [] asc k d low = absurd (omega arith)
at_each (e ∷ es) asc zero d low = ap (λ b. cond b (Some e) (entry_at es e.uuid)) (eq-eqb e.uuid e.uuid refl)
at_each (e ∷ es) asc (suc k) d low =
    let p = and_parts (above e.uuid es) (ascends es) asc in
    let later = get_or es k d in
    let far : nat_lt e.uuid later.uuid ≡ true = AllPass-from_list_all (λ (x : Entry). nat_lt e.uuid x.uuid) es p.0 k d (omega arith) in
    let below : e.uuid < later.uuid = ltb-true e.uuid later.uuid far in
    let other : nat_eq e.uuid later.uuid ≡ false = ne_eqb e.uuid later.uuid (λ same. omega arith) in
    ap (λ b. cond b (Some e) (entry_at es later.uuid)) other ∙ at_each es p.1 k d (omega arith)

-- ---- a write that takes each entry to one of the same identity, or removes it

abbrev pub Keeps : (Entry → Option Entry) → Type 0
Keeps step = (e new : Entry) → step e ≡ Some new → new.uuid ≡ e.uuid

-- what an identity has after it is what its entry was taken to
pub at_stepped : (step : Entry → Option Entry) → Keeps step → (old : List Entry) (u : ℕ) → ascends old ≡ true
    → entry_at (filter_map step old) u ≡ option_and_then step (entry_at old u)
at_stepped step keeps [] u asc = refl
at_stepped step keeps (e ∷ es) u asc =
    let p = and_parts (above e.uuid es) (ascends es) asc in
    by p.0 (at_stepped step keeps es u p.1) (step e) refl (nat_eq e.uuid u) refl
  where
    by : above e.uuid es ≡ true → entry_at (filter_map step es) u ≡ option_and_then step (entry_at es u) → (o : Option Entry) → step e ≡ o → (b : Bool) → nat_eq e.uuid u ≡ b
        → find (is_identified u) (cons_option o (filter_map step es)) ≡ option_and_then step (cond b (Some e) (entry_at es u))
    by later rest (Some new) gives true hit =
        ap (λ b. cond b (Some new) (entry_at (filter_map step es) u)) (ap (λ n. nat_eq n u) (keeps e new gives) ∙ hit) ∙ sym gives
    by later rest (Some new) gives false miss =
        ap (λ b. cond b (Some new) (entry_at (filter_map step es) u)) (ap (λ n. nat_eq n u) (keeps e new gives) ∙ miss) ∙ rest
    by later rest None gives true hit =
        let far : above u es ≡ true = ap (λ n. above n es) (sym (eqb-true e.uuid u hit)) ∙ later in
        rest ∙ ap (option_and_then step) (none_at es u far) ∙ sym gives
    by later rest None gives false miss = rest

-- ---- the identities of both

-- inserting an identity that is there leaves the identities
pub insert_same : (es : List Entry) (u : ℕ) → ascends es ≡ true → holds es u ≡ true → insert_key nat_cmp (identities es) u ≡ identities es
insert_same [] u asc here = absurd (false≢true here)
insert_same (e ∷ es) u asc here =
    let p = and_parts (above e.uuid es) (ascends es) asc in
    by p.0 (insert_same es u p.1) (cases_order u e.uuid)
  where
    at : (less same : Bool) → nat_lt u e.uuid ≡ less → nat_eq u e.uuid ≡ same
        → insert_key nat_cmp (e.uuid ∷ identities es) u
        ≡ match_ordering (cond less Less (cond same Equal Greater)) (u ∷ e.uuid ∷ identities es) (e.uuid ∷ identities es) (e.uuid ∷ insert_key nat_cmp (identities es) u)
    at less same l s =
        ap (λ b. match_ordering (cond b Less (cond (nat_eq u e.uuid) Equal Greater)) (u ∷ e.uuid ∷ identities es) (e.uuid ∷ identities es) (e.uuid ∷ insert_key nat_cmp (identities es) u)) l
        ∙ ap (λ b. match_ordering (cond less Less (cond b Equal Greater)) (u ∷ e.uuid ∷ identities es) (e.uuid ∷ identities es) (e.uuid ∷ insert_key nat_cmp (identities es) u)) s

    by : above e.uuid es ≡ true → (holds es u ≡ true → insert_key nat_cmp (identities es) u ≡ identities es) → (u ≡ e.uuid) ⊎ ((u < e.uuid) ⊎ (e.uuid < u))
        → insert_key nat_cmp (e.uuid ∷ identities es) u ≡ e.uuid ∷ identities es
    by later rest (inl same) = at false true (le-ltb u e.uuid (omega arith)) (eq-eqb u e.uuid same)
    by later rest (inr (inl less)) =
        let far : above u (e ∷ es) ≡ true = and_from (nat_lt u e.uuid) (above u es) (lt-ltb u e.uuid less) (above_lower es u e.uuid less later) in
        absurd (false≢true (sym (none_held (e ∷ es) u far) ∙ here))
    by later rest (inr (inr more)) =
        let other : nat_eq e.uuid u ≡ false = ne_eqb e.uuid u (λ same. omega arith) in
        let there : holds es u ≡ true = sym (ap (λ b. b || holds es u) other) ∙ here in
        at false false (le-ltb u e.uuid (omega arith)) (ne_eqb u e.uuid (λ same. omega arith)) ∙ ap (λ ids. e.uuid ∷ ids) (rest there)

-- the identity of each entry is held
pub each_held : (old : List Entry) → list_all (λ e. holds old e.uuid) old ≡ true
each_held old =
    list_all-from_AllPass (λ (e : Entry). holds old e.uuid) old
    (λ k d low. list_any_at (λ (x : Entry). nat_eq x.uuid (get_or old k d).uuid) old k d low (eq-eqb (get_or old k d).uuid (get_or old k d).uuid refl))

joined_stepped : (step : Entry → Option Entry) → Keeps step → (old es : List Entry) → ascends old ≡ true → list_all (λ e. holds old e.uuid) es ≡ true
    → joined (identities old) (identities (filter_map step es)) ≡ identities old
joined_stepped step keeps old [] asc held = refl
joined_stepped step keeps old (e ∷ es) asc held =
    let p = and_parts (holds old e.uuid) (list_all (λ x. holds old x.uuid) es) held in
    by p.0 (joined_stepped step keeps old es asc p.1) (step e) refl
  where
    by : holds old e.uuid ≡ true → joined (identities old) (identities (filter_map step es)) ≡ identities old → (o : Option Entry) → step e ≡ o → joined (identities old) (identities (cons_option o (filter_map step es))) ≡ identities old
    by here rest None gives = rest
    by here rest (Some new) gives =
        let there : holds old new.uuid ≡ true = ap (holds old) (keeps e new gives) ∙ here in
        ap (λ ids. joined ids (identities (filter_map step es))) (insert_same old new.uuid asc there) ∙ rest

-- ---- what differs

-- the change of an entry by a step
abbrev pub stepped : (Entry → Option Entry) → Entry → EntryChange
stepped step e = record { uuid = e.uuid; before = Some e; after = step e }

-- the change of an entry to another
abbrev pub change_to : Entry → Entry → EntryChange
change_to e new = record { uuid = e.uuid; before = Some e; after = Some new }

-- what differs of some entries and one more
pub stepped_more : (step : Entry → Option Entry) (es : List Entry) (i : ℕ) (e : Entry) → i < length es → e ≡ get_or es i e
    → filter is_change (map (stepped step) (take (i + 1) es)) ≡ filter is_change (map (stepped step) (take i es)) ++ filter is_change (stepped step e ∷ [])
stepped_more step es i e low is =
    ap (λ xs. filter is_change (map (stepped step) xs)) (take_more es i e low ∙ ap (λ x. take i es ++ x ∷ []) (sym is))
    ∙ ap (filter is_change) (map-append (stepped step) (take i es) (e ∷ []))
    ∙ filter-append is_change (map (stepped step) (take i es)) (stepped step e ∷ [])

-- a step of each entry touches those that it changes
pub touched_stepped : (step : Entry → Option Entry) → Keeps step → (old : List Entry) → ascends old ≡ true
    → touched old (filter_map step old) ≡ filter is_change (map (stepped step) old)
touched_stepped step keeps old asc =
    ap (λ ids. filter is_change (map (change_at old (filter_map step old)) ids)) (joined_stepped step keeps old old asc (each_held old))
    ∙ ap (filter is_change)
    (map-map (change_at old (filter_map step old)) (λ (e : Entry). e.uuid) old
    ∙ map_same (λ e. change_at old (filter_map step old) e.uuid) (stepped step) old (λ k d low. one (get_or old k d) (at_each old asc k d low)))
  where
    one : (e : Entry) → entry_at old e.uuid ≡ Some e → change_at old (filter_map step old) e.uuid ≡ stepped step e
    one e there =
        ap (λ w. let t : EntryChange = record { uuid = e.uuid; before = w; after = entry_at (filter_map step old) e.uuid } in t) there
        ∙ ap (λ n. let t : EntryChange = record { uuid = e.uuid; before = Some e; after = n } in t) (at_stepped step keeps old e.uuid asc ∙ ap (option_and_then step) there)

-- ---- a write that changes entries and removes none

map_is_filter_map : (f : Entry → Entry) (es : List Entry) → map f es ≡ filter_map (λ e. Some (f e)) es
map_is_filter_map f [] = refl
map_is_filter_map f (e ∷ es) = ap (λ xs. f e ∷ xs) (map_is_filter_map f es)

-- a change of each entry touches those that it changes
pub touched_mapped : (f : Entry → Entry) → ((e : Entry) → (f e).uuid ≡ e.uuid) → (old : List Entry) → ascends old ≡ true
    → touched old (map f old) ≡ filter is_change (map (stepped (λ e. Some (f e))) old)
touched_mapped f keeps old asc =
    ap (touched old) (map_is_filter_map f old)
    ∙ touched_stepped (λ e. Some (f e)) (λ e new gives. let same : f e ≡ new = cc in ap (λ (x : Entry). x.uuid) (sym same) ∙ keeps e) old asc
