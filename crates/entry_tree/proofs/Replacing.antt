-- One entry takes the place of another of the same identity.
use Rattle.std.proofs.Common.{◌≡◌, ◌<◌, ◌≤◌, ◌+◌, ℕ, zero, suc, Bool, true, false, not, ◌&&◌, cond, nat_eq, nat_lt, List, [], ◌∷◌, length, map, get_or, set, Some, None, ap, sym, ◌∙◌, refl, arith}
use Rattle.std.specs.List.{filter, find, list_all, list_any, sum_by, position, position_or_len}
use Rattle.std.proofs.lemmas.Bool.{eq-eqb, eqb-true, ne_eqb, ltb-true, and_parts, or_parts}
use Rattle.std.proofs.lemmas.List.Sums.{AllPass-from_list_all, sum_by-cons, sum_by-set, fails_before_first}
use Rattle.std.proofs.lemmas.List.{length-set}
use Rattle.schema_rules.specs.Attributes.{weight_of}
use Rattle.schema_rules.proofs.Joining.{none_long}
use Rattle.entry_writes.specs.declared.entry.Entry.{Entry}
use Rattle.entry_writes.specs.declared.touched.EntryChange.{EntryChange}
use Rattle.entry_writes.specs.State.{ascends, is_identified, IsDirectory, most_weight}
use Rattle.entry_writes.specs.Touched.{is_change, touched}
use Rattle.entry_writes.proofs.Identities.{none_held, stepped, touched_mapped}
use Rattle.entry_writes.proofs.Same.{entry_same}

-- ---- what is nowhere

find_nowhere : {X : Type 0} (p : X → Bool) (xs : List X) → ((k : ℕ) (d : X) → k < length xs → p (get_or xs k d) ≡ false) → find p xs ≡ None
find_nowhere p [] none = refl
find_nowhere p (x ∷ xs) none =
    ap (λ b. cond b (Some x) (find p xs)) (none 0 x (omega arith)) ∙ find_nowhere p xs (λ k d low. none (suc k) d (omega arith))

-- nothing is found where no place passes
pub find_no_place : {X : Type 0} (p : X → Bool) (xs : List X) → position p xs ≡ None → find p xs ≡ None
find_no_place p xs none =
    let long = none_long (position_or_len p xs) (length xs) none in
    find_nowhere p xs (λ k d low. fails_before_first p xs k d (omega arith))

-- ---- one entry of an identity

-- the entry at the place is the only one that the test takes
abbrev IsOnly : (Entry → Bool) → List Entry → ℕ → Type 0
IsOnly p [] place = ⊥
IsOnly p (e ∷ es) zero = (p e ≡ true) × (list_any p es ≡ false)
IsOnly p (e ∷ es) (suc place) = (p e ≡ false) × IsOnly p es place

only_at : (es : List Entry) (place : ℕ) (d : Entry) → ascends es ≡ true → place < length es → IsOnly (is_identified (get_or es place d).uuid) es place
only_at [] place d asc low = absurd (omega arith)
only_at (e ∷ es) zero d asc low =
    let p = and_parts (list_all (λ (x : Entry). nat_lt e.uuid x.uuid) es) (ascends es) asc in
    (eq-eqb e.uuid e.uuid refl, none_held es e.uuid p.0)
only_at (e ∷ es) (suc place) d asc low =
    let p = and_parts (list_all (λ (x : Entry). nat_lt e.uuid x.uuid) es) (ascends es) asc in
    let later = get_or es place d in
    let far : nat_lt e.uuid later.uuid ≡ true = AllPass-from_list_all (λ (x : Entry). nat_lt e.uuid x.uuid) es p.0 place d (omega arith) in
    let below : e.uuid < later.uuid = ltb-true e.uuid later.uuid far in
    (ne_eqb e.uuid later.uuid (λ same. omega arith), only_at es place d p.1 (omega arith))

-- ---- the entries with another in the place of that one

-- the new entry where the test takes the old one
abbrev replaced : (Entry → Bool) → Entry → Entry → Entry
replaced p new e = cond (p e) new e

map_none : (p : Entry → Bool) (new : Entry) (es : List Entry) → list_any p es ≡ false → map (replaced p new) es ≡ es
map_none p new [] none = refl
map_none p new (e ∷ es) none =
    let q = or_parts (p e) (list_any p es) none in
    ap (λ b. cond b new e ∷ map (replaced p new) es) q.0 ∙ ap (λ xs. e ∷ xs) (map_none p new es q.1)

set_is_map : (p : Entry → Bool) (new : Entry) (es : List Entry) (place : ℕ) → IsOnly p es place → set es place new ≡ map (replaced p new) es
set_is_map p new [] place only = absurd only
set_is_map p new (e ∷ es) zero only = sym (ap (λ b. cond b new e ∷ map (replaced p new) es) only.0 ∙ ap (λ xs. new ∷ xs) (map_none p new es only.1))
set_is_map p new (e ∷ es) (suc place) only =
    ap (λ xs. e ∷ xs) (set_is_map p new es place only.1) ∙ sym (ap (λ b. cond b new e ∷ map (replaced p new) es) only.0)

-- setting an entry at a place replaces that of its identity
pub set_replaces : (es : List Entry) (place : ℕ) (d new : Entry) → ascends es ≡ true → place < length es
    → set es place new ≡ map (λ e. cond (is_identified (get_or es place d).uuid e) new e) es
set_replaces es place d new asc low = set_is_map (is_identified (get_or es place d).uuid) new es place (only_at es place d asc low)

-- ---- weights

filter_none : (p : Entry → Bool) (es : List Entry) → list_any p es ≡ false → filter (λ e. not (p e)) es ≡ es
filter_none p [] none = refl
filter_none p (e ∷ es) none =
    let q = or_parts (p e) (list_any p es) none in
    ap (λ b. cond (not b) (e ∷ filter (λ x. not (p x)) es) (filter (λ x. not (p x)) es)) q.0 ∙ ap (λ xs. e ∷ xs) (filter_none p es q.1)

sum_only : (f : Entry → ℕ) (p : Entry → Bool) (es : List Entry) (place : ℕ) (d : Entry) → IsOnly p es place
    → sum_by f (filter (λ e. not (p e)) es) + f (get_or es place d) ≡ sum_by f es
sum_only f p [] place d only = absurd only
sum_only f p (e ∷ es) zero d only =
    let left : sum_by f (filter (λ x. not (p x)) (e ∷ es)) ≡ sum_by f es =
    ap (λ b. sum_by f (cond (not b) (e ∷ filter (λ x. not (p x)) es) (filter (λ x. not (p x)) es))) only.0 ∙ ap (sum_by f) (filter_none p es only.1)
    in
    omega (arith, left, sum_by-cons f e es)
sum_only f p (e ∷ es) (suc place) d only =
    let left : sum_by f (filter (λ x. not (p x)) (e ∷ es)) ≡ sum_by f (e ∷ filter (λ x. not (p x)) es) =
    ap (λ b. sum_by f (cond (not b) (e ∷ filter (λ x. not (p x)) es) (filter (λ x. not (p x)) es))) only.0
    in
    omega (arith, left, sum_by-cons f e es, sum_by-cons f e (filter (λ x. not (p x)) es), sum_only f p es place d only.1)

-- what the entry at a place adds to what the others weigh
pub sum_others : (f : Entry → ℕ) (es : List Entry) (place : ℕ) (d : Entry) → ascends es ≡ true → place < length es
    → sum_by f (filter (λ e. not (is_identified (get_or es place d).uuid e)) es) + f (get_or es place d) ≡ sum_by f es
sum_others f es place d asc low = sum_only f (is_identified (get_or es place d).uuid) es place d (only_at es place d asc low)

-- ---- order

-- a map that keeps identities keeps their order
pub ascends_mapped : (f : Entry → Entry) → ((e : Entry) → (f e).uuid ≡ e.uuid) → (es : List Entry) → ascends (map f es) ≡ ascends es
ascends_mapped f keeps [] = refl
ascends_mapped f keeps (e ∷ es) =
    ap (λ u. list_all (λ x. nat_lt u x.uuid) (map f es) && ascends (map f es)) (keeps e)
    ∙ ap (λ b. b && ascends (map f es)) (above e.uuid es)
    ∙ ap (λ b. list_all (λ x. nat_lt e.uuid x.uuid) es && b) (ascends_mapped f keeps es)
  where
    above : (u : ℕ) (xs : List Entry) → list_all (λ x. nat_lt u x.uuid) (map f xs) ≡ list_all (λ x. nat_lt u x.uuid) xs
    above u [] = refl
    above u (x ∷ xs) = ap (λ v. nat_lt u v && list_all (λ y. nat_lt u y.uuid) (map f xs)) (keeps x) ∙ ap (λ b. nat_lt u x.uuid && b) (above u xs)

-- an entry in the place of one of its identity changes no identity
pub replaced_keeps : (u : ℕ) (new : Entry) → new.uuid ≡ u → (e : Entry) → (replaced (is_identified u) new e).uuid ≡ e.uuid
replaced_keeps u new same e = by (nat_eq e.uuid u) refl
  where
    by : (b : Bool) → nat_eq e.uuid u ≡ b → (cond b new e).uuid ≡ e.uuid
    by true hit = same ∙ sym (eqb-true e.uuid u hit)
    by false miss = refl

-- the entries are still in order
pub ascends_replaced : (es : List Entry) (place : ℕ) (d new : Entry) → ascends es ≡ true → place < length es → new.uuid ≡ (get_or es place d).uuid
    → ascends (set es place new) ≡ true
ascends_replaced es place d new asc low same =
    let u = (get_or es place d).uuid in
    ap ascends (set_replaces es place d new asc low) ∙ ascends_mapped (replaced (is_identified u) new) (replaced_keeps u new same) es ∙ asc

-- ---- what differs

skipped : (p : Entry → Bool) (new e : Entry) (es : List Entry) → p e ≡ false
    → filter is_change (map (stepped (λ x. Some (replaced p new x))) (e ∷ es)) ≡ filter is_change (map (stepped (λ x. Some (replaced p new x))) es)
skipped p new e es miss =
    let rest = filter is_change (map (stepped (λ x. Some (replaced p new x))) es) in
    ap (λ b. let t : EntryChange = record { uuid = e.uuid; before = Some e; after = Some (cond b new e) } in cond (is_change t) (t ∷ rest) rest) miss
    ∙ ap (λ b. let t : EntryChange = record { uuid = e.uuid; before = Some e; after = Some e } in cond (not b) (t ∷ rest) rest) (entry_same e)

changes_none : (p : Entry → Bool) (new : Entry) (es : List Entry) → list_any p es ≡ false → filter is_change (map (stepped (λ x. Some (replaced p new x))) es) ≡ []
changes_none p new [] none = refl
changes_none p new (e ∷ es) none =
    let q = or_parts (p e) (list_any p es) none in
    skipped p new e es q.0 ∙ changes_none p new es q.1

-- the entry before and after
abbrev pub change_from : Entry → Entry → EntryChange
change_from was now = record { uuid = was.uuid; before = Some was; after = Some now }

changes_only : (p : Entry → Bool) (new : Entry) (es : List Entry) (place : ℕ) (d : Entry) → IsOnly p es place
    → filter is_change (map (stepped (λ x. Some (replaced p new x))) es) ≡ filter is_change (change_from (get_or es place d) new ∷ [])
changes_only p new [] place d only = absurd only
changes_only p new (e ∷ es) zero d only =
    let rest = filter is_change (map (stepped (λ x. Some (replaced p new x))) es) in
    ap (λ b. let t : EntryChange = record { uuid = e.uuid; before = Some e; after = Some (cond b new e) } in cond (is_change t) (t ∷ rest) rest) only.0
    ∙ ap (λ xs. cond (is_change (change_from e new)) (change_from e new ∷ xs) xs) (changes_none p new es only.1)
changes_only p new (e ∷ es) (suc place) d only = skipped p new e es only.0 ∙ changes_only p new es place d only.1

-- replacing an entry touches its identity alone
pub touched_replaced : (es : List Entry) (place : ℕ) (d new : Entry) → ascends es ≡ true → place < length es → new.uuid ≡ (get_or es place d).uuid
    → touched es (set es place new) ≡ filter is_change (change_from (get_or es place d) new ∷ [])
touched_replaced es place d new asc low same =
    let u = (get_or es place d).uuid in
    ap (touched es) (set_replaces es place d new asc low)
    ∙ touched_mapped (replaced (is_identified u) new) (replaced_keeps u new same) es asc
    ∙ changes_only (is_identified u) new es place d (only_at es place d asc low)

-- what holds of the directory with another entry in the place of that one
pub IsDirectory-replaced : (es : List Entry) (weight others added place : ℕ) (e new : Entry) → IsDirectory es weight → place < length es → e ≡ get_or es place e → new.uuid ≡ e.uuid
    → others + weight_of e.attrs ≡ weight → added ≡ weight_of new.attrs → others + weight_of new.attrs ≤ most_weight → IsDirectory (set es place new) (others + added)
IsDirectory-replaced es weight others added place e new directory low at same rest new_weight light =
    let f = λ (x : Entry). weight_of x.attrs in
    let sums : sum_by f (set es place new) + weight_of (get_or es place e).attrs ≡ sum_by f es + weight_of new.attrs = sum_by-set f es place new e low in
    let held : weight_of e.attrs ≡ weight_of (get_or es place e).attrs = ap (λ (x : Entry). weight_of x.attrs) at in
    let weighed : weight ≡ sum_by f es = directory.weighed in
    record {
      ascends = ascends_replaced es place e new directory.ascends low (same ∙ ap (λ (x : Entry). x.uuid) at);
      weighed = omega (arith, sums, held, weighed, rest, new_weight);
      few = rw length-set directory.few;
      light = omega (arith, new_weight, light);
    }
