-- Entries at their identities, in the order of these.
use Rattle.std.proofs.Common.{◌≡◌, ◌<◌, ◌+◌, ℕ, Bool, true, false, not, ◌||◌, cond, nat_eq, nat_lt, List, [], ◌∷◌, ◌++◌, length, map, take, get_or, Some, refl, sym, ap, ◌∙◌, ◌⊎◌, inl, inr, arith}
use Rattle.std.specs.Prelude.{fold, is_none}
use Rattle.std.specs.BTreeMap.{is_at, insert_entry}
use Rattle.std.specs.Cmp.{nat_cmp_is, nat_eq_equiv, nat_cmp_total, tied_itself, unsigned_ties}
use Rattle.std.specs.List.{filter}
use Rattle.std.specs.Map.{lookup, remove_entry, values_of}
use Rattle.std.specs.Ordering.{nat_cmp, match_ordering}
use Rattle.std.specs.declared.cmp.Ordering.TheVariants.{Less, Greater}
use Rattle.std.proofs.lemmas.Bool.{and_parts, eqb-true, ne_eqb, ltb-true, cases_order}
use Rattle.std.proofs.lemmas.List.{map-append, take_more}
use Rattle.std.proofs.lemmas.List.Elements.{filter-append, filter_map-append}
use Rattle.std.proofs.lemmas.List.Sums.{fold-append}
use Rattle.entry_writes.specs.declared.entry.Entry.{Entry}
use Rattle.entry_writes.specs.declared.touched.EntryChange.{EntryChange}
use Rattle.entry_writes.specs.Effects.{is_one_of}
use Rattle.entry_writes.specs.State.{ascends, entry_at, is_identified, put}
use Rattle.entry_writes.specs.Touched.{puts_of, drops_of, with_changes}
use Rattle.entry_tree.specs.NameIndex.{by_identity}
use Rattle.entry_tree.proofs.Committing.{put_all}
use Rattle.entry_tree.proofs.Directory.{ascends_filter, none_dropped}
use Rattle.entry_tree.proofs.Putting.{ascends_put, put_after, put_before, put_there}
use Rattle.entry_writes.proofs.Identities.{above}

-- the entries are the values
pub values_by_identity : (es : List Entry) → values_of (by_identity es) ≡ es
values_by_identity [] = refl
values_by_identity (e ∷ es) = ap (λ xs. e ∷ xs) (values_by_identity es)

-- entries at their identities are these of their values
pub keyed_as : (pairs : List (ℕ × Entry)) (es : List Entry) → pairs ≡ by_identity es → values_of pairs ≡ es
keyed_as pairs es is = ap values_of is ∙ values_by_identity es

identified : (u : ℕ) (e : Entry) → is_at (nat_cmp u) e.uuid ≡ nat_eq e.uuid u
identified u e = sym (unsigned_ties u e.uuid) ∙ nat_eq_equiv.symm u e.uuid

-- what is found at an identity
pub found_by_identity : (es : List Entry) (u : ℕ) → lookup (is_at (nat_cmp u)) (by_identity es) ≡ entry_at es u
found_by_identity [] u = refl
found_by_identity (e ∷ es) u = λ i. cond (identified u e i) (Some e) (found_by_identity es u i)

-- ---- without an entry

-- entries above an identity stay without its entry
pub all_stay : (u : ℕ) (es : List Entry) → above u es ≡ true → filter (λ e. not (is_identified u e)) es ≡ es
all_stay u [] later = refl
all_stay u (e ∷ es) later =
    let p = and_parts (nat_lt u e.uuid) (above u es) later in
    let far : u < e.uuid = ltb-true u e.uuid p.0 in
    ap (λ b. cond (not b) (e ∷ filter (λ x. not (is_identified u x)) es) (filter (λ x. not (is_identified u x)) es)) (ne_eqb e.uuid u (λ same. omega (arith, far, same)))
    ∙ ap (λ xs. e ∷ xs) (all_stay u es p.1)

-- the entries without one, by their identities
pub removed_by_identity : (es : List Entry) (u : ℕ) → ascends es ≡ true → remove_entry (is_at (nat_cmp u)) (by_identity es) ≡ by_identity (filter (λ e. not (is_identified u e)) es)
removed_by_identity [] u asc = refl
removed_by_identity (e ∷ es) u asc =
    let p = and_parts (above e.uuid es) (ascends es) asc in
    ap (λ b. cond b (by_identity es) ((e.uuid, e) ∷ remove_entry (is_at (nat_cmp u)) (by_identity es))) (identified u e)
    ∙ by (nat_eq e.uuid u) refl p.0 (removed_by_identity es u p.1)
  where
    left : List Entry
    left = filter (λ x. not (is_identified u x)) es

    by : (b : Bool) → nat_eq e.uuid u ≡ b → above e.uuid es ≡ true → remove_entry (is_at (nat_cmp u)) (by_identity es) ≡ by_identity left
        → cond b (by_identity es) ((e.uuid, e) ∷ remove_entry (is_at (nat_cmp u)) (by_identity es)) ≡ by_identity (cond (not b) (e ∷ left) left)
    by true hit later rest = sym (ap by_identity (all_stay u es (ap (λ n. above n es) (sym (eqb-true e.uuid u hit)) ∙ later)))
    by false miss later rest = ap (λ ps. (e.uuid, e) ∷ ps) rest

filter_both : (p q : Entry → Bool) (es : List Entry) → filter (λ e. not (q e)) (filter (λ e. not (p e)) es) ≡ filter (λ e. not (p e || q e)) es
filter_both p q [] = refl
filter_both p q (e ∷ es) = by (p e) (filter_both p q es)
  where
    once : List Entry
    once = filter (λ x. not (p x)) es

    twice : List Entry
    twice = filter (λ x. not (p x || q x)) es

    kept : (b : Bool) → q e ≡ b → filter (λ x. not (q x)) once ≡ twice → filter (λ x. not (q x)) (e ∷ once) ≡ cond (not b) (e ∷ twice) twice
    kept true goes rest = ap (λ b. cond (not b) (e ∷ filter (λ x. not (q x)) once) (filter (λ x. not (q x)) once)) goes ∙ rest
    kept false stays rest = ap (λ b. cond (not b) (e ∷ filter (λ x. not (q x)) once) (filter (λ x. not (q x)) once)) stays ∙ ap (λ xs. e ∷ xs) rest

    by : (b : Bool) → filter (λ x. not (q x)) once ≡ twice → filter (λ x. not (q x)) (cond (not b) (e ∷ once) once) ≡ cond (not (b || q e)) (e ∷ twice) twice
    by true rest = rest
    by false rest = kept (q e) refl rest

-- what a step of the map takes out
abbrev pub taken_out : List (ℕ × Entry) → ℕ → List (ℕ × Entry)
taken_out held uuid = remove_entry (is_at (nat_cmp uuid)) held

-- the entries without some identities, one after another
pub all_removed : (us : List ℕ) (es : List Entry) → ascends es ≡ true → fold taken_out (by_identity es) us ≡ by_identity (filter (λ e. not (is_one_of us e)) es)
all_removed [] es asc = ap by_identity (sym (none_dropped [] es refl))
all_removed (u ∷ us) es asc =
    ap (λ held. fold taken_out held us) (removed_by_identity es u asc)
    ∙ all_removed us (filter (λ e. not (is_identified u e)) es) (ascends_filter (λ e. not (is_identified u e)) es asc)
    ∙ ap by_identity (filter_both (is_identified u) (is_one_of us) es)

-- ---- with an entry

-- the entries with one, by their identities
pub put_by_identity : (e : Entry) (es : List Entry) → ascends es ≡ true → insert_entry nat_cmp (by_identity es) e.uuid e ≡ by_identity (put e es)
put_by_identity e [] asc = refl
put_by_identity e (x ∷ es) asc =
    let p = and_parts (above x.uuid es) (ascends es) asc in
    by p.0 (put_by_identity e es p.1) (cases_order x.uuid e.uuid)
  where
    first : List (ℕ × Entry)
    first = (e.uuid, e) ∷ (x.uuid, x) ∷ by_identity es

    later : List (ℕ × Entry)
    later = (x.uuid, x) ∷ insert_entry nat_cmp (by_identity es) e.uuid e

    by : above x.uuid es ≡ true → insert_entry nat_cmp (by_identity es) e.uuid e ≡ by_identity (put e es) → (x.uuid ≡ e.uuid) ⊎ ((x.uuid < e.uuid) ⊎ (e.uuid < x.uuid))
        → insert_entry nat_cmp (by_identity (x ∷ es)) e.uuid e ≡ by_identity (put e (x ∷ es))
    by far rest (inl same) =
        ap (λ o. match_ordering o first ((x.uuid, e) ∷ by_identity es) later) (ap (nat_cmp e.uuid) same ∙ tied_itself nat_cmp_total e.uuid)
        ∙ ap (λ u. (u, e) ∷ by_identity es) same
        ∙ sym (ap by_identity (put_there e x es same far))
    by far rest (inr (inl less)) =
        ap (λ o. match_ordering o first ((x.uuid, e) ∷ by_identity es) later) (sym (nat_cmp_is e.uuid x.uuid Greater less))
        ∙ ap (λ ps. (x.uuid, x) ∷ ps) rest
        ∙ sym (ap by_identity (put_after e x es less))
    by far rest (inr (inr more)) =
        ap (λ o. match_ordering o first ((x.uuid, e) ∷ by_identity es) later) (sym (nat_cmp_is e.uuid x.uuid Less more))
        ∙ sym (ap by_identity (put_before e x es more far))

-- what a step of the map puts in
abbrev pub put_in : List (ℕ × Entry) → Entry → List (ℕ × Entry)
put_in held entry = insert_entry nat_cmp held entry.uuid entry

-- the entries with some more, one after another
pub all_put : (puts es : List Entry) → ascends es ≡ true → fold put_in (by_identity es) puts ≡ by_identity (put_all es puts)
all_put [] es asc = refl
all_put (e ∷ puts) es asc = ap (λ held. fold put_in held puts) (put_by_identity e es asc) ∙ all_put puts (put e es) (ascends_put e es asc)

-- ---- the steps of changes

-- one part more of a list in a fold
part_more : {X Y S : Type 0} (step : S → Y → S) (part : List X → List Y) → ((xs ys : List X) → part (xs ++ ys) ≡ part xs ++ part ys) → (start : S) (xs : List X) (i : ℕ) (x : X) → i < length xs → x ≡ get_or xs i x
    → fold step start (part (take (i + 1) xs)) ≡ fold step (fold step start (part (take i xs))) (part (x ∷ []))
part_more step part parts start xs i x low is =
    ap (λ ys. fold step start (part ys)) (take_more xs i x low ∙ ap (λ y. take i xs ++ y ∷ []) (sym is))
    ∙ ap (fold step start) (parts (take i xs) (x ∷ []))
    ∙ fold-append step start (part (take i xs)) (part (x ∷ []))

-- what one more change takes out
pub dropped_more : (start : List (ℕ × Entry)) (changes : List EntryChange) (i : ℕ) (c : EntryChange) → i < length changes → c ≡ get_or changes i c
    → fold taken_out start (drops_of (take (i + 1) changes)) ≡ fold taken_out (fold taken_out start (drops_of (take i changes))) (drops_of (c ∷ []))
dropped_more start changes i c low is =
    part_more taken_out drops_of
    (λ xs ys. ap (map (λ (x : EntryChange). x.uuid)) (filter-append (λ x. is_none x.after) xs ys) ∙ map-append (λ (x : EntryChange). x.uuid) (filter (λ x. is_none x.after) xs) (filter (λ x. is_none x.after) ys))
    start changes i c low is

-- what one more change puts in
pub put_more_in : (start : List (ℕ × Entry)) (changes : List EntryChange) (i : ℕ) (c : EntryChange) → i < length changes → c ≡ get_or changes i c
    → fold put_in start (puts_of (take (i + 1) changes)) ≡ fold put_in (fold put_in start (puts_of (take i changes))) (puts_of (c ∷ []))
put_more_in start changes i c low is = part_more put_in puts_of (filter_map-append (λ (x : EntryChange). x.after)) start changes i c low is

-- the entries after changes, step by step
pub changed_by_steps : (es : List Entry) (start left after : List (ℕ × Entry)) (changes : List EntryChange) → ascends es ≡ true → start ≡ by_identity es
    → left ≡ fold taken_out start (drops_of changes) → after ≡ fold put_in left (puts_of changes) → after ≡ by_identity (with_changes es changes)
changed_by_steps es start left after changes asc is removed puts =
    puts
    ∙ ap (λ held. fold put_in held (puts_of changes)) (removed ∙ ap (λ held. fold taken_out held (drops_of changes)) is ∙ all_removed (drops_of changes) es asc)
    ∙ all_put (puts_of changes) (filter (λ e. not (is_one_of (drops_of changes) e)) es) (ascends_filter (λ e. not (is_one_of (drops_of changes) e)) es asc)
