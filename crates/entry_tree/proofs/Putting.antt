-- An entry that is put in its place.
use Rattle.std.proofs.Common.{◌≡◌, ◌<◌, ◌≤◌, ◌+◌, ℕ, zero, suc, Bool, true, false, not, cond, nat_eq, nat_lt, List, [], ◌∷◌, ◌++◌, length, map, get_or, set, Some, Option, ap, sym, ◌∙◌, refl, ◌⊎◌, inl, inr, arith}
use Rattle.std.specs.Cmp.{nat_cmp_is}
use Rattle.std.specs.List.{filter, insert, list_all}
use Rattle.std.specs.Ordering.{nat_cmp, match_ordering}
use Rattle.std.specs.declared.cmp.Ordering.TheVariants.{Less, Equal, Greater}
use Rattle.std.specs.BTreeSet.{insert_key}
use Rattle.std.proofs.lemmas.Bool.{eq-eqb, eqb-true, ne_eqb, ltb-true, lt-ltb, le-ltb, and_parts, and_from, cases_order}
use Rattle.std.proofs.lemmas.List.Folds.{list_all-append}
use Rattle.std.proofs.lemmas.List.Sums.{AllPass-from_list_all, fold-append, sum_by-cons}
use Rattle.schema_rules.specs.Attributes.{weight_of}
use Rattle.entry_writes.specs.declared.entry.Entry.{Entry}
use Rattle.entry_writes.specs.declared.touched.EntryChange.{EntryChange}
use Rattle.entry_writes.specs.State.{ascends, entry_at, found_weight, put, total_weight, most_entries, most_weight, IsDirectory}
use Rattle.entry_writes.specs.Touched.{identities, joined, change_at, is_change, touched}
use Rattle.entry_tree.proofs.Directory.{above_filter}
use Rattle.entry_writes.proofs.Identities.{above, above_all, holds, insert_same, each_held, none_at}
use Rattle.entry_writes.proofs.Passing.{list_all-filter}
use Rattle.entry_writes.proofs.Same.{one_found-same}

-- entries below an identity, and those above it
abbrev pub lower : ℕ → List Entry → List Entry
lower u es = filter (λ x. nat_lt x.uuid u) es

abbrev pub higher : ℕ → List Entry → List Entry
higher u es = filter (λ x. nat_lt u x.uuid) es

-- none of those that are above an identity is below it
pub none_lower : (u : ℕ) (es : List Entry) → above u es ≡ true → lower u es ≡ []
none_lower u [] h = refl
none_lower u (x ∷ es) h =
    let p = and_parts (nat_lt u x.uuid) (above u es) h in
    let far : u < x.uuid = ltb-true u x.uuid p.0 in
    ap (λ b. cond b (x ∷ lower u es) (lower u es)) (le-ltb x.uuid u (omega arith)) ∙ none_lower u es p.1

-- all of those that are above an identity are
pub all_higher : (u : ℕ) (es : List Entry) → above u es ≡ true → higher u es ≡ es
all_higher u [] h = refl
all_higher u (x ∷ es) h =
    let p = and_parts (nat_lt u x.uuid) (above u es) h in
    ap (λ b. cond b (x ∷ higher u es) (higher u es)) p.0 ∙ ap (λ xs. x ∷ xs) (all_higher u es p.1)

-- ---- after the first entry, in its place, or before it

-- an entry of a higher identity than the first goes in after it
pub put_after : (e x : Entry) (es : List Entry) → x.uuid < e.uuid → put e (x ∷ es) ≡ x ∷ put e es
put_after e x es less =
    ap (λ b. cond b (x ∷ lower e.uuid es) (lower e.uuid es) ++ e ∷ higher e.uuid (x ∷ es)) (lt-ltb x.uuid e.uuid less)
    ∙ ap (λ b. (x ∷ lower e.uuid es) ++ e ∷ cond b (x ∷ higher e.uuid es) (higher e.uuid es)) (le-ltb e.uuid x.uuid (omega arith))

-- an entry of the identity of the first stands in its place
pub put_there : (e x : Entry) (es : List Entry) → x.uuid ≡ e.uuid → above x.uuid es ≡ true → put e (x ∷ es) ≡ e ∷ es
put_there e x es same later =
    let far : above e.uuid es ≡ true = ap (λ n. above n es) (sym same) ∙ later in
    ap (λ b. cond b (x ∷ lower e.uuid es) (lower e.uuid es) ++ e ∷ higher e.uuid (x ∷ es)) (le-ltb x.uuid e.uuid (omega arith))
    ∙ ap (λ b. lower e.uuid es ++ e ∷ cond b (x ∷ higher e.uuid es) (higher e.uuid es)) (le-ltb e.uuid x.uuid (omega arith))
    ∙ ap (λ xs. xs ++ e ∷ higher e.uuid es) (none_lower e.uuid es far)
    ∙ ap (λ xs. e ∷ xs) (all_higher e.uuid es far)

-- an entry of a lower identity than all goes before them
pub put_before : (e x : Entry) (es : List Entry) → e.uuid < x.uuid → above x.uuid es ≡ true → put e (x ∷ es) ≡ e ∷ x ∷ es
put_before e x es less later =
    let far = above_all e.uuid x es less later in
    ap (λ xs. xs ++ e ∷ higher e.uuid (x ∷ es)) (none_lower e.uuid (x ∷ es) far) ∙ ap (λ xs. e ∷ xs) (all_higher e.uuid (x ∷ es) far)

-- the entry is equal to, after or before the first
abbrev Order : Entry → Entry → Type 0
Order x e = (x.uuid ≡ e.uuid) ⊎ ((x.uuid < e.uuid) ⊎ (e.uuid < x.uuid))

-- ---- order, number and weight

-- what is below all entries and one more is below them when that is put
pub above_put : (u : ℕ) (e : Entry) (es : List Entry) → u < e.uuid → above u es ≡ true → above u (put e es) ≡ true
above_put u e es less later =
    list_all-append (λ (x : Entry). nat_lt u x.uuid) (lower e.uuid es) (e ∷ higher e.uuid es)
    ∙ and_from (above u (lower e.uuid es)) (above u (e ∷ higher e.uuid es)) (above_filter (λ (x : Entry). nat_lt x.uuid e.uuid) u es later)
    (and_from (nat_lt u e.uuid) (above u (higher e.uuid es)) (lt-ltb u e.uuid less) (above_filter (λ (x : Entry). nat_lt e.uuid x.uuid) u es later))

-- entries ascend after a put
pub ascends_put : (e : Entry) (es : List Entry) → ascends es ≡ true → ascends (put e es) ≡ true
ascends_put e [] asc = refl
ascends_put e (x ∷ es) asc =
    let p = and_parts (above x.uuid es) (ascends es) asc in
    by p.0 p.1 (ascends_put e es p.1) (cases_order x.uuid e.uuid)
  where
    by : above x.uuid es ≡ true → ascends es ≡ true → ascends (put e es) ≡ true → Order x e → ascends (put e (x ∷ es)) ≡ true
    by later rest put_rest (inl same) =
        ap ascends (put_there e x es same later)
        ∙ and_from (above e.uuid es) (ascends es) (ap (λ n. above n es) (sym same) ∙ later) rest
    by later rest put_rest (inr (inl less)) =
        ap ascends (put_after e x es less)
        ∙ and_from (above x.uuid (put e es)) (ascends (put e es)) (above_put x.uuid e es less later) put_rest
    by later rest put_rest (inr (inr more)) =
        ap ascends (put_before e x es more later)
        ∙ and_from (above e.uuid (x ∷ es)) (ascends (x ∷ es)) (above_all e.uuid x es more later) (and_from (above x.uuid es) (ascends es) later rest)

-- there is at most one entry more
pub length_put : (e : Entry) (es : List Entry) → ascends es ≡ true → length (put e es) ≤ length es + 1
length_put e [] asc = omega arith
length_put e (x ∷ es) asc =
    let p = and_parts (above x.uuid es) (ascends es) asc in
    by p.0 (length_put e es p.1) (cases_order x.uuid e.uuid)
  where
    by : above x.uuid es ≡ true → length (put e es) ≤ length es + 1 → Order x e → length (put e (x ∷ es)) ≤ length (x ∷ es) + 1
    by later rest (inl same) = omega (arith, ap length (put_there e x es same later))
    by later rest (inr (inl less)) = omega (arith, rest, ap length (put_after e x es less))
    by later rest (inr (inr more)) = omega (arith, ap length (put_before e x es more later))

abbrev weight : Entry → ℕ
weight e = weight_of e.attrs

-- what entries weigh after a put
pub total_put : (e : Entry) (es : List Entry) → ascends es ≡ true → total_weight (put e es) + found_weight (entry_at es e.uuid) ≡ total_weight es + weight_of e.attrs
total_put e [] asc = omega (arith, sum_by-cons weight e [])
total_put e (x ∷ es) asc =
    let p = and_parts (above x.uuid es) (ascends es) asc in
    by p.0 (total_put e es p.1) (cases_order x.uuid e.uuid)
  where
    by : above x.uuid es ≡ true → total_weight (put e es) + found_weight (entry_at es e.uuid) ≡ total_weight es + weight_of e.attrs → Order x e
        → total_weight (put e (x ∷ es)) + found_weight (entry_at (x ∷ es) e.uuid) ≡ total_weight (x ∷ es) + weight_of e.attrs
    by later rest (inl same) =
        let found : found_weight (entry_at (x ∷ es) e.uuid) ≡ weight_of x.attrs = ap (λ b. found_weight (cond b (Some x) (entry_at es e.uuid))) (eq-eqb x.uuid e.uuid same) in
        omega (arith, found, ap total_weight (put_there e x es same later), sum_by-cons weight e es, sum_by-cons weight x es)
    by later rest (inr (inl less)) =
        let found : found_weight (entry_at (x ∷ es) e.uuid) ≡ found_weight (entry_at es e.uuid) =
        ap (λ b. found_weight (cond b (Some x) (entry_at es e.uuid))) (ne_eqb x.uuid e.uuid (λ same. omega arith))
        in
        omega (arith, found, rest, ap total_weight (put_after e x es less), sum_by-cons weight x (put e es), sum_by-cons weight x es)
    by later rest (inr (inr more)) =
        let found : found_weight (entry_at (x ∷ es) e.uuid) ≡ 0 = ap found_weight (none_at (x ∷ es) e.uuid (above_all e.uuid x es more later)) in
        omega (arith, found, ap total_weight (put_before e x es more later), sum_by-cons weight e (x ∷ es))

-- a directory with the entry, which weighs as much more as the entry does more than one that it replaces
pub put_directory : (e : Entry) (es : List Entry) (before after : ℕ) → IsDirectory es before → length es < most_entries → total_weight es + weight_of e.attrs ≤ most_weight
    → after + found_weight (entry_at es e.uuid) ≡ before + weight_of e.attrs → IsDirectory (put e es) after
put_directory e es before after h few light weighed =
    let was = h.weighed in
    let total = total_put e es h.ascends in
    record {
      ascends = ascends_put e es h.ascends;
      weighed = omega (arith, was, total, weighed);
      few = omega (arith, few, length_put e es h.ascends);
      light = omega (arith, light, was, weighed);
    }

-- ---- look-ups

-- what an identity has after a put
pub entry_at_put : (e : Entry) (es : List Entry) (u : ℕ) → ascends es ≡ true → entry_at (put e es) u ≡ cond (nat_eq e.uuid u) (Some e) (entry_at es u)
entry_at_put e [] u asc = refl
entry_at_put e (x ∷ es) u asc =
    let p = and_parts (above x.uuid es) (ascends es) asc in
    by p.0 (entry_at_put e es u p.1) (cases_order x.uuid e.uuid)
  where
    past : x.uuid < e.uuid → entry_at (put e es) u ≡ cond (nat_eq e.uuid u) (Some e) (entry_at es u) → (b : Bool) → nat_eq x.uuid u ≡ b
        → cond b (Some x) (entry_at (put e es) u) ≡ cond (nat_eq e.uuid u) (Some e) (cond b (Some x) (entry_at es u))
    past less rest true hit =
        let at : x.uuid ≡ u = eqb-true x.uuid u hit in
        sym (ap (λ b. cond b (Some e) (Some x)) (ne_eqb e.uuid u (λ same. omega arith)))
    past less rest false miss = rest

    here : x.uuid ≡ e.uuid → (b : Bool) → nat_eq e.uuid u ≡ b → cond b (Some e) (entry_at es u) ≡ cond b (Some e) (cond (nat_eq x.uuid u) (Some x) (entry_at es u))
    here same true hit = refl
    here same false miss = sym (ap (λ b. cond b (Some x) (entry_at es u)) (ap (λ n. nat_eq n u) same ∙ miss))

    by : above x.uuid es ≡ true → entry_at (put e es) u ≡ cond (nat_eq e.uuid u) (Some e) (entry_at es u) → Order x e
        → entry_at (put e (x ∷ es)) u ≡ cond (nat_eq e.uuid u) (Some e) (entry_at (x ∷ es) u)
    by later rest (inl same) = ap (λ xs. entry_at xs u) (put_there e x es same later) ∙ here same (nat_eq e.uuid u) refl
    by later rest (inr (inl less)) = ap (λ xs. entry_at xs u) (put_after e x es less) ∙ past less rest (nat_eq x.uuid u) refl
    by later rest (inr (inr more)) = ap (λ xs. entry_at xs u) (put_before e x es more later)

-- ---- the identities of both

identities_put : (e : Entry) (es : List Entry) → ascends es ≡ true → insert_key nat_cmp (identities es) e.uuid ≡ identities (put e es)
identities_put e [] asc = refl
identities_put e (x ∷ es) asc =
    let p = and_parts (above x.uuid es) (ascends es) asc in
    by p.0 (identities_put e es p.1) (cases_order x.uuid e.uuid)
  where
    by : above x.uuid es ≡ true → insert_key nat_cmp (identities es) e.uuid ≡ identities (put e es) → Order x e → insert_key nat_cmp (identities (x ∷ es)) e.uuid ≡ identities (put e (x ∷ es))
    by later rest (inl same) =
        ap (λ o. match_ordering o (e.uuid ∷ x.uuid ∷ identities es) (x.uuid ∷ identities es) (x.uuid ∷ insert_key nat_cmp (identities es) e.uuid)) (sym (nat_cmp_is e.uuid x.uuid Equal (sym same)))
        ∙ ap (λ u. u ∷ identities es) same ∙ sym (ap identities (put_there e x es same later))
    by later rest (inr (inl less)) =
        ap (λ o. match_ordering o (e.uuid ∷ x.uuid ∷ identities es) (x.uuid ∷ identities es) (x.uuid ∷ insert_key nat_cmp (identities es) e.uuid)) (sym (nat_cmp_is e.uuid x.uuid Greater less))
        ∙ ap (λ ids. x.uuid ∷ ids) rest ∙ sym (ap identities (put_after e x es less))
    by later rest (inr (inr more)) =
        ap (λ o. match_ordering o (e.uuid ∷ x.uuid ∷ identities es) (x.uuid ∷ identities es) (x.uuid ∷ insert_key nat_cmp (identities es) e.uuid)) (sym (nat_cmp_is e.uuid x.uuid Less more))
        ∙ sym (ap identities (put_before e x es more later))

joined_held : (base es : List Entry) → ascends base ≡ true → list_all (λ e. holds base e.uuid) es ≡ true → joined (identities base) (identities es) ≡ identities base
joined_held base [] asc held = refl
joined_held base (e ∷ es) asc held =
    let p = and_parts (holds base e.uuid) (list_all (λ x. holds base x.uuid) es) held in
    ap (λ ids. joined ids (identities es)) (insert_same base e.uuid asc p.0) ∙ joined_held base es asc p.1

identities-append : (xs ys : List Entry) → identities (xs ++ ys) ≡ identities xs ++ identities ys
identities-append [] ys = refl
identities-append (x ∷ xs) ys = ap (λ ids. x.uuid ∷ ids) (identities-append xs ys)

joined_put : (e : Entry) (es : List Entry) → ascends es ≡ true → joined (identities es) (identities (put e es)) ≡ identities (put e es)
joined_put e es asc =
    let lows = lower e.uuid es in
    let highs = higher e.uuid es in
    let low_held : list_all (λ x. holds es x.uuid) lows ≡ true = list_all-filter (λ (x : Entry). holds es x.uuid) (λ (x : Entry). nat_lt x.uuid e.uuid) es (each_held es) in
    let all_held = sym (list_all-append (λ (x : Entry). holds (put e es) x.uuid) lows (e ∷ highs)) ∙ each_held (put e es) in
    let high_held = and_parts (holds (put e es) e.uuid) (list_all (λ x. holds (put e es) x.uuid) highs)
    (and_parts (list_all (λ x. holds (put e es) x.uuid) lows) (list_all (λ x. holds (put e es) x.uuid) (e ∷ highs)) all_held).1
    in
    ap (joined (identities es)) (identities-append lows (e ∷ highs))
    ∙ fold-append (insert_key nat_cmp) (identities es) (identities lows) (identities (e ∷ highs))
    ∙ ap (λ ids. joined ids (identities (e ∷ highs))) (joined_held es lows asc low_held)
    ∙ ap (λ ids. joined ids (identities highs)) (identities_put e es asc)
    ∙ joined_held (put e es) highs (ascends_put e es asc) high_held.1

-- ---- what differs

no_change : (t : ℕ → EntryChange) (u : ℕ) → ((v : ℕ) → nat_eq u v ≡ false → is_change (t v) ≡ false) → (es : List Entry) → above u es ≡ true → filter is_change (map t (identities es)) ≡ []
no_change t u stays [] later = refl
no_change t u stays (x ∷ es) later =
    let p = and_parts (nat_lt u x.uuid) (above u es) later in
    let far : u < x.uuid = ltb-true u x.uuid p.0 in
    ap (λ b. cond b (t x.uuid ∷ filter is_change (map t (identities es))) (filter is_change (map t (identities es)))) (stays x.uuid (ne_eqb u x.uuid (λ same. omega arith)))
    ∙ no_change t u stays es p.1

one_change : (t : ℕ → EntryChange) (e : Entry) → ((v : ℕ) → nat_eq e.uuid v ≡ false → is_change (t v) ≡ false) → (es : List Entry) → ascends es ≡ true
    → filter is_change (map t (identities (put e es))) ≡ filter is_change (t e.uuid ∷ [])
one_change t e stays [] asc = refl
one_change t e stays (x ∷ es) asc =
    let p = and_parts (above x.uuid es) (ascends es) asc in
    by p.0 (one_change t e stays es p.1) (cases_order x.uuid e.uuid)
  where
    rest_of : List Entry → List EntryChange
    rest_of xs = filter is_change (map t (identities xs))

    alone : (xs : List Entry) → above e.uuid xs ≡ true → filter is_change (map t (identities (e ∷ xs))) ≡ filter is_change (t e.uuid ∷ [])
    alone xs far = ap (λ ts. cond (is_change (t e.uuid)) (t e.uuid ∷ ts) ts) (no_change t e.uuid stays xs far)

    by : above x.uuid es ≡ true → filter is_change (map t (identities (put e es))) ≡ filter is_change (t e.uuid ∷ []) → Order x e
        → filter is_change (map t (identities (put e (x ∷ es)))) ≡ filter is_change (t e.uuid ∷ [])
    by later rest (inl same) =
        ap (λ xs. filter is_change (map t (identities xs))) (put_there e x es same later) ∙ alone es (ap (λ n. above n es) (sym same) ∙ later)
    by later rest (inr (inl less)) =
        ap (λ xs. filter is_change (map t (identities xs))) (put_after e x es less)
        ∙ ap (λ b. cond b (t x.uuid ∷ filter is_change (map t (identities (put e es)))) (filter is_change (map t (identities (put e es))))) (stays x.uuid (ne_eqb e.uuid x.uuid (λ same. omega arith)))
        ∙ rest
    by later rest (inr (inr more)) =
        ap (λ xs. filter is_change (map t (identities xs))) (put_before e x es more later) ∙ alone (x ∷ es) (above_all e.uuid x es more later)

-- what the identity had, and the entry
abbrev pub put_change : Option Entry → Entry → EntryChange
put_change was e = record { uuid = e.uuid; before = was; after = Some e }

-- a put touches the entry's identity alone
pub touched_put : (e : Entry) (old : List Entry) → ascends old ≡ true → touched old (put e old) ≡ filter is_change (put_change (entry_at old e.uuid) e ∷ [])
touched_put e old asc =
    ap (λ ids. filter is_change (map (change_at old (put e old)) ids)) (joined_put e old asc)
    ∙ one_change (change_at old (put e old)) e stays old asc
    ∙ ap (λ found. let t : EntryChange = record { uuid = e.uuid; before = entry_at old e.uuid; after = found } in filter is_change (t ∷ []))
    (entry_at_put e old e.uuid asc ∙ ap (λ b. cond b (Some e) (entry_at old e.uuid)) (eq-eqb e.uuid e.uuid refl))
  where
    stays : (v : ℕ) → nat_eq e.uuid v ≡ false → is_change (change_at old (put e old) v) ≡ false
    stays v other =
        ap (λ found. let t : EntryChange = record { uuid = v; before = entry_at old v; after = found } in is_change t)
        (entry_at_put e old v asc ∙ ap (λ b. cond b (Some e) (entry_at old v)) other)
        ∙ ap (λ b. not b) (one_found-same (entry_at old v))

-- ---- the write

-- setting an entry at the place of its identity is a put
pub set_puts : (e : Entry) (es : List Entry) (place : ℕ) → ascends es ≡ true → place < length es → (get_or es place e).uuid ≡ e.uuid → set es place e ≡ put e es
set_puts e [] place asc low at = absurd (omega arith)
set_puts e (x ∷ es) zero asc low at = sym (put_there e x es at (and_parts (above x.uuid es) (ascends es) asc).0)
set_puts e (x ∷ es) (suc place) asc low at =
    let p = and_parts (above x.uuid es) (ascends es) asc in
    let far : nat_lt x.uuid (get_or es place e).uuid ≡ true = AllPass-from_list_all (λ (y : Entry). nat_lt x.uuid y.uuid) es p.0 place e (omega arith) in
    let below : x.uuid < (get_or es place e).uuid = ltb-true x.uuid (get_or es place e).uuid far in
    ap (λ xs. x ∷ xs) (set_puts e es place p.1 (omega arith) at) ∙ sym (put_after e x es (omega arith))

-- inserting an entry between those below and those above it is a put
pub insert_puts : (e : Entry) (es : List Entry) (place : ℕ) → ascends es ≡ true → place ≤ length es → ((k : ℕ) → k < place → (get_or es k e).uuid < e.uuid)
    → ((k : ℕ) → place ≤ k → k < length es → e.uuid < (get_or es k e).uuid) → insert es place e ≡ put e es
insert_puts e [] zero asc low below beyond = refl
insert_puts e [] (suc place) asc low below beyond = absurd (omega arith)
insert_puts e (x ∷ es) zero asc low below beyond = sym (put_before e x es (beyond 0 (omega arith) (omega arith)) (and_parts (above x.uuid es) (ascends es) asc).0)
insert_puts e (x ∷ es) (suc place) asc low below beyond =
    ap (λ xs. x ∷ xs) (insert_puts e es place (and_parts (above x.uuid es) (ascends es) asc).1 (omega arith) (λ k less. below (suc k) (omega arith)) (λ k more less. beyond (suc k) (omega arith) (omega arith)))
    ∙ sym (put_after e x es (below 0 (omega arith)))
