-- Maps of entries by their identities, as lists of entries.
use Rattle.std.proofs.Common.{◌≡◌, ◌<◌, ◌≤◌, ◌-◌, ◌+◌, ◌^◌, ℕ, zero, suc, Bool, true, false, not, cond, nat_eq, nat_lt, List, [], ◌∷◌, length, Option, Some, None, refl, sym, ap, subst, ◌∙◌, ◌⊎◌, inl, inr, arith}
use Rattle.std.specs.Prelude.{filter, option_map, slice_get}
use Rattle.std.specs.BTreeMap.{insert_entry, is_at}
use Rattle.std.specs.Cmp.{nat_cmp_is, nat_eq_equiv, unsigned_ties}
use Rattle.std.specs.Map.{values_of, lookup, remove_entry}
use Rattle.std.specs.Ordering.{nat_cmp, is_eq, is_lt, match_ordering}
use Rattle.std.specs.declared.cmp.Ordering.{Ordering}
use Rattle.std.specs.declared.cmp.Ordering.TheVariants.{Less, Equal, Greater}
use Rattle.std.proofs.lemmas.Bool.{and_parts, eqb-true, cases_order}
use Rattle.std.proofs.lemmas.Map.Entries.{length-values_of, sum_by-remove_entry}
use Rattle.std.proofs.lemmas.List.Sums.{sum_by-cons}
use Rattle.std.proofs.lemmas.Option.{slice_get-map}
use Rattle.schema_rules.specs.Attributes.{weight_of}
use Rattle.entry_tree.specs.declared.entry.Entry.{Entry}
use Rattle.entry_tree.specs.State.{ascends, entry_at, found_weight, is_identified, put, total_weight}
use Rattle.entry_tree.proofs.Directory.{ascends_filter}
use Rattle.entry_tree.proofs.Identities.{above}
use Rattle.entry_tree.proofs.Putting.{ascends_put, total_put, put_after, put_there, put_before}
use Rattle.entry_tree.proofs.ByIdentity.{all_stay}
use Rattle.sync_consumer.specs.Holding.{IsWeighed}
use Rattle.sync_consumer.specs.Staging.{higher, up_to}
use Rattle.sync_consumer.proofs.Prefixes.{all_prefix}
use Rattle.sync_consumer.proofs.Keyed.{AreOwn, head_own, own-insert, own-remove}

abbrev pub uuid_of : Entry → ℕ
uuid_of e = e.uuid

abbrev pub Pairs : Type 0
Pairs = List (ℕ × Entry)

-- ---- none, and the same

-- no entries weigh nothing
pub nothing_weighed : (entries : Pairs) → entries ≡ [] → IsWeighed entries 0
nothing_weighed entries none = subst (λ (es : Pairs). IsWeighed es 0) (sym none) (record { own = refl; ordered = refl; weighed = refl; small = omega arith })

-- ---- what is at an identity

-- a key is at an identity exactly where that is the entry's
same_test : (e : ℕ × Entry) (u : ℕ) → e.0 ≡ uuid_of e.1 → is_eq (nat_cmp u e.0) ≡ nat_eq (uuid_of e.1) u
same_test e u own = sym (unsigned_ties u e.0) ∙ nat_eq_equiv.symm u e.0 ∙ ap (λ n. nat_eq n u) own

-- the entry of an identity is what the map has at it
pub entry_by_key : (es : Pairs) (u : ℕ) → AreOwn uuid_of es → lookup (is_at (nat_cmp u)) es ≡ entry_at (values_of es) u
entry_by_key [] u own = refl
entry_by_key (e ∷ es) u own =
    let p = head_own uuid_of e es own in
    λ i. cond (same_test e u p.0 i) (Some e.1) (entry_by_key es u p.1 i)

-- the entries of the keys above an identity
pub values_above : (es : Pairs) (u : ℕ) → AreOwn uuid_of es → values_of (filter (λ (e : ℕ × Entry). is_lt (nat_cmp u e.0)) es) ≡ higher u (values_of es)
values_above [] u own = refl
values_above (e ∷ es) u own =
    let p = head_own uuid_of e es own in
    by (is_lt (nat_cmp u e.0)) (values_above es u p.1)
    ∙ ap (λ b. cond b (e.1 ∷ higher u (values_of es)) (higher u (values_of es))) (less u e.0 ∙ ap (nat_lt u) p.0)
  where
    by : (b : Bool) → values_of (filter (λ (e : ℕ × Entry). is_lt (nat_cmp u e.0)) es) ≡ higher u (values_of es)
        → values_of (cond b (e ∷ filter (λ (e : ℕ × Entry). is_lt (nat_cmp u e.0)) es) (filter (λ (e : ℕ × Entry). is_lt (nat_cmp u e.0)) es))
        ≡ cond b (e.1 ∷ higher u (values_of es)) (higher u (values_of es))
    by true rest = ap (λ xs. e.1 ∷ xs) rest
    by false rest = rest

    less : (n m : ℕ) → is_lt (nat_cmp n m) ≡ nat_lt n m
    less n m = test (nat_lt n m) (nat_eq n m) where
      test : (b c : Bool) → is_lt (cond b Less (cond c Equal Greater)) ≡ b
      test true c = refl
      test false true = refl
      test false false = refl

-- the identity of the entry at a place is the key there
pub identity_at : (es : Pairs) (place : ℕ) → AreOwn uuid_of es
    → option_map (λ (e : ℕ × Entry). e.0) (slice_get es place) ≡ option_map uuid_of (slice_get (values_of es) place)
identity_at es place own =
    sym (slice_get-map (λ (e : ℕ × Entry). e.0) es place) ∙ ap (λ ks. slice_get ks place) own ∙ slice_get-map uuid_of (values_of es) place

-- the last entry has the last key
pub last_identity : (es : Pairs) → AreOwn uuid_of es
    → option_map (λ (e : ℕ × Entry). e.0) (slice_get es (length es - 1)) ≡ option_map uuid_of (slice_get (values_of es) (length (values_of es) - 1))
last_identity es own =
    identity_at es (length es - 1) own ∙ ap (λ n. option_map uuid_of (slice_get (values_of es) (n - 1))) (sym (length-values_of es))

-- all entries are up to the last one
pub up_to_last : (es : Pairs) (u weight : ℕ) → IsWeighed es weight → option_map uuid_of (slice_get (values_of es) (length (values_of es) - 1)) ≡ Some u → up_to u (values_of es) ≡ values_of es
up_to_last es u weight is last = by (slice_get (values_of es) (length (values_of es) - 1)) refl last
  where
    by : (found : Option Entry) → slice_get (values_of es) (length (values_of es) - 1) ≡ found → option_map uuid_of found ≡ Some u → up_to u (values_of es) ≡ values_of es
    by None at none = absurd (cc)
    by (Some e) at some =
        let same : e.uuid ≡ u = (cc) in
        ap (λ n. up_to n (values_of es)) (sym same) ∙ all_prefix (values_of es) e is.ordered at

-- without a last entry there is none
pub none_last : {X : Type 0} (es : List X) → slice_get es (length es - 1) ≡ None → es ≡ []
none_last [] none = refl
none_last {X} (e ∷ es) none = absurd (some (e ∷ es) e (length es) (omega arith) (ap (slice_get (e ∷ es)) place ∙ none))
  where
    place : length es ≡ length (e ∷ es) - 1
    place = omega arith

    some : (xs : List X) (x : X) (k : ℕ) → k < length xs → slice_get xs k ≡ None → ⊥
    some [] x k low none = omega (arith, low)
    some (y ∷ xs) x zero low none = cc
    some (y ∷ xs) x (suc k) low none = some xs x k (omega (arith, low)) none

-- ---- an entry that is put

-- an entry that is put into the map by its identity
pub put_pairs : (e : Entry) (es : Pairs) → AreOwn uuid_of es → ascends (values_of es) ≡ true → values_of (insert_entry nat_cmp es e.uuid e) ≡ put e (values_of es)
put_pairs e [] own up = refl
put_pairs e (x ∷ es) own up =
    let p = head_own uuid_of x es own in
    let u = and_parts (above (uuid_of x.1) (values_of es)) (ascends (values_of es)) up in
    by p.0 u.0 (put_pairs e es p.1 u.1) (cases_order (uuid_of x.1) e.uuid)
  where
    placed_by : (o : Ordering) → o ≡ nat_cmp e.uuid x.0
        → values_of (insert_entry nat_cmp (x ∷ es) e.uuid e) ≡ values_of (match_ordering o ((e.uuid, e) ∷ x ∷ es) ((x.0, e) ∷ es) (x ∷ insert_entry nat_cmp es e.uuid e))
    placed_by o is = ap (λ o. values_of (match_ordering o ((e.uuid, e) ∷ x ∷ es) ((x.0, e) ∷ es) (x ∷ insert_entry nat_cmp es e.uuid e))) (sym is)

    by : x.0 ≡ uuid_of x.1 → above (uuid_of x.1) (values_of es) ≡ true → values_of (insert_entry nat_cmp es e.uuid e) ≡ put e (values_of es)
        → (uuid_of x.1 ≡ e.uuid) ⊎ ((uuid_of x.1 < e.uuid) ⊎ (e.uuid < uuid_of x.1))
        → values_of (insert_entry nat_cmp (x ∷ es) e.uuid e) ≡ put e (x.1 ∷ values_of es)
    by first later rest (inl same) =
        placed_by Equal (nat_cmp_is e.uuid x.0 Equal (sym same ∙ sym first)) ∙ sym (put_there e x.1 (values_of es) same later)
    by first later rest (inr (inl less)) =
        placed_by Greater (nat_cmp_is e.uuid x.0 Greater (omega (arith, first, less))) ∙ ap (λ xs. x.1 ∷ xs) rest ∙ sym (put_after e x.1 (values_of es) less)
    by first later rest (inr (inr more)) =
        placed_by Less (nat_cmp_is e.uuid x.0 Less (omega (arith, first, more))) ∙ sym (put_before e x.1 (values_of es) more later)

-- ---- an entry that is removed

-- an entry that is removed from the map by its identity
pub removed_pairs : (u : ℕ) (es : Pairs) → AreOwn uuid_of es → ascends (values_of es) ≡ true
    → values_of (remove_entry (is_at (nat_cmp u)) es) ≡ filter (λ entry. not (is_identified u entry)) (values_of es)
removed_pairs u [] own up = refl
removed_pairs u (x ∷ es) own up =
    let p = head_own uuid_of x es own in
    let a = and_parts (above (uuid_of x.1) (values_of es)) (ascends (values_of es)) up in
    ap (λ b. values_of (cond b es (x ∷ remove_entry (is_at (nat_cmp u)) es))) (same_test x u p.0)
    ∙ by (nat_eq (uuid_of x.1) u) refl a.0 (removed_pairs u es p.1 a.1)
  where
    left : List Entry
    left = filter (λ entry. not (is_identified u entry)) (values_of es)

    by : (b : Bool) → nat_eq (uuid_of x.1) u ≡ b → above (uuid_of x.1) (values_of es) ≡ true → values_of (remove_entry (is_at (nat_cmp u)) es) ≡ left
        → values_of (cond b es (x ∷ remove_entry (is_at (nat_cmp u)) es)) ≡ cond (not b) (x.1 ∷ left) left
    by true same later rest = sym (all_stay u (values_of es) (ap (λ n. above n (values_of es)) (sym (eqb-true (uuid_of x.1) u same)) ∙ later))
    by false other later rest = ap (λ xs. x.1 ∷ xs) rest

-- ---- with their weight

-- an entry weighs no more than all of them
pub weight_at : (es : List Entry) (u : ℕ) → found_weight (entry_at es u) ≤ total_weight es
weight_at [] u = omega arith
weight_at (e ∷ es) u = by (nat_eq e.uuid u) (weight_at es u)
  where
    by : (b : Bool) → found_weight (entry_at es u) ≤ total_weight es → found_weight (cond b (Some e) (entry_at es u)) ≤ total_weight (e ∷ es)
    by true less = omega (arith, sum_by-cons (λ (x : Entry). weight_of x.attrs) e es)
    by false less = omega (arith, less, sum_by-cons (λ (x : Entry). weight_of x.attrs) e es)

-- entries with one more, or another in its place
pub put_weighed : (es new : Pairs) (e : Entry) (before after without : ℕ) → IsWeighed es before → new ≡ insert_entry nat_cmp es e.uuid e
    → without + found_weight (entry_at (values_of es) e.uuid) ≡ total_weight (values_of es) → after ≡ without + weight_of e.attrs → after < 2 ^ 64 → IsWeighed new after
put_weighed es new e before after without is inserted left now small =
    let values : values_of new ≡ put e (values_of es) = ap (λ (xs : Pairs). values_of xs) inserted ∙ put_pairs e es is.own is.ordered in
    let total = total_put e (values_of es) is.ordered in
    let same = ap total_weight values in
    record {
      own = subst (λ (xs : Pairs). AreOwn uuid_of xs) (sym inserted) (own-insert uuid_of es e.uuid e refl is.own);
      ordered = ap ascends values ∙ ascends_put e (values_of es) is.ordered;
      weighed = omega (arith, left, now, total, same);
      small = small;
    }

-- entries without one
pub removed_weighed : (es new : Pairs) (u before without : ℕ) → IsWeighed es before → new ≡ remove_entry (is_at (nat_cmp u)) es
    → without + found_weight (entry_at (values_of es) u) ≡ total_weight (values_of es) → IsWeighed new without
removed_weighed es new u before without is removed left =
    let values : values_of new ≡ filter (λ entry. not (is_identified u entry)) (values_of es) = ap (λ (xs : Pairs). values_of xs) removed ∙ removed_pairs u es is.own is.ordered in
    let total = sum_by-remove_entry (λ (e : Entry). weight_of e.attrs) (is_at (nat_cmp u)) es in
    let there = ap found_weight (entry_by_key es u is.own) in
    let same : total_weight (values_of new) ≡ total_weight (values_of (remove_entry (is_at (nat_cmp u)) es)) = ap (λ (xs : Pairs). total_weight (values_of xs)) removed in
    record {
      own = subst (λ (xs : Pairs). AreOwn uuid_of xs) (sym removed) (own-remove uuid_of (is_at (nat_cmp u)) es is.own);
      ordered = ap ascends values ∙ ascends_filter (λ entry. not (is_identified u entry)) (values_of es) is.ordered;
      weighed = omega (arith, left, total, there, same);
      small = omega (arith, left, is.weighed, is.small);
    }
