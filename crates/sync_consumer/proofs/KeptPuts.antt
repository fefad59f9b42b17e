-- Entries that are kept as the changes which put them: what a map of such changes gives is what one of
-- the entries would.
use Rattle.std.proofs.Common.{◌≡◌, ◌<◌, ◌≤◌, ◌-◌, ◌+◌, ◌^◌, ℕ, suc, Bool, true, false, not, cond, nat_lt, List, [], ◌∷◌, length, map, Option, Some, None, refl, sym, ap, subst, ◌∙◌, arith}
use Rattle.std.specs.Prelude.{filter, option_map, slice_get}
use Rattle.std.specs.BTreeMap.{insert_entry, is_at}
use Rattle.std.specs.Map.{keys_of, values_of, lookup, remove_entry}
use Rattle.std.specs.Option.{option_and_then}
use Rattle.std.specs.Ordering.{nat_cmp, is_lt, match_ordering}
use Rattle.std.specs.declared.cmp.Ordering.{Ordering}
use Rattle.std.specs.declared.cmp.Ordering.TheVariants.{Less, Equal, Greater}
use Rattle.std.proofs.lemmas.Bool.{and_parts, ltb-true}
use Rattle.std.proofs.lemmas.List.{length-map}
use Rattle.std.proofs.lemmas.Map.Entries.{length-values_of}
use Rattle.std.proofs.lemmas.Option.{slice_get-map}
use Rattle.schema_rules.specs.Attributes.{weight_of}
use Rattle.entry_tree.specs.declared.entry.Entry.{Entry}
use Rattle.entry_tree.specs.State.{ascends, entry_at, found_weight, is_identified, put, total_weight}
use Rattle.entry_tree.specs.Touched.{identities, rises}
use Rattle.entry_tree.proofs.Committing.{rises-identities}
use Rattle.entry_tree.proofs.Identities.{above}
use Rattle.entry_tree.proofs.Putting.{put_before}
use Rattle.sync_model.specs.Copy.{effected, puts_of}
use Rattle.sync_consumer.specs.declared.stage.StagedChange.{StagedChange}
use Rattle.sync_consumer.specs.declared.stage.StagedChange.TheVariants.{AddOrModify, Delete}
use Rattle.sync_consumer.specs.Holding.{as_puts, entries_put, AreWeighedPuts}
use Rattle.sync_consumer.specs.Staging.{change_of, changes_kept, higher, IsStage}
use Rattle.sync_consumer.proofs.Stages.{limits, own_id}
use Rattle.sync_consumer.proofs.Weighing.{Pairs, uuid_of, entry_by_key, last_identity, nothing_weighed, put_pairs, put_weighed, removed_pairs, removed_weighed, values_above}

abbrev pub Puts : Type 0
Puts = List (ℕ × StagedChange)

-- ---- none, and the same

-- without changes nothing is put
pub nothing_put : (changes : Puts) → changes ≡ [] → AreWeighedPuts changes 0
nothing_put changes none =
    subst (λ (cs : Puts). AreWeighedPuts cs 0) (sym none) (record { puts = refl; weighed = nothing_weighed [] refl })

-- equal changes put the same
pub same_put : (changes changes' : Puts) (weight : ℕ) → changes' ≡ changes → AreWeighedPuts changes weight → AreWeighedPuts changes' weight
same_put changes changes' weight same is = subst (λ (cs : Puts). AreWeighedPuts cs weight) (sym same) is

-- ---- what a map of the entries gives

-- the entries that are put are those
pub kept_puts : (es : Pairs) → entries_put (as_puts es) ≡ es
kept_puts [] = refl
kept_puts (e ∷ es) = ap (λ (xs : Pairs). e ∷ xs) (kept_puts es)

-- one more at its key
insert_puts : (es : Pairs) (u : ℕ) (e : Entry) → insert_entry nat_cmp (as_puts es) u (AddOrModify e) ≡ as_puts (insert_entry nat_cmp es u e)
insert_puts [] u e = refl
insert_puts (x ∷ es) u e = by (nat_cmp u x.0) (insert_puts es u e)
  where
    by : (o : Ordering) → insert_entry nat_cmp (as_puts es) u (AddOrModify e) ≡ as_puts (insert_entry nat_cmp es u e)
        → match_ordering o ((u, AddOrModify e) ∷ as_puts (x ∷ es)) ((x.0, AddOrModify e) ∷ as_puts es) ((x.0, AddOrModify x.1) ∷ insert_entry nat_cmp (as_puts es) u (AddOrModify e))
        ≡ as_puts (match_ordering o ((u, e) ∷ x ∷ es) ((x.0, e) ∷ es) (x ∷ insert_entry nat_cmp es u e))
    by Less rest = refl
    by Equal rest = refl
    by Greater rest = ap (λ (xs : Puts). (x.0, AddOrModify x.1) ∷ xs) rest

-- all but one
remove_puts : (es : Pairs) (test : ℕ → Bool) → remove_entry test (as_puts es) ≡ as_puts (remove_entry test es)
remove_puts [] test = refl
remove_puts (e ∷ es) test = by (test e.0) (remove_puts es test)
  where
    by : (b : Bool) → remove_entry test (as_puts es) ≡ as_puts (remove_entry test es)
        → cond b (as_puts es) ((e.0, AddOrModify e.1) ∷ remove_entry test (as_puts es)) ≡ as_puts (cond b es (e ∷ remove_entry test es))
    by true rest = refl
    by false rest = ap (λ (xs : Puts). (e.0, AddOrModify e.1) ∷ xs) rest

-- the entry that a change puts, where there is one
abbrev pub entry_in : Option StagedChange → Option Entry
entry_in found = option_and_then (λ (change : StagedChange). (change_of change).1) found

-- what is found
found_puts : (es : Pairs) (test : ℕ → Bool) → entry_in (lookup test (as_puts es)) ≡ lookup test es
found_puts [] test = refl
found_puts (e ∷ es) test = by (test e.0) (found_puts es test)
  where
    by : (b : Bool) → entry_in (lookup test (as_puts es)) ≡ lookup test es
        → entry_in (cond b (Some (AddOrModify e.1)) (lookup test (as_puts es))) ≡ cond b (Some e.1) (lookup test es)
    by true rest = refl
    by false rest = rest

abbrev tested : (ℕ → Bool) → Puts → Puts
tested test changes = filter (λ (change : ℕ × StagedChange). test change.0) changes

abbrev entries_tested : (ℕ → Bool) → Pairs → Pairs
entries_tested test es = filter (λ (e : ℕ × Entry). test e.0) es

-- those whose keys pass a test
tested_puts : (es : Pairs) (test : ℕ → Bool) → puts_of (changes_kept (tested test (as_puts es))) ≡ values_of (entries_tested test es)
tested_puts [] test = refl
tested_puts (e ∷ es) test = by (test e.0) (tested_puts es test)
  where
    by : (b : Bool) → puts_of (changes_kept (tested test (as_puts es))) ≡ values_of (entries_tested test es)
        → puts_of (changes_kept (cond b ((e.0, AddOrModify e.1) ∷ tested test (as_puts es)) (tested test (as_puts es))))
        ≡ values_of (cond b (e ∷ entries_tested test es) (entries_tested test es))
    by true rest = ap (λ (xs : List Entry). e.1 ∷ xs) rest
    by false rest = rest

-- all of them
pub list_puts : (changes : Puts) → puts_of (changes_kept changes) ≡ values_of (entries_put changes)
list_puts [] = refl
list_puts ((u, AddOrModify e) ∷ changes) = ap (λ (es : List Entry). e ∷ es) (list_puts changes)
list_puts ((u, Delete n) ∷ changes) = list_puts changes

-- ---- what is kept

-- the entry of an identity is the one that the change at it puts
pub put_by_key : (changes : Puts) (u weight : ℕ) → AreWeighedPuts changes weight → entry_in (lookup (is_at (nat_cmp u)) changes) ≡ entry_at (values_of (entries_put changes)) u
put_by_key changes u weight is =
    let es = entries_put changes in
    ap (λ (cs : Puts). entry_in (lookup (is_at (nat_cmp u)) cs)) is.puts ∙ found_puts es (is_at (nat_cmp u)) ∙ entry_by_key es u is.weighed.own

-- the entries above an identity are those that the changes above it put
pub puts_above : (changes : Puts) (u weight : ℕ) → AreWeighedPuts changes weight
    → puts_of (changes_kept (filter (λ (change : ℕ × StagedChange). is_lt (nat_cmp u change.0)) changes)) ≡ higher u (values_of (entries_put changes))
puts_above changes u weight is =
    let es = entries_put changes in
    ap (λ (cs : Puts). puts_of (changes_kept (tested (λ k. is_lt (nat_cmp u k)) cs))) is.puts
    ∙ tested_puts es (λ k. is_lt (nat_cmp u k))
    ∙ values_above es u is.weighed.own

-- there are as many entries as changes
pub count_puts : (changes : Puts) (weight : ℕ) → AreWeighedPuts changes weight → length changes ≡ length (values_of (entries_put changes))
count_puts changes weight is =
    let es = entries_put changes in
    ap length is.puts ∙ length-map es (λ (e : ℕ × Entry). (e.0, AddOrModify e.1)) ∙ sym (length-values_of es)

abbrev key : ℕ × StagedChange → ℕ
key change = change.0

-- the last entry has the last key
pub last_put : (changes : Puts) (weight : ℕ) → AreWeighedPuts changes weight
    → option_map key (slice_get changes (length changes - 1))
    ≡ option_map uuid_of (slice_get (values_of (entries_put changes)) (length (values_of (entries_put changes)) - 1))
last_put changes weight is =
    let es = entries_put changes in
    ap (λ (cs : Puts). option_map key (slice_get cs (length cs - 1))) is.puts
    ∙ ap (λ n. option_map key (slice_get (as_puts es) (n - 1))) (length-map es (λ (e : ℕ × Entry). (e.0, AddOrModify e.1)))
    ∙ ap (option_map key) (slice_get-map (λ (e : ℕ × Entry). (e.0, AddOrModify e.1)) es (length es - 1))
    ∙ by (slice_get es (length es - 1))
    ∙ last_identity es is.weighed.own
  where
    by : (found : Option (ℕ × Entry)) → option_map key (option_map (λ (e : ℕ × Entry). (e.0, AddOrModify e.1)) found) ≡ option_map (λ (e : ℕ × Entry). e.0) found
    by None = refl
    by (Some e) = refl

-- ---- an entry that is put, and one that is removed

inserted_at : (old new : Puts) (e : Entry) (weight : ℕ) → AreWeighedPuts old weight → new ≡ insert_entry nat_cmp old e.uuid (AddOrModify e)
    → new ≡ as_puts (insert_entry nat_cmp (entries_put old) e.uuid e)
inserted_at old new e weight is inserted =
    inserted ∙ ap (λ (cs : Puts). insert_entry nat_cmp cs e.uuid (AddOrModify e)) is.puts ∙ insert_puts (entries_put old) e.uuid e

inserted_put : (old new : Puts) (e : Entry) (weight : ℕ) → AreWeighedPuts old weight → new ≡ insert_entry nat_cmp old e.uuid (AddOrModify e)
    → entries_put new ≡ insert_entry nat_cmp (entries_put old) e.uuid e
inserted_put old new e weight is inserted =
    ap entries_put (inserted_at old new e weight is inserted) ∙ kept_puts (insert_entry nat_cmp (entries_put old) e.uuid e)

-- one that is put is in its place
pub value_put : (old new : Puts) (e : Entry) (weight : ℕ) → AreWeighedPuts old weight → new ≡ insert_entry nat_cmp old e.uuid (AddOrModify e)
    → values_of (entries_put new) ≡ put e (values_of (entries_put old))
value_put old new e weight is inserted =
    ap (λ (es : Pairs). values_of es) (inserted_put old new e weight is inserted) ∙ put_pairs e (entries_put old) is.weighed.own is.weighed.ordered

-- they are weighed with it
pub puts_with : (old new : Puts) (e : Entry) (before after without : ℕ) → AreWeighedPuts old before → new ≡ insert_entry nat_cmp old e.uuid (AddOrModify e)
    → without + found_weight (entry_at (values_of (entries_put old)) e.uuid) ≡ total_weight (values_of (entries_put old)) → after ≡ without + weight_of e.attrs → after < 2 ^ 64 → AreWeighedPuts new after
puts_with old new e before after without is inserted left now small =
    let put_now = inserted_put old new e before is inserted in
    record {
      puts = inserted_at old new e before is inserted ∙ sym (ap as_puts put_now);
      weighed = put_weighed (entries_put old) (entries_put new) e before after without is.weighed put_now left now small;
    }

removed_at : (old new : Puts) (u weight : ℕ) → AreWeighedPuts old weight → new ≡ remove_entry (is_at (nat_cmp u)) old
    → new ≡ as_puts (remove_entry (is_at (nat_cmp u)) (entries_put old))
removed_at old new u weight is removed =
    removed ∙ ap (λ (cs : Puts). remove_entry (is_at (nat_cmp u)) cs) is.puts ∙ remove_puts (entries_put old) (is_at (nat_cmp u))

removed_put : (old new : Puts) (u weight : ℕ) → AreWeighedPuts old weight → new ≡ remove_entry (is_at (nat_cmp u)) old
    → entries_put new ≡ remove_entry (is_at (nat_cmp u)) (entries_put old)
removed_put old new u weight is removed =
    ap entries_put (removed_at old new u weight is removed) ∙ kept_puts (remove_entry (is_at (nat_cmp u)) (entries_put old))

-- one that is removed is not there
pub value_removed : (old new : Puts) (u weight : ℕ) → AreWeighedPuts old weight → new ≡ remove_entry (is_at (nat_cmp u)) old
    → values_of (entries_put new) ≡ filter (λ entry. not (is_identified u entry)) (values_of (entries_put old))
value_removed old new u weight is removed =
    ap (λ (es : Pairs). values_of es) (removed_put old new u weight is removed) ∙ removed_pairs u (entries_put old) is.weighed.own is.weighed.ordered

-- they are weighed without it
pub puts_without : (old new : Puts) (u before without : ℕ) → AreWeighedPuts old before → new ≡ remove_entry (is_at (nat_cmp u)) old
    → without + found_weight (entry_at (values_of (entries_put old)) u) ≡ total_weight (values_of (entries_put old)) → AreWeighedPuts new without
puts_without old new u before without is removed left =
    let put_now = removed_put old new u before is removed in
    record {
      puts = removed_at old new u before is removed ∙ sym (ap as_puts put_now);
      weighed = removed_weighed (entries_put old) (entries_put new) u before without is.weighed put_now left;
    }

-- ---- a stage whose changes all put entries

one_more : (n m : ℕ) → n ≤ m → suc n ≤ suc m
one_more n m le = omega (arith, le)

one_less : (n m : ℕ) → suc n ≤ suc m → n ≤ m
one_less n m le = omega (arith, le)

more_at_most : (n m : ℕ) → n ≤ m → n ≤ suc m
more_at_most n m le = omega (arith, le)

too_many : (n m : ℕ) → suc n ≤ m → m ≤ n → ⊥
too_many n m more few = omega (arith, more, few)

-- there are no more entries than changes
few_puts : (changes : Puts) → length (puts_of (changes_kept changes)) ≤ length changes
few_puts [] = omega arith
few_puts ((u, AddOrModify e) ∷ changes) = one_more (length (puts_of (changes_kept changes))) (length changes) (few_puts changes)
few_puts ((u, Delete n) ∷ changes) = more_at_most (length (puts_of (changes_kept changes))) (length changes) (few_puts changes)

-- where there are as many, each change puts one
all_puts : (changes : Puts) → length changes ≤ length (puts_of (changes_kept changes)) → changes ≡ as_puts (entries_put changes)
all_puts [] many = refl
all_puts ((u, AddOrModify e) ∷ changes) many = ap (λ (cs : Puts). (u, AddOrModify e) ∷ cs) (all_puts changes (one_less (length changes) (length (puts_of (changes_kept changes))) many))
all_puts ((u, Delete n) ∷ changes) many = absurd (too_many (length changes) (length (puts_of (changes_kept changes))) many (few_puts changes))

-- the keys and the identities are those of the entries
keys_put : (es : Pairs) → keys_of (as_puts es) ≡ keys_of es
keys_put [] = refl
keys_put (e ∷ es) = ap (λ (ks : List ℕ). e.0 ∷ ks) (keys_put es)

owners_put : (es : Pairs) → map own_id (values_of (as_puts es)) ≡ identities (values_of es)
owners_put [] = refl
owners_put (e ∷ es) = ap (λ (us : List ℕ). e.1.uuid ∷ us) (owners_put es)

staged_put : (es : Pairs) → keys_of (changes_kept (as_puts es)) ≡ identities (values_of es)
staged_put [] = refl
staged_put (e ∷ es) = ap (λ (us : List ℕ). e.1.uuid ∷ us) (staged_put es)

-- a stage with as many puts as changes puts them all
pub stage_put : (changes : Puts) (count weight : ℕ) → IsStage changes count weight → count ≡ length changes → AreWeighedPuts changes weight
stage_put changes count weight is same =
    let es = entries_put changes in
    let all = all_puts changes (omega (arith, same, is.counted)) in
    let total = ap total_weight (list_puts changes) in
    let light = limits (puts_of (changes_kept changes)) is.within in
    record {
      puts = all;
      weighed = record {
        own = sym (keys_put es) ∙ ap (λ (cs : Puts). keys_of cs) (sym all) ∙ is.own ∙ ap (λ (cs : Puts). map own_id (values_of cs)) all ∙ owners_put es;
        ordered = sym (rises-identities (values_of es)) ∙ ap rises (sym (staged_put es)) ∙ ap (λ (cs : Puts). rises (keys_of (changes_kept cs))) (sym all) ∙ is.ordered;
        weighed = is.weighed ∙ total;
        small = omega (arith, is.weighed, light.1);
      };
    }

-- ---- such a stage in effect, where none are held

put_first : (e : Entry) (es : List Entry) → above e.uuid es ≡ true → ascends es ≡ true → put e es ≡ e ∷ es
put_first e [] first up = refl
put_first e (x ∷ es) first up =
    let f = and_parts (nat_lt e.uuid x.uuid) (above e.uuid es) first in
    let p = and_parts (above x.uuid es) (ascends es) up in
    put_before e x es (ltb-true e.uuid x.uuid f.0) p.0

effected_puts : (es : Pairs) → ascends (values_of es) ≡ true → effected [] (changes_kept (as_puts es)) ≡ values_of es
effected_puts [] up = refl
effected_puts (e ∷ es) up =
    let p = and_parts (above e.1.uuid (values_of es)) (ascends (values_of es)) up in
    ap (put e.1) (effected_puts es p.1) ∙ put_first e.1 (values_of es) p.0 p.1

-- the entries are those that it puts
pub effected_alone : (changes : Puts) (weight : ℕ) → AreWeighedPuts changes weight → values_of (entries_put changes) ≡ effected [] (changes_kept changes)
effected_alone changes weight is =
    sym (ap (λ (cs : Puts). effected [] (changes_kept cs)) is.puts ∙ effected_puts (entries_put changes) is.weighed.ordered)
