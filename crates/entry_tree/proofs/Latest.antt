-- What a commit leaves at the identities that it puts or drops: the last entry of each that it puts, or none.
use Rattle.std.proofs.Common.{◌≡◌, ◌<◌, ◌+◌, ℕ, Bool, true, false, cond, nat_eq, List, [], ◌∷◌, ◌++◌, length, take, get_or, map, reverse, Bor, Option, Some, None, refl, sym, ap, ◌∙◌, arith}
use Rattle.std.specs.Prelude.{◌||◌}
use Rattle.std.specs.BTreeMap as btree
use Rattle.std.specs.BTreeMap.{BTreeMap, is_at}
use Rattle.std.specs.Cmp.{unsigned_ties}
use Rattle.std.specs.List.{filter}
use Rattle.std.specs.Option.{option_copied, option_or}
use Rattle.std.specs.Ordering.{nat_cmp}
use Rattle.std.proofs.lemmas.Bool.{eq-eqb, false≢true, ne_eqb, or_left, or_right}
use Rattle.std.proofs.lemmas.List.{reverse-append, take_more}
use Rattle.std.proofs.lemmas.List.Folds.{find-append}
use Rattle.std.proofs.Math.Bool.{or-false}
use Rattle.entry_writes.specs.declared.entry.Entry.{Entry}
use Rattle.entry_writes.specs.declared.touched.EntryChange.{EntryChange}
use Rattle.entry_writes.specs.Effects.{committed}
use Rattle.entry_writes.specs.State.{ascends, entry_at}
use Rattle.entry_writes.specs.Touched.{identities, joined, change_at, is_change, touched}
use Rattle.entry_tree.specs.Judging.{change_by}
use Rattle.entry_tree.proofs.Committing.{entry_at_committed, ids, touched_committed}
use Rattle.entry_tree.proofs.Rising.{among, among-joined}

-- ---- the last entry of each identity, in a map

-- with one more entry
pub latest_more : (old new : BTreeMap ℕ (Bor Entry)) (puts : List Entry) (i : ℕ) (e : Bor Entry) → i < length puts → e.now ≡ get_or puts i e.now
    → ((u : ℕ) → btree.get nat_cmp new u ≡ cond (is_at (nat_cmp e.now.uuid) u) (Some e) (btree.get nat_cmp old u))
    → ((u : ℕ) → option_copied (btree.get nat_cmp old u) ≡ entry_at (reverse (take i puts)) u)
    → (u : ℕ) → option_copied (btree.get nat_cmp new u) ≡ entry_at (reverse (take (i + 1) puts)) u
latest_more old new puts i e low at updates so_far u =
    ap option_copied (updates u)
    ∙ by (is_at (nat_cmp e.now.uuid) u) (nat_eq e.now.uuid u) (sym (unsigned_ties e.now.uuid u))
    ∙ sym (ap (λ xs. entry_at xs u) longer)
  where
    by : (one other : Bool) → one ≡ other → option_copied (cond one (Some e) (btree.get nat_cmp old u)) ≡ cond other (Some e.now) (entry_at (reverse (take i puts)) u)
    by true true same = refl
    by false false same = so_far u
    by true false same = absurd (false≢true (sym same))
    by false true same = absurd (false≢true same)

    longer : reverse (take (i + 1) puts) ≡ e.now ∷ reverse (take i puts)
    longer = ap reverse (take_more puts i e.now low ∙ ap (λ x. take i puts ++ x ∷ []) (sym at)) ∙ reverse-append (take i puts) (e.now ∷ [])

-- ---- what a commit leaves

-- an identity of which no entry is put last is none that is put
none_put : (puts : List Entry) (u : ℕ) → entry_at (reverse puts) u ≡ None → among u (identities puts) ≡ false
none_put [] u none = refl
none_put (e ∷ puts) u none = by (none_put puts u) (entry_at (reverse puts) u) refl (nat_eq e.uuid u) refl (sym split ∙ none)
  where
    split : entry_at (reverse (e ∷ puts)) u ≡ option_or (entry_at (reverse puts) u) (cond (nat_eq e.uuid u) (Some e) None)
    split = ap (λ xs. entry_at xs u) (reverse-append (e ∷ []) puts) ∙ find-append (λ x. nat_eq x.uuid u) (reverse puts) (e ∷ [])

    by : (entry_at (reverse puts) u ≡ None → among u (identities puts) ≡ false) → (found : Option Entry) → entry_at (reverse puts) u ≡ found → (b : Bool) → nat_eq e.uuid u ≡ b
        → option_or found (cond b (Some e) None) ≡ None → (nat_eq u e.uuid || among u (identities puts)) ≡ false
    by rest (Some x) is b hit free = let never : ⊥ = cc in absurd never
    by rest None is true hit free = let never : ⊥ = cc in absurd never
    by rest None is false miss free =
        let other : nat_eq u e.uuid ≡ false = ne_eqb u e.uuid (λ same. false≢true (sym miss ∙ eq-eqb e.uuid u (sym same))) in
        ap (λ b. b || among u (identities puts)) other ∙ rest is

-- an identity that a commit puts or drops has the last entry of it that is put, or none
latest_is : (es puts : List Entry) (drops : List ℕ) (u : ℕ) → ascends es ≡ true → among u (ids puts drops) ≡ true → entry_at (reverse puts) u ≡ entry_at (committed es puts drops) u
latest_is es puts drops u asc there = by (entry_at (reverse puts) u) refl ∙ sym (entry_at_committed es puts drops u asc)
  where
    held : Option Entry
    held = cond (among u drops) None (entry_at es u)

    dropped : entry_at (reverse puts) u ≡ None → among u drops ≡ true
    dropped none =
        sym (or-false (among u drops)) ∙ sym (among-joined u [] drops)
        ∙ sym (ap (λ b. b || among u (joined [] drops)) (none_put puts u none))
        ∙ sym (among-joined u (joined [] drops) (identities puts)) ∙ there

    by : (found : Option Entry) → entry_at (reverse puts) u ≡ found → entry_at (reverse puts) u ≡ option_or (entry_at (reverse puts) u) held
    by (Some e) some = some ∙ sym (ap (λ o. option_or o held) some)
    by None none = none ∙ sym (ap (λ o. option_or o held) none ∙ ap (λ b. cond b None (entry_at es u)) (dropped none))

same_at : (f g : ℕ → EntryChange) (us : List ℕ) → ((u : ℕ) → among u us ≡ true → f u ≡ g u) → map f us ≡ map g us
same_at f g [] same = refl
same_at f g (u ∷ us) same =
    let first : f u ≡ g u = same u (or_left (nat_eq u u) (among u us) (eq-eqb u u refl)) in
    let rest : map f us ≡ map g us = same_at f g us (λ v there. same v (or_right (nat_eq v u) (among v us) there)) in
    λ i. first i ∷ rest i

-- what a commit changes, by the last entry of each identity that is put
pub touched_latest : (es puts : List Entry) (drops : List ℕ) (latest : ℕ → Option Entry) → ascends es ≡ true → ((u : ℕ) → latest u ≡ entry_at (reverse puts) u)
    → filter is_change (map (change_by es latest) (ids puts drops)) ≡ touched es (committed es puts drops)
touched_latest es puts drops latest asc is =
    ap (filter is_change) (same_at (change_by es latest) (change_at es (committed es puts drops)) (ids puts drops) one)
    ∙ sym (touched_committed es puts drops asc)
  where
    one : (u : ℕ) → among u (ids puts drops) ≡ true → change_by es latest u ≡ change_at es (committed es puts drops) u
    one u there = ap (λ found. let t : EntryChange = record { uuid = u; before = entry_at es u; after = found } in t) (is u ∙ latest_is es puts drops u asc there)

-- what a commit changes that puts an entry and does nothing else
pub touched_alone : (es : List Entry) (e : Entry) (old new : List EntryChange) (was : Option Entry) → ascends es ≡ true → old ≡ [] → was ≡ entry_at es e.uuid
    → new ≡ old ++ filter is_change ((record { uuid = e.uuid; before = was; after = Some e }) ∷ []) → new ≡ touched es (committed es (e ∷ []) [])
touched_alone es e old new was asc none held is =
    is
    ∙ ap (λ (changes : List EntryChange). changes ++ filter is_change (change was (Some e) ∷ [])) none
    ∙ ap (λ (o : Option Entry). filter is_change (change o (Some e) ∷ [])) held
    ∙ ap (λ (o : Option Entry). filter is_change (change (entry_at es e.uuid) o ∷ [])) (sym own)
    ∙ touched_latest es (e ∷ []) [] latest asc (λ u. refl)
  where
    change : Option Entry → Option Entry → EntryChange
    change before after = record { uuid = e.uuid; before = before; after = after }

    latest : ℕ → Option Entry
    latest u = entry_at (reverse (e ∷ [])) u

    own : latest e.uuid ≡ Some e
    own = ap (λ b. cond b (Some e) None) (eq-eqb e.uuid e.uuid refl)

-- a commit of one entry and nothing else is that of the first one
pub alone_only : (es puts : List Entry) (drops : List ℕ) (e : Entry) → length puts ≡ 1 → e ≡ get_or puts 0 e → length drops ≡ 0
    → touched es (committed es (e ∷ []) []) ≡ touched es (committed es puts drops)
alone_only es [] drops e one at none = absurd (omega (arith, one))
alone_only es (x ∷ []) [] e one at none = ap (λ (y : Entry). touched es (committed es (y ∷ []) [])) at
alone_only es (x ∷ []) (d ∷ drops) e one at none = absurd (omega (arith, none))
alone_only es (x ∷ y ∷ puts) drops e one at none = absurd (omega (arith, one))
