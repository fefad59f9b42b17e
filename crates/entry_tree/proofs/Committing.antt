-- Entries after a commit: their order, what each identity has, and what differs.
use Rattle.std.proofs.Common.{◌≡◌, ◌<◌, ◌≤◌, ◌+◌, ℕ, Bool, true, false, not, cond, nat_eq, nat_lt, List, [], ◌∷◌, ◌++◌, length, take, get_or, map, reverse, Option, Some, None, refl, sym, ap, ◌∙◌, arith}
use Rattle.std.specs.Prelude.{◌&&◌, is_none, fold}
use Rattle.std.specs.List.{filter}
use Rattle.std.specs.Option.{option_or}
use Rattle.std.proofs.lemmas.Bool.{and_parts, or_parts, eqb-true, eq-eqb, ne_eqb, ltb-false, false≢true}
use Rattle.std.proofs.lemmas.List.{reverse-append, take_more}
use Rattle.std.proofs.lemmas.List.Sums.{fold-append}
use Rattle.std.proofs.lemmas.List.Folds.{find-append}
use Rattle.std.proofs.Math.Bool.{or-false}
use Rattle.entry_writes.specs.declared.entry.Entry.{Entry}
use Rattle.entry_writes.specs.declared.touched.EntryChange.{EntryChange}
use Rattle.entry_writes.specs.Bytes.{is_one_found}
use Rattle.entry_writes.specs.Effects.{is_one_of, committed}
use Rattle.entry_tree.specs.Fitting.{is_directory_content}
use Rattle.entry_writes.specs.State.{ascends, entry_at, put, exceeds_limits, same_named, total_weight, most_entries, most_weight, IsDirectory}
use Rattle.entry_writes.specs.Touched.{identities, joined, change_at, is_change, touched, rises}
use Rattle.entry_tree.proofs.Directory.{ascends_filter}
use Rattle.entry_writes.proofs.Identities.{above}
use Rattle.entry_writes.proofs.Same.{one_found-same}
use Rattle.entry_tree.proofs.Putting.{ascends_put, entry_at_put}
use Rattle.entry_tree.proofs.Rising.{below_all, among, rises-joined, among-joined, same_passing}
use Rattle.schema_rules.proofs.Lists.{option_or-assoc}

-- each of these entries put in its place
abbrev pub put_all : List Entry → List Entry → List Entry
put_all es puts = fold (λ held entry. put entry held) es puts

-- ---- order

-- entries that are put leave the others in order
pub ascends_puts : (puts es : List Entry) → ascends es ≡ true → ascends (put_all es puts) ≡ true
ascends_puts [] es asc = asc
ascends_puts (e ∷ puts) es asc = ascends_puts puts (put e es) (ascends_put e es asc)

-- entries ascend after a commit
pub ascends_committed : (es puts : List Entry) (drops : List ℕ) → ascends es ≡ true → ascends (committed es puts drops) ≡ true
ascends_committed es puts drops asc = ascends_puts puts (filter (λ e. not (is_one_of drops e)) es) (ascends_filter (λ e. not (is_one_of drops e)) es asc)

-- one more is put
pub put_more : (es puts : List Entry) (i : ℕ) (e : Entry) → i < length puts → e ≡ get_or puts i e → put_all es (take (i + 1) puts) ≡ put e (put_all es (take i puts))
put_more es puts i e low is =
    ap (put_all es) (take_more puts i e low ∙ ap (λ x. take i puts ++ x ∷ []) (sym is))
    ∙ fold-append (λ held entry. put entry held) es (take i puts) (e ∷ [])

-- ---- what an identity has

entry_at_kept : (drops : List ℕ) (es : List Entry) (u : ℕ) → entry_at (filter (λ e. not (is_one_of drops e)) es) u ≡ cond (among u drops) None (entry_at es u)
entry_at_kept drops [] u = by (among u drops)
  where
    by : (b : Bool) → ◌≡◌ {A = Option Entry} None (cond b None None)
    by true = refl
    by false = refl
entry_at_kept drops (e ∷ es) u = by (among e.uuid drops) refl (nat_eq e.uuid u) refl (entry_at_kept drops es u)
  where
    rest : List Entry
    rest = filter (λ x. not (is_one_of drops x)) es

    by : (gone : Bool) → among e.uuid drops ≡ gone → (hit : Bool) → nat_eq e.uuid u ≡ hit → entry_at rest u ≡ cond (among u drops) None (entry_at es u)
        → entry_at (cond (not gone) (e ∷ rest) rest) u ≡ cond (among u drops) None (cond hit (Some e) (entry_at es u))
    by true gone true hit ih =
        let out : among u drops ≡ true = ap (λ v. among v drops) (sym (eqb-true e.uuid u hit)) ∙ gone in
        ih ∙ ap (λ b. cond b None (entry_at es u)) out ∙ sym (ap (λ b. cond b None (Some e)) out)
    by true gone false miss ih = ih
    by false stays true hit ih =
        let in_it : among u drops ≡ false = ap (λ v. among v drops) (sym (eqb-true e.uuid u hit)) ∙ stays in
        ap (λ b. cond b (Some e) (entry_at rest u)) hit ∙ sym (ap (λ b. cond b None (Some e)) in_it)
    by false stays false miss ih = ap (λ b. cond b (Some e) (entry_at rest u)) miss ∙ ih

or_found : (b : Bool) (e : Entry) (found : Option Entry) → option_or (cond b (Some e) None) found ≡ cond b (Some e) found
or_found true e found = refl
or_found false e found = refl

-- an identity has the last entry that is put for it, or what it had
pub entry_at_puts : (puts es : List Entry) (u : ℕ) → ascends es ≡ true → entry_at (put_all es puts) u ≡ option_or (entry_at (reverse puts) u) (entry_at es u)
entry_at_puts [] es u asc = refl
entry_at_puts (e ∷ puts) es u asc =
    entry_at_puts puts (put e es) u (ascends_put e es asc)
    ∙ ap (option_or (entry_at (reverse puts) u)) (entry_at_put e es u asc ∙ sym (or_found (nat_eq e.uuid u) e (entry_at es u)))
    ∙ sym (option_or-assoc (entry_at (reverse puts) u) (cond (nat_eq e.uuid u) (Some e) None) (entry_at es u))
    ∙ ap (λ found. option_or found (entry_at es u)) (sym (ap (λ xs. entry_at xs u) (reverse-append (e ∷ []) puts) ∙ find-append (λ x. nat_eq x.uuid u) (reverse puts) (e ∷ [])))

-- the last entry of the identity that is put, or else none where it is dropped, or else the entry that it had
pub entry_at_committed : (es puts : List Entry) (drops : List ℕ) (u : ℕ) → ascends es ≡ true
    → entry_at (committed es puts drops) u ≡ option_or (entry_at (reverse puts) u) (cond (among u drops) None (entry_at es u))
entry_at_committed es puts drops u asc =
    entry_at_puts puts (filter (λ e. not (is_one_of drops e)) es) u (ascends_filter (λ e. not (is_one_of drops e)) es asc)
    ∙ ap (option_or (entry_at (reverse puts) u)) (entry_at_kept drops es u)

stays_put : (puts es : List Entry) (u : ℕ) → ascends es ≡ true → among u (identities puts) ≡ false → entry_at (put_all es puts) u ≡ entry_at es u
stays_put [] es u asc off = refl
stays_put (e ∷ puts) es u asc off =
    let p = or_parts (nat_eq u e.uuid) (among u (identities puts)) off in
    let other : nat_eq e.uuid u ≡ false = ne_eqb e.uuid u (λ same. false≢true (sym p.0 ∙ eq-eqb u e.uuid (sym same))) in
    stays_put puts (put e es) u (ascends_put e es asc) p.1 ∙ entry_at_put e es u asc ∙ ap (λ b. cond b (Some e) (entry_at es u)) other

-- the identities that a commit puts or drops
abbrev pub ids : List Entry → List ℕ → List ℕ
ids puts drops = joined (joined [] drops) (identities puts)

-- the other identities keep what they have
stays_committed : (es puts : List Entry) (drops : List ℕ) (u : ℕ) → ascends es ≡ true → among u (ids puts drops) ≡ false → entry_at es u ≡ entry_at (committed es puts drops) u
stays_committed es puts drops u asc off =
    let p = or_parts (among u (identities puts)) (among u (joined [] drops)) (sym (among-joined u (joined [] drops) (identities puts)) ∙ off) in
    let q = or_parts (among u drops) false (sym (among-joined u [] drops) ∙ p.1) in
    sym (stays_put puts (filter (λ e. not (is_one_of drops e)) es) u (ascends_filter (λ e. not (is_one_of drops e)) es asc) p.0
    ∙ entry_at_kept drops es u
    ∙ ap (λ b. cond b None (entry_at es u)) q.0)

-- ---- what differs

-- those that differ are the changes at the identities that differ
pub changes_at : (t : ℕ → EntryChange) (us : List ℕ) → filter is_change (map t us) ≡ map t (filter (λ u. is_change (t u)) us)
changes_at t [] = refl
changes_at t (u ∷ us) = by (is_change (t u)) (changes_at t us)
  where
    by : (b : Bool) → filter is_change (map t us) ≡ map t (filter (λ v. is_change (t v)) us)
        → cond b (t u ∷ filter is_change (map t us)) (filter is_change (map t us)) ≡ map t (cond b (u ∷ filter (λ v. is_change (t v)) us) (filter (λ v. is_change (t v)) us))
    by true rest = ap (λ ts. t u ∷ ts) rest
    by false rest = rest

-- an identity that no entry has is nowhere
pub nowhere : (es : List Entry) (u : ℕ) → among u (identities es) ≡ false → entry_at es u ≡ None
nowhere [] u off = refl
nowhere (e ∷ es) u off =
    let p = or_parts (nat_eq u e.uuid) (among u (identities es)) off in
    let other : nat_eq e.uuid u ≡ false = ne_eqb e.uuid u (λ same. false≢true (sym p.0 ∙ eq-eqb u e.uuid (sym same))) in
    ap (λ b. cond b (Some e) (entry_at es u)) other ∙ nowhere es u p.1

-- a number is below the identities of entries that are above it
pub above_identities : (u : ℕ) (es : List Entry) → below_all u (identities es) ≡ above u es
above_identities u [] = refl
above_identities u (e ∷ es) = ap (λ b. nat_lt u e.uuid && b) (above_identities u es)

-- entries ascend where their identities do
pub rises-identities : (es : List Entry) → rises (identities es) ≡ ascends es
rises-identities [] = refl
rises-identities (e ∷ es) = λ i. above_identities e.uuid es i && rises-identities es i

no_change : (uuid : ℕ) (was now : Option Entry) → was ≡ now → is_change (record { uuid = uuid; before = was; after = now }) ≡ false
no_change uuid was now same = ap (λ found. not (is_one_found was found)) (sym same) ∙ ap not (one_found-same was)

-- what differs is found at identities that have all of those that do not keep what they have
pub touched_by : (old new : List Entry) (us : List ℕ) → ascends old ≡ true → rises us ≡ true → ((u : ℕ) → among u us ≡ false → entry_at old u ≡ entry_at new u)
    → touched old new ≡ filter is_change (map (change_at old new) us)
touched_by old new us asc up stays =
    changes_at (change_at old new) both
    ∙ ap (map (change_at old new)) (same_passing changes both us both_rise up (λ u. in_both u (among u both) refl) (λ u. in_these u (among u us) refl))
    ∙ sym (changes_at (change_at old new) us)
  where
    both : List ℕ
    both = joined (identities old) (identities new)

    changes : ℕ → Bool
    changes u = is_change (change_at old new u)

    both_rise : rises both ≡ true
    both_rise = rises-joined (identities old) (identities new) (rises-identities old ∙ asc)

    in_these : (u : ℕ) (b : Bool) → among u us ≡ b → changes u ≡ true → b ≡ true
    in_these u true at change = refl
    in_these u false off change = absurd (false≢true (sym (no_change u (entry_at old u) (entry_at new u) (stays u off)) ∙ change))

    in_both : (u : ℕ) (b : Bool) → among u both ≡ b → changes u ≡ true → b ≡ true
    in_both u true at change = refl
    in_both u false off change =
        let p = or_parts (among u (identities new)) (among u (identities old)) (sym (among-joined u (identities old) (identities new)) ∙ off) in
        absurd (false≢true (sym (no_change u (entry_at old u) (entry_at new u) (nowhere old u p.1 ∙ sym (nowhere new u p.0))) ∙ change))

-- a commit touches what it puts and drops, where that differs
pub touched_committed : (es puts : List Entry) (drops : List ℕ) → ascends es ≡ true
    → touched es (committed es puts drops) ≡ filter is_change (map (change_at es (committed es puts drops)) (ids puts drops))
touched_committed es puts drops asc =
    touched_by es (committed es puts drops) (ids puts drops) asc (rises-joined (joined [] drops) (identities puts) (rises-joined [] drops refl))
    (λ u off. stays_committed es puts drops u asc off)

-- ---- the identities that are dropped, as a set

-- dropping by a set of identities is dropping by their list
pub kept_by_set : (drops : List ℕ) (es : List Entry) → filter (λ e. not (is_one_of (joined [] drops) e)) es ≡ filter (λ e. not (is_one_of drops e)) es
kept_by_set drops es = λ i. filter (λ e. not (one e i)) es
  where
    one : (e : Entry) → is_one_of (joined [] drops) e ≡ is_one_of drops e
    one e = among-joined e.uuid [] drops ∙ or-false (among e.uuid drops)

-- ---- entries that may be held

room : (es : List Entry) → not (exceeds_limits es) ≡ true → (length es ≤ most_entries) × (total_weight es ≤ most_weight)
room es free =
    let p = or_parts (nat_lt most_entries (length es)) (nat_lt most_weight (total_weight es)) (by (exceeds_limits es) free) in
    (ltb-false most_entries (length es) p.0, ltb-false most_weight (total_weight es) p.1)
  where
    by : (b : Bool) → not b ≡ true → b ≡ false
    by true h = sym h
    by false h = refl

-- entries after a commit that may be held are those of a directory
pub directory_committed : (es puts : List Entry) (drops : List ℕ) (weight : ℕ) → ascends es ≡ true → is_directory_content (committed es puts drops) ≡ true → weight ≡ total_weight (committed es puts drops)
    → IsDirectory (committed es puts drops) weight
directory_committed es puts drops weight asc held weighs =
    let free = room (committed es puts drops) (and_parts (not (exceeds_limits (committed es puts drops))) (is_none (same_named (committed es puts drops))) held).0 in
    let light = free.1 in
    record {
      ascends = ascends_committed es puts drops asc;
      weighed = weighs;
      few = free.0;
      light = omega (arith, light, weighs);
    }

-- ---- the steps of a commit
