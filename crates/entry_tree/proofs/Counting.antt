-- How many entries have a type otherwise than as their whole RDN, counted attribute by attribute, entry by entry and change by change.
use Rattle.std.proofs.Common.{◌≡◌, ◌≢◌, ◌<◌, ◌≤◌, ◌+◌, ℕ, zero, suc, Bool, true, false, not, ◌&&◌, ◌||◌, cond, nat_eq, List, [], ◌∷◌, length, take, take_all, get_or, refl, sym, ap, ◌∙◌, subst, arith, inl, inr}
use Rattle.std.specs.Prelude.{AllPairs, Option, Some, None, replicate, slice_index}
use Rattle.std.specs.List.{list_all, list_any, sum_by, zip}
use Rattle.std.proofs.lemmas.Bool.{and_parts, cases_eq, eq-eqb, eqb-true, false≢true, ne_eqb}
use Rattle.std.proofs.lemmas.List.Sums.{count_by-le-length, sum_by-cons, sum_by-take-le, sum_by_more}
use Rattle.schema_rules.specs.declared.attributes.Attribute.{Attribute}
use Rattle.schema_rules.specs.Attributes.{IsAttributeList}
use Rattle.dn_names.specs.Names.{TypeAndValue}
use Rattle.entry_writes.specs.declared.entry.Entry.{Entry}
use Rattle.entry_writes.specs.declared.touched.EntryChange.{EntryChange}
use Rattle.entry_writes.specs.State.{ascends, most_entries, own_pairs}
use Rattle.entry_writes.specs.Touched.{touched, with_changes, CanBeMade}
use Rattle.entry_tree.specs.Pinned.{CountsStrays, found_stray, is_astray, is_counterpart, is_replaced, is_stray, is_whole_rdn, keeps_types, stray, strays_after, strays_before, strays_in, type_count}
use Rattle.entry_tree.proofs.Totals.{adds_touched}

-- numbers that are all 0
pub zeros : (n kind : ℕ) → slice_index (replicate n 0) kind ≡ 0
zeros zero kind = refl
zeros (suc n) zero = refl
zeros (suc n) (suc kind) = zeros n kind

-- ---- one attribute

-- an RDN that is no one pair is no attribute
pub not_one_pair : (own : List TypeAndValue) (a : Attribute) → length own ≢ 1 → is_whole_rdn own a ≡ false
not_one_pair [] a differ = refl
not_one_pair (pair ∷ []) a differ = absurd (differ refl)
not_one_pair (pair ∷ next ∷ pairs) a differ = refl

-- what an attribute counts
abbrev pub astray : ℕ → List TypeAndValue → Attribute → ℕ
astray kind own a = cond (is_astray kind own a) 1 0

-- nothing where it is the whole RDN
pub not_astray : (kind : ℕ) (own : List TypeAndValue) (a : Attribute) → is_whole_rdn own a ≡ true → astray kind own a ≡ 0
not_astray kind own a whole = ap (λ w. cond (nat_eq a.kind kind && not w) 1 0) whole ∙ none (nat_eq a.kind kind)
  where
    none : (b : Bool) → ◌≡◌ {A = ℕ} (cond (b && false) 1 0) 0
    none true = refl
    none false = refl

-- nothing of another type
pub other_astray : (kind : ℕ) (own : List TypeAndValue) (a : Attribute) → a.kind ≢ kind → astray kind own a ≡ 0
other_astray kind own a differ = ap (λ b. cond (b && not (is_whole_rdn own a)) 1 0) (ne_eqb a.kind kind differ)

-- one of its own type
own_astray : (kind : ℕ) (own : List TypeAndValue) (a : Attribute) → a.kind ≡ kind → is_whole_rdn own a ≡ false → astray kind own a ≡ 1
own_astray kind own a same off =
    ap (λ b. cond (b && not (is_whole_rdn own a)) 1 0) (eq-eqb a.kind kind same) ∙ ap (λ w. cond (not w) 1 0) off

-- one number is one more, and the others are as they were
pub count_here : (new old : List ℕ) (place kind : ℕ) (own : List TypeAndValue) (a : Attribute) → place ≡ a.kind → is_whole_rdn own a ≡ false
    → slice_index new place ≡ slice_index old place + 1 → ((n : ℕ) → n ≢ place → slice_index new n ≡ slice_index old n)
    → slice_index new kind ≡ slice_index old kind + astray kind own a
count_here new old place kind own a at off here others =
    elim (cases_eq kind place) [
      | inl same ↦
          let one : astray kind own a ≡ 1 = own_astray kind own a (sym at ∙ sym same) off in
          let moved : slice_index new kind ≡ slice_index old kind + 1 = ap (slice_index new) same ∙ here ∙ ap (λ n. slice_index old n + 1) (sym same) in
          omega (arith, one, moved)
      | inr differ ↦
          let none : astray kind own a ≡ 0 = other_astray kind own a (λ same. differ (sym same ∙ sym at)) in
          omega (arith, none, others kind differ)
    ]

-- ---- one entry

-- nothing where no attribute is of the type
none_astray : (kind : ℕ) (own : List TypeAndValue) (attrs : List Attribute) → ((k : ℕ) (d : Attribute) → k < length attrs → (get_or attrs k d).kind ≢ kind) → sum_by (astray kind own) attrs ≡ 0
none_astray kind own [] differ = refl
none_astray kind own (a ∷ attrs) differ =
    let first : astray kind own a ≡ 0 = other_astray kind own a (differ 0 a (omega arith)) in
    let later = none_astray kind own attrs (λ k d low. differ (suc k) d (omega arith)) in
    omega (arith, first, later, sum_by-cons (astray kind own) a attrs)

-- a list of attributes has each type once, so that it counts once at most
counted : (kind : ℕ) (own : List TypeAndValue) (attrs : List Attribute) → AllPairs (λ (a b : Attribute). a.kind ≢ b.kind) attrs
    → sum_by (astray kind own) attrs ≡ cond (list_any (is_astray kind own) attrs) 1 0
counted kind own [] once = refl
counted kind own (a ∷ attrs) once = by (is_astray kind own a) refl (counted kind own attrs (λ i j d less low. once (suc i) (suc j) d (omega arith) (omega arith)))
  where
    by : (b : Bool) → is_astray kind own a ≡ b → sum_by (astray kind own) attrs ≡ cond (list_any (is_astray kind own) attrs) 1 0
        → sum_by (astray kind own) (a ∷ attrs) ≡ cond (b || list_any (is_astray kind own) attrs) 1 0
    by true hit rest =
        let own_kind : a.kind ≡ kind = eqb-true a.kind kind (and_parts (nat_eq a.kind kind) (not (is_whole_rdn own a)) hit).0 in
        let first : astray kind own a ≡ 1 = ap (λ b. cond b 1 0) hit in
        let later = none_astray kind own attrs (λ k d low same. once 0 (suc k) d (omega arith) (omega arith) (own_kind ∙ sym same)) in
        let all : sum_by (astray kind own) (a ∷ attrs) ≡ 1 = omega (arith, first, later, sum_by-cons (astray kind own) a attrs) in
        all
    by false miss rest =
        let first : astray kind own a ≡ 0 = ap (λ b. cond b 1 0) miss in
        let all : sum_by (astray kind own) (a ∷ attrs) ≡ sum_by (astray kind own) attrs = omega (arith, first, sum_by-cons (astray kind own) a attrs) in
        all ∙ rest

below_two : (b : Bool) → cond b 1 0 ≤ 1
below_two true = omega arith
below_two false = omega arith

-- those so far count once at most
pub part_astray : (kind : ℕ) (own : List TypeAndValue) (attrs : List Attribute) (i : ℕ) → IsAttributeList attrs → sum_by (astray kind own) (take i attrs) ≤ 1
part_astray kind own attrs i sound =
    let all = counted kind own attrs sound.once in
    omega (arith, all, below_two (list_any (is_astray kind own) attrs), sum_by-take-le (astray kind own) attrs i)

-- and all of them what the entry counts
pub all_astray : (kind : ℕ) (e : Entry) (own : List TypeAndValue) (attrs : List Attribute) (i : ℕ) → own ≡ own_pairs e.dn → attrs ≡ e.attrs → IsAttributeList e.attrs → length attrs ≤ i
    → sum_by (astray kind own) (take i attrs) ≡ stray kind e
all_astray kind e own attrs i own_is attrs_are sound all =
    ap (sum_by (astray kind own)) (take_all i attrs all)
    ∙ (λ j. sum_by (astray kind (own_is j)) (attrs_are j))
    ∙ counted kind (own_pairs e.dn) e.attrs sound.once

-- ---- loops

-- one more
pub sum_more : {X : Type 0} (f : X → ℕ) (xs : List X) (i : ℕ) (x : X) → i < length xs → x ≡ get_or xs i x → sum_by f (take (i + 1) xs) ≡ sum_by f (take i xs) + f x
sum_more f xs i x low at = sum_by_more f xs i x low ∙ ap (λ y. sum_by f (take i xs) + f y) (sym at)

-- one more number is set
pub set_more : (after next gone come held : List ℕ) (place : ℕ) → ((kind : ℕ) → kind < place → slice_index after kind + slice_index gone kind ≡ slice_index held kind + slice_index come kind)
    → slice_index next place + slice_index gone place ≡ slice_index held place + slice_index come place → ((n : ℕ) → n ≢ place → slice_index next n ≡ slice_index after n)
    → (kind : ℕ) → kind < place + 1 → slice_index next kind + slice_index gone kind ≡ slice_index held kind + slice_index come kind
set_more after next gone come held place before here others kind low =
    elim (cases_eq kind place) [
      | inl same ↦ subst (λ n. slice_index next n + slice_index gone n ≡ slice_index held n + slice_index come n) (sym same) here
      | inr differ ↦ ap (λ n. n + slice_index gone kind) (others kind differ) ∙ before kind (apart kind place low differ)
    ]
  where
    apart : (k n : ℕ) → k < n + 1 → k ≢ n → k < n
    apart k n low differ = omega (arith, low, differ)

-- ---- changes

-- no more entries count than there are
pub strays_few : (kind : ℕ) (es : List Entry) → strays_in kind es ≤ length es
strays_few kind es = count_by-le-length (is_stray kind) es

-- the numbers of both states, by the changes between them
pub record Strays (kind : ℕ) (old new : List Entry) (changes : List EntryChange) : Type 0 where
  pub before : strays_before kind changes ≤ strays_in kind old
  pub after : strays_after kind changes ≤ strays_in kind new
  pub both : strays_in kind new + strays_before kind changes ≡ strays_in kind old + strays_after kind changes

strays_touched : (kind : ℕ) (old new : List Entry) → ascends old ≡ true → ascends new ≡ true → Strays kind old new (touched old new)
strays_touched kind old new asc up =
    let adds = adds_touched (stray kind) old new asc up in
    record { before = adds.before; after = adds.after; both = adds.both }

-- changes that can be made count what they take away and bring
pub strays_made : (kind : ℕ) (es : List Entry) (changes : List EntryChange) → ascends es ≡ true → CanBeMade es changes → Strays kind es (with_changes es changes) changes
strays_made kind es changes asc can =
    subst (λ cs. Strays kind es (with_changes es changes) cs) (sym can.exact) (strays_touched kind es (with_changes es changes) asc can.directory.ascends)

-- no more than a directory has entries
pub strays_after_few : (kind : ℕ) (es : List Entry) (changes : List EntryChange) → ascends es ≡ true → CanBeMade es changes → strays_after kind changes ≤ most_entries
strays_after_few kind es changes asc can =
    let s = strays_made kind es changes asc can in
    omega (arith, s.after, strays_few kind (with_changes es changes), can.directory.few)

-- the numbers after the changes are those of the entries after them
pub counted_made : (es : List Entry) (changes : List EntryChange) (was now : List ℕ) → CountsStrays was es → ascends es ≡ true → CanBeMade es changes
    → ((kind : ℕ) → kind < type_count → slice_index now kind + strays_before kind changes ≡ slice_index was kind + strays_after kind changes)
    → CountsStrays now (with_changes es changes)
counted_made es changes was now counts asc can moved = λ kind low.
    let s = strays_made kind es changes asc can in
    omega (arith, s.both, counts kind low, moved kind low)

-- ---- changes that leave the numbers as they are

-- both are so or none is
both_or_none : (x y : Bool) → cond x y (not y) ≡ true → x ≡ y
both_or_none true true h = refl
both_or_none true false h = absurd (false≢true h)
both_or_none false true h = absurd (false≢true h)
both_or_none false false h = refl

astray_same : (kind : ℕ) (own other : List TypeAndValue) (a b : Attribute) → is_counterpart own other a b ≡ true → is_astray kind own a ≡ is_astray kind other b
astray_same kind own other a b same =
    let p = and_parts (nat_eq a.kind b.kind) (cond (is_whole_rdn own a) (is_whole_rdn other b) (not (is_whole_rdn other b))) same in
    let kinds : a.kind ≡ b.kind = eqb-true a.kind b.kind p.0 in
    let whole : is_whole_rdn own a ≡ is_whole_rdn other b = both_or_none (is_whole_rdn own a) (is_whole_rdn other b) p.1 in
    λ i. nat_eq (kinds i) kind && not (whole i)

any_same : (kind : ℕ) (own other : List TypeAndValue) (xs ys : List Attribute) → length xs ≡ length ys
    → list_all (λ (items : Attribute × Attribute). is_counterpart own other items.0 items.1) (zip xs ys) ≡ true → list_any (is_astray kind own) xs ≡ list_any (is_astray kind other) ys
any_same kind own other [] [] long all = refl
any_same kind own other [] (y ∷ ys) long all = absurd (omega (arith, long))
any_same kind own other (x ∷ xs) [] long all = absurd (omega (arith, long))
any_same kind own other (x ∷ xs) (y ∷ ys) long all =
    let p = and_parts (is_counterpart own other x y) (list_all (λ (items : Attribute × Attribute). is_counterpart own other items.0 items.1) (zip xs ys)) all in
    λ i. astray_same kind own other x y p.0 i || any_same kind own other xs ys (omega (arith, long)) p.1 i

found_same : (kind : ℕ) (before after : Option Entry) → is_replaced before after ≡ true → found_stray kind before ≡ found_stray kind after
found_same kind None after same = absurd (false≢true same)
found_same kind (Some e) None same = absurd (false≢true same)
found_same kind (Some e) (Some d) same =
    let p = and_parts (nat_eq (length e.attrs) (length d.attrs))
    (list_all (λ (items : Attribute × Attribute). is_counterpart (own_pairs e.dn) (own_pairs d.dn) items.0 items.1) (zip e.attrs d.attrs)) same in
    ap (λ b. cond b 1 0) (any_same kind (own_pairs e.dn) (own_pairs d.dn) e.attrs d.attrs (eqb-true (length e.attrs) (length d.attrs) p.0) p.1)

-- where each change keeps the types, as many have them so before as after
pub same_strays : (kind : ℕ) (changes : List EntryChange) → list_all keeps_types changes ≡ true → strays_before kind changes ≡ strays_after kind changes
same_strays kind [] all = refl
same_strays kind (c ∷ changes) all =
    let p = and_parts (keeps_types c) (list_all keeps_types changes) all in
    sum_by-cons (λ (x : EntryChange). found_stray kind x.before) c changes
    ∙ (λ i. found_same kind c.before c.after p.0 i + same_strays kind changes p.1 i)
    ∙ sym (sum_by-cons (λ (x : EntryChange). found_stray kind x.after) c changes)
