-- What differs where entries are removed, and which names have entries that can be.
use Rattle.std.proofs.Common.{◌≡◌, ◌<◌, Bool, true, false, not, cond, ◌||◌, List, [], ◌∷◌, map, length, Bor, Option, Some, None, ap, sym, ◌∙◌, refl, arith}
use Rattle.std.proofs.lemmas.List.{length-map}
use Rattle.ldap_constants.specs.declared.result_codes.TheConstants.{NO_SUCH_OBJECT, NOT_ALLOWED_ON_NON_LEAF}
use Rattle.dn_names.specs.Names.{TypeAndValue}
use Rattle.std.specs.List.{filter, filter_map, cons_option, list_any}
use Rattle.entry_writes.specs.declared.entry.Entry.{Entry}
use Rattle.entry_writes.specs.declared.touched.EntryChange.{EntryChange}
use Rattle.entry_writes.specs.Codes.{delete_code}
use Rattle.entry_writes.specs.State.{ascends, has_below, is_named}
use Rattle.entry_writes.specs.Touched.{is_change, touched}
use Rattle.entry_writes.proofs.Identities.{stepped, touched_stepped}
use Rattle.entry_writes.proofs.Same.{entry_same}

-- ---- what differs where entries are removed

-- the change of an entry that goes
abbrev pub removed : Entry → EntryChange
removed e = record { uuid = e.uuid; before = Some e; after = None }

abbrev left_by : (Entry → Bool) → Entry → Option Entry
left_by goes e = cond (not (goes e)) (Some e) None

filter_is_filter_map : (goes : Entry → Bool) (es : List Entry) → filter (λ e. not (goes e)) es ≡ filter_map (left_by goes) es
filter_is_filter_map goes [] = refl
filter_is_filter_map goes (e ∷ es) = by (filter_is_filter_map goes es) (not (goes e))
  where
    by : filter (λ x. not (goes x)) es ≡ filter_map (left_by goes) es → (b : Bool) → cond b (e ∷ filter (λ x. not (goes x)) es) (filter (λ x. not (goes x)) es) ≡ cons_option (cond b (Some e) None) (filter_map (left_by goes) es)
    by rest true = ap (λ xs. e ∷ xs) rest
    by rest false = rest

left_keeps : (goes : Entry → Bool) (e new : Entry) → left_by goes e ≡ Some new → new.uuid ≡ e.uuid
left_keeps goes e new gives = by (not (goes e)) gives
  where
    by : (b : Bool) → cond b (Some e) None ≡ Some new → new.uuid ≡ e.uuid
    by true h = let same : e ≡ new = cc in ap (λ (x : Entry). x.uuid) (sym same)
    by false h = absurd (cc)

changes_removed : (goes : Entry → Bool) (es : List Entry) → filter is_change (map (stepped (left_by goes)) es) ≡ map removed (filter goes es)
changes_removed goes [] = refl
changes_removed goes (e ∷ es) = by (changes_removed goes es) (goes e)
  where
    by : filter is_change (map (stepped (left_by goes)) es) ≡ map removed (filter goes es) → (b : Bool) → cond (is_change (record { uuid = e.uuid; before = Some e; after = cond (not b) (Some e) None }))
        (record { uuid = e.uuid; before = Some e; after = cond (not b) (Some e) None } ∷ filter is_change (map (stepped (left_by goes)) es))
        (filter is_change (map (stepped (left_by goes)) es))
        ≡ map removed (cond b (e ∷ filter goes es) (filter goes es))
    by rest true = ap (λ xs. removed e ∷ xs) rest
    by rest false =
        ap (λ b. cond (not b) (record { uuid = e.uuid; before = Some e; after = Some e } ∷ filter is_change (map (stepped (left_by goes)) es)) (filter is_change (map (stepped (left_by goes)) es))) (entry_same e)
        ∙ rest

-- removing entries touches these alone
pub touched_removed : (goes : Entry → Bool) (old : List Entry) → ascends old ≡ true → touched old (filter (λ e. not (goes e)) old) ≡ map removed (filter goes old)
touched_removed goes old asc =
    ap (touched old) (filter_is_filter_map goes old) ∙ touched_stepped (left_by goes) (left_keeps goes) old asc ∙ changes_removed goes old

-- ---- which names have entries that can be removed

none_pass : (p : Entry → Bool) (es : List Entry) → length (filter p es) ≡ 0 → list_any p es ≡ false
none_pass p [] none = refl
none_pass p (e ∷ es) none = by (p e) none (none_pass p es)
  where
    by : (b : Bool) → length (cond b (e ∷ filter p es) (filter p es)) ≡ 0 → (length (filter p es) ≡ 0 → list_any p es ≡ false) → (b || list_any p es) ≡ false
    by true none rest = absurd (omega (arith, none))
    by false none rest = rest none

some_pass : (p : Entry → Bool) (es : List Entry) → 0 < length (filter p es) → list_any p es ≡ true
some_pass p [] some = absurd (omega (arith, some))
some_pass p (e ∷ es) some = by (p e) some (some_pass p es)
  where
    by : (b : Bool) → 0 < length (cond b (e ∷ filter p es) (filter p es)) → (0 < length (filter p es) → list_any p es ≡ true) → (b || list_any p es) ≡ true
    by true some rest = refl
    by false some rest = rest some

module _ (es : List Entry) (name : List (List TypeAndValue)) (named : List (Bor Entry))
    (are : map (λ (e : Bor Entry). e.now) named ≡ filter (is_named name) es) where
  -- where none has the name
  pub delete_none : length named ≡ 0 → delete_code es name ≡ Some NO_SUCH_OBJECT
  delete_none none =
      ap (λ b. cond (not b) (Some NO_SUCH_OBJECT) (cond (has_below es name) (Some NOT_ALLOWED_ON_NON_LEAF) None))
      (none_pass (is_named name) es (omega (arith, none, ap (length {A = Entry}) are, length-map named (λ (e : Bor Entry). e.now))))

  -- where some have, by whether any is below it
  pub delete_some : (below : Bool) → 0 < length named → below ≡ has_below es name → delete_code es name ≡ cond below (Some NOT_ALLOWED_ON_NON_LEAF) None
  delete_some below some is =
      ap (λ b. cond (not b) (Some NO_SUCH_OBJECT) (cond (has_below es name) (Some NOT_ALLOWED_ON_NON_LEAF) None))
      (some_pass (is_named name) es (omega (arith, some, ap (length {A = Entry}) are, length-map named (λ (e : Bor Entry). e.now))))
      ∙ ap (λ b. cond b (Some NOT_ALLOWED_ON_NON_LEAF) None) (sym is)
