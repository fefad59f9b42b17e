-- The first of ascending entries that passes a test, by the least identity whose entry does.
use Rattle.std.proofs.Common.{◌≡◌, ◌<◌, ◌≤◌, ℕ, Bool, true, false, ◌||◌, cond, nat_eq, List, [], ◌∷◌, length, Option, Some, None, sym, ap, refl, ◌∙◌, subst, arith, inl, inr}
use Rattle.std.specs.Prelude.{bytes_eq, is_some, option_and_then, find}
use Rattle.std.specs.List.{list_any}
use Rattle.std.proofs.lemmas.Bool.{and_parts, eqb-true, eq-eqb, ne_eqb, false≢true, cases_lt}
use Rattle.std.proofs.lemmas.Option.{none-some, same_Some}
use Rattle.dn_names.specs.Names.{TypeAndValue, same_name, parent_of}
use Rattle.dn_names.specs.Paths.{path_key, HasPath}
use Rattle.dn_names.proofs.Alike.{both_or_none}
use Rattle.dn_names.proofs.EqualNames.{name_sym}
use Rattle.dn_names.proofs.PathKeys.{equal_is_same, path_key-from_same}
use Rattle.std.specs.Cmp.Lexicographic.{bytes_decides}
use Rattle.entry_writes.specs.declared.entry.Entry.{Entry}
use Rattle.entry_writes.specs.State.{ascends, entry_at, is_named, entry_named, has_name, has_parent}
use Rattle.entry_writes.proofs.Identities.{above, above_lower, none_at}
use Rattle.entry_tree.specs.NameIndex.{Names, ids_at, has_path, HasPathKey, IsIndex, IsLeast}

-- the least number that passes, where one does
abbrev IsLeastOf : (ℕ → Bool) → Option ℕ → Type 0
IsLeastOf passes None = (number : ℕ) → passes number ≡ false
IsLeastOf passes (Some least) = (passes least ≡ true) × ((number : ℕ) → passes number ≡ true → least ≤ number)

-- there is an entry, which passes
abbrev pub passes : (Entry → Bool) → Option Entry → Bool
passes test None = false
passes test (Some e) = test e

-- the entry of the least identity whose entry passes is the first that does
pub first_by_least : (test : Entry → Bool) (es : List Entry) (least : Option ℕ) → ascends es ≡ true → IsLeastOf (λ u. passes test (entry_at es u)) least
    → find test es ≡ option_and_then (entry_at es) least
first_by_least test [] None asc is = refl
first_by_least test [] (Some n) asc is = absurd (false≢true is.0)
first_by_least test (e ∷ es) least asc is = by (λ found holds. first_by_least test es found p.1 holds) (test e) refl least is
  where
    p : (above e.uuid es ≡ true) × (ascends es ≡ true)
    p = and_parts (above e.uuid es) (ascends es) asc

    at_head : entry_at (e ∷ es) e.uuid ≡ Some e
    at_head = ap (λ b. cond b (Some e) (entry_at es e.uuid)) (eq-eqb e.uuid e.uuid refl)

    at_rest : (u : ℕ) → (e.uuid ≡ u → ⊥) → entry_at (e ∷ es) u ≡ entry_at es u
    at_rest u off = ap (λ b. cond b (Some e) (entry_at es u)) (ne_eqb e.uuid u off)

    -- where the first does not pass, the same pass without it
    same_rest : test e ≡ false → (u : ℕ) → passes test (entry_at (e ∷ es) u) ≡ passes test (entry_at es u)
    same_rest fails u = split (nat_eq e.uuid u) refl
      where
        split : (b : Bool) → nat_eq e.uuid u ≡ b → passes test (entry_at (e ∷ es) u) ≡ passes test (entry_at es u)
        split true hit =
            let there : entry_at (e ∷ es) u ≡ Some e = ap (λ b. cond b (Some e) (entry_at es u)) hit in
            let none : entry_at es u ≡ None = none_at es u (ap (λ n. above n es) (sym (eqb-true e.uuid u hit)) ∙ p.0) in
            ap (passes test) there ∙ fails ∙ sym (ap (passes test) none)
        split false miss = ap (λ b. passes test (cond b (Some e) (entry_at es u))) miss

    -- the least is the identity of the first, where that passes
    at_first : test e ≡ true → (n : ℕ) → passes test (entry_at (e ∷ es) n) ≡ true → n ≤ e.uuid → n ≡ e.uuid
    at_first holds n there low = elim (cases_lt n e.uuid) [
      | inl less ↦
          let none : entry_at es n ≡ None = none_at es n (above_lower es n e.uuid less p.0) in
          let off : entry_at (e ∷ es) n ≡ None = at_rest n (λ same. omega (arith, less, same)) ∙ none in
          absurd (false≢true (sym (ap (passes test) off) ∙ there))
      | inr more ↦ omega (arith, more, low)
    ]

    by : ((found : Option ℕ) → IsLeastOf (λ u. passes test (entry_at es u)) found → find test es ≡ option_and_then (entry_at es) found)
        → (b : Bool) → test e ≡ b → (found : Option ℕ) → IsLeastOf (λ u. passes test (entry_at (e ∷ es) u)) found
        → cond b (Some e) (find test es) ≡ option_and_then (entry_at (e ∷ es)) found
    by later true holds None none = absurd (false≢true (sym (none e.uuid) ∙ ap (passes test) at_head ∙ holds))
    by later true holds (Some n) has =
        sym (ap (entry_at (e ∷ es)) (at_first holds n has.0 (has.1 e.uuid (ap (passes test) at_head ∙ holds))) ∙ at_head)
    by later false fails None none = later None (λ u. sym (same_rest fails u) ∙ none u)
    by later false fails (Some n) has =
        later (Some n) (sym (same_rest fails n) ∙ has.0, λ u holds. has.1 u (same_rest fails u ∙ holds))
        ∙ sym (at_rest n (λ same. false≢true (sym fails ∙ ap (passes test) (sym at_head ∙ ap (entry_at (e ∷ es)) same) ∙ has.0)))

-- the item that a test finds passes it
pub found_passes : {X : Type 0} (test : X → Bool) (xs : List X) (x : X) → find test xs ≡ Some x → test x ≡ true
found_passes test [] x found = absurd (none-some x found)
found_passes test (y ∷ xs) x found = by (found_passes test xs x) (test y) refl found
  where
    by : (find test xs ≡ Some x → test x ≡ true) → (b : Bool) → test y ≡ b → cond b (Some y) (find test xs) ≡ Some x → test x ≡ true
    by rest true holds here = ap test (sym (same_Some y x here)) ∙ holds
    by rest false fails there = rest there

-- ---- by names

-- what passes the one test passes the other
find_narrow : (p q : Entry → Bool) (es : List Entry) → ((e : Entry) → q e ≡ true → p e ≡ true)
    → ((e : Entry) → find p es ≡ Some e → q e ≡ true) → find q es ≡ find p es
find_narrow p q [] wider holds = refl
find_narrow p q (e ∷ es) wider holds = by (λ rest. find_narrow p q es wider rest) (p e) refl (q e) refl
  where
    by : (((x : Entry) → find p es ≡ Some x → q x ≡ true) → find q es ≡ find p es)
        → (b : Bool) → p e ≡ b → (c : Bool) → q e ≡ c → cond c (Some e) (find q es) ≡ cond b (Some e) (find p es)
    by later true wide true narrow = refl
    by later true wide false fails = absurd (false≢true (sym fails ∙ holds e (ap (λ b. cond b (Some e) (find p es)) wide)))
    by later false fails true narrow = absurd (false≢true (sym fails ∙ wider e narrow))
    by later false fails false narrow = later (λ x found. holds x (ap (λ b. cond b (Some e) (find p es)) fails ∙ found))

same_where_found : (name : List (List TypeAndValue)) (e : Entry) → bytes_eq (path_key e.dn) (path_key name) ≡ true → HasPath e.dn → HasPath name → same_name e.dn name ≡ true
same_where_found name e equal own has = sym (equal_is_same e.dn name own has) ∙ equal

-- the path keys of an entry's equal name
equal_where_same : (name : List (List TypeAndValue)) (e : Entry) → same_name e.dn name ≡ true → bytes_eq (path_key e.dn) (path_key name) ≡ true
equal_where_same name e same = (bytes_decides (path_key e.dn) (path_key name)).1 (path_key-from_same e.dn name same)

-- an entry of a name is that of the least identity at the path key of the name
pub named_by_least : (name : List (List TypeAndValue)) (es : List Entry) (least : Option ℕ) → ascends es ≡ true → HasPath name
    → IsLeastOf (λ u. has_path (path_key name) (entry_at es u)) least
    → ((e : Entry) → option_and_then (entry_at es) least ≡ Some e → HasPath e.dn)
    → entry_named es name ≡ option_and_then (entry_at es) least
named_by_least name es least asc has is sound =
    let test : Entry → Bool = λ e. bytes_eq (path_key e.dn) (path_key name) in
    let first : find test es ≡ option_and_then (entry_at es) least = first_by_least test es least asc (least_passes least is) in
    find_narrow test (λ e. same_name e.dn name) es (equal_where_same name)
    (λ e found. same_where_found name e (found_passes test es e found) (sound e (sym first ∙ found)) has)
    ∙ first
  where
    pass_same : (found : Option Entry) → passes (λ e. bytes_eq (path_key e.dn) (path_key name)) found ≡ has_path (path_key name) found
    pass_same None = refl
    pass_same (Some e) = refl

    least_passes : (least : Option ℕ) → IsLeastOf (λ u. has_path (path_key name) (entry_at es u)) least → IsLeastOf (λ u. passes (λ e. bytes_eq (path_key e.dn) (path_key name)) (entry_at es u)) least
    least_passes None none = λ u. pass_same (entry_at es u) ∙ none u
    least_passes (Some n) has = (pass_same (entry_at es n) ∙ has.0, λ u holds. has.1 u (sym (pass_same (entry_at es u)) ∙ holds))

-- the least identity at a path key is the least whose entry has it
least_by_index : (es : List Entry) (names : Names) (path : List ℕ) (least : Option ℕ) → IsIndex names es → IsLeast (ids_at names path) least → IsLeastOf (λ u. has_path path (entry_at es u)) least
least_by_index es names path None index none = λ u. sym (index.exact path u) ∙ none u
least_by_index es names path (Some n) index has = (sym (index.exact path n) ∙ has.0, λ u holds. has.1 u (index.exact path u ∙ holds))

-- what an index has has a path key
found_sound : (es : List Entry) (names : Names) (least : Option ℕ) → IsIndex names es → (e : Entry) → option_and_then (entry_at es) least ≡ Some e → HasPath e.dn
found_sound es names None index e found = absurd (cc)
found_sound es names (Some u) index e found = subst HasPathKey found (index.named u)

-- the same by the index of the entries
pub named_by_index : (name : List (List TypeAndValue)) (es : List Entry) (names : Names) (path : List ℕ) (least : Option ℕ) → ascends es ≡ true → IsIndex names es → HasPath name → path ≡ path_key name
    → IsLeast (ids_at names path) least → entry_named es name ≡ option_and_then (entry_at es) least
named_by_index name es names path least asc index has is first =
    named_by_least name es least asc has (subst (λ text. IsLeastOf (λ u. has_path text (entry_at es u)) least) is (least_by_index es names path least index first))
    (found_sound es names least index)

-- ---- whether a name has an entry

-- something is found where something passes
found_is : (p : Entry → Bool) (es : List Entry) → is_some (find p es) ≡ list_any p es
found_is p [] = refl
found_is p (e ∷ es) = by (p e) (found_is p es)
  where
    by : (b : Bool) → is_some (find p es) ≡ list_any p es → is_some (cond b (Some e) (find p es)) ≡ (b || list_any p es)
    by true rest = refl
    by false rest = rest

-- there is a least identity at the path key of a name where an entry has the name
pub has_name_by_index : (name : List (List TypeAndValue)) (es : List Entry) (names : Names) (path : List ℕ) (least : Option ℕ) → ascends es ≡ true → IsIndex names es → HasPath name → path ≡ path_key name
    → IsLeast (ids_at names path) least → is_some least ≡ has_name es name
has_name_by_index name es names path least asc index has is first =
    sym (there least (least_by_index es names path least index first))
    ∙ ap is_some (sym (named_by_index name es names path least asc index has is first))
    ∙ found_is (is_named name) es
  where
    passes_some : (found : Option Entry) → has_path path found ≡ true → is_some found ≡ true
    passes_some None has = absurd (false≢true has)
    passes_some (Some e) has = refl

    there : (least : Option ℕ) → IsLeastOf (λ u. has_path path (entry_at es u)) least → is_some (option_and_then (entry_at es) least) ≡ is_some least
    there None none = refl
    there (Some n) has = passes_some (entry_at es n) has.0

-- the empty name has no parent
pub no_parent : (es : List Entry) (name : List (List TypeAndValue)) → length name ≡ 0 → false ≡ has_parent es name
no_parent [] name none = refl
no_parent (e ∷ es) [] none = no_parent es [] none
no_parent (e ∷ es) (rdn ∷ above) none = absurd (omega (arith, none))

-- an entry has the name of the parent
pub parent_named : (es : List Entry) (name : List (List TypeAndValue)) → 0 < length name → has_name es (parent_of name) ≡ has_parent es name
parent_named es [] some = absurd (omega arith)
parent_named [] (rdn ∷ above) some = refl
parent_named (e ∷ es) (rdn ∷ above) some =
    λ i. both_or_none (same_name e.dn above) (same_name above e.dn) (name_sym e.dn above) (name_sym above e.dn) i || parent_named es (rdn ∷ above) some i
