-- Entries of which no two have one name.
use Rattle.std.proofs.Common.{◌≡◌, ℕ, Bool, true, false, cond, nat_eq, List, [], ◌∷◌, Option, Some, None, refl, sym, ap, ◌∙◌}
use Rattle.std.specs.Prelude.{option_map}
use Rattle.std.specs.List.{find, list_all}
use Rattle.std.specs.Option.{option_or}
use Rattle.std.proofs.lemmas.Bool.{and_parts, cond-false, eqb-true, ne_eqb, false≢true}
use Rattle.dn_names.specs.Names.{same_name}
use Rattle.dn_names.proofs.EqualNames.{name_sym}
use Rattle.entry_writes.specs.declared.entry.Entry.{Entry}
use Rattle.entry_writes.specs.State.{ascends, entry_at, is_named, entry_named, same_named}
use Rattle.entry_writes.proofs.Identities.{above, none_at}
use Rattle.entry_tree.proofs.Finding.{found_passes}
use Rattle.entry_tree.proofs.Moving.{held_where_found}
use Rattle.entry_tree.proofs.Order.{at_head}

-- ---- what is found in a list

-- where no entry passes a test, the one of an identity does not
pub fails_where_none : (p : Entry → Bool) (es : List Entry) (u : ℕ) (x : Entry) → entry_at es u ≡ Some x → find p es ≡ None → p x ≡ false
fails_where_none p [] u x there none = let never : ⊥ = cc in absurd never
fails_where_none p (e ∷ es) u x there none = by (fails_where_none p es u x) (nat_eq e.uuid u) there (p e) refl none
  where
    by : (entry_at es u ≡ Some x → find p es ≡ None → p x ≡ false) → (here : Bool) → cond here (Some e) (entry_at es u) ≡ Some x
        → (b : Bool) → p e ≡ b → cond b (Some e) (find p es) ≡ None → p x ≡ false
    by rest here is true passes free = let never : ⊥ = cc in absurd never
    by rest true is false fails free = let same : e ≡ x = cc in ap p (sym same) ∙ fails
    by rest false is false fails free = rest is free

-- where all entries pass a test, the one of an identity does
pub passes_where_all : (test : Entry → Bool) (es : List Entry) (u : ℕ) (x : Entry) → entry_at es u ≡ Some x → list_all test es ≡ true → test x ≡ true
passes_where_all test [] u x there all = let never : ⊥ = cc in absurd never
passes_where_all test (e ∷ es) u x there all =
    let p = and_parts (test e) (list_all test es) all in
    by p.0 (λ is. passes_where_all test es u x is p.1) (nat_eq e.uuid u) there
  where
    by : test e ≡ true → (entry_at es u ≡ Some x → test x ≡ true) → (here : Bool) → cond here (Some e) (entry_at es u) ≡ Some x → test x ≡ true
    by first rest true is = let same : e ≡ x = cc in ap test (sym same) ∙ first
    by first rest false is = rest is

-- ---- two entries of one name

-- two of the entries that have one name are one
abbrev pub AreDistinct : List Entry → Type 0
AreDistinct es = (e x : Entry) → entry_at es e.uuid ≡ Some e → entry_at es x.uuid ≡ Some x → same_name x.dn e.dn ≡ true → e.uuid ≡ x.uuid

both_none : (u : ℕ) (found : Option Entry) (later : Option (ℕ × ℕ)) → option_or (option_map (λ (other : Entry). (u, other.uuid)) found) later ≡ None → (found ≡ None) × (later ≡ None)
both_none u None later none = (refl, none)
both_none u (Some x) later none = let never : ⊥ = cc in absurd never

-- where no later entry has the name of one, two of one name are one
pub distinct_where_none : (es : List Entry) → same_named es ≡ None
    → (e x : Entry) → entry_at es e.uuid ≡ Some e → entry_at es x.uuid ≡ Some x → same_name x.dn e.dn ≡ true → e.uuid ≡ x.uuid
distinct_where_none [] none e x one other same = let never : ⊥ = cc in absurd never
distinct_where_none (h ∷ es) none e x one other same =
    let parts = both_none h.uuid (entry_named es h.dn) (same_named es) none in
    by parts.0 (λ a b. distinct_where_none es parts.1 e x a b same) (nat_eq h.uuid e.uuid) refl one (nat_eq h.uuid x.uuid) refl other
  where
    by : entry_named es h.dn ≡ None → (entry_at es e.uuid ≡ Some e → entry_at es x.uuid ≡ Some x → e.uuid ≡ x.uuid)
        → (first : Bool) → nat_eq h.uuid e.uuid ≡ first → cond first (Some h) (entry_at es e.uuid) ≡ Some e
        → (second : Bool) → nat_eq h.uuid x.uuid ≡ second → cond second (Some h) (entry_at es x.uuid) ≡ Some x
        → e.uuid ≡ x.uuid
    by free rest true hit is true also there = sym (eqb-true h.uuid e.uuid hit) ∙ eqb-true h.uuid x.uuid also
    by free rest true hit is false off there =
        let here : h ≡ e = cc in
        let fails : same_name x.dn h.dn ≡ false = fails_where_none (is_named h.dn) es x.uuid x there free in
        absurd (false≢true (sym fails ∙ ap (λ (y : Entry). same_name x.dn y.dn) here ∙ same))
    by free rest false miss is true also there =
        let here : h ≡ x = cc in
        let fails : same_name e.dn h.dn ≡ false = fails_where_none (is_named h.dn) es e.uuid e is free in
        absurd (false≢true (sym fails ∙ ap (λ (y : Entry). same_name e.dn y.dn) here ∙ name_sym x.dn e.dn same))
    by free rest false miss is false off there = rest is there

-- where two entries of one name are one, no later entry has the name of one
pub none_where_distinct : (es : List Entry) → ascends es ≡ true → AreDistinct es → same_named es ≡ None
none_where_distinct [] asc distinct = refl
none_where_distinct (h ∷ es) asc distinct =
    let p = and_parts (above h.uuid es) (ascends es) asc in
    ap (λ found. option_or (option_map (λ (other : Entry). (h.uuid, other.uuid)) found) (same_named es)) (free p.0 p.1 (entry_named es h.dn) refl)
    ∙ none_where_distinct es p.1 (λ e x one other same. distinct e x (past p.0 e one) (past p.0 x other) same)
  where
    -- an entry after the first has another identity
    far : above h.uuid es ≡ true → (x : Entry) → entry_at es x.uuid ≡ Some x → h.uuid ≡ x.uuid → ⊥
    far later x there same =
        let none : entry_at es x.uuid ≡ None = none_at es x.uuid (ap (λ u. above u es) (sym same) ∙ later) in
        cc

    past : above h.uuid es ≡ true → (x : Entry) → entry_at es x.uuid ≡ Some x → entry_at (h ∷ es) x.uuid ≡ Some x
    past later x there = cond-false _ _ _ (ne_eqb h.uuid x.uuid (far later x there)) ∙ there

    free : above h.uuid es ≡ true → ascends es ≡ true → (found : Option Entry) → entry_named es h.dn ≡ found → entry_named es h.dn ≡ None
    free later up None is = is
    free later up (Some x) is =
        let there : entry_at es x.uuid ≡ Some x = held_where_found (is_named h.dn) es x up is in
        let named : same_name x.dn h.dn ≡ true = found_passes (is_named h.dn) es x is in
        absurd (far later x there (distinct h x (at_head h es) (past later x there) named))
