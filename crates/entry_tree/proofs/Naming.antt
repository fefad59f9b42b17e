-- Names in a map by their keys, as entries are noted from the last one on.
use Rattle.std.proofs.Common.{◌≡◌, ℕ, Bool, true, false, cond, List, [], ◌∷◌, ◌++◌, Bor, map, reverse, Option, Some, None, option_map, refl, sym, ap, ◌∙◌}
use Rattle.std.specs.Cmp.Lexicographic.{slice_cmp, pointwise, bytes_decides, texts_ties}
use Rattle.std.specs.Option.{option_or}
use Rattle.std.specs.Ordering.{nat_cmp, eq_by_cmp, is_eq}
use Rattle.std.specs.Prelude.{nat_eq}
use Rattle.std.proofs.lemmas.Bool.{true≢false}
use Rattle.std.proofs.lemmas.List.{map_push, reverse-append, reverse-reverse}
use Rattle.dn_names.specs.Keys.{name_key}
use Rattle.dn_names.specs.Names.{TypeAndValue, same_name}
use Rattle.dn_names.specs.Sound.{IsName}
use Rattle.dn_names.proofs.Equality.{sets-from_same_name, same_name-from_sets}
use Rattle.dn_names.proofs.KeyTexts.{name_key-apart, name_key-from_sets}
use Rattle.entry_writes.specs.declared.entry.Entry.{Entry}
use Rattle.entry_writes.specs.State.{entry_named, same_named}

-- keys compare equal exactly where the names are
pub keys_show : (one other : List (List TypeAndValue)) → IsName one → IsName other → eq_by_cmp (slice_cmp nat_cmp) (name_key one) (name_key other) ≡ same_name one other
keys_show one other is_one is_other = sym (texts_ties (name_key one) (name_key other)) ∙ step _ _ refl refl where
  step : (b s : Bool) → pointwise nat_eq (name_key one) (name_key other) ≡ b → same_name one other ≡ s → pointwise nat_eq (name_key one) (name_key other) ≡ same_name one other
  step true true p q = p ∙ sym q
  step false false p q = p ∙ sym q
  step true false p q =
      absurd (true≢false (sym (same_name-from_sets one other is_one is_other (name_key-apart one other ((bytes_decides (name_key one) (name_key other)).0 p))) ∙ q))
  step false true p q =
      absurd (true≢false (sym ((bytes_decides (name_key one) (name_key other)).1 (name_key-from_sets one other (sets-from_same_name one other q))) ∙ p))

module _ {K : Type 0} (text : K → List ℕ) where
  -- what is found at a name's key is the identity of the first entry of that name
  abbrev pub Notes : (K → Option ℕ) → List Entry → Type 0
  Notes found entries =
      (key : K) (name : List (List TypeAndValue)) → IsName name → text key ≡ name_key name → found key ≡ option_map (λ (e : Entry). e.uuid) (entry_named entries name)

  -- one more entry, before the others
  pub notes-cons : (old new : K → Option ℕ) (entries : List Entry) (key : K) (entry : Entry) → IsName entry.dn → text key ≡ name_key entry.dn
      → ((k : K) → new k ≡ cond (is_eq (slice_cmp nat_cmp (text key) (text k))) (Some entry.uuid) (old k)) → Notes old entries → Notes new (entry ∷ entries)
  notes-cons old new entries key entry is_own own updates notes k name is_name its =
      updates k
      ∙ (λ i. cond (is_eq (slice_cmp nat_cmp (own i) (its i))) (Some entry.uuid) (old k))
      ∙ ap (λ b. cond b (Some entry.uuid) (old k)) (keys_show entry.dn name is_own is_name)
      ∙ ap (cond (same_name entry.dn name) (Some entry.uuid)) (notes k name is_name its)
      ∙ by (same_name entry.dn name)
    where
      by : (b : Bool) → cond b (Some entry.uuid) (option_map (λ (e : Entry). e.uuid) (entry_named entries name)) ≡ option_map (λ (e : Entry). e.uuid) (cond b (Some entry) (entry_named entries name))
      by true = refl
      by false = refl

-- the pair with the entry before the others
pub pair-cons : (entry : Entry) (entries : List Entry) (later : Option ℕ) → later ≡ option_map (λ (e : Entry). e.uuid) (entry_named entries entry.dn)
    → same_named (entry ∷ entries) ≡ option_or (option_map (λ other. (entry.uuid, other)) later) (same_named entries)
pair-cons entry entries later is = sym (ap (λ o. option_or (option_map (λ (n : ℕ). (entry.uuid, n)) o) (same_named entries)) is ∙ by (entry_named entries entry.dn)) where
  by : (o : Option Entry) → option_or (option_map (λ (n : ℕ). (entry.uuid, n)) (option_map (λ (e : Entry). e.uuid) o)) (same_named entries) ≡ option_or (option_map (λ (e : Entry). (entry.uuid, e.uuid)) o) (same_named entries)
  by None = refl
  by (Some e) = refl

-- ---- entries from the last one on

-- the entries in reverse order with one more
pub noted_more : {A : Type 0} (entry : A → Entry) (xs : List A) (x : A) → reverse (map entry (xs ++ x ∷ [])) ≡ entry x ∷ reverse (map entry xs)
noted_more entry xs x = ap reverse (map_push entry xs x) ∙ reverse-append (map entry xs) (entry x ∷ [])

map-reverse : {A B : Type 0} (f : A → B) (xs : List A) → map f (reverse xs) ≡ reverse (map f xs)
map-reverse f [] = refl
map-reverse f (x ∷ xs) =
    ap (map f) (reverse-append (x ∷ []) xs)
    ∙ map_push f (reverse xs) x
    ∙ ap (λ ys. ys ++ f x ∷ []) (map-reverse f xs)
    ∙ sym (reverse-append (f x ∷ []) (map f xs))

-- the entries in reverse order are all of them
pub noted_all : {A : Type 0} (entry : A → Entry) (ys : List (Bor A)) (xs : List A) → map (λ (y : Bor A). y.now) ys ≡ reverse xs → reverse (map (λ (y : Bor A). entry y.now) ys) ≡ map entry xs
noted_all {A} entry ys xs all =
    ap reverse (each ys ∙ ap (map entry) all ∙ map-reverse entry xs) ∙ reverse-reverse (map entry xs)
  where
    each : (ys : List (Bor A)) → map (λ (y : Bor A). entry y.now) ys ≡ map entry (map (λ (y : Bor A). y.now) ys)
    each [] = refl
    each (y ∷ ys) = ap (λ es. entry y.now ∷ es) (each ys)
