-- The entries at or below a name, by the identities that stand at path keys which begin with its own.
use Rattle.std.proofs.Common.{◌≡◌, ℕ, Bool, true, false, ◌||◌, cond, nat_eq, List, [], ◌∷◌, Option, Some, None, Vec, Global, sym, ap, refl, ◌∙◌, subst}
use Rattle.std.specs.Cmp.Lexicographic.{bytes_decides}
use Rattle.std.specs.List.{filter, filter_map, flat_map, starts_with}
use Rattle.std.specs.List.Sorted.{IsStrictlySortedBy}
use Rattle.std.specs.Map.{keys_of}
use Rattle.std.proofs.Math.Bool.{or-false}
use Rattle.std.proofs.lemmas.Bool.{false≢true, or_left, or_right}
use Rattle.std.proofs.lemmas.List.Folds.{list_any-append}
use Rattle.std.proofs.lemmas.Map.Keys.{sorted_head, sorted_tail}
use Rattle.shared_map.specs.Queries.{begins}
use Rattle.dn_names.specs.Names.{TypeAndValue, is_at_or_below}
use Rattle.dn_names.specs.Paths.{path_key, HasPath}
use Rattle.dn_names.proofs.PathKeys.{starts_is_below}
use Rattle.entry_writes.specs.declared.entry.Entry.{Entry}
use Rattle.entry_writes.specs.State.{ascends, entry_at}
use Rattle.entry_writes.specs.Touched.{joined}
use Rattle.entry_tree.specs.NameIndex.{Names, found_at, ids_within, listed, stands_at, within, has_path, HasPathKey, IsIndex}
use Rattle.entry_tree.proofs.Finding.{passes}
use Rattle.entry_tree.proofs.NameKeys.{key_cmp, is_key, key_is, none_later, own_key}
use Rattle.entry_tree.proofs.Rising.{among, among-joined, rises-joined}
use Rattle.entry_tree.proofs.Taking.{taken_entries}

-- the identities that stand at the pairs
abbrev ids_of : Names → List ℕ
ids_of names = flat_map (λ (pair : Vec ℕ Global × Vec ℕ Global). pair.1.items) names

-- ---- identities of an index

-- an identity that stands at a path key which begins with the path is within it
there_within : (names : Names) (path text : List ℕ) (u : ℕ) → starts_with nat_eq text path ≡ true → stands_at names text u ≡ true → among u (ids_within names path) ≡ true
there_within [] path text u begun stands = absurd (false≢true stands)
there_within (e ∷ names) path text u begun stands = by (there_within names path text u begun) (is_key text e.0) refl stands (begins path e.0) refl
  where
    later : among u (ids_within names path) ≡ true → (b : Bool) → among u (ids_of (cond b (e ∷ within names path) (within names path))) ≡ true
    later inside false = inside
    later inside true =
        list_any-append (nat_eq u) e.1.items (ids_within names path)
        ∙ or_right (among u e.1.items) (among u (ids_within names path)) inside

    by : (stands_at names text u ≡ true → among u (ids_within names path) ≡ true) → (s : Bool) → is_key text e.0 ≡ s → among u (listed (cond s (Some e.1) (found_at names text))) ≡ true → (b : Bool) → begins path e.0 ≡ b
        → among u (ids_of (cond b (e ∷ within names path) (within names path))) ≡ true
    by rest true same here true is = list_any-append (nat_eq u) e.1.items (ids_within names path) ∙ or_left (among u e.1.items) (among u (ids_within names path)) here
    by rest true same here false is = absurd (false≢true (sym is ∙ ap (λ t. starts_with nat_eq t path) (sym (key_is text e.0 same)) ∙ begun))
    by rest false other there b is = later (rest there) b

-- what is within a path stands at a path key that begins with it
pub record Stands (names : Names) (path : List ℕ) (u : ℕ) : Type 0 where
  pub text : List ℕ
  pub begun : starts_with nat_eq text path ≡ true
  pub there : stands_at names text u ≡ true

within_there : (names : Names) (path : List ℕ) (u : ℕ) → IsStrictlySortedBy key_cmp (keys_of names) → among u (ids_within names path) ≡ true → Stands names path u
within_there [] path u ordered is = absurd (false≢true is)
within_there (e ∷ names) path u ordered is = by (within_there names path u (sorted_tail key_cmp e.0 (keys_of names) ordered)) (begins path e.0) refl is
  where
    here : begins path e.0 ≡ true → among u e.1.items ≡ true → Stands (e ∷ names) path u
    here begun inside = record {
      text = e.0.items;
      begun = begun;
      there = ap (λ b. among u (listed (cond b (Some e.1) (found_at names e.0.items)))) (own_key e.0.items e.0 refl) ∙ inside;
    }

    -- a key that is found later is not this one
    apart : (s : Stands names path u) → (b : Bool) → is_key s.text e.0 ≡ b → among u (listed (cond b (Some e.1) (found_at names s.text))) ≡ true
    apart s false other = s.there
    apart s true same =
        absurd (false≢true (sym (ap (λ found. among u (listed found)) (none_later e.0 s.text names (key_is s.text e.0 same) (sorted_head key_cmp e.0 (keys_of names) ordered))) ∙ s.there))

    later : Stands names path u → Stands (e ∷ names) path u
    later s =
        record { text = s.text; begun = s.begun; there = apart s (is_key s.text e.0) refl }

    either : (among u (ids_within names path) ≡ true → Stands names path u) → begins path e.0 ≡ true → (b : Bool) → among u e.1.items ≡ b → (b || among u (ids_within names path)) ≡ true → Stands (e ∷ names) path u
    either rest begun true inside there = here begun inside
    either rest begun false off there = later (rest there)

    by : (among u (ids_within names path) ≡ true → Stands names path u) → (b : Bool) → begins path e.0 ≡ b → among u (ids_of (cond b (e ∷ within names path) (within names path))) ≡ true → Stands (e ∷ names) path u
    by rest true begun there = either rest begun (among u e.1.items) refl (sym (list_any-append (nat_eq u) e.1.items (ids_within names path)) ∙ there)
    by rest false off there = later (rest there)

-- ---- the entries at or below a name

abbrev pub is_below : List (List TypeAndValue) → Entry → Bool
is_below name e = is_at_or_below e.dn name

module _ (name : List (List TypeAndValue)) (es : List Entry) (names : Names) (path : List ℕ) (asc : ascends es ≡ true) (index : IsIndex names es) (has : HasPath name) (is : path ≡ path_key name) (ordered : IsStrictlySortedBy key_cmp (keys_of names)) where
  begun_is : (e : Entry) → HasPath e.dn → starts_with nat_eq (path_key e.dn) path ≡ is_below name e
  begun_is e own = ap (starts_with nat_eq (path_key e.dn)) is ∙ starts_is_below e.dn name own has

  -- an identity within the path key of the name has an entry at or below it
  holds_below : (u : ℕ) → Stands names path u → passes (is_below name) (entry_at es u) ≡ true
  holds_below u s = by (entry_at es u) refl (index.named u) (sym (index.exact s.text u) ∙ s.there)
    where
      by : (found : Option Entry) → entry_at es u ≡ found → HasPathKey (entry_at es u) → has_path s.text (entry_at es u) ≡ true → passes (is_below name) found ≡ true
      by None off own here = absurd (false≢true (sym (ap (has_path s.text) off) ∙ here))
      by (Some e) found own here =
          let same : path_key e.dn ≡ s.text = (bytes_decides (path_key e.dn) s.text).0 (sym (ap (has_path s.text) found) ∙ here) in
          sym (begun_is e (subst HasPathKey found own)) ∙ ap (λ text. starts_with nat_eq text path) same ∙ s.begun

  -- and the identity of such an entry is within it
  is_inside : (u : ℕ) → passes (is_below name) (entry_at es u) ≡ true → among u (ids_within names path) ≡ true
  is_inside u holds = by (entry_at es u) refl (index.named u) holds
    where
      by : (found : Option Entry) → entry_at es u ≡ found → HasPathKey (entry_at es u) → passes (is_below name) found ≡ true → among u (ids_within names path) ≡ true
      by None off own never = absurd (false≢true never)
      by (Some e) found own below =
          there_within names path (path_key e.dn) u (begun_is e (subst HasPathKey found own) ∙ below)
          (index.exact (path_key e.dn) u ∙ ap (has_path (path_key e.dn)) found ∙ (bytes_decides (path_key e.dn) (path_key e.dn)).1 refl)

  among_below : (u : ℕ) → among u (joined [] (ids_within names path)) ≡ passes (is_below name) (entry_at es u)
  among_below u = among-joined u [] (ids_within names path) ∙ or-false (among u (ids_within names path)) ∙ both (among u (ids_within names path)) refl (passes (is_below name) (entry_at es u)) refl
    where
      both : (b : Bool) → among u (ids_within names path) ≡ b → (p : Bool) → passes (is_below name) (entry_at es u) ≡ p → b ≡ p
      both true inside p holds = sym (holds_below u (within_there names path u ordered inside)) ∙ holds
      both false off true holds = absurd (false≢true (sym off ∙ is_inside u holds))
      both false off false fails = refl

  -- the entries of the identities within the path key of a name are those at or below it
  pub below_is_within : filter_map (entry_at es) (joined [] (ids_within names path)) ≡ filter (λ e. is_at_or_below e.dn name) es
  below_is_within = taken_entries (is_below name) es (joined [] (ids_within names path)) asc (rises-joined [] (ids_within names path) refl) among_below
