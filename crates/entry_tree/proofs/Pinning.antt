-- An equality of a type that no entry has but as its whole RDN is True, directly below a base, of entries of one name alone.
use Rattle.std.proofs.Common.{◌≡◌, ◌<◌, ◌≤◌, ℕ, zero, suc, Bool, true, false, not, ◌&&◌, cond, nat_eq, List, [], ◌∷◌, ◌++◌, length, map, get_or, Global, Option, Some, None, Vec, refl, sym, ap, ◌∙◌, subst, arith, inl, inr}
use Rattle.std.specs.Prelude.{All, IfSome, bytes_eq, unwrap_or}
use Rattle.std.specs.List.{filter, list_all, list_any}
use Rattle.std.specs.Option.{option_map_or}
use Rattle.std.proofs.lemmas.Bool.{and_parts, eqb-true, false≢true, not-false, or_cases, or_parts, true≢false}
use Rattle.std.proofs.lemmas.List.Sums.{get_or-le-sum_by}
use Rattle.std.proofs.lemmas.Option.{same_Some}
use Rattle.std.proofs.lemmas.Slice.Eq.{bytes_eq-Decides}
use Rattle.schema_rules.specs.declared.attributes.Attribute.{Attribute}
use Rattle.schema_rules.specs.Keys.{has_key, key_of}
use Rattle.schema_rules.specs.Schema.{type_named}
use Rattle.dn_names.specs.Names.{TypeAndValue, is_child_of, pair_key}
use Rattle.dn_names.specs.Paths.{four_octets, path_key, rdn_path}
use Rattle.dn_names.proofs.OnePair.{rdn_path-one}
use Rattle.dn_names.proofs.PathKeys.{path_key-from_same}
use Rattle.ldap_filter.specs.FilterTree.{FilterTree, all_of, equal, tree_of, trees}
use Rattle.ldap_filter.specs.Truth.{conjunction, has_keyed, is_false, is_true, is_undefined, truth_on, truths_on}
use Rattle.ldap_filter.specs.declared.filter.Filter.{Filter}
use Rattle.ldap_filter.specs.declared.truth.Truth.{Truth}
use Rattle.ldap_filter.specs.declared.truth.Truth.TheVariants.{True, False, Undefined}
use Rattle.ldap_filter.proofs.Equalities.{equality_matched}
use Rattle.entry_writes.specs.declared.entry.Entry.{Entry}
use Rattle.entry_writes.specs.State.{own_pairs}
use Rattle.entry_tree.specs.NameIndex.{has_path_key}
use Rattle.entry_tree.specs.Pinned.{Pins, is_astray, is_stray, is_whole_rdn, stray, strays_in}
use Rattle.entry_tree.specs.Selection.{Search, is_in_scope, is_selected, select}
use Rattle.entry_tree.specs.declared.spec.Scope.TheVariants.{One}

-- ---- an attribute that is the whole RDN

-- the RDN is one pair, of this type and with a value of this key
record IsNamedBy (own : List TypeAndValue) (kind : ℕ) (key : List ℕ) : Type 0 where
  pair : TypeAndValue
  is : own ≡ pair ∷ []
  of_kind : pair.kind ≡ kind
  keyed : key_of kind pair.value ≡ Some key

-- a value that has a key
keyed_by : (kind : ℕ) (key value : List ℕ) → has_key kind key value ≡ true → key_of kind value ≡ Some key
keyed_by kind key value hit = by (key_of kind value) refl hit
  where
    by : (found : Option (List ℕ)) → key_of kind value ≡ found → option_map_or (λ own. bytes_eq key own) found false ≡ true → key_of kind value ≡ Some key
    by None none never = absurd (false≢true never)
    by (Some other) some same = some ∙ ap Some (sym ((bytes_eq-Decides key other).0 same))

-- what one of some values passes that are all one, that one passes
passes_alone : (test : List ℕ → Bool) (value : List ℕ) (values : List (List ℕ)) → list_all (λ v. bytes_eq v value) values ≡ true → list_any test values ≡ true → test value ≡ true
passes_alone test value [] alike some = absurd (false≢true some)
passes_alone test value (v ∷ values) alike some =
    let p = and_parts (bytes_eq v value) (list_all (λ w. bytes_eq w value) values) alike in
    let same : v ≡ value = (bytes_eq-Decides v value).0 p.0 in
    elim (or_cases (test v) (list_any test values) some) [
      | inl hit ↦ ap test (sym same) ∙ hit
      | inr later ↦ passes_alone test value values p.1 later
    ]

named_whole : (own : List TypeAndValue) (a : Attribute) (kind : ℕ) (key : List ℕ) → a.kind ≡ kind → is_whole_rdn own a ≡ true → list_any (has_key kind key) a.values ≡ true
    → IsNamedBy own kind key
named_whole [] a kind key same whole some = absurd (false≢true whole)
named_whole (pair ∷ []) a kind key same whole some =
    let p = and_parts (nat_eq pair.kind a.kind) (list_all (λ v. bytes_eq v pair.value) a.values) whole in
    record {
      pair = pair;
      is = refl;
      of_kind = eqb-true pair.kind a.kind p.0 ∙ same;
      keyed = keyed_by kind key pair.value (passes_alone (has_key kind key) pair.value a.values p.1 some);
    }
named_whole (pair ∷ next ∷ pairs) a kind key same whole some = absurd (false≢true whole)

-- an attribute of the type that is not astray is the whole RDN
whole_own : (kind : ℕ) (own : List TypeAndValue) (a : Attribute) → nat_eq a.kind kind ≡ true → is_astray kind own a ≡ false → is_whole_rdn own a ≡ true
whole_own kind own a hit off = not-false (is_whole_rdn own a) (ap (λ b. b && not (is_whole_rdn own a)) (sym hit) ∙ off)

-- where none is astray, one with a value that matches is the RDN
named_match : (kind : ℕ) (key : List ℕ) (own : List TypeAndValue) (attrs : List Attribute) → list_any (is_astray kind own) attrs ≡ false → has_keyed attrs kind key ≡ true → IsNamedBy own kind key
named_match kind key own [] none some = absurd (false≢true some)
named_match kind key own (a ∷ attrs) none some =
    let p = or_parts (is_astray kind own a) (list_any (is_astray kind own) attrs) none in
    elim (or_cases (nat_eq a.kind kind && list_any (has_key kind key) a.values) (has_keyed attrs kind key) some) [
      | inl here ↦
          let q = and_parts (nat_eq a.kind kind) (list_any (has_key kind key) a.values) here in
          named_whole own a kind key (eqb-true a.kind kind q.0) (whole_own kind own a q.0 p.0) q.1
      | inr later ↦ named_match kind key own attrs p.1 later
    ]

-- ---- the name of an entry

pair_keyed : (pair : TypeAndValue) (kind : ℕ) (key : List ℕ) → pair.kind ≡ kind → key_of kind pair.value ≡ Some key → pair_key pair ≡ key
pair_keyed pair kind key same keyed = ap (λ n. unwrap_or (key_of n pair.value) []) same ∙ ap (λ found. unwrap_or found []) keyed

-- two pairs of one type and one key have one path
one_path : (one other : TypeAndValue) → one.kind ≡ other.kind → pair_key one ≡ pair_key other → rdn_path (one ∷ []) ≡ rdn_path (other ∷ [])
one_path one other kinds keys =
    rdn_path-one one
    ∙ (λ i. four_octets 1 ++ (four_octets (kinds i) ++ (four_octets (length (keys i)) ++ keys i)))
    ∙ sym (rdn_path-one other)

-- a name directly below the base, of such a pair alone
named_path : (name base : List (List TypeAndValue)) (kind : ℕ) (key : List ℕ) (pair : TypeAndValue) → is_child_of name base ≡ true → IsNamedBy (own_pairs name) kind key
    → pair.kind ≡ kind → key_of kind pair.value ≡ Some key → path_key name ≡ path_key ((pair ∷ []) ∷ base)
named_path [] base kind key pair child named same keyed = absurd (false≢true child)
named_path (rdn ∷ above) base kind key pair child named same keyed =
    let keys = pair_keyed named.pair kind key named.of_kind named.keyed ∙ sym (pair_keyed pair kind key same keyed) in
    ap (λ path. path ++ rdn_path rdn) (path_key-from_same above base child)
    ∙ ap (λ own. path_key base ++ rdn_path own) named.is
    ∙ ap (λ own. path_key base ++ own) (one_path named.pair pair (named.of_kind ∙ sym same) keys)

-- none of the entries is a stray
not_stray : (kind : ℕ) (es : List Entry) (k : ℕ) (d : Entry) → k < length es → strays_in kind es ≡ 0 → is_stray kind (get_or es k d) ≡ false
not_stray kind es k d within none = by (is_stray kind (get_or es k d)) (subst (λ n. stray kind (get_or es k d) ≤ n) none (get_or-le-sum_by (stray kind) es k d within))
  where
    by : (b : Bool) → cond b 1 0 ≤ 0 → b ≡ false
    by true over = absurd (omega (arith, over))
    by false under = refl

-- ---- what is pinned

-- an equality of a type that no entry has but as its whole RDN
pub pinned_by_equality : (es : List Entry) (base : List (List TypeAndValue)) (name value : List ℕ) (pair : TypeAndValue) (path : List ℕ)
    → type_named name ≡ Some pair.kind → pair.value ≡ value → strays_in pair.kind es ≡ 0 → path ≡ path_key ((pair ∷ []) ∷ base) → Pins base (equal name value) es path
pinned_by_equality es base name value pair path named same none is = λ k d within child holds.
    let e : Entry = get_or es k d in
    let m = equality_matched e.attrs name value holds in
    let of_kind : m.kind ≡ pair.kind = same_Some m.kind pair.kind (sym m.named ∙ named) in
    let apart = not_stray m.kind es k d within (ap (λ n. strays_in n es) of_kind ∙ none) in
    let own = named_match m.kind m.key (own_pairs e.dn) e.attrs apart m.some in
    named_path e.dn base m.kind m.key pair child own (sym of_kind) (ap (key_of m.kind) same ∙ m.keyed) ∙ sym is

-- an `and` that is True has no part that is not
none_other : (ts : List Truth) → is_true (conjunction ts) ≡ true → (list_any is_false ts ≡ false) × (list_any is_undefined ts ≡ false)
none_other ts holds = by (list_any is_false ts) (list_any is_undefined ts) holds
  where
    by : (a b : Bool) → is_true (cond a False (cond b Undefined True)) ≡ true → (a ≡ false) × (b ≡ false)
    by true b never = absurd (false≢true never)
    by false true never = absurd (false≢true never)
    by false false holds' = (refl, refl)

true_alone : (t : Truth) → is_false t ≡ false → is_undefined t ≡ false → is_true t ≡ true
true_alone True no_false no_undefined = refl
true_alone False no_false no_undefined = absurd (true≢false no_false)
true_alone Undefined no_false no_undefined = absurd (true≢false no_undefined)

abbrev truths : List Attribute → List Filter → List Truth
truths attrs parts = truths_on attrs (trees (map tree_of parts))

part_true : (attrs : List Attribute) (parts : List Filter) (i : ℕ) (part : Filter) → i < length parts → part ≡ get_or parts i part
    → list_any is_false (truths attrs parts) ≡ false → list_any is_undefined (truths attrs parts) ≡ false → is_true (truth_on attrs (tree_of part)) ≡ true
part_true attrs [] i part low at no_false no_undefined = absurd (omega arith)
part_true attrs (first ∷ parts) zero part low at no_false no_undefined =
    let f = or_parts (is_false (truth_on attrs (tree_of first))) (list_any is_false (truths attrs parts)) no_false in
    let u = or_parts (is_undefined (truth_on attrs (tree_of first))) (list_any is_undefined (truths attrs parts)) no_undefined in
    ap (λ p. is_true (truth_on attrs (tree_of p))) at ∙ true_alone (truth_on attrs (tree_of first)) f.0 u.0
part_true attrs (first ∷ parts) (suc i) part low at no_false no_undefined =
    let f = or_parts (is_false (truth_on attrs (tree_of first))) (list_any is_false (truths attrs parts)) no_false in
    let u = or_parts (is_undefined (truth_on attrs (tree_of first))) (list_any is_undefined (truths attrs parts)) no_undefined in
    part_true attrs parts i part (omega arith) at f.1 u.1

-- what one part of an `and` pins
pub pinned_by_part : (base : List (List TypeAndValue)) (parts : List Filter) (i : ℕ) (part : Filter) (es : List Entry) (path : List ℕ) → i < length parts → part ≡ get_or parts i part
    → Pins base (tree_of part) es path → Pins base (all_of (trees (map tree_of parts))) es path
pinned_by_part base parts i part es path low at pins = λ k d within child holds.
    let e : Entry = get_or es k d in
    let none = none_other (truths e.attrs parts) holds in
    pins k d within child (part_true e.attrs parts i part low at none.0 none.1)

-- what a filter pins that is another one, of what was found
pub found_as : (base : List (List TypeAndValue)) (one other : FilterTree) (es : List Entry) (found : Option (Vec ℕ Global)) → one ≡ other
    → IfSome found (λ (path : Vec ℕ Global). Pins base other es path.items) → IfSome found (λ (path : Vec ℕ Global). Pins base one es path.items)
found_as base one other es None same pins = pins
found_as base one other es (Some path) same pins = subst (λ t. Pins base t es path.items) (sym same) pins

-- what was found is there
pub found_here : (base : List (List TypeAndValue)) (filter' : FilterTree) (es : List Entry) (found : Option (Vec ℕ Global)) (path : Vec ℕ Global) → found ≡ Some path
    → IfSome found (λ (p : Vec ℕ Global). Pins base filter' es p.items) → Pins base filter' es path.items
found_here base filter' es found path is pins = subst (λ o. IfSome o (λ (p : Vec ℕ Global). Pins base filter' es p.items)) is pins

-- a pair that was made of a type and a value
pub pair_here : (found : Option TypeAndValue) (pair : TypeAndValue) (kind : ℕ) (value : List ℕ) → found ≡ Some pair
    → IfSome found (λ (p : TypeAndValue). p ≡ record { kind = kind; value = value }) → (pair.kind ≡ kind) × (pair.value ≡ value)
pair_here found pair kind value is made =
    let here : pair ≡ record { kind = kind; value = value } = subst (λ o. IfSome o (λ (p : TypeAndValue). p ≡ record { kind = kind; value = value })) is made in
    (ap (λ (p : TypeAndValue). p.kind) here, ap (λ (p : TypeAndValue). p.value) here)

-- ---- what is selected

-- those that pass are among those that pass another test, which each of them does
filter_among : (p q : Entry → Bool) (es : List Entry) → All (λ e. p e ≡ true → q e ≡ true) es → filter p (filter q es) ≡ filter p es
filter_among p q [] asks = refl
filter_among p q (e ∷ es) asks = by (q e) refl (p e) refl (filter_among p q es (λ k d within. asks (suc k) d (omega arith)))
  where
    by : (b : Bool) → q e ≡ b → (c : Bool) → p e ≡ c → filter p (filter q es) ≡ filter p es → filter p (cond b (e ∷ filter q es) (filter q es)) ≡ cond c (e ∷ filter p es) (filter p es)
    by true inside c is rest = ap (λ d. cond d (e ∷ filter p (filter q es)) (filter p (filter q es))) is ∙ ap (λ xs. cond c (e ∷ xs) xs) rest
    by false out false is rest = rest
    by false out true is rest = absurd (false≢true (sym out ∙ asks 0 e (omega arith) is))

-- what is selected directly below the base is of the entries of the name that is pinned
pub select_pinned : (search : Search) (es : List Entry) (path : List ℕ) → search.scope ≡ One → Pins search.base search.filter es path
    → select search (filter (has_path_key path) es) ≡ select search es
select_pinned search es path one pins = filter_among (is_selected search) (has_path_key path) es own
  where
    own : All (λ e. is_selected search e ≡ true → has_path_key path e ≡ true) es
    own k d within passes' =
        let e : Entry = get_or es k d in
        let p = and_parts (is_in_scope search.scope search.base e.dn) (is_true (truth_on e.attrs search.filter)) passes' in
        let child : is_child_of e.dn search.base ≡ true = ap (λ scope. is_in_scope scope search.base e.dn) (sym one) ∙ p.0 in
        (bytes_eq-Decides (path_key e.dn) path).1 (pins k d within child p.1)
