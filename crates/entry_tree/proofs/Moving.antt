-- Entries that move with one of them.
use Rattle.std.proofs.Common.{◌≡◌, ◌<◌, ◌≤◌, ◌+◌, ◌-◌, ◌^◌, min, ℕ, Bool, true, false, not, ◌&&◌, cond, nat_eq, nat_lt, nat_le, List, [], ◌∷◌, length, map, take, drop, Option, Some, None, unwrap_or, Result, Ok, Err, ap, sym, ◌∙◌, refl, arith}
use Rattle.std.specs.List.{filter, find, list_any}
use Rattle.std.specs.Result.{result_ok}
use Rattle.std.proofs.lemmas.Bool.{eq-eqb, eqb-true, ne_eqb, ltb-true, lt-ltb, le-leb, and_parts, and_from, or_left, or_right}
use Rattle.std.proofs.lemmas.List.{length-append, length-map}
use Rattle.std.proofs.lemmas.List.Sums.{sum_by-cons}
use Rattle.ldap_constants.specs.declared.result_codes.TheConstants.{ADMIN_LIMIT_EXCEEDED}
use Rattle.schema_rules.specs.declared.attributes.Attribute.{Attribute}
use Rattle.schema_rules.specs.Attributes.{weight_of}
use Rattle.csn_cookie.specs.Csn.{CsnValue}
use Rattle.dn_names.specs.Names.{TypeAndValue, same_name, is_at_or_below, parent_of, moved_name}
use Rattle.dn_names.proofs.EqualNames.{name_refl}
use Rattle.dn_names.specs.declared.fault.NameFault.{NameFault}
use Rattle.dn_names.specs.declared.fault.NameFault.TheVariants.{TooLong}
use Rattle.dn_names.specs.Reading.{limited}
use Rattle.dn_names.specs.Sound.{most_rdns}
use Rattle.entry_writes.specs.declared.entry.Entry.{Entry}
use Rattle.entry_writes.specs.declared.touched.EntryChange.{EntryChange}
use Rattle.entry_writes.specs.Codes.{weight_code, length_code}
use Rattle.entry_writes.specs.Edits.{with_rdn}
use Rattle.entry_writes.specs.Effects.{moved, new_name, new_attributes}
use Rattle.entry_writes.specs.State.{ascends, entry_at, is_identified, own_pairs, total_weight, weight_with, most_weight, IsDirectory}
use Rattle.entry_writes.specs.Touched.{is_change, IsPlan}
use Rattle.entry_writes.proofs.Identities.{above, none_at, stepped, touched_mapped}
use Rattle.entry_tree.proofs.Limits.{weight_code-shown}
use Rattle.entry_tree.proofs.Replacing.{ascends_mapped}

-- ---- a name is at or below itself

none_dropped : (name : List (List TypeAndValue)) → drop (length name - length name) name ≡ name
none_dropped name = let none : length name - length name ≡ 0 = omega arith in ap (λ n. drop n name) none

-- whatever the name is
pub below_itself : (name : List (List TypeAndValue)) → is_at_or_below name name ≡ true
below_itself name =
    and_from (nat_le (length name) (length name)) (same_name (drop (length name - length name) name) name) (le-leb (length name) (length name) (omega arith))
    (ap (λ xs. same_name xs name) (none_dropped name) ∙ name_refl name)

-- ---- the entry that a test finds

-- an entry that is found is that of its identity
pub held_where_found : (p : Entry → Bool) (es : List Entry) (top : Entry) → ascends es ≡ true → find p es ≡ Some top → entry_at es top.uuid ≡ Some top
held_where_found p [] top asc found = absurd (cc)
held_where_found p (e ∷ es) top asc found =
    let parts = and_parts (above e.uuid es) (ascends es) asc in
    by parts.0 (held_where_found p es top parts.1) (p e) found
  where
    later_found : above e.uuid es ≡ true → entry_at es top.uuid ≡ Some top → (b : Bool) → nat_eq e.uuid top.uuid ≡ b → cond b (Some e) (entry_at es top.uuid) ≡ Some top
    later_found later held true hit =
        let gone : entry_at es top.uuid ≡ None = none_at es top.uuid (ap (λ u. above u es) (sym (eqb-true e.uuid top.uuid hit)) ∙ later) in
        absurd (cc)
    later_found later held false miss = held

    by : above e.uuid es ≡ true → (find p es ≡ Some top → entry_at es top.uuid ≡ Some top) → (b : Bool) → cond b (Some e) (find p es) ≡ Some top → entry_at (e ∷ es) top.uuid ≡ Some top
    by later rest true here =
        let same : e ≡ top = cc in
        ap (λ b. cond b (Some e) (entry_at es top.uuid)) (eq-eqb e.uuid top.uuid (ap (λ (x : Entry). x.uuid) same)) ∙ here
    by later rest false there = later_found later (rest there) (nat_eq e.uuid top.uuid) refl

-- another test that it passes finds one too
pub any_where_held : (p q : Entry → Bool) (es : List Entry) (top : Entry) → find p es ≡ Some top → q top ≡ true → list_any q es ≡ true
any_where_held p q [] top found passes = absurd (cc)
any_where_held p q (e ∷ es) top found passes = by (any_where_held p q es top) (p e) found
  where
    by : (find p es ≡ Some top → q top ≡ true → list_any q es ≡ true) → (b : Bool) → cond b (Some e) (find p es) ≡ Some top → list_any q (e ∷ es) ≡ true
    by rest true here =
        let same : e ≡ top = cc in
        or_left (q e) (list_any q es) (ap q same ∙ passes)
    by rest false there = or_right (q e) (list_any q es) (rest there passes)

-- ---- weights

abbrev weight : Entry → ℕ
weight e = weight_of e.attrs

-- none of these is the entry
pub others_all : (u : ℕ) (es : List Entry) → above u es ≡ true → total_weight (filter (λ e. not (is_identified u e)) es) ≡ total_weight es
others_all u [] later = refl
others_all u (e ∷ es) later =
    let p = and_parts (nat_lt u e.uuid) (above u es) later in
    let far : u < e.uuid = ltb-true u e.uuid p.0 in
    let left : total_weight (filter (λ x. not (is_identified u x)) (e ∷ es)) ≡ total_weight (e ∷ filter (λ x. not (is_identified u x)) es) =
    ap (λ b. total_weight (cond (not b) (e ∷ filter (λ x. not (is_identified u x)) es) (filter (λ x. not (is_identified u x)) es))) (ne_eqb e.uuid u (λ same. omega arith))
    in
    omega (arith, left, others_all u es p.1, sum_by-cons weight e es, sum_by-cons weight e (filter (λ x. not (is_identified u x)) es))

-- the others and the entry weigh as much as all
pub others_weight : (es : List Entry) (top : Entry) → ascends es ≡ true → entry_at es top.uuid ≡ Some top
    → total_weight (filter (λ e. not (is_identified top.uuid e)) es) + weight_of top.attrs ≡ total_weight es
others_weight [] top asc held = absurd (cc)
others_weight (e ∷ es) top asc held =
    let p = and_parts (above e.uuid es) (ascends es) asc in
    by p.0 (others_weight es top p.1) (nat_eq e.uuid top.uuid) refl held
  where
    left : List Entry → List Entry
    left xs = filter (λ x. not (is_identified top.uuid x)) xs

    by : above e.uuid es ≡ true → (entry_at es top.uuid ≡ Some top → total_weight (filter (λ x. not (is_identified top.uuid x)) es) + weight_of top.attrs ≡ total_weight es)
        → (b : Bool) → nat_eq e.uuid top.uuid ≡ b → cond b (Some e) (entry_at es top.uuid) ≡ Some top
        → total_weight (cond (not b) (e ∷ filter (λ x. not (is_identified top.uuid x)) es) (filter (λ x. not (is_identified top.uuid x)) es)) + weight_of top.attrs ≡ total_weight (e ∷ es)
    by later rest true hit here =
        let same : e ≡ top = cc in
        omega (arith, ap weight same, others_all top.uuid es (ap (λ u. above u es) (sym (eqb-true e.uuid top.uuid hit)) ∙ later), sum_by-cons weight e es)
    by later rest false miss there =
        omega (arith, rest there, sum_by-cons weight e es, sum_by-cons weight e (filter (λ x. not (is_identified top.uuid x)) es))

module _ (top : Entry) (name : List (List TypeAndValue)) (attrs : List Attribute) (csn : CsnValue) where
  abbrev step : Entry → Entry
  step e = moved top name attrs csn e

  -- a Rename leaves the identities
  pub moved_keeps : (e : Entry) → (moved top name attrs csn e).uuid ≡ e.uuid
  moved_keeps e = by (is_at_or_below e.dn top.dn)
    where
      by : (b : Bool) → (cond b (record { uuid = e.uuid; csn = csn; dn = moved_name e.dn top.dn name; attrs = cond (nat_eq e.uuid top.uuid) attrs e.attrs }) e).uuid ≡ e.uuid
      by true = refl
      by false = refl

  weight_other : (e : Entry) → nat_eq e.uuid top.uuid ≡ false → weight_of (step e).attrs ≡ weight_of e.attrs
  weight_other e other = by (is_at_or_below e.dn top.dn)
    where
      by : (b : Bool) → weight_of (let x : Entry = cond b (record { uuid = e.uuid; csn = csn; dn = moved_name e.dn top.dn name; attrs = cond (nat_eq e.uuid top.uuid) attrs e.attrs }) e in x).attrs ≡ weight_of e.attrs
      by true = ap (λ b. weight_of (cond b attrs e.attrs)) other
      by false = refl

  weight_top : weight_of (step top).attrs ≡ weight_of attrs
  weight_top =
      ap (λ b. weight_of (let x : Entry = cond b (record { uuid = top.uuid; csn = csn; dn = moved_name top.dn top.dn name; attrs = cond (nat_eq top.uuid top.uuid) attrs top.attrs }) top in x).attrs) (below_itself top.dn)
      ∙ ap (λ b. weight_of (cond b attrs top.attrs)) (eq-eqb top.uuid top.uuid refl)

  total_others : (es : List Entry) → above top.uuid es ≡ true → total_weight (map step es) ≡ total_weight es
  total_others [] later = refl
  total_others (e ∷ es) later =
      let p = and_parts (nat_lt top.uuid e.uuid) (above top.uuid es) later in
      let far : top.uuid < e.uuid = ltb-true top.uuid e.uuid p.0 in
      omega (arith, weight_other e (ne_eqb e.uuid top.uuid (λ same. omega arith)), total_others es p.1, sum_by-cons weight e es, sum_by-cons weight (step e) (map step es))

  -- what entries weigh after a Rename
  pub total_moved : (es : List Entry) → ascends es ≡ true → entry_at es top.uuid ≡ Some top
      → total_weight (map (moved top name attrs csn) es) + weight_of top.attrs ≡ total_weight es + weight_of attrs
  total_moved [] asc held = absurd (cc)
  total_moved (e ∷ es) asc held =
      let p = and_parts (above e.uuid es) (ascends es) asc in
      by p.0 (total_moved es p.1) (nat_eq e.uuid top.uuid) refl held
    where
      by : above e.uuid es ≡ true → (entry_at es top.uuid ≡ Some top → total_weight (map step es) + weight_of top.attrs ≡ total_weight es + weight_of attrs)
          → (b : Bool) → nat_eq e.uuid top.uuid ≡ b → cond b (Some e) (entry_at es top.uuid) ≡ Some top
          → total_weight (step e ∷ map step es) + weight_of top.attrs ≡ total_weight (e ∷ es) + weight_of attrs
      by later rest true hit here =
          let same : e ≡ top = cc in
          let now : weight_of (step e).attrs ≡ weight_of attrs = ap (λ x. weight_of (step x).attrs) same ∙ weight_top in
          omega (arith, now, ap weight same, total_others es (ap (λ u. above u es) (sym (eqb-true e.uuid top.uuid hit)) ∙ later), sum_by-cons weight e es, sum_by-cons weight (step e) (map step es))
      by later rest false miss there =
          omega (arith, weight_other e miss, rest there, sum_by-cons weight e es, sum_by-cons weight (step e) (map step es))

  -- a directory with the entry moved
  pub moved_directory : (es : List Entry) (before after : ℕ) → IsDirectory es before → entry_at es top.uuid ≡ Some top → weight_with es top (weight_of attrs) ≤ most_weight
      → after + weight_of top.attrs ≡ before + weight_of attrs → IsDirectory (map (moved top name attrs csn) es) after
  moved_directory es before after h held light weighed =
      let was = h.weighed in
      let few = h.few in
      record {
        ascends = ascends_mapped step moved_keeps es ∙ h.ascends;
        weighed = omega (arith, was, total_moved es h.ascends held, weighed);
        few = omega (arith, few, length-map es step);
        light = omega (arith, light, was, weighed, others_weight es top h.ascends held);
      }

  -- the plan of a Rename
  pub moved_plan : (es read : List Entry) (weight : ℕ) (changes : List EntryChange) → IsDirectory es weight → entry_at es top.uuid ≡ Some top → weight_with es top (weight_of attrs) ≤ most_weight
      → read ≡ es → changes ≡ filter is_change (map (stepped (λ e. Some (moved top name attrs csn e))) read) → IsPlan es (map (moved top name attrs csn) es) changes
  moved_plan es read weight changes h held light same are =
      let was = h.weighed in
      record {
        ordered = h.ascends;
        exact = are ∙ ap (λ xs. filter is_change (map (stepped (λ e. Some (step e))) xs)) same ∙ sym (touched_mapped step moved_keeps es h.ascends);
        directory = moved_directory es weight (total_weight (map step es)) h held light (omega (arith, was, total_moved es h.ascends held));
      }

-- ---- too long a name

-- a Rename to a name that is too long has the code 11
pub too_long_top : (p : Entry → Bool) (es : List Entry) (top : Entry) (name : List (List TypeAndValue)) → find p es ≡ Some top → most_rdns < length name → length_code es top name ≡ Some ADMIN_LIMIT_EXCEEDED
too_long_top p es top name found long =
    ap (λ b. cond b (Some ADMIN_LIMIT_EXCEEDED) None) (any_where_held p (λ other. is_at_or_below other.dn top.dn && nat_lt most_rdns (length (moved_name other.dn top.dn name))) es top found
    (and_from (is_at_or_below top.dn top.dn) (nat_lt most_rdns (length (moved_name top.dn top.dn name))) (below_itself top.dn)
    (lt-ltb most_rdns (length (moved_name top.dn top.dn name)) (omega (arith, length-append (take (length top.dn - length top.dn) top.dn) name)))))

-- a name that has no place in the limit is too long
pub long_where_none : (name : List (List TypeAndValue)) → result_ok (limited name) ≡ None → most_rdns < length name
long_where_none name none = by (nat_lt most_rdns (length name)) refl none
  where
    by : (b : Bool) → nat_lt most_rdns (length name) ≡ b → result_ok (let r : Result (List (List TypeAndValue)) NameFault = cond b (Err (TooLong 0)) (Ok name) in r) ≡ None → most_rdns < length name
    by true more h = ltb-true most_rdns (length name) more
    by false few h = absurd (cc)

-- a name that has its place in the limit is that name
pub limited_is : (name short : List (List TypeAndValue)) → Some short ≡ result_ok (limited name) → short ≡ name
limited_is name short is = by (nat_lt most_rdns (length name)) is
  where
    by : (b : Bool) → Some short ≡ result_ok (let r : Result (List (List TypeAndValue)) NameFault = cond b (Err (TooLong 0)) (Ok name) in r) → short ≡ name
    by true h = absurd (cc)
    by false h = cc

-- ---- what the entry gets

-- the new name, by the steps of the code
pub name_is : (top : Entry) (rdn : List TypeAndValue) (above : List (List TypeAndValue)) (superior : Option (List (List TypeAndValue))) (name : Option (List (List TypeAndValue)))
    → above ≡ unwrap_or superior (parent_of top.dn) → name ≡ result_ok (limited (rdn ∷ above)) → name ≡ result_ok (limited (new_name top rdn superior))
name_is top rdn above superior name is limits = limits ∙ ap (λ a. result_ok (limited (rdn ∷ a))) is

-- the attributes of a Rename, by the steps of the code
pub attributes_are : (top : Entry) (rdn old : List TypeAndValue) (deletes : Bool) (attrs : List Attribute) → attrs ≡ with_rdn top.attrs old rdn deletes → old ≡ own_pairs top.dn
    → attrs ≡ new_attributes top rdn deletes
attributes_are top rdn old deletes attrs is own = is ∙ ap (λ pairs. with_rdn top.attrs pairs rdn deletes) own

-- the weight that is judged
pub weight_judged : (es : List Entry) (top : Entry) (attrs : List Attribute) (total left shown : ℕ) → IsDirectory es total → entry_at es top.uuid ≡ Some top → left + weight_of top.attrs ≡ total
    → shown ≡ min (weight_of attrs) (2 ^ 64 - 1) → weight_code shown (left + shown) ≡ weight_code (weight_of attrs) (weight_with es top (weight_of attrs))
weight_judged es top attrs total left shown h held parts is =
    let was = h.weighed in
    let others : left ≡ total_weight (filter (λ e. not (is_identified top.uuid e)) es) = omega (arith, parts, was, others_weight es top h.ascends held) in
    weight_code-shown shown (weight_of attrs) left is ∙ ap (λ n. weight_code (weight_of attrs) (n + weight_of attrs)) others

-- an entry weighs no more than all
pub part_le : (es : List Entry) (top : Entry) (total : ℕ) → IsDirectory es total → entry_at es top.uuid ≡ Some top → weight_of top.attrs ≤ total
part_le es top total h held = let was = h.weighed in omega (arith, was, others_weight es top h.ascends held)

-- an entry of equal lists is that of its identity in both
pub held_seen : (es seen : List Entry) (top : Entry) → es ≡ seen → entry_at seen top.uuid ≡ Some top → entry_at es top.uuid ≡ Some top
held_seen es seen top same held = ap (λ xs. entry_at xs top.uuid) same ∙ held
