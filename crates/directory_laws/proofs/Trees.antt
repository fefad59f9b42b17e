-- Entries that make a tree: no two have one name, and each but the suffix's has its parent among them.
use Rattle.std.proofs.Common.{◌≡◌, ◌≢◌, ◌≤◌, ◌+◌, ℕ, zero, suc, Bool, true, false, not, ◌&&◌, nat_lt, List, [], ◌∷◌, length, map, refl, sym, ap, ◌∙◌, ◌⊎◌, inl, inr, subst, arith}
use Rattle.std.specs.List.{filter}
use Rattle.std.proofs.lemmas.Bool.{both_ways, not-false, not_from_false, and_from, and_cases, or_parts, lt-ltb, cases_Bool, cases_order}
use Rattle.dn_names.specs.Names.{TypeAndValue, same_name, is_at_or_below, is_child_of}
use Rattle.dn_names.proofs.EqualNames.{AreEqual, AreEqual-same_name, same_name-AreEqual, length-AreEqual, AreEqual-sym}
use Rattle.dn_names.proofs.SortedLists.{In}
use Rattle.entry_tree.specs.declared.entry.Entry.{Entry}
use Rattle.entry_tree.specs.Codes.{has_no_place}
use Rattle.entry_tree.specs.State.{ascends, put, is_named, has_name, has_parent, has_below}
use Rattle.entry_tree.proofs.Directory.{ascends_filter}
use Rattle.entry_tree.proofs.Putting.{ascends_put}
use Rattle.directory_laws.proofs.Branches.{IsBelow, IsBelow-is_at_or_below, is_at_or_below-IsBelow, IsBelow-trans, IsBelow-itself, equal_where_long, IsChild, IsChild-is_child_of, IsBelow-child, IsBelow-parent}
use Rattle.directory_laws.proofs.Members.{in_any, any_in, in_filter, filter_in, in_map, map_in, in_append_left, in_append_right, append_in}

-- one of the entries stands directly above the name
abbrev pub HasParent : List Entry → List (List TypeAndValue) → Type 0
HasParent entries name = (e : Entry) × In e entries × IsChild name e.dn

-- the name is the suffix, or below it and directly below an entry
pub record IsRooted (suffix : List (List TypeAndValue)) (entries : List Entry) (name : List (List TypeAndValue)) : Type 0 where
  pub below : IsBelow name suffix
  pub held : AreEqual name suffix ⊎ HasParent entries name

-- each entry but that of the suffix has its parent, and no two have one name
pub record IsTree (suffix : List (List TypeAndValue)) (entries : List Entry) : Type 0 where
  pub ascends : ascends entries ≡ true
  pub unique_names : (a b : Entry) → In a entries → In b entries → AreEqual a.dn b.dn → a.uuid ≡ b.uuid
  pub rooted : (e : Entry) → In e entries → IsRooted suffix entries e.dn

-- no entries are a tree
pub IsTree-nil : (suffix : List (List TypeAndValue)) → IsTree suffix []
IsTree-nil suffix = record {
  ascends = refl;
  unique_names = λ a b in_a in_b equal. absurd in_a;
  rooted = λ e member. absurd member;
}

-- an entry at or below a name that is not above the suffix has an entry of that name over it
pub named_above : (count : ℕ) (suffix : List (List TypeAndValue)) (entries : List Entry) (name : List (List TypeAndValue)) (e : Entry)
    → ((other : Entry) → In other entries → IsRooted suffix entries other.dn) → length suffix ≤ length name → In e entries → IsBelow e.dn name → length e.dn ≡ count + length name
    → (top : Entry) × In top entries × AreEqual top.dn name
named_above zero suffix entries name e rooted under member below long = (e, member, equal_where_long e.dn name below (omega (arith, long)))
named_above (suc count) suffix entries name e rooted under member below long =
    elim ((rooted e member).held) [
      | inl equal ↦ let same : length e.dn ≡ length suffix = length-AreEqual e.dn suffix equal in absurd (omega (arith, same, long, under))
      | inr parent ↦
          let next : length e.dn ≡ suc (length parent.0.dn) = parent.2.long in
          named_above count suffix entries name parent.0 rooted under parent.1
          (IsBelow-parent e.dn parent.0.dn name below (omega (arith, long)) parent.2) (omega (arith, long, next))
    ]

-- a parent among these entries is one among others
rooted_over : (suffix : List (List TypeAndValue)) (old new : List Entry) (name : List (List TypeAndValue)) → ((e : Entry) → In e old → IsChild name e.dn → HasParent new name)
    → IsRooted suffix old name → IsRooted suffix new name
rooted_over suffix old new name over rooted = record {
  below = rooted.below;
  held = elim (rooted.held) as (λ _. AreEqual name suffix ⊎ HasParent new name) [
    | inl equal ↦ inl equal
    | inr parent ↦ inr (over parent.0 parent.1 parent.2)
  ];
}

-- ---- an entry that is put

-- an entry after a put is the new one or was there before
pub put_in : (e : Entry) (entries : List Entry) (x : Entry) → In x (put e entries) → (x ≡ e) ⊎ In x entries
put_in e entries x member =
    elim (append_in (filter (λ other. nat_lt other.uuid e.uuid) entries) (e ∷ filter (λ other. nat_lt e.uuid other.uuid) entries) x member) [
      | inl lower ↦ inr (filter_in (λ (other : Entry). nat_lt other.uuid e.uuid) entries x lower).0
      | inr (inl here) ↦ inl here
      | inr (inr higher) ↦ inr (filter_in (λ (other : Entry). nat_lt e.uuid other.uuid) entries x higher).0
    ]

in_put : (e : Entry) (entries : List Entry) (x : Entry) → In x entries → x.uuid ≢ e.uuid → In x (put e entries)
in_put e entries x member other =
    let low : Entry → Bool = λ y. nat_lt y.uuid e.uuid in
    let high : Entry → Bool = λ y. nat_lt e.uuid y.uuid in
    elim (cases_order x.uuid e.uuid) [
      | inl same ↦ absurd (other same)
      | inr (inl less) ↦ in_append_left (filter low entries) (e ∷ filter high entries) x (in_filter low entries x member (lt-ltb x.uuid e.uuid less))
      | inr (inr more) ↦ in_append_right (filter low entries) (e ∷ filter high entries) x (inr (in_filter high entries x member (lt-ltb e.uuid x.uuid more)))
    ]

-- a name with a place is rooted
IsRooted-placed : (suffix : List (List TypeAndValue)) (entries : List Entry) (name : List (List TypeAndValue)) → has_no_place suffix entries name ≡ false → IsRooted suffix entries name
IsRooted-placed suffix entries name placed =
    let parts = or_parts (not (is_at_or_below name suffix)) (not (same_name name suffix) && not (has_parent entries name)) placed in
    record {
      below = IsBelow-is_at_or_below name suffix (not-false (is_at_or_below name suffix) parts.0);
      held = elim (and_cases (not (same_name name suffix)) (not (has_parent entries name)) parts.1) as (λ _. AreEqual name suffix ⊎ HasParent entries name) [
        | inl is_suffix ↦ inl (AreEqual-same_name name suffix (not-false (same_name name suffix) is_suffix))
        | inr has ↦
            let found = in_any (λ (e : Entry). is_child_of name e.dn) entries (not-false (has_parent entries name) has) in
            inr (found.0, found.1, IsChild-is_child_of name found.0.dn found.2)
      ];
    }

-- a tree with one more entry at a free place is one
pub IsTree-put : (suffix : List (List TypeAndValue)) (entries : List Entry) (e : Entry) → has_no_place suffix entries e.dn ≡ false → has_name entries e.dn ≡ false
    → ((other : Entry) → In other entries → other.uuid ≢ e.uuid) → IsTree suffix entries → IsTree suffix (put e entries)
IsTree-put suffix entries e placed free fresh tree = record {
  ascends = ascends_put e entries tree.ascends;
  unique_names = λ a b in_a in_b equal. apart a b (put_in e entries a in_a) (put_in e entries b in_b) equal;
  rooted = λ x member. rooted_over suffix entries (put e entries) x.dn (λ p in_p child. (p, in_put e entries p in_p (fresh p in_p), child)) (rooted x (put_in e entries x member));
}
  where
    new_name : (x : Entry) → In x entries → AreEqual x.dn e.dn → ⊥
    new_name x member equal = both_ways (has_name entries e.dn) free (any_in (is_named e.dn) entries x member (same_name-AreEqual x.dn e.dn equal))

    apart : (a b : Entry) → (a ≡ e) ⊎ In a entries → (b ≡ e) ⊎ In b entries → AreEqual a.dn b.dn → a.uuid ≡ b.uuid
    apart a b (inl here) (inl there) equal = ap (λ (x : Entry). x.uuid) (here ∙ sym there)
    apart a b (inl here) (inr there) equal = absurd (new_name b there (AreEqual-sym e.dn b.dn (subst (λ (x : Entry). AreEqual x.dn b.dn) here equal)))
    apart a b (inr here) (inl there) equal = absurd (new_name a here (subst (λ (x : Entry). AreEqual a.dn x.dn) there equal))
    apart a b (inr here) (inr there) equal = tree.unique_names a b here there equal

    rooted : (x : Entry) → (x ≡ e) ⊎ In x entries → IsRooted suffix entries x.dn
    rooted x (inl here) = subst (λ (y : Entry). IsRooted suffix entries y.dn) (sym here) (IsRooted-placed suffix entries e.dn placed)
    rooted x (inr there) = tree.rooted x there

-- ---- entries that are removed

-- a tree without an entry that has none below it is one
pub IsTree-without : (suffix : List (List TypeAndValue)) (entries : List Entry) (name : List (List TypeAndValue)) → has_below entries name ≡ false → IsTree suffix entries
    → IsTree suffix (filter (λ e. not (is_named name e)) entries)
IsTree-without suffix entries name leaf tree = record {
  ascends = ascends_filter stays entries tree.ascends;
  unique_names = λ a b in_a in_b equal. tree.unique_names a b (filter_in stays entries a in_a).0 (filter_in stays entries b in_b).0 equal;
  rooted = λ e member. let parts = filter_in stays entries e member in rooted_over suffix entries (filter stays entries) e.dn (kept e parts.0 parts.1) (tree.rooted e parts.0);
}
  where
    stays : Entry → Bool
    stays e = not (is_named name e)

    over : (e p : Entry) → In e entries → stays e ≡ true → IsChild e.dn p.dn → is_named name p ≡ true → ⊥
    over e p member stay child named =
        let below : IsBelow e.dn name = IsBelow-trans e.dn p.dn name (IsBelow-child e.dn p.dn child) (IsBelow-itself p.dn name (AreEqual-same_name p.dn name named)) in
        both_ways (has_below entries name) leaf
        (any_in (λ (x : Entry). is_at_or_below x.dn name && not (is_named name x)) entries e member
        (and_from (is_at_or_below e.dn name) (not (is_named name e)) (is_at_or_below-IsBelow e.dn name below) stay))

    kept : (e : Entry) → In e entries → stays e ≡ true → (p : Entry) → In p entries → IsChild e.dn p.dn → HasParent (filter stays entries) e.dn
    kept e member stay p in_p child =
        elim (cases_Bool (is_named name p)) [
          | inl named ↦ absurd (over e p member stay child named)
          | inr other ↦ (p, in_filter stays entries p in_p (not_from_false (is_named name p) other), child)
        ]

-- ---- entries that keep their identities and names

-- a tree whose entries keep their names and identities is one
pub IsTree-map : (f : Entry → Entry) (suffix : List (List TypeAndValue)) (entries : List Entry) → ((e : Entry) → In e entries → (f e).uuid ≡ e.uuid)
    → ((e : Entry) → In e entries → (f e).dn ≡ e.dn) → ascends (map f entries) ≡ true → IsTree suffix entries → IsTree suffix (map f entries)
IsTree-map f suffix entries uuids named_same ascending tree = record {
  ascends = ascending;
  unique_names = λ a b in_a in_b equal. let one = map_in f entries a in_a in let other = map_in f entries b in_b in apart a b one.0 other.0 one.1 other.1 one.2 other.2 equal;
  rooted = λ e member. let found = map_in f entries e member in rooted e found.0 found.1 found.2;
}
  where
    apart : (a b x y : Entry) → In x entries → In y entries → a ≡ f x → b ≡ f y → AreEqual a.dn b.dn → a.uuid ≡ b.uuid
    apart a b x y in_x in_y is_a is_b equal =
        let name_a : a.dn ≡ x.dn = ap (λ (e : Entry). e.dn) is_a ∙ named_same x in_x in
        let name_b : b.dn ≡ y.dn = ap (λ (e : Entry). e.dn) is_b ∙ named_same y in_y in
        let at : x.uuid ≡ y.uuid = tree.unique_names x y in_x in_y (subst (λ name. AreEqual name y.dn) name_a (subst (λ name. AreEqual a.dn name) name_b equal)) in
        ap (λ (e : Entry). e.uuid) is_a ∙ uuids x in_x ∙ at ∙ sym (uuids y in_y) ∙ sym (ap (λ (e : Entry). e.uuid) is_b)

    over : (name : List (List TypeAndValue)) (p : Entry) → In p entries → IsChild name p.dn → HasParent (map f entries) name
    over name p in_p child = (f p, in_map f entries p in_p, subst (λ other. IsChild name other) (sym (named_same p in_p)) child)

    rooted : (e x : Entry) → In x entries → e ≡ f x → IsRooted suffix (map f entries) e.dn
    rooted e x in_x is =
        subst (λ name. IsRooted suffix (map f entries) name) (sym (ap (λ (y : Entry). y.dn) is ∙ named_same x in_x))
        (rooted_over suffix entries (map f entries) x.dn (over x.dn) (tree.rooted x in_x))
