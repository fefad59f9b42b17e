-- A tree of which a branch moves to another name.
use Rattle.std.proofs.Common.{◌≡◌, ◌<◌, ◌+◌, ◌-◌, suc, true, false, not, ◌&&◌, ◌||◌, cond, nat_eq, List, ◌∷◌, length, map, take, drop, Option, Some, None, sym, ap, ◌∙◌, ◌⊎◌, inl, inr, subst, arith}
use Rattle.std.proofs.lemmas.Bool.{both_ways, not-false, not_from_false, and_from, or_parts, eqb-true, cond-true, cond-false, cases_Bool, cases_eq}
use Rattle.ldap_constants.specs.declared.result_codes.TheConstants.{NO_SUCH_OBJECT, UNWILLING_TO_PERFORM, ENTRY_ALREADY_EXISTS}
use Rattle.schema_rules.specs.declared.attributes.Attribute.{Attribute}
use Rattle.csn_cookie.specs.Csn.{CsnValue}
use Rattle.dn_names.specs.Names.{TypeAndValue, same_name, is_at_or_below, parent_of, moved_name}
use Rattle.dn_names.proofs.EqualNames.{AreEqual, AreEqual-same_name, same_name-AreEqual, length-AreEqual, AreEqual-sym}
use Rattle.dn_names.proofs.SortedLists.{In}
use Rattle.entry_tree.specs.declared.entry.Entry.{Entry}
use Rattle.entry_tree.specs.Codes.{has_superior, is_within, is_taken_from, target_code}
use Rattle.entry_tree.specs.Effects.{moved, new_name}
use Rattle.entry_tree.specs.State.{is_identified, is_named}
use Rattle.entry_tree.proofs.Moving.{moved_keeps}
use Rattle.entry_tree.proofs.Replacing.{ascends_mapped}
use Rattle.directory_laws.proofs.Branches.{IsBelow, IsBelow-is_at_or_below, is_at_or_below-IsBelow, IsBelow-equal, IsBelow-trans, IsBelow-itself, IsBelow-longer, IsChild, IsBelow-child, IsBelow-parent, moved_apart, moved_meets, moved_child, moved_base}
use Rattle.directory_laws.proofs.Codes.{no_test, no_other}
use Rattle.directory_laws.proofs.Members.{in_any, any_in, in_map, map_in, only_one}
use Rattle.directory_laws.proofs.Trees.{HasParent, IsRooted, IsTree, named_above}

-- where an entry can move: the new name is directly below an entry that does not move with it, and nobody else's
pub record HasPlace (entries : List Entry) (top : Entry) (name : List (List TypeAndValue)) : Type 0 where
  pub over : Entry
  pub member : In over entries
  pub child : IsChild name over.dn
  pub outside : IsBelow over.dn top.dn → ⊥
  pub only : (e : Entry) → In e entries → AreEqual e.dn name → e.uuid ≡ top.uuid

-- ---- the place of a new name without a code

not_taken : (entries : List Entry) (top : Entry) (name : List (List TypeAndValue)) → is_taken_from top entries name ≡ false → (e : Entry) → In e entries → AreEqual e.dn name → e.uuid ≡ top.uuid
not_taken entries top name free e member equal =
    elim (cases_Bool (is_identified top.uuid e)) [
      | inl same ↦ eqb-true e.uuid top.uuid same
      | inr other ↦
          absurd (both_ways (is_taken_from top entries name) free
          (any_in (λ (x : Entry). is_named name x && not (is_identified top.uuid x)) entries e member
          (and_from (is_named name e) (not (is_identified top.uuid e)) (same_name-AreEqual e.dn name equal) (not_from_false (is_identified top.uuid e) other))))
    ]

shorter : (one other : List (List TypeAndValue)) → length other ≡ suc (length one) → IsBelow one other → ⊥
shorter one other long below = let count : length one ≡ below.count + length other = below.long in absurd (omega (arith, long, count))

place_of : (suffix : List (List TypeAndValue)) (entries : List Entry) (top : Entry) (rdn : List TypeAndValue) (superior : Option (List (List TypeAndValue))) → IsTree suffix entries → In top entries
    → has_superior entries superior ≡ true → same_name top.dn suffix ≡ false → is_within top superior ≡ false → is_taken_from top entries (new_name top rdn superior) ≡ false
    → HasPlace entries top (new_name top rdn superior)
place_of suffix entries top rdn None tree member has other outside free =
    elim ((tree.rooted top member).held) [
      | inl equal ↦ absurd (both_ways (same_name top.dn suffix) other (same_name-AreEqual top.dn suffix equal))
      | inr parent ↦ record {
        over = parent.0;
        member = parent.1;
        child = record { long = ap suc (length-AreEqual (drop 1 top.dn) parent.0.dn parent.2.equal); equal = parent.2.equal };
        outside = shorter parent.0.dn top.dn parent.2.long;
        only = not_taken entries top (rdn ∷ parent_of top.dn) free;
      }
    ]
place_of suffix entries top rdn (Some superior) tree member has other outside free =
    let found = in_any (is_named superior) entries has in
    let equal : AreEqual found.0.dn superior = AreEqual-same_name found.0.dn superior found.2 in
    let back : AreEqual superior found.0.dn = AreEqual-sym found.0.dn superior equal in
    record {
      over = found.0;
      member = found.1;
      child = record { long = ap suc (length-AreEqual superior found.0.dn back); equal = back };
      outside = λ below. both_ways (is_at_or_below superior top.dn) outside (is_at_or_below-IsBelow superior top.dn (IsBelow-equal found.0.dn superior top.dn equal below));
      only = not_taken entries top (rdn ∷ superior) free;
    }

-- the new name of an entry has its place in the tree
pub HasPlace-target : (suffix : List (List TypeAndValue)) (entries : List Entry) (top : Entry) (rdn : List TypeAndValue) (superior : Option (List (List TypeAndValue))) → IsTree suffix entries → In top entries
    → target_code suffix entries top (new_name top rdn superior) superior ≡ None → HasPlace entries top (new_name top rdn superior)
HasPlace-target suffix entries top rdn superior tree member none =
    let name = new_name top rdn superior in
    let taken = cond (is_taken_from top entries name) (Some ENTRY_ALREADY_EXISTS) None in
    let unwilling = cond (same_name top.dn suffix || is_within top superior) (Some UNWILLING_TO_PERFORM) taken in
    let rest : unwilling ≡ None = no_other (not (has_superior entries superior)) NO_SUCH_OBJECT unwilling none in
    let parts = or_parts (same_name top.dn suffix) (is_within top superior) (no_test (same_name top.dn suffix || is_within top superior) UNWILLING_TO_PERFORM taken rest) in
    let last : taken ≡ None = no_other (same_name top.dn suffix || is_within top superior) UNWILLING_TO_PERFORM taken rest in
    place_of suffix entries top rdn superior tree member (not-false (has_superior entries superior) (no_test (not (has_superior entries superior)) NO_SUCH_OBJECT unwilling none)) parts.0 parts.1
    (no_test (is_taken_from top entries name) ENTRY_ALREADY_EXISTS None last)

-- ---- the entries once they moved

module _ (suffix : List (List TypeAndValue)) (entries : List Entry) (top : Entry) (name : List (List TypeAndValue)) (attrs : List Attribute) (csn : CsnValue) (tree : IsTree suffix entries)
    (member : In top entries) (place : HasPlace entries top name) where
  abbrev step : Entry → Entry
  step e = moved top name attrs csn e

  abbrev Moves : Entry → Type 0
  Moves e = IsBelow e.dn top.dn × ((step e).dn ≡ moved_name e.dn top.dn name)

  abbrev Stays : Entry → Type 0
  Stays e = (IsBelow e.dn top.dn → ⊥) × (step e ≡ e)

  moves_or_stays : (e : Entry) → Moves e ⊎ Stays e
  moves_or_stays e =
      let new : Entry = record { uuid = e.uuid; csn = csn; dn = moved_name e.dn top.dn name; attrs = cond (nat_eq e.uuid top.uuid) attrs e.attrs } in
      elim (cases_Bool (is_at_or_below e.dn top.dn)) [
        | inl is ↦ inl (IsBelow-is_at_or_below e.dn top.dn is, ap (λ (x : Entry). x.dn) (cond-true (is_at_or_below e.dn top.dn) new e is))
        | inr is ↦ inr (λ below. both_ways (is_at_or_below e.dn top.dn) is (is_at_or_below-IsBelow e.dn top.dn below), cond-false (is_at_or_below e.dn top.dn) new e is)
      ]

  new_below : IsBelow name suffix
  new_below = IsBelow-trans name place.over.dn suffix (IsBelow-child name place.over.dn place.child) (tree.rooted place.over place.member).below

  -- what is at or below the new name moves
  meets : (e : Entry) → In e entries → IsBelow e.dn name → IsBelow e.dn top.dn
  meets e in_e below =
      let under : length name ≡ new_below.count + length suffix = new_below.long in
      let found = named_above below.count suffix entries name e tree.rooted (omega (arith, under)) in_e below below.long in
      let same : found.0 ≡ top = only_one entries found.0 top tree.ascends found.1 member (place.only found.0 found.1 found.2) in
      let equal : AreEqual top.dn name = subst (λ (x : Entry). AreEqual x.dn name) same found.2 in
      IsBelow-trans e.dn name top.dn below (IsBelow-itself name top.dn (AreEqual-sym top.dn name equal))

  apart : (x y : Entry) → In x entries → In y entries → AreEqual (step x).dn (step y).dn → x.uuid ≡ y.uuid
  apart x y in_x in_y equal = by (moves_or_stays x) (moves_or_stays y)
    where
      meet : (one other : Entry) → In other entries → Moves one → Stays other → AreEqual (step one).dn (step other).dn → ⊥
      meet one other in_other moves stays both =
          stays.0 (meets other in_other (moved_meets one.dn top.dn name other.dn
          (subst (λ at. AreEqual at other.dn) moves.1 (subst (λ (e : Entry). AreEqual (step one).dn e.dn) stays.1 both))))

      by : Moves x ⊎ Stays x → Moves y ⊎ Stays y → x.uuid ≡ y.uuid
      by (inl one) (inl other) =
          tree.unique_names x y in_x in_y (moved_apart x.dn y.dn top.dn name one.0 other.0
          (subst (λ at. AreEqual at (moved_name y.dn top.dn name)) one.1 (subst (λ at. AreEqual (step x).dn at) other.1 equal)))
      by (inl one) (inr other) = absurd (meet x y in_y one other equal)
      by (inr one) (inl other) = absurd (meet y x in_x other one (AreEqual-sym (step x).dn (step y).dn equal))
      by (inr one) (inr other) = tree.unique_names x y in_x in_y (subst (λ (e : Entry). AreEqual e.dn y.dn) one.1 (subst (λ (e : Entry). AreEqual (step x).dn e.dn) other.1 equal))

  -- the renamed entry is below the one that it was moved to
  top_held : HasParent (map step entries) name
  top_held =
      elim (moves_or_stays place.over) [
        | inl moves ↦ absurd (place.outside moves.0)
        | inr stays ↦ (step place.over, in_map step entries place.over place.member, subst (λ (e : Entry). IsChild name e.dn) (sym stays.1) place.child)
      ]

  -- an entry below it is below the one that was its parent
  branch_held : (x : Entry) → In x entries → IsBelow x.dn top.dn → length top.dn < length x.dn → HasParent (map step entries) (moved_name x.dn top.dn name)
  branch_held x in_x below longer =
      elim ((tree.rooted x in_x).held) [
        | inl equal ↦
            let same : length x.dn ≡ length suffix = length-AreEqual x.dn suffix equal in
            let under : IsBelow top.dn suffix = (tree.rooted top member).below in
            let long : length top.dn ≡ under.count + length suffix = under.long in
            absurd (omega (arith, same, long, longer))
        | inr parent ↦ with_parent parent.0 parent.1 parent.2 (moves_or_stays parent.0)
      ]
    where
      with_parent : (p : Entry) → In p entries → IsChild x.dn p.dn → Moves p ⊎ Stays p → HasParent (map step entries) (moved_name x.dn top.dn name)
      with_parent p in_p child (inl moves) =
          (step p, in_map step entries p in_p, subst (λ other. IsChild (moved_name x.dn top.dn name) other) (sym moves.1) (moved_child x.dn p.dn top.dn name longer child))
      with_parent p in_p child (inr stays) = absurd (stays.0 (IsBelow-parent x.dn p.dn top.dn below longer child))

  rooted_branch : (x : Entry) → In x entries → IsBelow x.dn top.dn → IsRooted suffix (map step entries) (moved_name x.dn top.dn name)
  rooted_branch x in_x below = record {
    below = IsBelow-trans (moved_name x.dn top.dn name) name suffix (IsBelow-longer (take (length x.dn - length top.dn) x.dn) name) new_below;
    held = elim (cases_eq (length x.dn) (length top.dn)) as (λ _. AreEqual (moved_name x.dn top.dn name) suffix ⊎ HasParent (map step entries) (moved_name x.dn top.dn name)) [
      | inl same ↦ inr (subst (HasParent (map step entries)) (sym (moved_base x.dn top.dn name same)) top_held)
      | inr other ↦
          let long : length x.dn ≡ below.count + length top.dn = below.long in
          inr (branch_held x in_x below (omega (arith, long, other)))
    ];
  }

  rooted_rest : (x : Entry) → In x entries → (IsBelow x.dn top.dn → ⊥) → IsRooted suffix (map step entries) x.dn
  rooted_rest x in_x outside = record {
    below = (tree.rooted x in_x).below;
    held = elim ((tree.rooted x in_x).held) as (λ _. AreEqual x.dn suffix ⊎ HasParent (map step entries) x.dn) [
      | inl equal ↦ inl equal
      | inr parent ↦ inr (with_parent parent.0 parent.1 parent.2 (moves_or_stays parent.0))
    ];
  }
    where
      with_parent : (p : Entry) → In p entries → IsChild x.dn p.dn → Moves p ⊎ Stays p → HasParent (map step entries) x.dn
      with_parent p in_p child (inl moves) = absurd (outside (IsBelow-trans x.dn p.dn top.dn (IsBelow-child x.dn p.dn child) moves.0))
      with_parent p in_p child (inr stays) = (step p, in_map step entries p in_p, subst (λ (e : Entry). IsChild x.dn e.dn) (sym stays.1) child)

  rooted : (x : Entry) → In x entries → IsRooted suffix (map step entries) (step x).dn
  rooted x in_x =
      elim (moves_or_stays x) [
        | inl moves ↦ subst (λ at. IsRooted suffix (map step entries) at) (sym moves.1) (rooted_branch x in_x moves.0)
        | inr stays ↦ subst (λ (e : Entry). IsRooted suffix (map step entries) e.dn) (sym stays.1) (rooted_rest x in_x stays.0)
      ]

  -- entries are a tree after one of them is moved
  pub IsTree-moved : IsTree suffix (map (moved top name attrs csn) entries)
  IsTree-moved = record {
    ascends = ascends_mapped step (moved_keeps top name attrs csn) entries ∙ tree.ascends;
    unique_names = λ a b in_a in_b equal. of_both a b (map_in step entries a in_a) (map_in step entries b in_b) equal;
    rooted = λ e in_e. let found = map_in step entries e in_e in subst (λ (x : Entry). IsRooted suffix (map step entries) x.dn) (sym found.2) (rooted found.0 found.1);
  }
    where
      of_both : (a b : Entry) → (x : Entry) × In x entries × (a ≡ step x) → (y : Entry) × In y entries × (b ≡ step y) → AreEqual a.dn b.dn → a.uuid ≡ b.uuid
      of_both a b one other equal =
          let at : one.0.uuid ≡ other.0.uuid = apart one.0 other.0 one.1 other.1 (subst (λ (e : Entry). AreEqual e.dn (step other.0).dn) one.2 (subst (λ (e : Entry). AreEqual a.dn e.dn) other.2 equal)) in
          ap (λ (e : Entry). e.uuid) one.2 ∙ moved_keeps top name attrs csn one.0 ∙ at ∙ sym (moved_keeps top name attrs csn other.0) ∙ sym (ap (λ (e : Entry). e.uuid) other.2)
