-- What stands in an index after the names of changes.
use Rattle.std.proofs.Common.{◌≡◌, ◌+◌, ◌<◌, ℕ, Bool, true, false, not, ◌&&◌, ◌||◌, cond, nat_eq, List, [], ◌∷◌, length, take, get_or, map, Option, Some, None, sym, ap, refl, ◌∙◌, subst}
use Rattle.std.specs.Prelude.{bytes_eq, All}
use Rattle.std.specs.List.{list_any, filter}
use Rattle.std.specs.Cmp.Lexicographic.{bytes_decides}
use Rattle.std.proofs.lemmas.Bool.{eqb-true}
use Rattle.std.proofs.lemmas.List.Elements.{All-head, All-tail}
use Rattle.std.proofs.lemmas.List.Folds.{list_any_more}
use Rattle.dn_names.specs.Paths.{path_key}
use Rattle.entry_writes.specs.declared.entry.Entry.{Entry}
use Rattle.entry_writes.specs.declared.touched.EntryChange.{EntryChange}
use Rattle.entry_writes.specs.State.{entry_at}
use Rattle.entry_writes.specs.Touched.{change_at, touched, with_changes, CanBeMade}
use Rattle.entry_tree.specs.NameIndex.{Names, stands_at, HasNoEmpty, Sets, has_path, IsIndex, HasPathKey, BringsPathKey, comes, goes}
use Rattle.entry_tree.proofs.Changing.{both, differs, none_outside, same_where, touched_at}
use Rattle.entry_tree.proofs.Rising.{among, among-filter}

-- ---- tests of both sides of changes

abbrev Sides : Type 0
Sides = Option Entry → Option Entry → Bool

-- a change of the identity that passes
abbrev any_change : Sides → ℕ → List EntryChange → Bool
any_change passes u changes = list_any (λ (c : EntryChange). nat_eq u c.uuid && passes c.before c.after) changes

-- the changes between two states at some identities
at_states : (passes : Sides) (old new : List Entry) (u : ℕ) (us : List ℕ)
    → any_change passes u (map (change_at old new) us) ≡ (among u us && passes (entry_at old u) (entry_at new u))
at_states passes old new u [] = refl
at_states passes old new u (v ∷ us) = by (nat_eq u v) refl (at_states passes old new u us)
  where
    own : Bool
    own = passes (entry_at old u) (entry_at new u)

    rest_of : Bool
    rest_of = any_change passes u (map (change_at old new) us)

    merged : (c m o : Bool) → c ≡ (m && o) → (o || c) ≡ o
    merged c m true is = refl
    merged c true false is = is
    merged c false false is = is

    by : (b : Bool) → nat_eq u v ≡ b → rest_of ≡ (among u us && own) → ((b && passes (entry_at old v) (entry_at new v)) || rest_of) ≡ ((b || among u us) && own)
    by true hit rest =
        ap (λ w. passes (entry_at old w) (entry_at new w) || rest_of) (sym (eqb-true u v hit)) ∙ merged rest_of (among u us) own rest
    by false miss rest = rest

-- ---- an index after the changes of a write

-- the names that are there after some have gone and others have come
settled : (t a b : Bool) → ((t && (a && not b)) || (not (t && (b && not a)) && b)) ≡ cond t a b
settled true true true = refl
settled true true false = refl
settled true false true = refl
settled true false false = refl
settled false a true = refl
settled false a false = refl

module _ (old new : List Entry) (names : Names) (index : IsIndex names old) where
  abbrev differing : List ℕ
  differing = filter (differs old new) (both old new)

  -- an identity that does not change has the same name
  same_name_at : (path : List ℕ) (u : ℕ) → cond (among u differing) (has_path path (entry_at new u)) (has_path path (entry_at old u)) ≡ has_path path (entry_at new u)
  same_name_at path u =
      ap (λ b. cond b (has_path path (entry_at new u)) (has_path path (entry_at old u))) (among-filter (differs old new) u (both old new))
      ∙ by (differs old new u) refl (among u (both old new)) refl
    where
      by : (d : Bool) → differs old new u ≡ d → (b : Bool) → among u (both old new) ≡ b → cond (d && b) (has_path path (entry_at new u)) (has_path path (entry_at old u)) ≡ has_path path (entry_at new u)
      by true differ true inside = refl
      by true differ false off = let p = none_outside old new u off in ap (has_path path) (p.0 ∙ sym p.1)
      by false same b inside = ap (has_path path) (same_where old new u same)

  -- what is brought at each of some identities has a path key
  brought_at : (us : List ℕ) → All BringsPathKey (map (change_at old new) us) → (u : ℕ) → among u us ≡ true → HasPathKey (entry_at new u)
  brought_at [] brought u off = absurd (cc)
  brought_at (v ∷ us) brought u here =
      by (nat_eq u v) refl here (All-head BringsPathKey (change_at old new v) (map (change_at old new) us) brought)
      (brought_at us (All-tail BringsPathKey (change_at old new v) (map (change_at old new) us) brought) u)
    where
      by : (b : Bool) → nat_eq u v ≡ b → (b || among u us) ≡ true → HasPathKey (entry_at new v) → (among u us ≡ true → HasPathKey (entry_at new u)) → HasPathKey (entry_at new u)
      by true hit there own rest = subst (λ w. HasPathKey (entry_at new w)) (sym (eqb-true u v hit)) own
      by false miss there own rest = rest there

  -- each entry of the new state has a path key
  named_after : All BringsPathKey (map (change_at old new) differing) → (u : ℕ) → HasPathKey (entry_at new u)
  named_after brought u = by (among u differing) refl
    where
      stays : (d : Bool) → differs old new u ≡ d → (b : Bool) → among u (both old new) ≡ b → (d && b) ≡ false → HasPathKey (entry_at new u)
      stays true differ true inside never = absurd (cc)
      stays true differ false off never = subst HasPathKey (sym (none_outside old new u off).1) tt
      stays false same b inside never = subst HasPathKey (same_where old new u same) (index.named u)

      by : (b : Bool) → among u differing ≡ b → HasPathKey (entry_at new u)
      by true here = brought_at differing brought u here
      by false off = stays (differs old new u) refl (among u (both old new)) refl (sym (among-filter (differs old new) u (both old new)) ∙ off)

  index_settled : (last : Names) → HasNoEmpty last → All BringsPathKey (touched old new)
      → ((path : List ℕ) (u : ℕ) → stands_at last path u ≡ (comes path u (touched old new) || (not (goes path u (touched old new)) && stands_at names path u)))
      → IsIndex last new
  index_settled last some brought after = record {
    exact = λ path u.
        after path u
        ∙ (λ i. comes path u (touched_at old new i) || (not (goes path u (touched_at old new i)) && index.exact path u i))
        ∙ (λ i. at_states (λ was now. has_path path now && not (has_path path was)) old new u differing i
        || (not (at_states (λ was now. has_path path was && not (has_path path now)) old new u differing i) && has_path path (entry_at old u)))
        ∙ settled (among u differing) (has_path path (entry_at new u)) (has_path path (entry_at old u))
        ∙ same_name_at path u;
    some = some;
    named = named_after (subst (All BringsPathKey) (touched_at old new) brought);
  }

-- the index after changes that can be made
pub index_made : (es : List Entry) (changes : List EntryChange) (names last : Names) → IsIndex names es → CanBeMade es changes → HasNoEmpty last → All BringsPathKey changes
    → ((path : List ℕ) (u : ℕ) → stands_at last path u ≡ (comes path u changes || (not (goes path u changes) && stands_at names path u)))
    → IsIndex last (with_changes es changes)
index_made es changes names last index can some brought after =
    index_settled es (with_changes es changes) names index last some (subst (All BringsPathKey) can.exact brought)
    (λ path u. after path u ∙ ap (λ cs. comes path u cs || (not (goes path u cs) && stands_at names path u)) can.exact)

-- an empty index is one of no entries
pub index_none : IsIndex [] []
index_none = record { exact = λ path u. refl; some = λ path. tt; named = λ u. tt }

-- ---- changes one by one

-- what the next change takes away, after those before it
pub more_gone : (gone : EntryChange → Bool) (changes : List EntryChange) (i : ℕ) (c : EntryChange) (now mid old : Bool) → i < length changes → c ≡ get_or changes i c
    → now ≡ (not (gone c) && mid) → mid ≡ (not (list_any gone (take i changes)) && old) → now ≡ (not (list_any gone (take (i + 1) changes)) && old)
more_gone gone changes i c now mid old low at step so_far =
    step
    ∙ ap (λ b. not (gone c) && b) so_far
    ∙ merged (gone c) (list_any gone (take i changes)) old
    ∙ ap (λ b. not (list_any gone (take i changes) || b) && old) (ap gone at)
    ∙ ap (λ b. not b && old) (sym (list_any_more gone changes i c low))
  where
    merged : (a m o : Bool) → (not a && (not m && o)) ≡ (not (m || a) && o)
    merged true true o = refl
    merged true false o = refl
    merged false m o = by m
      where
        by : (b : Bool) → (not b && o) ≡ (not (b || false) && o)
        by true = refl
        by false = refl

-- what the next change brings, after those before it
pub more_came : (came : EntryChange → Bool) (changes : List EntryChange) (i : ℕ) (c : EntryChange) (now mid old : Bool) → i < length changes → c ≡ get_or changes i c
    → now ≡ (came c || mid) → mid ≡ (list_any came (take i changes) || old) → now ≡ (list_any came (take (i + 1) changes) || old)
more_came came changes i c now mid old low at step so_far =
    step
    ∙ ap (λ b. came c || b) so_far
    ∙ merged (came c) (list_any came (take i changes)) old
    ∙ ap (λ b. (list_any came (take i changes) || b) || old) (ap came at)
    ∙ ap (λ b. b || old) (sym (list_any_more came changes i c low))
  where
    merged : (a m o : Bool) → (a || (m || o)) ≡ ((m || a) || o)
    merged true true o = refl
    merged true false o = refl
    merged false true o = refl
    merged false false o = refl

-- ---- the name of one change

-- an identity of an index and of the one entry, where the other entry has another name or the same
module _ (names : Names) (name : List ℕ) (uuid : ℕ) (one : Option Entry) (e : Entry) (other : Option Entry) (found : one ≡ Some e) (is : name ≡ path_key e.dn) where
  -- what the other has at a path key at which the one has its name
  shared : (b : Bool) → has_path name other ≡ b → (path : List ℕ) → bytes_eq (path_key e.dn) path ≡ true → has_path path other ≡ b
  shared b has path same = ap (λ text. has_path text other) (sym (is ∙ (bytes_decides (path_key e.dn) path).0 same)) ∙ has

  -- a name that is taken away, which the other has not
  pub sets_left : (new : Names) → has_path name other ≡ false → Sets names new name uuid false
      → (path : List ℕ) (id : ℕ) → stands_at new path id ≡ (not ((nat_eq id uuid) && (has_path path one && not (has_path path other))) && stands_at names path id)
  sets_left new free sets path id =
      sets path id
      ∙ (λ i. cond (bytes_eq (is i) path && nat_eq id uuid) false (stands_at names path id))
      ∙ by (bytes_eq (path_key e.dn) path) refl (nat_eq id uuid)
      ∙ sym (ap (λ o. not ((nat_eq id uuid) && (has_path path o && not (has_path path other))) && stands_at names path id) found)
    where
      by : (b : Bool) → bytes_eq (path_key e.dn) path ≡ b → (c : Bool)
          → cond (b && c) false (stands_at names path id) ≡ (not (c && (b && not (has_path path other))) && stands_at names path id)
      by true same true = sym (ap (λ b. not (not b) && stands_at names path id) (shared false free path same))
      by true same false = refl
      by false differ true = refl
      by false differ false = refl

  -- a name that the other has stays
  pub left_kept : has_path name other ≡ true
      → (path : List ℕ) (id : ℕ) → stands_at names path id ≡ (not ((nat_eq id uuid) && (has_path path one && not (has_path path other))) && stands_at names path id)
  left_kept held path id =
      by (bytes_eq (path_key e.dn) path) refl (nat_eq id uuid)
      ∙ sym (ap (λ o. not ((nat_eq id uuid) && (has_path path o && not (has_path path other))) && stands_at names path id) found)
    where
      by : (b : Bool) → bytes_eq (path_key e.dn) path ≡ b → (c : Bool) → stands_at names path id ≡ (not (c && (b && not (has_path path other))) && stands_at names path id)
      by true same true = sym (ap (λ b. not (not b) && stands_at names path id) (shared true held path same))
      by true same false = refl
      by false differ true = refl
      by false differ false = refl

  -- a name that is noted, which the other had not
  pub sets_came : (new : Names) → has_path name other ≡ false → Sets names new name uuid true
      → (path : List ℕ) (id : ℕ) → stands_at new path id ≡ (((nat_eq id uuid) && (has_path path one && not (has_path path other))) || stands_at names path id)
  sets_came new free sets path id =
      sets path id
      ∙ (λ i. cond (bytes_eq (is i) path && nat_eq id uuid) true (stands_at names path id))
      ∙ by (bytes_eq (path_key e.dn) path) refl (nat_eq id uuid)
      ∙ sym (ap (λ o. ((nat_eq id uuid) && (has_path path o && not (has_path path other))) || stands_at names path id) found)
    where
      by : (b : Bool) → bytes_eq (path_key e.dn) path ≡ b → (c : Bool)
          → cond (b && c) true (stands_at names path id) ≡ ((c && (b && not (has_path path other))) || stands_at names path id)
      by true same true = sym (ap (λ b. not b || stands_at names path id) (shared false free path same))
      by true same false = refl
      by false differ true = refl
      by false differ false = refl

  -- a name that the other had is there
  pub came_kept : has_path name other ≡ true
      → (path : List ℕ) (id : ℕ) → stands_at names path id ≡ (((nat_eq id uuid) && (has_path path one && not (has_path path other))) || stands_at names path id)
  came_kept held path id =
      by (bytes_eq (path_key e.dn) path) refl (nat_eq id uuid)
      ∙ sym (ap (λ o. ((nat_eq id uuid) && (has_path path o && not (has_path path other))) || stands_at names path id) found)
    where
      by : (b : Bool) → bytes_eq (path_key e.dn) path ≡ b → (c : Bool) → stands_at names path id ≡ ((c && (b && not (has_path path other))) || stands_at names path id)
      by true same true = sym (ap (λ b. not b || stands_at names path id) (shared true held path same))
      by true same false = refl
      by false differ true = refl
      by false differ false = refl

-- no name is taken away where there was no entry
pub left_none : (names : Names) (uuid : ℕ) (gone kept : Option Entry) → gone ≡ None → (path : List ℕ) (id : ℕ)
    → stands_at names path id ≡ (not ((nat_eq id uuid) && (has_path path gone && not (has_path path kept))) && stands_at names path id)
left_none names uuid gone kept none path id =
    by (nat_eq id uuid) ∙ sym (ap (λ o. not ((nat_eq id uuid) && (has_path path o && not (has_path path kept))) && stands_at names path id) none)
  where
    by : (c : Bool) → stands_at names path id ≡ (not (c && (false && not (has_path path kept))) && stands_at names path id)
    by true = refl
    by false = refl

-- no name is noted where there is no entry
pub came_none : (names : Names) (uuid : ℕ) (come had : Option Entry) → come ≡ None → (path : List ℕ) (id : ℕ)
    → stands_at names path id ≡ (((nat_eq id uuid) && (has_path path come && not (has_path path had))) || stands_at names path id)
came_none names uuid come had none path id =
    by (nat_eq id uuid) ∙ sym (ap (λ o. ((nat_eq id uuid) && (has_path path o && not (has_path path had))) || stands_at names path id) none)
  where
    by : (c : Bool) → stands_at names path id ≡ ((c && (false && not (has_path path had))) || stands_at names path id)
    by true = refl
    by false = refl
