-- The names of the entries that a stage leaves.
use Rattle.std.proofs.Common.{◌≡◌, ◌<◌, ℕ, Bool, true, false, cond, nat_eq, nat_lt, List, [], ◌∷◌, Option, Some, None, refl, sym, ap, subst, ◌∙◌, ◌⊎◌, inl, inr, arith}
use Rattle.std.specs.Prelude.{option_map}
use Rattle.std.specs.Cmp.Lexicographic.{bytes_decides}
use Rattle.std.specs.List.{All}
use Rattle.std.specs.Option.{option_and_then, option_or, unwrap_or}
use Rattle.std.proofs.lemmas.Bool.{and_parts, eqb-true, ltb-true, false≢true}
use Rattle.std.proofs.lemmas.List.Elements.{All-head, All-tail}
use Rattle.dn_names.specs.Names.{same_name}
use Rattle.dn_names.specs.Paths.{path_key}
use Rattle.dn_names.proofs.PathKeys.{equal_is_same, path_key-from_same}
use Rattle.entry_tree.specs.declared.entry.Entry.{Entry}
use Rattle.entry_tree.specs.State.{ascends, entry_at, entry_named, is_named, same_named}
use Rattle.entry_tree.proofs.Identities.{above, none_at}
use Rattle.entry_tree.proofs.Order.{at_head}
use Rattle.entry_tree.proofs.Changing.{own_uuid}
use Rattle.sync_model.specs.Copy.{Stage, effected, slot}
use Rattle.sync_model.proofs.Taking.{IsKeyed, at-effected, ascends-effected}
use Rattle.sync_consumer.specs.Committing.{HaveUniqueNames}
use Rattle.entry_tree.specs.NameIndex.{HasPathKey, has_path}
use Rattle.sync_consumer.specs.Holding.{HeldNames, id_at, is_id, between, stays, after_stage, HasLeft, Notes, NotesAll, ArePathsApart, IsIndexOf}
use Rattle.sync_consumer.specs.Staging.{entry_staged}
use Rattle.sync_consumer.proofs.Naming.{all_apart}

-- ---- path keys that are apart

-- at one path key one identity stands
pub apart_by_notes : (names : HeldNames) (entry_of : ℕ → Option Entry) → Notes names entry_of → ArePathsApart entry_of
apart_by_notes names entry_of notes path one other has has' = by (id_at names path) (notes path one ∙ has) (notes path other ∙ has')
  where
    by : (found : Option ℕ) → is_id found one ≡ true → is_id found other ≡ true → one ≡ other
    by None is is' = absurd (false≢true is)
    by (Some v) is is' = sym (eqb-true v one is) ∙ eqb-true v other is'

-- an entry has the path key of its name
own_path : (e : Entry) (found : Option Entry) → found ≡ Some e → has_path (path_key e.dn) found ≡ true
own_path e found is = ap (has_path (path_key e.dn)) is ∙ (bytes_decides (path_key e.dn) (path_key e.dn)).1 refl

-- what the rest of the entries has at an identity all have
later_at : (x : Entry) (es : List Entry) → above x.uuid es ≡ true → (u : ℕ) (e : Entry) → entry_at es u ≡ Some e → entry_at (x ∷ es) u ≡ Some e
later_at x es far u e is = by (nat_eq x.uuid u) refl where
  by : (b : Bool) → nat_eq x.uuid u ≡ b → cond b (Some x) (entry_at es u) ≡ Some e
  by true same = let none : entry_at es u ≡ None = none_at es u (ap (λ n. above n es) (sym (eqb-true x.uuid u same)) ∙ far) in absurd (cc)
  by false other = is

module _ (entry_of : ℕ → Option Entry) (far : ArePathsApart entry_of) where
  -- no later entry has the name
  unnamed : (e : Entry) (es : List Entry) → entry_of e.uuid ≡ Some e → above e.uuid es ≡ true → ascends es ≡ true
      → ((u : ℕ) (x : Entry) → entry_at es u ≡ Some x → entry_of u ≡ Some x) → entry_named es e.dn ≡ None
  unnamed e [] has later up among = refl
  unnamed e (x ∷ es) has later up among =
      let p = and_parts (nat_lt e.uuid x.uuid) (above e.uuid es) later in
      let a = and_parts (above x.uuid es) (ascends es) up in
      by (is_named e.dn x) refl (ltb-true e.uuid x.uuid p.0) (unnamed e es has p.1 a.1 (λ u y is. among u y (later_at x es a.0 u y is)))
    where
      by : (b : Bool) → is_named e.dn x ≡ b → e.uuid < x.uuid → entry_named es e.dn ≡ None → cond b (Some x) (entry_named es e.dn) ≡ None
      by true same less rest =
          let there : entry_of x.uuid ≡ Some x = among x.uuid x (at_head x es) in
          let one : e.uuid ≡ x.uuid =
          far (path_key e.dn) e.uuid x.uuid (own_path e (entry_of e.uuid) has)
          (ap (λ text. has_path text (entry_of x.uuid)) (sym (path_key-from_same x.dn e.dn same)) ∙ own_path x (entry_of x.uuid) there) in
          absurd (omega (arith, one, less))
      by false other less rest = rest

  each_unnamed : (es : List Entry) → ascends es ≡ true → ((u : ℕ) (x : Entry) → entry_at es u ≡ Some x → entry_of u ≡ Some x) → same_named es ≡ None
  each_unnamed [] up among = refl
  each_unnamed (e ∷ es) up among =
      let p = and_parts (above e.uuid es) (ascends es) up in
      let rest : (u : ℕ) (x : Entry) → entry_at es u ≡ Some x → entry_of u ≡ Some x = λ u x is. among u x (later_at e es p.0 u x is) in
      ap (λ found. option_or (option_map (λ (other : Entry). (e.uuid, other.uuid)) found) (same_named es)) (unnamed e es (among e.uuid e (at_head e es)) p.0 p.1 rest)
      ∙ each_unnamed es p.1 rest

-- entries whose path keys are apart have no name twice
pub named_apart_by_paths : (es : List Entry) → ascends es ≡ true → ArePathsApart (λ u. entry_at es u) → same_named es ≡ None
named_apart_by_paths es up far = each_unnamed (λ u. entry_at es u) far es up (λ u x is. is)

-- what holds of all holds of the entry of an identity
all_at : (P : Entry → Type 0) (es : List Entry) (u : ℕ) (e : Entry) → All P es → entry_at es u ≡ Some e → P e
all_at P [] u e all is = absurd (cc)
all_at P (x ∷ es) u e all is = by (nat_eq x.uuid u) is (all_at P es u e (All-tail P x es all))
  where
    by : (b : Bool) → cond b (Some x) (entry_at es u) ≡ Some e → (entry_at es u ≡ Some e → P e) → P e
    by true here rest = let same : x ≡ e = (cc) in subst P same (All-head P x es all)
    by false there rest = rest there

-- entries with path keys, of which no two have one name, have them apart
pub paths_apart : (es : List Entry) → same_named es ≡ None → ((u : ℕ) → HasPathKey (entry_at es u)) → ArePathsApart (λ u. entry_at es u)
paths_apart es none pathed path one other has has' = by (entry_at es one) refl (entry_at es other) refl (pathed one) (pathed other) has has'
  where
    by : (a : Option Entry) → entry_at es one ≡ a → (b : Option Entry) → entry_at es other ≡ b → HasPathKey a → HasPathKey b → has_path path a ≡ true → has_path path b ≡ true → one ≡ other
    by None is b is' p q h h' = absurd (false≢true h)
    by (Some e) is None is' p q h h' = absurd (false≢true h')
    by (Some e) is (Some x) is' p q h h' =
        let paths : path_key e.dn ≡ path_key x.dn = (bytes_decides (path_key e.dn) path).0 h ∙ sym ((bytes_decides (path_key x.dn) path).0 h') in
        let same : same_name e.dn x.dn ≡ true = sym (equal_is_same e.dn x.dn p q) ∙ (bytes_decides (path_key e.dn) (path_key x.dn)).1 paths in
        let all : HaveUniqueNames es = all_apart es none in
        let first : All (λ (y : Entry). same_name e.dn y.dn ≡ true → e ≡ y) es = all_at (λ (z : Entry). All (λ (y : Entry). same_name z.dn y.dn ≡ true → z ≡ y) es) es one e all is in
        let one_is : e ≡ x = all_at (λ (y : Entry). same_name e.dn y.dn ≡ true → e ≡ y) es other x first is' same in
        sym (own_uuid es one e is) ∙ ap (λ (y : Entry). y.uuid) one_is ∙ own_uuid es other x is'

-- ---- after a stage

-- what is staged of an identity, beside what it had
after_stays : (held : List Entry) (stage : Stage) (u : ℕ) → ascends held ≡ true → IsKeyed stage → after_stage (stays held stage) stage u ≡ entry_at (effected held stage) u
after_stays held stage u up keyed = by (slot stage u) ∙ sym (at-effected stage held u up keyed)
  where
    by : (s : Option (Option Entry)) → unwrap_or s (between s (entry_at held u)) ≡ unwrap_or s (entry_at held u)
    by None = refl
    by (Some o) = refl

stays_left : (held : List Entry) (stage : Stage) → HasLeft held (stays held stage) stage
stays_left held stage u some = refl

module _ (held : List Entry) (stage : Stage) (up : ascends held ≡ true) (keyed : IsKeyed stage) where
  after_is : ◌≡◌ {A = ℕ → Option Entry} (after_stage (stays held stage) stage) (λ u. entry_at (effected held stage) u)
  after_is = λ i u. after_stays held stage u up keyed i

  -- the names of what a stage leaves, where no name was there
  notes_after : (left names : HeldNames) (are_free : Bool) → Notes left (stays held stage) → NotesAll held left names stage are_free
      → (are_free ≡ true) ⊎ ArePathsApart (λ u. entry_at (effected held stage) u) → Notes names (λ u. entry_at (effected held stage) u)
  notes_after left names are_free notes all how =
      subst (λ (f : ℕ → Option Entry). Notes names f) after_is
      (all (stays held stage) notes (stays_left held stage) (subst (λ (f : ℕ → Option Entry). (are_free ≡ true) ⊎ ArePathsApart f) (sym after_is) how))

  -- where none was there, no two entries have one name
  pub none_named_twice : (left names : HeldNames) (are_free : Bool) → Notes left (stays held stage) → NotesAll held left names stage are_free → are_free ≡ true
      → same_named (effected held stage) ≡ None
  none_named_twice left names are_free notes all free =
      named_apart_by_paths (effected held stage) (ascends-effected stage held up)
      (apart_by_notes names (λ u. entry_at (effected held stage) u) (notes_after left names are_free notes all (inl free)))

  pathed_after : ((u : ℕ) → HasPathKey (entry_at held u)) → ((u : ℕ) → HasPathKey (entry_staged stage u)) → (u : ℕ) → HasPathKey (entry_at (effected held stage) u)
  pathed_after before put u = subst HasPathKey (sym (at-effected stage held u up keyed)) (by (slot stage u) (put u))
    where
      by : (s : Option (Option Entry)) → HasPathKey (option_and_then (λ entry. entry) s) → HasPathKey (unwrap_or s (entry_at held u))
      by None p = before u
      by (Some o) p = p

  -- where no two entries have one name, the names are theirs
  pub index_after : (old left names : HeldNames) (are_free : Bool) → IsIndexOf old held → ((u : ℕ) → HasPathKey (entry_staged stage u)) → Notes left (stays held stage)
      → NotesAll held left names stage are_free → same_named (effected held stage) ≡ None → IsIndexOf names (effected held stage)
  index_after old left names are_free index put notes all none =
      let pathed = pathed_after index.pathed put in
      record {
        exact = notes_after left names are_free notes all (inr (paths_apart (effected held stage) none pathed));
        pathed = pathed;
      }
