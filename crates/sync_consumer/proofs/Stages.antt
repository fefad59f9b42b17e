-- Stages, as changes are put into them.
use Rattle.std.proofs.Common.{◌≡◌, ◌≤◌, ℕ, Bool, true, false, cond, nat_eq, nat_lt, List, [], ◌∷◌, length, Bor, Option, Some, None, refl, sym, ap, subst, ◌∙◌}
use Rattle.std.specs.Prelude.{is_some, option_map, ◌||◌}
use Rattle.std.specs.BTreeMap.{insert_entry, is_at}
use Rattle.std.specs.Cmp.{unsigned_ties}
use Rattle.std.specs.Map.{keys_of, lookup}
use Rattle.std.specs.Option.{option_copied, option_and_then}
use Rattle.std.specs.Ordering.{nat_cmp, match_ordering}
use Rattle.std.specs.declared.cmp.Ordering.{Ordering}
use Rattle.std.specs.declared.cmp.Ordering.TheVariants.{Less, Equal, Greater}
use Rattle.std.proofs.lemmas.Bool.{or_parts, le-ltb, ltb-false}
use Rattle.std.proofs.lemmas.Map.Lookups.{exact_unsigned}
use Rattle.entry_tree.specs.declared.entry.Entry.{Entry}
use Rattle.entry_tree.specs.State.{total_weight, most_entries, most_weight}
use Rattle.sync_model.specs.Copy.{Stage, slot, is_put, staged, puts_of}
use Rattle.sync_model.specs.Within.{exceeds_limits}
use Rattle.sync_consumer.specs.declared.stage.StagedChange.{StagedChange}
use Rattle.entry_tree.specs.Touched.{rises}
use Rattle.sync_consumer.specs.Staging.{IsStage, entry_staged, change_of, changes_kept}
use Rattle.sync_consumer.proofs.Keyed.{AreOwn, head_own, own-insert, rises-staged_each}

-- the identity of a change
abbrev pub own_id : StagedChange → ℕ
own_id change = (change_of change).0

-- ---- what a map keeps

-- a change that is put into the map is staged
pub kept_insert : (es : List (ℕ × StagedChange)) (u : ℕ) (s : StagedChange) → own_id s ≡ u → AreOwn own_id es
    → changes_kept (insert_entry nat_cmp es u s) ≡ staged u (change_of s).1 (changes_kept es)
kept_insert [] u s is own = λ i. (is i, (change_of s).1) ∷ []
kept_insert (e ∷ es) u s is own =
    let p = head_own own_id e es own in
    by (nat_cmp u e.0) refl p.0 (kept_insert es u s is p.1)
    ∙ ap (λ n. match_ordering (nat_cmp u n) ((u, (change_of s).1) ∷ change_of e.1 ∷ changes_kept es) ((own_id e.1, (change_of s).1) ∷ changes_kept es) (change_of e.1 ∷ staged u (change_of s).1 (changes_kept es))) p.0
  where
    by : (o : Ordering) → nat_cmp u e.0 ≡ o → e.0 ≡ own_id e.1 → changes_kept (insert_entry nat_cmp es u s) ≡ staged u (change_of s).1 (changes_kept es)
        → changes_kept (match_ordering o ((u, s) ∷ e ∷ es) ((e.0, s) ∷ es) (e ∷ insert_entry nat_cmp es u s))
        ≡ match_ordering o ((u, (change_of s).1) ∷ change_of e.1 ∷ changes_kept es) ((own_id e.1, (change_of s).1) ∷ changes_kept es) (change_of e.1 ∷ staged u (change_of s).1 (changes_kept es))
    by Less at first rest = λ i. (is i, (change_of s).1) ∷ change_of e.1 ∷ changes_kept es
    by Equal at first rest = λ i. ((is ∙ exact_unsigned u e.0 at ∙ first) i, (change_of s).1) ∷ changes_kept es
    by Greater at first rest = ap (λ cs. change_of e.1 ∷ cs) rest

-- what is staged of an identity is what the map has at it
pub slot_kept : (es : List (ℕ × StagedChange)) (u : ℕ) → AreOwn own_id es
    → option_map (λ (s : StagedChange). (change_of s).1) (lookup (is_at (nat_cmp u)) es) ≡ slot (changes_kept es) u
slot_kept [] u own = refl
slot_kept (e ∷ es) u own =
    let p = head_own own_id e es own in
    ap (λ b. option_map (λ (s : StagedChange). (change_of s).1) (cond b (Some e.1) (lookup (is_at (nat_cmp u)) es))) (sym (unsigned_ties u e.0) ∙ ap (nat_eq u) p.0)
    ∙ by (nat_eq u (own_id e.1)) (slot_kept es u p.1)
  where
    by : (b : Bool) → option_map (λ (s : StagedChange). (change_of s).1) (lookup (is_at (nat_cmp u)) es) ≡ slot (changes_kept es) u
        → option_map (λ (s : StagedChange). (change_of s).1) (cond b (Some e.1) (lookup (is_at (nat_cmp u)) es)) ≡ cond b (Some (change_of e.1).1) (slot (changes_kept es) u)
    by true rest = refl
    by false rest = rest

-- ---- stages

-- nothing is staged
pub empty_stage : (changes : List (ℕ × StagedChange)) → changes ≡ [] → IsStage changes 0 0
empty_stage changes none =
    subst (λ (cs : List (ℕ × StagedChange)). IsStage cs 0 0) (sym none) (record { own = refl; ordered = refl; counted = refl; weighed = refl; within = refl })

-- the same is staged
pub same_stage : (changes changes' : List (ℕ × StagedChange)) (count weight : ℕ) → changes' ≡ changes → IsStage changes count weight → IsStage changes' count weight
same_stage changes changes' count weight same is = subst (λ (cs : List (ℕ × StagedChange)). IsStage cs count weight) (sym same) is

-- one more change is staged
pub more_staged : (es new : List (ℕ × StagedChange)) (u : ℕ) (s : StagedChange) (stage : Stage) (count weight : ℕ)
    → own_id s ≡ u → AreOwn own_id es → rises (keys_of (changes_kept es)) ≡ true → new ≡ insert_entry nat_cmp es u s → stage ≡ staged u (change_of s).1 (changes_kept es)
    → count ≡ length (puts_of stage) → weight ≡ total_weight (puts_of stage) → exceeds_limits (puts_of stage) ≡ false → IsStage new count weight
more_staged es new u s stage count weight is own up inserted put counted weighed within =
    let kept : changes_kept new ≡ stage = ap changes_kept inserted ∙ kept_insert es u s is own ∙ sym put in
    record {
      own = subst (λ (cs : List (ℕ × StagedChange)). AreOwn own_id cs) (sym inserted) (own-insert own_id es u s is own);
      ordered = ap (λ (s : Stage). rises (keys_of s)) (kept ∙ put) ∙ rises-staged_each (changes_kept es) u (change_of s).1 up;
      counted = counted ∙ sym (ap (λ (s : Stage). length (puts_of s)) kept);
      weighed = weighed ∙ sym (ap (λ (s : Stage). total_weight (puts_of s)) kept);
      within = ap (λ (s : Stage). exceeds_limits (puts_of s)) kept ∙ within;
    }

-- what is within the limits is no more and no heavier than they allow
pub limits : (es : List Entry) → exceeds_limits es ≡ false → (length es ≤ most_entries) × (total_weight es ≤ most_weight)
limits es within =
    let p = or_parts (nat_lt most_entries (length es)) (nat_lt most_weight (total_weight es)) within in
    (ltb-false most_entries (length es) p.0, ltb-false most_weight (total_weight es) p.1)

-- and the other way round
pub within_limits : (es : List Entry) → length es ≤ most_entries → total_weight es ≤ most_weight → exceeds_limits es ≡ false
within_limits es few light = ap (λ b. b || nat_lt most_weight (total_weight es)) (le-ltb most_entries (length es) few) ∙ le-ltb most_weight (total_weight es) light

-- ---- what is staged of an identity

-- an entry is staged of an identity exactly where one is found
pub put_is : (found : Option (Bor Entry)) (stage : Stage) (uuid : ℕ) → option_copied found ≡ entry_staged stage uuid → is_some found ≡ is_put (slot stage uuid)
put_is found stage uuid same = by found (slot stage uuid) same where
  by : (found : Option (Bor Entry)) (s : Option (Option Entry)) → option_copied found ≡ option_and_then (λ entry. entry) s → is_some found ≡ is_put s
  by None None h = refl
  by None (Some None) h = refl
  by None (Some (Some e)) h = cc
  by (Some f) None h = cc
  by (Some f) (Some None) h = cc
  by (Some f) (Some (Some e)) h = refl

-- an entry is found exactly where there is one
pub found_is : (found : Option (Bor Entry)) (o : Option Entry) → option_copied found ≡ o → is_some found ≡ is_some o
found_is None o same = ap is_some same
found_is (Some f) o same = ap is_some same
