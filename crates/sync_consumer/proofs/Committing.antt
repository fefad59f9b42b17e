-- A stage in effect is what a commit of its puts and drops leaves.
use Rattle.std.proofs.Common.{◌≡◌, ◌<◌, ℕ, Bool, true, false, cond, nat_eq, nat_lt, List, [], ◌∷◌, Option, Some, None, refl, sym, ap, ◌∙◌}
use Rattle.std.specs.List.{list_all}
use Rattle.std.specs.Map.{keys_of}
use Rattle.std.specs.Ordering.{match_ordering}
use Rattle.std.specs.declared.cmp.Ordering.TheVariants.{Less, Equal, Greater}
use Rattle.std.proofs.lemmas.Bool.{and_parts, and_from, eqb-true, ltb-true}
use Rattle.entry_tree.specs.declared.entry.Entry.{Entry}
use Rattle.entry_tree.specs.Effects.{committed}
use Rattle.entry_tree.specs.State.{ascends}
use Rattle.sync_model.specs.Copy.{Stage, staged, effected, puts_of, drops_of}
use Rattle.sync_model.proofs.Gather.{Each}
use Rattle.sync_model.proofs.Limits.{Ordered}
use Rattle.sync_model.proofs.Stages as stages
use Rattle.sync_model.proofs.Taking.{IsOwn, IsKeyed}
use Rattle.sync_consumer.specs.Committing.{is_of}
use Rattle.entry_tree.specs.Touched.{rises}
use Rattle.entry_tree.proofs.Rising.{below_all}
use Rattle.sync_consumer.proofs.Rising.{head_below, tail_rises}

-- ---- each change is of its own identity

abbrev pub each_own : Stage → Bool
each_own stage = list_all (λ (change : ℕ × Option Entry). is_of change.0 change.1) stage

-- a stage whose changes are each of their own identity is so with one more
pub own-staged : (stage : Stage) (uuid : ℕ) (change : Option Entry) → is_of uuid change ≡ true → each_own stage ≡ true → each_own (staged uuid change stage) ≡ true
own-staged [] uuid change own all = and_from (is_of uuid change) true own refl
own-staged (s ∷ stage) uuid change own all =
    let p = and_parts (is_of s.0 s.1) (each_own stage) all in
    by (nat_lt uuid s.0) (nat_eq uuid s.0) refl p.1
    (and_from (is_of s.0 s.1) (each_own (staged uuid change stage)) p.0 (own-staged stage uuid change own p.1))
  where
    by : (less same : Bool) → nat_eq uuid s.0 ≡ same → each_own stage ≡ true → each_own (s ∷ staged uuid change stage) ≡ true
        → each_own (match_ordering (cond less Less (cond same Equal Greater)) ((uuid, change) ∷ s ∷ stage) ((s.0, change) ∷ stage) (s ∷ staged uuid change stage)) ≡ true
    by true same is rest more = and_from (is_of uuid change) (each_own (s ∷ stage)) own all
    by false true is rest more = and_from (is_of s.0 change) (each_own stage) (ap (λ u. is_of u change) (sym (eqb-true uuid s.0 is)) ∙ own) rest
    by false false is rest more = more

own_one : (uuid : ℕ) (change : Option Entry) → is_of uuid change ≡ true → IsOwn uuid change
own_one uuid None own = tt
own_one uuid (Some entry) own = eqb-true entry.uuid uuid own

keyed : (stage : Stage) → each_own stage ≡ true → IsKeyed stage
keyed [] all = tt
keyed (s ∷ stage) all =
    let p = and_parts (is_of s.0 s.1) (each_own stage) all in
    (own_one s.0 s.1 p.0, keyed stage p.1)

-- ---- and the changes are in order

above_each : (stage : Stage) (u : ℕ) → below_all u (keys_of stage) ≡ true → Each (λ (later : ℕ × Option Entry). u < later.0) stage
above_each [] u below = tt
above_each (s ∷ stage) u below =
    let p = and_parts (nat_lt u s.0) (below_all u (keys_of stage)) below in
    (ltb-true u s.0 p.0, above_each stage u p.1)

in_order : (stage : Stage) → rises (keys_of stage) ≡ true → Ordered stage
in_order [] up = tt
in_order (s ∷ stage) up = (above_each stage s.0 (head_below s.0 (keys_of stage) up), in_order stage (tail_rises s.0 (keys_of stage) up))

-- committing what a stage puts and drops is its effect
pub stage_commits : (held : List Entry) (stage : Stage) → rises (keys_of stage) ≡ true → each_own stage ≡ true → ascends held ≡ true
    → committed held (puts_of stage) (drops_of stage) ≡ effected held stage
stage_commits held stage ordered all up = stages.stage_commits held stage up (record { ordered = in_order stage ordered; keyed = keyed stage all })
