-- Entries with a stage in effect, by their identities.
use Rattle.std.proofs.Common.{◌≡◌, ◌<◌, ◌≤◌, ◌+◌, ◌^◌, ℕ, zero, suc, Bool, true, false, not, cond, List, [], ◌∷◌, length, drop, get_or, drop-cons, Bor, Option, Some, None, refl, sym, ap, subst, ◌∙◌, arith}
use Rattle.std.specs.Prelude.{filter}
use Rattle.std.specs.List.{cons_option}
use Rattle.std.specs.Map.{keys_of}
use Rattle.std.proofs.lemmas.List.Sums.{sum_by-cons}
use Rattle.schema_rules.specs.Attributes.{weight_of}
use Rattle.entry_tree.specs.declared.entry.Entry.{Entry}
use Rattle.entry_tree.specs.State.{ascends, exceeds_limits, found_weight, is_identified, most_entries, most_weight, same_named, total_weight}
use Rattle.entry_tree.proofs.Putting.{length_put, total_put}
use Rattle.sync_model.specs.Copy.{Stage, effected, put_or_dropped, puts_of, slot}
use Rattle.sync_model.specs.Within.{against}
use Rattle.sync_model.proofs.Taking.{IsOwn, IsKeyed, ascends-effected}
use Rattle.sync_consumer.specs.Holding.{IsConsumerContent, HeldNames, IsEntryMap, IsIndexOf}
use Rattle.entry_tree.specs.Touched.{rises}
use Rattle.sync_consumer.specs.Staging.{change_of, changes_in}
use Rattle.sync_consumer.specs.declared.stage.StagedChange.{StagedChange}
use Rattle.sync_consumer.specs.declared.stage.StagedChange.TheVariants.{AddOrModify, Delete}
use Rattle.sync_consumer.proofs.Keyed.{lookup_below}
use Rattle.sync_consumer.proofs.Opposing.{unopposed_apart, unopposed_within}
use Rattle.sync_consumer.proofs.Rising.{head_below, tail_rises}
use Rattle.sync_consumer.proofs.Stages.{limits, within_limits}

abbrev weight : Entry → ℕ
weight e = weight_of e.attrs

-- no entries may be held
pub nothing_held : IsConsumerContent []
nothing_held = (refl, refl)

-- what a stage leaves may be held where no limit refuses it
pub after_held : (held after : List Entry) (stage : Stage) → ascends held ≡ true → against (effected held stage) ≡ None → after ≡ effected held stage → IsConsumerContent after
after_held held after stage up within is = (ap (λ es. ascends es) is ∙ ascends-effected stage held up, ap (λ es. against es) is ∙ within)

-- ---- with their names

-- no entries have no names
pub nothing_mapped : (entries : List Entry) (names : HeldNames) → entries ≡ [] → names ≡ [] → IsEntryMap entries names
nothing_mapped entries names none unnamed =
    subst (λ (es : List Entry). IsEntryMap es names) (sym none)
    (subst (λ (ns : HeldNames). IsEntryMap [] ns) (sym unnamed)
    (record { held = nothing_held; index = record { exact = λ path uuid. refl; pathed = λ uuid. tt } }))

-- equal entries have equal names
pub same_mapped : (entries entries' : List Entry) (names names' : HeldNames) → entries' ≡ entries → names' ≡ names → IsEntryMap entries names → IsEntryMap entries' names'
same_mapped entries entries' names names' same alike is =
    subst (λ (es : List Entry). IsEntryMap es names') (sym same) (subst (λ (ns : HeldNames). IsEntryMap entries ns) (sym alike) is)

-- ---- changes from the last to the first

-- the changes from one on are that change and those after it
pub changes_from : (changes : List (Bor StagedChange)) (k : ℕ) (change : Bor StagedChange) → k < length changes → change ≡ get_or changes k change
    → changes_in (drop k changes) ≡ change_of change.now ∷ changes_in (drop (suc k) changes)
changes_from changes k change low is =
    ap changes_in (drop-cons changes k change low ∙ ap (λ (c : Bor StagedChange). c ∷ drop (suc k) changes) (sym is))

-- after the last change there is none
pub none_from : (changes : List (Bor StagedChange)) → changes_in (drop (length changes) changes) ≡ []
none_from [] = refl
none_from (c ∷ changes) = none_from changes

-- a change is of its own identity
pub keyed_in : (changes : List (Bor StagedChange)) → IsKeyed (changes_in changes)
keyed_in [] = tt
keyed_in (change ∷ changes) = (own change.now, keyed_in changes)
  where
    own : (change : StagedChange) → IsOwn (change_of change).0 (change_of change).1
    own (AddOrModify entry) = refl
    own (Delete uuid) = tt

-- some last changes are in ascending order too
pub rises_from : (changes : List (Bor StagedChange)) (k : ℕ) → rises (keys_of (changes_in changes)) ≡ true → rises (keys_of (changes_in (drop k changes))) ≡ true
rises_from [] zero up = up
rises_from [] (suc k) up = up
rises_from (c ∷ changes) zero up = up
rises_from (c ∷ changes) (suc k) up = rises_from changes k (tail_rises (change_of c.now).0 (keys_of (changes_in changes)) up)

-- no later change is of the identity of one
pub alone_from : (changes : List (Bor StagedChange)) (k : ℕ) (change : Bor StagedChange) → rises (keys_of (changes_in changes)) ≡ true → k < length changes → change ≡ get_or changes k change
    → slot (changes_in (drop (suc k) changes)) (change_of change.now).0 ≡ None
alone_from changes k change up low is =
    let rest = changes_in (drop (suc k) changes) in
    let all : rises (keys_of (change_of change.now ∷ rest)) ≡ true = ap (λ (s : Stage). rises (keys_of s)) (sym (changes_from changes k change low is)) ∙ rises_from changes k up in
    lookup_below rest (change_of change.now).0 (head_below (change_of change.now).0 (keys_of rest) all)

-- ---- what the entries weigh

light_filter : (test : Entry → Bool) (es : List Entry) → total_weight (filter test es) ≤ total_weight es
light_filter test [] = omega arith
light_filter test (e ∷ es) = by (test e) (light_filter test es)
  where
    by : (b : Bool) → total_weight (filter test es) ≤ total_weight es → total_weight (cond b (e ∷ filter test es) (filter test es)) ≤ total_weight (e ∷ es)
    by true less = omega (arith, less, sum_by-cons weight e (filter test es), sum_by-cons weight e es)
    by false less = omega (arith, less, sum_by-cons weight e es)

-- what a stage puts weighs as much as its first change, and the others
puts-cons : (c : ℕ × Option Entry) (stage : Stage) → total_weight (puts_of (c ∷ stage)) ≡ found_weight c.1 + total_weight (puts_of stage)
puts-cons c stage = by c.1 where
  by : (o : Option Entry) → total_weight (cons_option o (puts_of stage)) ≡ found_weight o + total_weight (puts_of stage)
  by None = omega arith
  by (Some e) = sum_by-cons weight e (puts_of stage)

-- what a stage leaves weighs no more than what was there and what it puts
light_effected : (held : List Entry) (stage : Stage) → ascends held ≡ true → total_weight (effected held stage) ≤ total_weight held + total_weight (puts_of stage)
light_effected held [] up = omega arith
light_effected held (c ∷ stage) up = by c.1 (light_effected held stage up) (puts-cons c stage)
  where
    by : (o : Option Entry) → total_weight (effected held stage) ≤ total_weight held + total_weight (puts_of stage) → total_weight (puts_of (c ∷ stage)) ≡ found_weight o + total_weight (puts_of stage)
        → total_weight (put_or_dropped (effected held stage) c.0 o) ≤ total_weight held + total_weight (puts_of (c ∷ stage))
    by None less puts = omega (arith, less, puts, light_filter (λ entry. not (is_identified c.0 entry)) (effected held stage))
    by (Some e) less puts = omega (arith, less, puts, total_put e (effected held stage) (ascends-effected stage held up))

-- what some last changes put weighs no more than what all of them do
puts_from : (changes : List (Bor StagedChange)) (k : ℕ) → total_weight (puts_of (changes_in (drop k changes))) ≤ total_weight (puts_of (changes_in changes))
puts_from [] zero = omega arith
puts_from [] (suc k) = omega arith
puts_from (c ∷ changes) zero = omega arith
puts_from (c ∷ changes) (suc k) = omega (arith, puts_from changes k, puts-cons (change_of c.now) (changes_in changes))

-- there is room for the weight of each change, with those after it in effect
pub light_from : (held : List Entry) (changes : List (Bor StagedChange)) (k : ℕ) (change : Bor StagedChange) → ascends held ≡ true
    → total_weight held ≤ most_weight → total_weight (puts_of (changes_in changes)) ≤ most_weight → k < length changes → change ≡ get_or changes k change
    → total_weight (effected held (changes_in (drop (suc k) changes))) + found_weight (change_of change.now).1 < 2 ^ 64
light_from held changes k change up light puts low is =
    let own = ap (λ s. total_weight (puts_of s)) (changes_from changes k change low is) ∙ puts-cons (change_of change.now) (changes_in (drop (suc k) changes)) in
    let all = puts_from changes k in
    let less = light_effected held (changes_in (drop (suc k) changes)) up in
    omega (arith, light, puts, own, all, less)

-- ---- room for them

few_filter : (test : Entry → Bool) (es : List Entry) → length (filter test es) ≤ length es
few_filter test [] = omega arith
few_filter test (e ∷ es) = by (test e) (few_filter test es)
  where
    by : (b : Bool) → length (filter test es) ≤ length es → length (cond b (e ∷ filter test es) (filter test es)) ≤ length (e ∷ es)
    by true less = omega (arith, less)
    by false less = omega (arith, less)

-- a stage leaves no more entries than there were and it puts
few_effected : (held : List Entry) (stage : Stage) → ascends held ≡ true → length (effected held stage) ≤ length held + length (puts_of stage)
few_effected held [] up = omega arith
few_effected held (c ∷ stage) up = by c.1 (few_effected held stage up)
  where
    by : (o : Option Entry) → length (effected held stage) ≤ length held + length (puts_of stage)
        → length (put_or_dropped (effected held stage) c.0 o) ≤ length held + length (cons_option o (puts_of stage))
    by None less = omega (arith, less, few_filter (λ entry. not (is_identified c.0 entry)) (effected held stage))
    by (Some e) less = omega (arith, less, length_put e (effected held stage) (ascends-effected stage held up))

-- what a stage leaves is within the limits where all that there was and that it puts is
pub fits_effected : (held : List Entry) (stage : Stage) → ascends held ≡ true → length held + length (puts_of stage) ≤ most_entries
    → total_weight held + total_weight (puts_of stage) ≤ most_weight → exceeds_limits (effected held stage) ≡ false
fits_effected held stage up few light =
    let count = few_effected held stage up in
    let weight = light_effected held stage up in
    within_limits (effected held stage) (omega (arith, few, count)) (omega (arith, light, weight))

-- ---- one change alone

-- it is all that the stage has
pub only : (changes : List (Bor StagedChange)) (change : Bor StagedChange) → length changes ≡ 1 → change ≡ get_or changes 0 change → changes_in changes ≡ change_of change.now ∷ []
only [] change one is = absurd (omega (arith, one))
only (c ∷ []) change one is = ap (λ (x : Bor StagedChange). change_of x.now ∷ []) (sym is)
only (c ∷ d ∷ changes) change one is = absurd (omega (arith, one))

-- there is room for what it weighs
pub light_alone : (held : List Entry) (stage : Stage) (c : ℕ × Option Entry) → stage ≡ c ∷ [] → against held ≡ None → total_weight (puts_of stage) ≤ most_weight
    → total_weight held + found_weight c.1 < 2 ^ 64
light_alone held stage c one within puts =
    let own = ap (λ (s : Stage). total_weight (puts_of s)) one ∙ puts-cons c [] in
    let light = (limits held (unopposed_within held within)).1 in
    omega (arith, light, puts, own)

-- what it leaves may be held, with the names that are noted then
pub mapped_after : (held after : List Entry) (names : HeldNames) (stage : Stage) (c : ℕ × Option Entry) → stage ≡ c ∷ [] → ascends held ≡ true → exceeds_limits (effected held stage) ≡ false
    → same_named (effected held stage) ≡ None → IsIndexOf names (effected held stage) → after ≡ put_or_dropped held c.0 c.1 → IsEntryMap after names
mapped_after held after names stage c one up room apart index is =
    let same : after ≡ effected held stage = is ∙ sym (ap (effected held) one) in
    record {
      held = after_held held after stage up (unopposed_apart (effected held stage) room apart) same;
      index = subst (λ (es : List Entry). IsIndexOf names es) (sym same) index;
    }
