-- How many entries are staged, what they weigh, and whether there is room for one more.
use Rattle.std.proofs.Common.{◌≡◌, ◌<◌, ◌≤◌, ◌+◌, ◌-◌, ◌^◌, ℕ, Bool, true, false, nat_lt, nat_le, nat_eq, cond, not, [], ◌∷◌, length, min, Option, Some, None, refl, sym, ap, ◌∙◌, ◌⊎◌, inl, inr, arith}
use Rattle.std.specs.Prelude.{◌||◌}
use Rattle.std.specs.List.{cons_option}
use Rattle.std.specs.Map.{keys_of}
use Rattle.std.specs.Option.{option_and_then}
use Rattle.std.proofs.lemmas.Bool.{lt-ltb, le-ltb, cases_lt}
use Rattle.std.proofs.lemmas.Bool.Decides.{nat_tests}
use Rattle.std.proofs.lemmas.List.Sums.{sum_by-cons}
use Rattle.schema_rules.specs.Attributes.{weight_of}
use Rattle.entry_tree.specs.declared.entry.Entry.{Entry}
use Rattle.entry_tree.specs.State.{found_weight, total_weight, most_entries, most_weight}
use Rattle.sync_model.specs.Copy.{Stage, slot, staged, puts_of}
use Rattle.sync_model.specs.Within.{exceeds_limits}
use Rattle.entry_tree.specs.Touched.{rises}
use Rattle.sync_consumer.specs.Staging.{count_of, entry_staged}
use Rattle.sync_consumer.proofs.Keyed.{total, at_slot, total-staged_each}
use Rattle.sync_consumer.proofs.Stages.{limits, within_limits}

abbrev counts : ℕ × Option Entry → ℕ
counts c = count_of c.1

abbrev weighs : ℕ × Option Entry → ℕ
weighs c = found_weight c.1

abbrev heavy : Entry → ℕ
heavy e = weight_of e.attrs

length-puts : (stage : Stage) → length (puts_of stage) ≡ total count_of stage
length-puts [] = refl
length-puts (c ∷ stage) = step c.1 (length-puts stage) ∙ sym (sum_by-cons counts c stage) where
  step : (o : Option Entry) → length (puts_of stage) ≡ total count_of stage → length (cons_option o (puts_of stage)) ≡ count_of o + total count_of stage
  step None ih = omega (arith, ih)
  step (Some e) ih = omega (arith, ih)

weight-puts : (stage : Stage) → total_weight (puts_of stage) ≡ total found_weight stage
weight-puts [] = refl
weight-puts (c ∷ stage) = step c.1 (weight-puts stage) ∙ sym (sum_by-cons weighs c stage) where
  step : (o : Option Entry) → total_weight (puts_of stage) ≡ total found_weight stage → total_weight (cons_option o (puts_of stage)) ≡ found_weight o + total found_weight stage
  step None ih = omega (arith, ih)
  step (Some e) ih = omega (arith, ih, sum_by-cons heavy e (puts_of stage))

slot_total : (s : Option (Option Entry)) → (at_slot count_of s ≡ count_of (option_and_then (λ entry. entry) s)) × (at_slot found_weight s ≡ found_weight (option_and_then (λ entry. entry) s))
slot_total None = (refl, refl)
slot_total (Some o) = (refl, refl)

-- an entry that is staged is one of those that are, and weighs no more than they
pub staged_least : (stage : Stage) (u : ℕ) → (count_of (entry_staged stage u) ≤ length (puts_of stage)) × (found_weight (entry_staged stage u) ≤ total_weight (puts_of stage))
staged_least [] u = (omega arith, omega arith)
staged_least (c ∷ stage) u = by (nat_eq u c.0) c.1 (staged_least stage u)
  where
    by : (b : Bool) (o : Option Entry) → (count_of (entry_staged stage u) ≤ length (puts_of stage)) × (found_weight (entry_staged stage u) ≤ total_weight (puts_of stage))
        → (count_of (option_and_then (λ entry. entry) (cond b (Some o) (slot stage u))) ≤ length (cons_option o (puts_of stage)))
        × (found_weight (option_and_then (λ entry. entry) (cond b (Some o) (slot stage u))) ≤ total_weight (cons_option o (puts_of stage)))
    by true None rest = (omega arith, omega arith)
    by true (Some e) rest = (omega arith, omega (arith, sum_by-cons heavy e (puts_of stage)))
    by false None rest = rest
    by false (Some e) rest = let n = rest.0 in let w = rest.1 in (omega (arith, n), omega (arith, w, sum_by-cons heavy e (puts_of stage)))

-- how many entries are staged with one more change
pub staged_count : (stage : Stage) (u : ℕ) (o : Option Entry) → rises (keys_of stage) ≡ true
    → length (puts_of (staged u o stage)) + count_of (entry_staged stage u) ≡ length (puts_of stage) + count_of o
staged_count stage u o up =
    let slots = slot_total (slot stage u) in
    let more = total-staged_each count_of stage u o up in
    let after = length-puts (staged u o stage) in
    let now = length-puts stage in
    omega (arith, slots.0, more, after, now)

-- and what they weigh
pub staged_weight : (stage : Stage) (u : ℕ) (o : Option Entry) → rises (keys_of stage) ≡ true
    → total_weight (puts_of (staged u o stage)) + found_weight (entry_staged stage u) ≡ total_weight (puts_of stage) + found_weight o
staged_weight stage u o up =
    let slots = slot_total (slot stage u) in
    let more = total-staged_each found_weight stage u o up in
    let after = weight-puts (staged u o stage) in
    let now = weight-puts stage in
    omega (arith, slots.1, more, after, now)

-- a stage keeps within the limits where an identity loses its entry
pub dropped_within : (stage : Stage) (u : ℕ) → rises (keys_of stage) ≡ true → exceeds_limits (puts_of stage) ≡ false → exceeds_limits (puts_of (staged u None stage)) ≡ false
dropped_within stage u up within =
    let count = staged_count stage u None up in
    let weight = staged_weight stage u None up in
    let now = limits (puts_of stage) within in
    within_limits (puts_of (staged u None stage)) (omega (arith, count, now.0)) (omega (arith, weight, now.1))

-- ---- room for an entry

-- by what is counted and weighed without the entry of the identity
crowded_with : (stage : Stage) (entry : Entry) (n w : ℕ) → rises (keys_of stage) ≡ true
    → n + count_of (entry_staged stage entry.uuid) ≡ length (puts_of stage) → w + found_weight (entry_staged stage entry.uuid) ≡ total_weight (puts_of stage)
    → exceeds_limits (puts_of (staged entry.uuid (Some entry) stage)) ≡ (nat_lt most_entries (n + 1) || nat_lt most_weight (w + weight_of entry.attrs))
crowded_with stage entry n w up few light =
    let count = staged_count stage entry.uuid (Some entry) up in
    let weight = staged_weight stage entry.uuid (Some entry) up in
    let now : length (puts_of (staged entry.uuid (Some entry) stage)) ≡ n + 1 = omega (arith, few, count) in
    let all : total_weight (puts_of (staged entry.uuid (Some entry) stage)) ≡ w + weight_of entry.attrs = omega (arith, light, weight) in
    λ i. nat_lt most_entries (now i) || nat_lt most_weight (all i)

-- a stage has room for an entry where count and weight allow it
pub room_by_weight : (stage : Stage) (entry : Entry) (n w : ℕ) → rises (keys_of stage) ≡ true
    → n + count_of (entry_staged stage entry.uuid) ≡ length (puts_of stage) → w + found_weight (entry_staged stage entry.uuid) ≡ total_weight (puts_of stage) → n < most_entries
    → (own all : ℕ) → own ≡ min (weight_of entry.attrs) (2 ^ 64 - 1) → all ≡ min (w + own) (2 ^ 64 - 1)
    → nat_le all most_weight ≡ not (exceeds_limits (puts_of (staged entry.uuid (Some entry) stage)))
room_by_weight stage entry n w up few light less own all its whole =
    turned all
    ∙ ap not (same (cases_lt most_weight (w + weight_of entry.attrs)))
    ∙ sym (ap not (crowded_with stage entry n w up few light ∙ ap (λ b. b || nat_lt most_weight (w + weight_of entry.attrs)) (le-ltb most_entries (n + 1) (omega (arith, less)))))
  where
    turned : (m : ℕ) → nat_le m most_weight ≡ not (nat_lt most_weight m)
    turned m = grind (arith, nat_tests)

    same : (most_weight < w + weight_of entry.attrs) ⊎ (w + weight_of entry.attrs ≤ most_weight) → nat_lt most_weight all ≡ nat_lt most_weight (w + weight_of entry.attrs)
    same (inl more) =
        lt-ltb most_weight all (omega (arith, more, its, whole)) ∙ sym (lt-ltb most_weight (w + weight_of entry.attrs) more)
    same (inr within) =
        le-ltb most_weight all (omega (arith, within, its, whole)) ∙ sym (le-ltb most_weight (w + weight_of entry.attrs) within)

-- a stage has no room for an entry where it puts the most entries already
pub no_room : (stage : Stage) (entry : Entry) (n w : ℕ) → rises (keys_of stage) ≡ true
    → n + count_of (entry_staged stage entry.uuid) ≡ length (puts_of stage) → w + found_weight (entry_staged stage entry.uuid) ≡ total_weight (puts_of stage) → most_entries ≤ n
    → false ≡ not (exceeds_limits (puts_of (staged entry.uuid (Some entry) stage)))
no_room stage entry n w up few light more =
    sym (ap not (crowded_with stage entry n w up few light)
    ∙ ap (λ b. not (b || nat_lt most_weight (w + weight_of entry.attrs))) (lt-ltb most_entries (n + 1) (omega (arith, more))))
