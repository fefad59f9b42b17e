-- How many operations a schedule has: as many as its plan.
use Rattle.std.proofs.Common.{◌≡◌, ℕ, zero, suc, ◌+◌, ◌*◌, ◌<◌, ◌≤◌, if◌then◌else◌, List, [], ◌∷◌, length, refl, sym, ap, ◌∙◌, ⊎_elim, arith}
use Rattle.std.proofs.lemmas.Bool.{cases_eq, cases_lt, eq-eqb, ne_eqb}
use Rattle.std.proofs.lemmas.List.{length-append, length-map}
use Rattle.entry_writes.specs.declared.op.Write.{Write}
use Rattle.drill_plan.specs.declared.plan.DrillPlan.{DrillPlan}
use Rattle.drill_plan.specs.Ending.{AreOf, IsInRange, IsSchedule}
use Rattle.drill_plan.specs.Operations.{WriterState, drawn, first_state, after_operation, operations, writer_operations, operations_of_first, all_operations}
use Rattle.drill_plan.specs.Schedule.{NumberedWrites, operations_by}

-- ---- sums

sums_kept : (a b c d : ℕ) → a ≡ c → b ≡ d → a + b ≡ c + d
sums_kept a b c d first second = omega (arith, first, second)

sums_of_one_more : (a b c d : ℕ) → a ≡ suc c → b ≡ d → a + b ≡ suc (c + d)
sums_of_one_more a b c d first second = omega (arith, first, second)

sums_with_one_more : (a b c d : ℕ) → a ≡ c → b ≡ suc d → a + b ≡ suc (c + d)
sums_with_one_more a b c d first second = omega (arith, first, second)

nothing_more : (a : ℕ) → a ≡ 0 → a + 0 ≡ 0
nothing_more a none = omega (arith, none)

few_more : (all before own size n : ℕ) → all ≡ before + suc own → own ≡ size → size ≤ 2000 → before ≤ n * 2001
    → all ≤ suc n * 2001
few_more all before own size n sum is small low = omega (arith, sum, is, small, low)

few_in_all : (all writers : ℕ) → all ≤ writers * 2001 → writers ≤ 8 → suc all < 1000000
few_in_all all writers low few = omega (arith, low, few)

-- ---- the operations of each writer

-- below the next number and another one
pub lower : (k n : ℕ) → k < suc n → (k ≡ n → ⊥) → k < n
lower k n low far = ⊎_elim (λ (less : k < n). less) (λ (high : n ≤ k). absurd (far (omega (arith, low, high)))) (cases_lt k n)

-- a write of the writer's own, and one of another
pub own_by : (writer : ℕ) (w : ℕ × Write) (numbered : NumberedWrites) → w.0 ≡ writer
    → operations_by writer (w ∷ numbered) ≡ w.1.op ∷ operations_by writer numbered
own_by writer w numbered same =
    ap (λ b. if b then w.1.op ∷ operations_by writer numbered else operations_by writer numbered) (eq-eqb w.0 writer same)

-- an operation of another writer is none of this one's
pub other_by : (writer : ℕ) (w : ℕ × Write) (numbered : NumberedWrites) → (w.0 ≡ writer → ⊥)
    → operations_by writer (w ∷ numbered) ≡ operations_by writer numbered
other_by writer w numbered far =
    ap (λ b. if b then w.1.op ∷ operations_by writer numbered else operations_by writer numbered) (ne_eqb w.0 writer far)

-- how many those of the first n writers are together
abbrev counted_by : ℕ → NumberedWrites → ℕ
counted_by zero numbered = 0
counted_by (suc n) numbered = counted_by n numbered + length (operations_by n numbered)

none_counted : (n : ℕ) → counted_by n [] ≡ 0
none_counted zero = refl
none_counted (suc n) = nothing_more (counted_by n []) (none_counted n)

other_counted : (n : ℕ) (w : ℕ × Write) (numbered : NumberedWrites) → n ≤ w.0
    → counted_by n (w ∷ numbered) ≡ counted_by n numbered
other_counted zero w numbered high = refl
other_counted (suc n) w numbered high =
    sums_kept (counted_by n (w ∷ numbered)) (length (operations_by n (w ∷ numbered))) (counted_by n numbered)
    (length (operations_by n numbered)) (other_counted n w numbered (omega (arith, high)))
    (ap length (other_by n w numbered (λ same. omega (arith, high, same))))

one_counted : (n : ℕ) (w : ℕ × Write) (numbered : NumberedWrites) → w.0 < n
    → counted_by n (w ∷ numbered) ≡ suc (counted_by n numbered)
one_counted zero w numbered low = absurd (omega (arith, low))
one_counted (suc n) w numbered low =
    ⊎_elim
    (λ (same : w.0 ≡ n).
    sums_with_one_more (counted_by n (w ∷ numbered)) (length (operations_by n (w ∷ numbered))) (counted_by n numbered)
    (length (operations_by n numbered)) (other_counted n w numbered (omega (arith, same))) (ap length (own_by n w numbered same)))
    (λ (far : w.0 ≡ n → ⊥).
    sums_of_one_more (counted_by n (w ∷ numbered)) (length (operations_by n (w ∷ numbered))) (counted_by n numbered)
    (length (operations_by n numbered)) (one_counted n w numbered (lower w.0 n low far)) (ap length (other_by n w numbered far)))
    (cases_eq w.0 n)

all_counted : (n : ℕ) (numbered : NumberedWrites) → AreOf n numbered → counted_by n numbered ≡ length numbered
all_counted n [] of = none_counted n
all_counted n (w ∷ numbered) of = one_counted n w numbered of.0 ∙ ap suc (all_counted n numbered of.1)

planned_counted : (plan : DrillPlan) (numbered : NumberedWrites) (n : ℕ)
    → ((writer : ℕ) → writer < n → operations_by writer numbered ≡ writer_operations plan writer)
    → counted_by n numbered ≡ length (operations_of_first plan n)
planned_counted plan numbered zero each = refl
planned_counted plan numbered (suc n) each =
    sums_kept (counted_by n numbered) (length (operations_by n numbered)) (length (operations_of_first plan n))
    (length (writer_operations plan n)) (planned_counted plan numbered n (λ writer low. each writer (omega (arith, low))))
    (ap length (each n (omega arith)))
    ∙ sym (length-append (operations_of_first plan n) (writer_operations plan n))

-- a schedule has as many writes as its plan has operations
pub as_many : (plan : DrillPlan) (writes : List Write) → IsSchedule plan writes → length writes ≡ length (all_operations plan)
as_many plan writes schedule =
    ap length schedule.is
    ∙ ap suc
    (length-map schedule.numbered (λ (w : ℕ × Write). w.1)
    ∙ sym (all_counted plan.writers schedule.numbered schedule.writers)
    ∙ planned_counted plan schedule.numbered plan.writers schedule.each)

-- ---- the operations of a plan

operations_counted : (n : ℕ) (w : WriterState) → length (operations n w) ≡ n
operations_counted zero w = refl
operations_counted (suc n) w = ap suc (operations_counted n (after_operation (drawn w)))

first_few : (plan : DrillPlan) → plan.size ≤ 2000 → (n : ℕ) → length (operations_of_first plan n) ≤ n * 2001
first_few plan small zero = omega arith
first_few plan small (suc n) =
    few_more (length (operations_of_first plan (suc n))) (length (operations_of_first plan n))
    (length (operations plan.size (first_state plan.seed n))) plan.size n
    (length-append (operations_of_first plan n) (writer_operations plan n))
    (operations_counted plan.size (first_state plan.seed n)) small (first_few plan small n)

-- a plan within its ranges has few operations
pub few_operations : (plan : DrillPlan) → IsInRange plan → length (all_operations plan) < 1000000
few_operations plan range =
    few_in_all (length (operations_of_first plan plan.writers)) plan.writers (first_few plan range.size plan.writers) range.writers
