-- What stays as it was where the operation for a number was done.
use Rattle.std.proofs.Common.{◌≡◌, ◌==◌, Bool, true, false, refl}
use Rattle.drill_plan.specs.Numbers.{kind_of}
use Rattle.drill_plan.specs.Operations.{WriterState, is_present, after_operation}

-- the writer
pub same_writer : (w : WriterState) → (after_operation w).writer ≡ w.writer
same_writer w = by (is_present w) (kind_of w.number == 0) (kind_of w.number == 2) refl refl refl
  where
    by : (a b c : Bool) → is_present w ≡ a → (kind_of w.number == 0) ≡ b → (kind_of w.number == 2) ≡ c
        → (after_operation w).writer ≡ w.writer
    by false b c is_a is_b is_c = rw is_a refl
    by true true c is_a is_b is_c = rw (is_a, is_b) refl
    by true false true is_a is_b is_c = rw (is_a, is_b, is_c) refl
    by true false false is_a is_b is_c = rw (is_a, is_b, is_c) refl
