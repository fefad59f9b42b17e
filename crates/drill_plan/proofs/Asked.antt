-- A client may ask for each operation of a drill.
use Rattle.std.proofs.Common.{◌≡◌, ℕ, ◌%◌, ◌^◌, ◌<◌, ◌==◌, Bool, true, false, refl, sym, subst, arith}
use Rattle.entry_writes.specs.declared.op.Op.{Op}
use Rattle.entry_writes.specs.Sound.{is_commit, is_sound_op}
use Rattle.drill_plan.specs.Numbers.{slot_of, kind_of}
use Rattle.drill_plan.specs.Operations.{WriterState, drawn, is_present, change, operation, add_suffix, add_unit}
use Rattle.drill_plan.proofs.Sounds.{suffix_sound, unit_sound, entry_sound, surname_edit_sound, department_edit_sound}

-- a client may ask for it
abbrev pub IsAsked : Op → Type 0
IsAsked op = (is_sound_op op ≡ true) × (is_commit op ≡ false)

-- a client may ask for the suffix
pub suffix_asked : IsAsked add_suffix
suffix_asked = (suffix_sound, refl)

-- and for the unit of each writer
pub unit_asked : (writer : ℕ) → writer < 8 → IsAsked (add_unit writer)
unit_asked writer small = (unit_sound writer small, refl)

change_asked : (w : WriterState) (kind : ℕ) → w.step < 2 ^ 64 → IsAsked (change w kind)
change_asked w kind small = by (kind == 0) (kind == 1) (kind == 2) refl refl refl
  where
    by : (a b c : Bool) → (kind == 0) ≡ a → (kind == 1) ≡ b → (kind == 2) ≡ c → IsAsked (change w kind)
    by true b c is_a is_b is_c = rw is_a (refl, refl)
    by false true c is_a is_b is_c = rw (is_a, is_b) (department_edit_sound (w.step % 4) (omega arith), refl)
    by false false true is_a is_b is_c = rw (is_a, is_b, is_c) (refl, refl)
    by false false false is_a is_b is_c = rw (is_a, is_b, is_c) (surname_edit_sound w.step small, refl)

-- the operation for the number that was drawn
operation_asked : (w : WriterState) → w.step < 2 ^ 64 → IsAsked (operation w)
operation_asked w small = by (is_present w) refl
  where
    low_slot : (number : ℕ) → slot_of number < 64
    low_slot number = omega arith

    low_kind : (number : ℕ) → kind_of number < 2 ^ 64
    low_kind number = omega arith

    by : (b : Bool) → is_present w ≡ b → IsAsked (operation w)
    by true there = rw there (change_asked w (kind_of w.number) small)
    by false none =
        rw none (entry_sound (slot_of w.number) w.step (kind_of w.number) (low_slot w.number) small (low_kind w.number), refl)

-- and so the next one
pub next_asked : (w : WriterState) → w.step < 2 ^ 16 → IsAsked (operation (drawn w))
next_asked w low = operation_asked (drawn w) (let small : w.step < 2 ^ 16 = low in omega (arith, small))

-- what is such an operation
pub asked_as : (op planned : Op) → op ≡ planned → IsAsked planned → IsAsked op
asked_as op planned same asked = subst IsAsked (sym same) asked
