-- What stands after a written name, by the place where it ends.
use Rattle.std.proofs.Common.{◌≡◌, ℕ, ◌+◌, ◌<◌, ◌≤◌, ◌==◌, Bool, true, false, cond, nat_lt, List, [], length, drop, Some, None, refl, sym, ap, subst, arith}
use Rattle.std.specs.Prelude.{position}
use Rattle.std.specs.List.{after_first, position_or_len}
use Rattle.std.proofs.lemmas.Bool.{ltb-false}
use Rattle.std.proofs.lemmas.List.{drop_all}
use Rattle.std.proofs.lemmas.List.Quantifiers.{position-Some}
use Rattle.std.proofs.lemmas.Option.{none-some, same_Some}

abbrev ends : ℕ → Bool
ends byte = byte == 0

-- a name ends within the text
pub end_within : (named : List ℕ) (end : ℕ) → position (λ byte. byte == 0) named ≡ Some end → end < length named
end_within named end found = (position-Some ends named end 0 found).0

-- what stands after its end stands after the first zero
pub after_end : (named : List ℕ) (end : ℕ) → position (λ byte. byte == 0) named ≡ Some end
    → drop (end + 1) named ≡ after_first (λ byte. byte == 0) named
after_end named end found = by (nat_lt (position_or_len ends named) (length named)) refl
  where
    by : (b : Bool) → nat_lt (position_or_len ends named) (length named) ≡ b → drop (end + 1) named ≡ after_first ends named
    by true low =
        let same : Some (position_or_len ends named) ≡ Some end =
        subst (λ b. cond b (Some (position_or_len ends named)) None ≡ Some end) low found in
        ap (λ n. drop (n + 1) named) (sym (same_Some (position_or_len ends named) end same))
    by false high =
        absurd (none-some end (subst (λ b. cond b (Some (position_or_len ends named)) None ≡ Some end) high found))

-- where it does not end, nothing stands after it
pub after_none : (named : List ℕ) → position (λ byte. byte == 0) named ≡ None → [] ≡ after_first (λ byte. byte == 0) named
after_none named found = by (nat_lt (position_or_len ends named) (length named)) refl
  where
    by : (b : Bool) → nat_lt (position_or_len ends named) (length named) ≡ b → [] ≡ after_first ends named
    by true low =
        absurd (none-some (position_or_len ends named)
        (sym (subst (λ b. cond b (Some (position_or_len ends named)) None ≡ None) low found)))
    by false high =
        let long : length named ≤ position_or_len ends named = ltb-false (position_or_len ends named) (length named) high in
        sym (drop_all (position_or_len ends named + 1) named (omega (arith, long)))
