-- What rejects entries that a directory may not have.
use Rattle.std.proofs.Common.{◌≡◌, ℕ, Bool, true, false, not, ◌&&◌, cond, nat_lt, List, length, Option, Some, None, refl, ap, ◌∙◌}
use Rattle.std.specs.Prelude.{is_none, option_map}
use Rattle.std.proofs.lemmas.Bool.{lt-ltb, or_left, or_right}
use Rattle.entry_tree.specs.declared.commit.CommitRefusal.{CommitRefusal}
use Rattle.entry_tree.specs.declared.commit.CommitRefusal.TheVariants.{TooMany, TooHeavy, SameName, NoMemory}
use Rattle.entry_tree.specs.declared.entry.Entry.{Entry}
use Rattle.entry_tree.specs.Fitting.{is_directory_content, IsCauseOf}
use Rattle.entry_tree.specs.State.{exceeds_limits, same_named, most_entries, most_weight, total_weight}
use Rattle.sync_model.specs.Copy.Fault.{StageFull, DuplicateName}
use Rattle.sync_model.specs.Copy.{Fault}
use Rattle.sync_model.specs.Within.{against}
use Rattle.sync_consumer.specs.SyncSession.{RefusesBy}
use Rattle.sync_consumer.specs.Taking.{refusal_against}

abbrev by_name : Option (ℕ × ℕ) → Option Fault
by_name pair = option_map (λ (p : ℕ × ℕ). DuplicateName p.0 p.1) pair

crowded : (entries : List Entry) → exceeds_limits entries ≡ true → against entries ≡ Some StageFull
crowded entries many = ap (λ b. cond b (Some StageFull) (by_name (same_named entries))) many

-- a refusal of entries is the first limit that they pass
pub opposed : (entries : List Entry) (found : CommitRefusal) → IsCauseOf entries found → RefusesBy (against entries) (refusal_against found)
opposed entries TooMany many =
    (StageFull, crowded entries (or_left (nat_lt most_entries (length entries)) (nat_lt most_weight (total_weight entries)) (lt-ltb most_entries (length entries) many)), refl)
opposed entries TooHeavy heavy =
    (StageFull, crowded entries (or_right (nat_lt most_entries (length entries)) (nat_lt most_weight (total_weight entries)) (lt-ltb most_weight (total_weight entries) heavy.1)), refl)
opposed entries (SameName one other) same = (
  DuplicateName one other,
  ap (λ b. cond b (Some StageFull) (by_name (same_named entries))) same.0 ∙ ap by_name same.1,
  refl,
)
opposed entries NoMemory none = tt

-- entries that may be held pass no limit
pub unopposed : (entries : List Entry) → is_directory_content entries ≡ true → against entries ≡ None
unopposed entries held = by (exceeds_limits entries) (same_named entries) held
  where
    by : (b : Bool) (pair : Option (ℕ × ℕ)) → (not b && is_none pair) ≡ true → cond b (Some StageFull) (by_name pair) ≡ None
    by true pair h = absurd (cc)
    by false None h = refl
    by false (Some pair) h = absurd (cc)

-- entries within the limits, no two of which have one name, pass none
pub unopposed_apart : (entries : List Entry) → exceeds_limits entries ≡ false → same_named entries ≡ None → against entries ≡ None
unopposed_apart entries few apart = ap (λ b. cond b (Some StageFull) (by_name (same_named entries))) few ∙ ap by_name apart

-- entries that pass no limit are within them
pub unopposed_within : (entries : List Entry) → against entries ≡ None → exceeds_limits entries ≡ false
unopposed_within entries none = by (exceeds_limits entries) none
  where
    by : (b : Bool) → cond b (Some StageFull) (by_name (same_named entries)) ≡ None → b ≡ false
    by true h = absurd (cc)
    by false h = refl
