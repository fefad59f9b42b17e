-- Entries against which nothing is: their names are apart, and a directory may have them.
use Rattle.std.proofs.Common.{◌≡◌, Bool, true, false, not, ◌&&◌, cond, List, [], ◌∷◌, ℕ, Option, Some, None, refl}
use Rattle.std.specs.Prelude.{is_none, option_map}
use Rattle.std.specs.List.{All}
use Rattle.std.proofs.lemmas.List.Elements.{All-nil, All-cons, All-head, All-tail, All-weaker}
use Rattle.dn_names.specs.Names.{same_name}
use Rattle.dn_names.proofs.EqualNames.{name_sym}
use Rattle.entry_tree.specs.declared.entry.Entry.{Entry}
use Rattle.entry_tree.specs.Fitting.{is_directory_content}
use Rattle.entry_tree.specs.State.{exceeds_limits, is_named, entry_named, same_named}
use Rattle.sync_model.specs.Copy.Fault.{StageFull, DuplicateName}
use Rattle.sync_model.specs.Copy.{Fault}
use Rattle.sync_model.specs.Within.{against}
use Rattle.sync_model.proofs.Limits.{option_or-none, option_map-none}
use Rattle.sync_consumer.specs.Committing.{HaveUniqueNames}

-- ---- no two of one name

abbrev Differs : Entry → Entry → Type 0
Differs one other = same_name one.dn other.dn ≡ true → one ≡ other

-- none of these has the name
none_has : (e : Entry) (es : List Entry) → entry_named es e.dn ≡ None → All (λ (x : Entry). is_named e.dn x ≡ false) es
none_has e [] none = All-nil (λ (x : Entry). is_named e.dn x ≡ false)
none_has e (x ∷ es) none = by (is_named e.dn x) refl none (none_has e es) where
  by : (named : Bool) → is_named e.dn x ≡ named → cond named (Some x) (entry_named es e.dn) ≡ None → (entry_named es e.dn ≡ None → All (λ (y : Entry). is_named e.dn y ≡ false) es)
      → All (λ (y : Entry). is_named e.dn y ≡ false) (x ∷ es)
  by true is found rest = absurd (cc)
  by false is found rest = All-cons (λ (y : Entry). is_named e.dn y ≡ false) x es is (rest found)

apart_from : (e x : Entry) → is_named e.dn x ≡ false → Differs e x
apart_from e x off same = let named : is_named e.dn x ≡ true = name_sym e.dn x.dn same in absurd (cc)

apart_to : (e x : Entry) → is_named e.dn x ≡ false → Differs x e
apart_to e x off same = absurd (cc)

-- where none of the others has its name, it may stand before them
with_first : (e : Entry) (es all : List Entry) → All (λ (x : Entry). is_named e.dn x ≡ false) es → All (λ (one : Entry). All (Differs one) all) es → All (λ (one : Entry). All (Differs one) (e ∷ all)) es
with_first e [] all off rest = All-nil (λ (one : Entry). All (Differs one) (e ∷ all))
with_first e (x ∷ es) all off rest =
    All-cons (λ (one : Entry). All (Differs one) (e ∷ all)) x es
    (All-cons (Differs x) e all (apart_to e x (All-head (λ (y : Entry). is_named e.dn y ≡ false) x es off)) (All-head (λ (one : Entry). All (Differs one) all) x es rest))
    (with_first e es all (All-tail (λ (y : Entry). is_named e.dn y ≡ false) x es off) (All-tail (λ (one : Entry). All (Differs one) all) x es rest))

-- entries of which no two have one name are named apart
pub all_apart : (es : List Entry) → same_named es ≡ None → HaveUniqueNames es
all_apart [] none = All-nil (λ (one : Entry). All (Differs one) [])
all_apart (e ∷ es) none =
    let p = option_or-none (option_map (λ (other : Entry). (e.uuid, other.uuid)) (entry_named es e.dn)) (same_named es) none in
    let off : All (λ (x : Entry). is_named e.dn x ≡ false) es = none_has e es (option_map-none (λ (other : Entry). (e.uuid, other.uuid)) (entry_named es e.dn) p.0) in
    All-cons (λ (one : Entry). All (Differs one) (e ∷ es)) e es
    (All-cons (Differs e) e es (λ same. refl) (All-weaker (λ (x : Entry). is_named e.dn x ≡ false) (Differs e) (apart_from e) es off))
    (with_first e es es off (all_apart es p.1))

-- ---- by what rejects them

abbrev by_name : Option (ℕ × ℕ) → Option Fault
by_name pair = option_map (λ (p : ℕ × ℕ). DuplicateName p.0 p.1) pair

-- entries that a directory may have are named apart
pub named_apart : (es : List Entry) → against es ≡ None → HaveUniqueNames es
named_apart es none = all_apart es (by (exceeds_limits es) (same_named es) none) where
  by : (crowded : Bool) (pair : Option (ℕ × ℕ)) → cond crowded (Some StageFull) (by_name pair) ≡ None → pair ≡ None
  by true pair h = absurd (cc)
  by false None h = refl
  by false (Some pair) h = absurd (cc)

-- entries that no limit refuses may be held
pub held_allowed : (es : List Entry) → against es ≡ None → is_directory_content es ≡ true
held_allowed es none = by (exceeds_limits es) (same_named es) none where
  by : (crowded : Bool) (pair : Option (ℕ × ℕ)) → cond crowded (Some StageFull) (by_name pair) ≡ None → (not crowded && is_none pair) ≡ true
  by true pair h = absurd (cc)
  by false None h = refl
  by false (Some pair) h = absurd (cc)
