-- What a filter keeps of a directory.
use Rattle.std.proofs.Common.{◌≡◌, ◌+◌, ◌-◌, ℕ, Bool, true, not, nat_lt, List, [], ◌∷◌, length, ap, refl, arith}
use Rattle.std.specs.List.{filter}
use Rattle.std.proofs.lemmas.Bool.{and_parts, and_from, cond_both}
use Rattle.std.proofs.lemmas.List.Filters.{length-filter_both, sum_by-filter_both}
use Rattle.schema_rules.specs.Attributes.{weight_of}
use Rattle.entry_writes.specs.declared.entry.Entry.{Entry}
use Rattle.entry_writes.specs.Effects.{is_one_of}
use Rattle.entry_writes.specs.State.{ascends, total_weight, IsDirectory}
use Rattle.entry_writes.proofs.Identities.{above}
use Rattle.entry_writes.proofs.Passing.{list_all-filter}

-- some of the entries above an identity are above it
pub above_filter : (p : Entry → Bool) (u : ℕ) (es : List Entry) → above u es ≡ true → above u (filter p es) ≡ true
above_filter p u es h = list_all-filter (λ (later : Entry). nat_lt u later.uuid) p es h

-- some of ascending entries ascend
pub ascends_filter : (p : Entry → Bool) (es : List Entry) → ascends es ≡ true → ascends (filter p es) ≡ true
ascends_filter p [] h = refl
ascends_filter p (e ∷ es) h =
    let parts = and_parts (above e.uuid es) (ascends es) h in
    let rest = ascends_filter p es parts.1 in
    cond_both (p e) (e ∷ filter p es) (filter p es) (λ xs. ascends xs ≡ true)
    (λ _. and_from (above e.uuid (filter p es)) (ascends (filter p es)) (above_filter p e.uuid es parts.0) rest) (λ _. rest)

-- without identities that are dropped all stay
pub none_dropped : (drops : List ℕ) (es : List Entry) → length drops ≡ 0 → filter (λ e. not (is_one_of drops e)) es ≡ es
none_dropped [] [] none = refl
none_dropped [] (e ∷ es) none = ap (λ xs. e ∷ xs) (none_dropped [] es none)
none_dropped (u ∷ drops) es none = absurd (omega (arith, none))

-- what goes and what is left weigh as much as all
pub total_parts : (p : Entry → Bool) (es : List Entry) → total_weight (filter p es) + total_weight (filter (λ e. not (p e)) es) ≡ total_weight es
total_parts p es = sum_by-filter_both p (λ e. not (p e)) (λ _. refl) (λ (e : Entry). weight_of e.attrs) es

-- a directory without the entries that pass
pub without_passing : (p : Entry → Bool) (es : List Entry) (weight : ℕ) → IsDirectory es weight
    → IsDirectory (filter (λ e. not (p e)) es) (weight - total_weight (filter p es))
without_passing p es weight h =
    let parts = total_parts p es in
    let weighed = h.weighed in
    let few = h.few in
    let light = h.light in
    let fewer = length-filter_both p (λ e. not (p e)) (λ _. refl) es in
    record {
      ascends = ascends_filter (λ e. not (p e)) es h.ascends;
      weighed = omega (arith, parts, weighed);
      few = omega (arith, few, fewer);
      light = omega (arith, light);
    }
