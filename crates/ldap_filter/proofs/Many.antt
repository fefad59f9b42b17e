-- Reading values one after another.
use Rattle.std.proofs.Common.{◌≡◌, ◌≢◌, ℕ, zero, suc, ◌+◌, ◌-◌, ◌<◌, ◌≤◌, Bool, true, List, [], ◌∷◌, ◌++◌, length, Result, Ok, Err, refl, ap, sym, ◌∙◌, arith, append_assoc}
use Rattle.ldap_filter.specs.declared.fault.FilterFault.{FilterFault}
use Rattle.ldap_filter.specs.Reading.{◌>>=◌, Reading, many_in, filter_in, enclosed_at}

-- values that were read before those of a reading
abbrev pub with_prefix : {X : Type 0} → List X → Result (List X × List ℕ) FilterFault → Result (List X × List ℕ) FilterFault
with_prefix prefix (Ok xs) = Ok (prefix ++ xs.0, xs.1)
with_prefix prefix (Err fault) = Err fault

prefix_more : {X : Type 0} (prefix : List X) (x : X) (r : Result (List X × List ℕ) FilterFault)
    → with_prefix (prefix ++ x ∷ []) r ≡ with_prefix prefix (r >>= λ xs. Ok (x ∷ xs.0, xs.1))
prefix_more prefix x (Ok xs) = rw append_assoc refl
prefix_more prefix x (Err fault) = refl

here : {X : Type 0} (begins : List ℕ → Bool) (f : Reading X) (prefix : List X) (m stop : ℕ) (bytes : List ℕ) (x : X) (rest : List ℕ)
    → begins bytes ≡ true → f stop bytes ≡ Ok (x, rest)
    → with_prefix (prefix ++ x ∷ []) (many_in begins f m stop rest) ≡ with_prefix prefix (many_in begins f (suc m) stop bytes)
here begins f prefix m stop bytes x rest goes gives = rw (goes, gives) (prefix_more prefix x (many_in begins f m stop rest))

-- a value that was read stands after those before it
pub many_goes_on : {X : Type 0} (begins : List ℕ → Bool) (f : Reading X) (prefix : List X) (most more stop : ℕ) (bytes : List ℕ) (x : X) (rest : List ℕ)
    → most ≡ suc more → begins bytes ≡ true → f stop bytes ≡ Ok (x, rest)
    → with_prefix (prefix ++ x ∷ []) (many_in begins f more stop rest) ≡ with_prefix prefix (many_in begins f most stop bytes)
many_goes_on begins f prefix most more stop bytes x rest counts goes gives =
    here begins f prefix more stop bytes x rest goes gives ∙ ap (λ m. with_prefix prefix (many_in begins f m stop bytes)) (sym counts)

-- one more value was read, which leaves less for the others
pub many_next : {X : Type 0} (begins : List ℕ → Bool) (f : Reading X) (prefix more : List X) (most k l stop after : ℕ) (bytes : List ℕ) (x : X) (rest : List ℕ) (r : Result (List X × List ℕ) FilterFault)
    → more ≡ prefix ++ x ∷ [] → l ≡ k + 1 → after ≡ stop → length rest < length bytes → length bytes + k ≤ most → begins bytes ≡ true
    → f stop bytes ≡ Ok (x, rest) → with_prefix prefix (many_in begins f (most - k) stop bytes) ≡ r
    → with_prefix more (many_in begins f (most - l) after rest) ≡ r
many_next begins f prefix more most k l stop after bytes x rest r longer counts same shorter room goes gives known =
    let less : most - k ≡ suc (most - (k + 1)) = omega arith in
    rw (longer, counts, same) (many_goes_on begins f prefix (most - k) (most - (k + 1)) stop bytes x rest less goes gives ∙ known)

-- a level for a filter is there
pub filter_in-some : (levels stop : ℕ) (bytes : List ℕ) → levels ≢ 0 → filter_in levels stop bytes ≡ enclosed_at (filter_in (levels - 1)) stop bytes
unfolding filter_in
filter_in-some zero stop bytes some = absurd (some refl)
filter_in-some (suc levels) stop bytes some =
    let less : levels ≡ suc levels - 1 = omega arith in ap (λ (n : ℕ). enclosed_at (filter_in n) stop bytes) less
