-- Values of which one alone is wanted.
use Rattle.std.proofs.Common.{◌≡◌, ℕ, ◌+◌, ◌<◌, ◌≤◌, List, [], ◌∷◌, ◌++◌, length, drop, get_or, Option, None, Some, ap, sym, ◌∙◌, refl, append_assoc, length-append, arith}
use Rattle.std.specs.Prelude.{option_to_list, Err}
use Rattle.ldap_constants.specs.declared.result_codes.TheConstants.{OBJECT_CLASS_VIOLATION}
use Rattle.schema_rules.specs.declared.raw.RawAttribute.{RawAttribute}
use Rattle.sync_wire.specs.Refusals.{bad_entry}
use Rattle.sync_wire.specs.WireEntry.{csn_of, one_csn, only_one, values_named}
use Rattle.sync_wire.proofs.Identified.{next_raw}

-- ---- the one value

-- the one value of at most one is that value
pub only_one-listed : (only : Option (List ℕ)) → only ≡ only_one (option_to_list only)
only_one-listed None = refl
only_one-listed (Some value) = refl

only_one-more : (values : List (List ℕ)) → 2 ≤ length values → None ≡ only_one values
only_one-more [] many = absurd (omega (arith, many))
only_one-more (value ∷ []) many = absurd (omega (arith, many))
only_one-more (value ∷ other ∷ values) many = refl

-- the CSN of the one value
pub one_csn-some : (values : List (List ℕ)) (value : List ℕ) → Some value ≡ only_one values → one_csn values ≡ csn_of value
one_csn-some [] value is = absurd (cc)
one_csn-some (one ∷ []) value is = let same : one ≡ value = cc in ap csn_of same
one_csn-some (one ∷ other ∷ values) value is = absurd (cc)

-- without one value there is no CSN
pub one_csn-none : (values : List (List ℕ)) → None ≡ only_one values → one_csn values ≡ Err (bad_entry OBJECT_CLASS_VIOLATION)
one_csn-none [] is = refl
one_csn-none (one ∷ []) is = absurd (cc)
one_csn-none (one ∷ other ∷ values) is = refl

-- ---- values that come after others

-- in a loop over the attributes: the values so far, and those after them, are all
pub only_goes_on : (name : List ℕ) (raws : List RawAttribute) (i : ℕ) (raw : RawAttribute) (only after : List (List ℕ)) → i < length raws → raw ≡ get_or raws i raw
    → only ++ values_named name (drop i raws) ≡ values_named name raws → after ≡ only ++ values_named name (raw ∷ [])
    → after ++ values_named name (drop (i + 1) raws) ≡ values_named name raws
only_goes_on name raws i raw only after low at before is =
    let values = values_named name (raw ∷ []) in
    let rest = values_named name (drop (i + 1) raws) in
    ap (λ (xs : List (List ℕ)). xs ++ rest) is
    ∙ append_assoc only values rest
    ∙ ap (λ (xs : List (List ℕ)). only ++ xs) (sym (next_raw name raws i raw low at))
    ∙ before

-- where there are two so far, there is no one
pub only_stops : (name : List ℕ) (raws : List RawAttribute) (i : ℕ) (raw : RawAttribute) (only : List (List ℕ)) → i < length raws → raw ≡ get_or raws i raw
    → only ++ values_named name (drop i raws) ≡ values_named name raws → 2 ≤ length (only ++ values_named name (raw ∷ []))
    → None ≡ only_one (values_named name raws)
only_stops name raws i raw only low at before many =
    let so_far = only ++ values_named name (raw ∷ []) in
    let rest = values_named name (drop (i + 1) raws) in
    let all : so_far ++ rest ≡ values_named name raws = only_goes_on name raws i raw only so_far low at before refl in
    only_one-more (values_named name raws) (omega (arith, many, length-append so_far rest, ap (length {A = List ℕ}) all))
