-- Attributes that were read are a list that a client may give (RFC 4511, section 4.7).
use Rattle.std.proofs.Common.{◌≡◌, ◌≢◌, ◌≤◌, ◌+◌, ℕ, zero, suc, Bool, true, false, not, cond, List, [], ◌∷◌, ◌++◌, length, take, get_or, Option, Some, None, Result, Ok, Err, refl, subst, arith}
use Rattle.std.specs.Option.{option_map}
use Rattle.std.specs.List.{All, list_all, list_any, filter_map, cons_option}
use Rattle.std.proofs.lemmas.Bool.{and_parts, and_from, or_parts, not_from_false}
use Rattle.std.proofs.lemmas.List.{take_more, take_all}
use Rattle.std.proofs.lemmas.List.Elements.{All-nil, All-cons, All-get_or}
use Rattle.ldap_constants.specs.declared.result_codes.TheConstants.{ATTRIBUTE_OR_VALUE_EXISTS}
use Rattle.schema_rules.specs.declared.attributes.Attribute.{Attribute}
use Rattle.schema_rules.specs.declared.raw.RawAttribute.{RawAttribute}
use Rattle.schema_rules.specs.Attributes.{IsAttributeList, is_given, is_sound, repeats_value, typed, typed_code, raw_code, first_code, joined, without_duplicates, read_joined, read_attributes}
use Rattle.schema_rules.specs.Schema.{type_named}
use Rattle.schema_rules.proofs.Joined.{joined-push}
use Rattle.schema_rules.proofs.Joining.{IsAttributeList-with_values, is_given-with_values}
use Rattle.schema_rules.proofs.Reading.{none_given, none_filled}
use Rattle.directory_laws.proofs.NewRdn.{IsGivenList}
use Rattle.directory_laws.proofs.Results.{none_first, none_second, value_is}

-- an attribute with values that a client may give
record IsGiven (a : Attribute) : Type 0 where
  given : is_given a ≡ true
  filled : a.values ≢ []

given-typed : (raws : List RawAttribute) → first_code raws ≡ None → All IsGiven (filter_map typed raws)
given-typed [] none = All-nil IsGiven
given-typed (raw ∷ raws) none =
    by (type_named raw.name) (none_first (raw_code raw) (first_code raws) none) (given-typed raws (none_second (raw_code raw) (first_code raws) none))
  where
    by : (found : Option ℕ) → typed_code found raw.values ≡ None → All IsGiven (filter_map typed raws)
        → All IsGiven (cons_option (option_map (λ kind. let a : Attribute = record { kind = kind; values = raw.values } in a) found) (filter_map typed raws))
    by None code rest = rest
    by (Some kind) code rest =
        All-cons IsGiven (record { kind = kind; values = raw.values }) (filter_map typed raws)
        (record { given = none_given kind raw.values code; filled = none_filled kind raw.values code }) rest

-- ---- joined by their types

nothing : IsGivenList []
nothing = record {
  list = record { once = λ i j d before within. absurd (omega arith); filled = All-nil (λ (a : Attribute). a.values ≢ []) };
  given = refl;
}

IsGivenList-push : (xs : List Attribute) (a : Attribute) → IsGiven a → IsGivenList (joined xs) → IsGivenList (joined (xs ++ a ∷ []))
IsGivenList-push xs a fine held =
    rw (joined-push xs a) (record {
      list = IsAttributeList-with_values (joined xs) a.kind a.values held.list fine.filled;
      given = is_given-with_values (joined xs) a.kind a.values held.given fine.given;
    })

IsGivenList-prefix : (xs : List Attribute) (n : ℕ) → n ≤ length xs → All IsGiven xs → IsGivenList (joined (take n xs))
IsGivenList-prefix xs zero within all = nothing
IsGivenList-prefix xs (suc n) within all =
    let d : Attribute = record { kind = 0; values = [] } in
    let on : suc n ≡ n + 1 = omega arith in
    rw (on, take_more xs n d (omega arith))
    (IsGivenList-push (take n xs) (get_or xs n d) (All-get_or IsGiven xs n d (omega arith) all) (IsGivenList-prefix xs n (omega arith) all))

IsGivenList-joined : (xs : List Attribute) → All IsGiven xs → IsGivenList (joined xs)
IsGivenList-joined xs all =
    let P : List Attribute → Type 0 = λ ys. IsGivenList (joined ys) in
    subst P (take_all (length xs) xs (omega arith)) (IsGivenList-prefix xs (length xs) (omega arith) all)

-- ---- without duplicates

sound-given : (attrs : List Attribute) → list_all is_given attrs ≡ true → list_any repeats_value attrs ≡ false → list_all is_sound attrs ≡ true
sound-given [] given apart = refl
sound-given (a ∷ attrs) given apart =
    let first = and_parts (is_given a) (list_all is_given attrs) given in
    let other = or_parts (repeats_value a) (list_any repeats_value attrs) apart in
    and_from (is_sound a) (list_all is_sound attrs) (and_from (is_given a) (not (repeats_value a)) first.0 (not_from_false (repeats_value a) other.0))
    (sound-given attrs first.1 other.1)

-- each type once, with values that a client may give, no two of which are equal
pub record IsSoundList (attrs : List Attribute) : Type 0 where
  pub list : IsAttributeList attrs
  pub sound : list_all is_sound attrs ≡ true

IsSoundList-apart : (attrs read : List Attribute) → IsGivenList attrs → without_duplicates attrs ≡ Ok read → IsSoundList read
IsSoundList-apart attrs read held same = by (list_any repeats_value attrs) refl same
  where
    by : (duplicates : Bool) → list_any repeats_value attrs ≡ duplicates → cond {A = Result (List Attribute) ℕ} duplicates (Err ATTRIBUTE_OR_VALUE_EXISTS) (Ok attrs) ≡ Ok read → IsSoundList read
    by true is e = absurd (cc)
    by false is e =
        rw (← value_is attrs read e) (record { list = held.list; sound = sound-given attrs held.given is })

-- attributes that are read are sound
pub read_attributes-sound : (raws : List RawAttribute) (attrs : List Attribute) → read_attributes raws ≡ Ok attrs → IsSoundList attrs
unfolding read_attributes
read_attributes-sound raws attrs read = by (first_code raws) refl read
  where
    by : (code : Option ℕ) → first_code raws ≡ code → read_joined code (joined (filter_map typed raws)) ≡ Ok attrs → IsSoundList attrs
    by (Some code) is same = absurd (cc)
    by None is same = IsSoundList-apart (joined (filter_map typed raws)) attrs (IsGivenList-joined (filter_map typed raws) (given-typed raws is)) same
