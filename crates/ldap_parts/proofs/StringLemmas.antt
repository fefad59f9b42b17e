-- Lists of octet strings: their reading is exact, and their canonical spelling is a spelling.
use Rattle.std.proofs.Common.{◌≡◌, ◌≢◌, ℕ, ◌<◌, ◌%◌, List, [], ◌∷◌, ◌++◌, length, Ok, Err, refl, ◌∙◌, arith}
use Rattle.std.specs.List.{AllByRecursion}
use Rattle.ldap_ber.specs.Form.{OctetString}
use Rattle.ldap_ber.specs.Reading.{many_at}
use Rattle.ldap_ber.specs.Canonical.{element}
use Rattle.ldap_ber.proofs.ManyLemmas.{Advances, with_prefix, many_next, many_none, many_goes_on, many_fails, many_ended}
use Rattle.ldap_ber.proofs.ExactLemmas.{Exact, list_exact, advances}
use Rattle.ldap_ber.proofs.CanonicalLemmas.{Spelled, Anything, Always, octets_spelled, list_spelled}
use Rattle.ldap_parts.specs.Faults.{place_of}
use Rattle.ldap_parts.specs.Components.{StringsForm, octet_string_at, strings_at, strings_from_first, strings_octets}
use Rattle.ldap_parts.proofs.ComponentLemmas.{octet_string_exact, string_shortens}

-- a list of octet strings is read exactly where it is encoded so
pub strings_exact : (tag : ℕ) → Exact (StringsForm tag) (strings_at tag)
strings_exact tag = list_exact place_of tag (OctetString 4) (octet_string_at 4) (octet_string_exact 4) (string_shortens 4)

string_advances : Advances (octet_string_at 4)
string_advances = advances (OctetString 4) (octet_string_at 4) (octet_string_exact 4) (string_shortens 4)

-- one that was read stands after those before it
pub strings_go_on : (prefix : List (List ℕ)) (stop : ℕ) (bytes : List ℕ) (x : List ℕ) (rest : List ℕ) → 0 < length bytes → octet_string_at 4 stop bytes ≡ Ok (x, rest)
    → with_prefix (prefix ++ x ∷ []) (many_at (octet_string_at 4) stop rest) ≡ with_prefix prefix (many_at (octet_string_at 4) stop bytes)
strings_go_on prefix stop bytes x rest some h = many_goes_on (octet_string_at 4) string_advances prefix stop bytes x rest some h

-- where one is refused, all are
pub strings_fail : (prefix : List (List ℕ)) (stop : ℕ) (bytes : List ℕ) (e : ℕ) → 0 < length bytes → octet_string_at 4 stop bytes ≡ Err e → with_prefix prefix (many_at (octet_string_at 4) stop bytes) ≡ Err e
strings_fail prefix stop bytes e some h = many_fails (octet_string_at 4) string_advances prefix stop bytes e some h

-- the first string and the others
pub strings_first : (stop : ℕ) (bytes : List ℕ) (x : List ℕ) (rest : List ℕ) → 0 < length bytes → octet_string_at 4 stop bytes ≡ Ok (x, rest)
    → many_at (octet_string_at 4) stop bytes ≡ strings_from_first x stop rest
strings_first stop [] x rest some h = absurd (omega arith)
strings_first stop (b ∷ bytes) x rest some h = rw (many_next (octet_string_at 4) string_advances stop b bytes, h) refl

-- so it is where the first one is
pub strings_refused : (stop : ℕ) (bytes : List ℕ) (e : ℕ) → 0 < length bytes → octet_string_at 4 stop bytes ≡ Err e → many_at (octet_string_at 4) stop bytes ≡ Err e
strings_refused stop [] e some h = absurd (omega arith)
strings_refused stop (b ∷ bytes) e some h = rw (many_next (octet_string_at 4) string_advances stop b bytes, h) refl

-- no byte spells no strings
pub strings_none : (stop : ℕ) (bytes : List ℕ) → length bytes ≡ 0 → many_at (octet_string_at 4) stop bytes ≡ Ok []
strings_none stop [] none = many_none (octet_string_at 4) stop
strings_none stop (b ∷ bytes) none = absurd (omega arith)

-- the first string where no byte is left after it
pub strings_only : (stop : ℕ) (bytes : List ℕ) (x : List ℕ) (rest : List ℕ) → 0 < length bytes → octet_string_at 4 stop bytes ≡ Ok (x, rest) → length rest ≡ 0
    → many_at (octet_string_at 4) stop bytes ≡ Ok (x ∷ [])
strings_only stop bytes x rest some h none = strings_first stop bytes x rest some h ∙ rw (strings_none stop rest none) refl

-- where no byte is left, they are those that were read
pub strings_end : (prefix : List (List ℕ)) (stop : ℕ) (bytes : List ℕ) → length bytes ≡ 0 → with_prefix prefix (many_at (octet_string_at 4) stop bytes) ≡ Ok prefix
strings_end prefix stop bytes none = many_ended (octet_string_at 4) prefix stop bytes none

-- what holds of each value holds of all values of a list
pub all_sound : {X : Type 0} (F : X → Type 0) → ((x : X) → F x) → (xs : List X) → AllByRecursion F xs
all_sound F h [] = tt
all_sound F h (x ∷ xs) = (h x, all_sound F h xs)

-- what is written of a list of octet strings is an encoding of it
pub strings_spelled : (tag : ℕ) → tag % 32 ≢ 31 → Spelled (StringsForm tag) (strings_octets tag) (Always {X = List (List ℕ)}) Anything
strings_spelled tag low = record {
  spells = λ xs rest small sound after.
      (list_spelled tag (OctetString 4) (element 4) (Always {X = List ℕ}) low (octets_spelled 4 (omega arith))).spells xs rest small (all_sound (Always {X = List ℕ}) (λ x. tt) xs) after;
}
