-- Octet strings, numbers and Booleans: their reading is exact, and their canonical spelling is a spelling.
use Rattle.std.proofs.Common.{◌≡◌, ◌≢◌, ℕ, ◌<◌, ◌≤◌, ◌%◌, ◌^◌, true, false, leb, ◌&&◌, List, ◌++◌, Option, Some, None, Ok, ℤ, pos, negsuc, refl, ap, arith, FitsSigned}
use Rattle.std.specs.Int.{w64}
use Rattle.std.proofs.lemmas.Bool.Decides.{nat_tests}
use Rattle.ldap_ber.specs.Form.{OctetString, Integer, Boolean}
use Rattle.ldap_ber.specs.Reading.{octets_at, integer_at, boolean_at, default_at}
use Rattle.ldap_ber.specs.Canonical.{element, integer_octets}
use Rattle.ldap_ber.proofs.Steps.{guard_on, ok_is}
use Rattle.ldap_ber.proofs.SkipLemmas.{Begins-shorter}
use Rattle.ldap_ber.proofs.ExactLemmas.{Exact, Shortens, reworded_exact, octets_exact, integer_exact, boolean_exact, optional_exact, default_exact, meaning_exact}
use Rattle.ldap_ber.proofs.CanonicalLemmas.{Spelled, Anything, Always, Lacks, octets_spelled, optional_spelled, meaning_spelled, begins_with, option_sound}
use Rattle.ldap_ber.proofs.IntegerLemmas.{integer_spelled}
use Rattle.ldap_parts.specs.Faults.{place_of}
use Rattle.ldap_parts.specs.Components.{IsInRange, RangeForm, FlagForm, OptionForm, octet_string_at, number_at, boolean_value_at, flag_at, within, range_at, option_at, number_octets, string_octets}

-- ---- read

-- an octet string is read exactly where it is encoded so
pub octet_string_exact : (tag : ℕ) → Exact (OctetString tag) (octet_string_at tag)
octet_string_exact tag = reworded_exact place_of (OctetString tag) (octets_at tag) (octets_exact tag)

-- an octet string takes at least one byte
pub string_shortens : (tag : ℕ) → Shortens (OctetString tag)
string_shortens tag bytes x rest h = Begins-shorter bytes tag x rest h

-- so is an integer
pub number_exact : (tag : ℕ) → Exact (Integer tag) (number_at tag)
number_exact tag = reworded_exact place_of (Integer tag) (integer_at tag) (integer_exact tag)

-- so is a Boolean
pub boolean_value_exact : Exact (Boolean 1) boolean_value_at
boolean_value_exact = reworded_exact place_of (Boolean 1) (boolean_at 1) (boolean_exact 1)

-- the reading of a flag is exact
pub flag_exact : Exact FlagForm flag_at
flag_exact = reworded_exact place_of FlagForm (default_at 1 false (boolean_at 1)) (default_exact 1 false (Boolean 1) (boolean_at 1) (boolean_exact 1))

within_found : (least most place : ℕ) (number : ℤ) (value : ℕ) → within least most place number ≡ Ok value → IsInRange least most number value
within_found least most place (pos k) value h =
    let g = guard_on (leb least k && leb k most) place (Ok k) value h in
    let e = ok_is {E = ℕ} k value g.1 in
    let low : least ≤ k = grind (arith, nat_tests) in
    let high : k ≤ most = grind (arith, nat_tests) in
    (ap (λ (x : ℕ). pos x) e, omega arith, omega arith)
within_found least most place (negsuc k) value h = absurd cc

within_only : (least most place : ℕ) (number : ℤ) (value : ℕ) → IsInRange least most number value → within least most place number ≡ Ok value
within_only least most place number value h =
    let t : (leb least value && leb value most) ≡ true = grind (arith, nat_tests) in
    rw (h.0, t) refl

-- so is an integer within bounds
pub range_exact : (least most tag : ℕ) → Exact (RangeForm least most tag) (range_at least most tag)
range_exact least most tag = meaning_exact (IsInRange least most) (within least most) (Integer tag) (number_at tag) (within_found least most) (within_only least most) (number_exact tag)

-- so is an octet string that may be absent
pub option_exact : (tag : ℕ) → Exact (OptionForm tag) (option_at tag)
option_exact tag = optional_exact tag (OctetString tag) (octet_string_at tag) (octet_string_exact tag)

-- ---- written

-- what is written of an integer within its bounds is an encoding of it
pub range_spelled : (least most tag : ℕ) → tag % 32 ≢ 31 → most < 2 ^ 63 → Spelled (RangeForm least most tag) (number_octets tag) (λ value. (least ≤ value) × (value ≤ most)) Anything
range_spelled least most tag low few =
    meaning_spelled (IsInRange least most) (Integer tag) (λ number. element tag (integer_octets number)) (FitsSigned w64) Anything (λ value. pos value) (λ value. (least ≤ value) × (value ≤ most))
    (λ value fits. ((refl, fits.0, fits.1), omega arith)) (integer_spelled tag low)

-- so is what is written of an optional octet string, where no element with its tag follows
pub option_spelled : (tag : ℕ) → tag % 32 ≢ 31 → Spelled (OptionForm tag) (string_octets tag) (Always {X = Option (List ℕ)}) (Lacks tag)
option_spelled tag low = record {
  spells = λ option rest small sound after.
      (optional_spelled tag (OctetString tag) (element tag) (Always {X = List ℕ}) (octets_spelled tag low) (λ octets more. begins_with tag octets more)).spells option rest small (option_sound option) after;
}

-- an element of another tag comes next
pub other_next : (tag other : ℕ) (body rest : List ℕ) → other ≢ tag → Lacks tag (element other body ++ rest)
unfolding element
other_next tag other body rest ne e = ne cc

-- an optional string of another tag comes next, or what follows it
pub option_lacks : (tag other : ℕ) (option : Option (List ℕ)) (rest : List ℕ) → other ≢ tag → Lacks tag rest → Lacks tag (string_octets other option ++ rest)
option_lacks tag other None rest ne after = after
option_lacks tag other (Some octets) rest ne after = other_next tag other octets rest ne
