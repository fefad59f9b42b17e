-- Names that were read are names (RFC 4514, section 3).
use Rattle.std.proofs.Common.{◌≡◌, ◌≤◌, ◌-◌, ℕ, zero, suc, Bool, true, false, cond, nat_eq, nat_lt, List, [], ◌∷◌, length, Result, Ok, Err, refl, arith}
use Rattle.std.specs.List.{AllPass, list_any, slice_split, prefix_len, before_first}
use Rattle.std.proofs.lemmas.Bool.{ltb-false}
use Rattle.std.proofs.lemmas.List.Elements.{All-nil, All-cons}
use Rattle.dn_names.specs.declared.fault.NameFault.{NameFault}
use Rattle.dn_names.specs.declared.fault.NameFault.TheVariants.{BadName, TooLong}
use Rattle.dn_names.specs.Keys.{has_double}
use Rattle.dn_names.specs.Names.{TypeAndValue}
use Rattle.dn_names.specs.Reading.{and_then, with_first, is_plain, pairs_of, checked_rdn, rdn_of, first_rdn, after_comma, rdns_of, chars_of, chars_width, name_of_text, rdn_of_text}
use Rattle.dn_names.specs.Sound.{IsName, is_rdn, most_rdns, most_bytes}
use Rattle.dn_names.specs.Writing.{rdn_text}
use Rattle.dn_names.proofs.Pieces.{read_is_rdn}
use Rattle.directory_laws.proofs.Results.{value_is, past_test, read_past}

-- ---- one RDN

checked-sound : (place : ℕ) (ended : Bool) (chars : _) (pairs rdn : List TypeAndValue) → pairs_of place ended (slice_split (is_plain 43) chars) ≡ Ok pairs
    → checked_rdn place pairs ≡ Ok rdn → is_rdn rdn ≡ true
checked-sound place ended chars pairs rdn is read =
    let long : Bool = nat_lt most_bytes (length (rdn_text pairs)) in
    let rest : Result (List TypeAndValue) NameFault = cond long (Err (TooLong place)) (Ok pairs) in
    let single = past_test (has_double pairs) (BadName place) rest rdn read in
    let sized : rest ≡ Ok rdn = read_past (has_double pairs) (BadName place) rest rdn read in
    let fits : length (rdn_text pairs) ≤ most_bytes = ltb-false most_bytes (length (rdn_text pairs)) (past_test long (TooLong place) (Ok pairs) rdn sized) in
    rw (← value_is pairs rdn (read_past long (TooLong place) (Ok pairs) rdn sized)) (read_is_rdn place ended chars pairs is single fits)

rdn_of-sound : (place : ℕ) (ended : Bool) (chars : _) (rdn : List TypeAndValue) → rdn_of place ended chars ≡ Ok rdn → is_rdn rdn ≡ true
unfolding rdn_of
rdn_of-sound place ended chars rdn read =
    by (pairs_of place ended (slice_split (is_plain 43) chars)) refl
    (read_past (nat_lt 0 (prefix_len (is_plain 32) chars)) (BadName place) (and_then (pairs_of place ended (slice_split (is_plain 43) chars)) (checked_rdn place)) rdn read)
  where
    by : (pairs : Result (List TypeAndValue) NameFault) → pairs_of place ended (slice_split (is_plain 43) chars) ≡ pairs → and_then pairs (checked_rdn place) ≡ Ok rdn
        → is_rdn rdn ≡ true
    by (Err fault) is same = absurd (cc)
    by (Ok pairs) is same = checked-sound place ended chars pairs rdn is same

-- what is read as an RDN is one
pub rdn_of_text-sound : (text : List ℕ) (rdn : List TypeAndValue) → rdn_of_text text ≡ Ok rdn → is_rdn rdn ≡ true
unfolding rdn_of_text
rdn_of_text-sound text rdn read = rdn_of-sound 0 false (chars_of text) rdn read

-- ---- names

-- sound RDNs, and at most n
abbrev AreWithin : ℕ → List (List TypeAndValue) → Type 0
AreWithin room name = AllPass is_rdn name × (length name ≤ room)

first-sound : (room : ℕ) (more : Bool) (rdn : List TypeAndValue) (name : List (List TypeAndValue)) (rest : Result (List (List TypeAndValue)) NameFault) → is_rdn rdn ≡ true
    → ((rdns : List (List TypeAndValue)) → rest ≡ Ok rdns → AreWithin room rdns) → cond more (with_first rdn rest) (Ok (rdn ∷ [])) ≡ Ok name → AreWithin (suc room) name
first-sound room true rdn name (Err fault) sound later read = absurd (cc)
first-sound room true rdn name (Ok rdns) sound later read =
    let within = later rdns refl in
    rw (← value_is (rdn ∷ rdns) name read) (All-cons (λ r. is_rdn r ≡ true) rdn rdns sound within.0, omega (arith, within.1))
first-sound room false rdn name rest sound later read =
    rw (← value_is (rdn ∷ []) name read) (All-cons (λ r. is_rdn r ≡ true) rdn [] sound (All-nil (λ r. is_rdn r ≡ true)), omega arith)

rdns_of-sound : (room bytes : ℕ) (chars : _) (name : List (List TypeAndValue)) → rdns_of room bytes chars ≡ Ok name → AreWithin room name
unfolding rdns_of
rdns_of-sound zero bytes chars name read = by (first_rdn bytes chars) read
  where
    by : (one : Result (List TypeAndValue) NameFault) → and_then one (λ rdn. Err (TooLong (bytes - chars_width chars))) ≡ Ok name → AreWithin 0 name
    by (Err fault) same = absurd (cc)
    by (Ok rdn) same = absurd (cc)
rdns_of-sound (suc room) bytes chars name read = by (first_rdn bytes chars) refl (λ rdns is. rdns_of-sound room bytes (after_comma chars) rdns is) read
  where
    by : (one : Result (List TypeAndValue) NameFault) → first_rdn bytes chars ≡ one
        → ((rdns : List (List TypeAndValue)) → rdns_of room bytes (after_comma chars) ≡ Ok rdns → AreWithin room rdns)
        → and_then one (λ rdn. cond (list_any (is_plain 44) chars) (with_first rdn (rdns_of room bytes (after_comma chars))) (Ok (rdn ∷ []))) ≡ Ok name
        → AreWithin (suc room) name
    by (Err fault) is later same = absurd (cc)
    by (Ok rdn) is later same =
        first-sound room (list_any (is_plain 44) chars) rdn name (rdns_of room bytes (after_comma chars))
        (rdn_of-sound (bytes - chars_width chars) (list_any (is_plain 44) chars) (before_first (is_plain 44) chars) rdn is) later same

-- what is read as a name is one
pub name_of_text-sound : (text : List ℕ) (name : List (List TypeAndValue)) → name_of_text text ≡ Ok name → IsName name
unfolding name_of_text
name_of_text-sound text name read = by (nat_eq (length text) 0) read
  where
    by : (empty : Bool) → cond empty (Ok []) (rdns_of most_rdns (length text) (chars_of text)) ≡ Ok name → IsName name
    by true same =
        rw (← value_is [] name same) (record { rdns = All-nil (λ r. is_rdn r ≡ true); few = omega arith })
    by false same =
        let within = rdns_of-sound most_rdns (length text) (chars_of text) name same in
        record { rdns = within.0; few = within.1 }
