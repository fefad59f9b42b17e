-- Reading a list piece by piece.
use Rattle.std.proofs.Math.Bool.{or-false}
use Rattle.std.proofs.Common.{◌≡◌, ◌≢◌, ℕ, zero, suc, ◌+◌, ◌-◌, ◌<◌, ◌≤◌, Bool, true, false, not, ◌||◌, nat_lt, nat_eq, List, [], ◌∷◌, ◌++◌, length, Option, Some, None, is_some, option_and_then, if◌then◌else◌, Result, Ok, Err, refl, sym, ap, arith, append_assoc, length-append}
use Rattle.std.specs.List.{list_any, list_all, slice_split, before_first, after_first, prefix_len, position_or_len}
use Rattle.std.proofs.lemmas.List.Splits.{length-slice_split}
use Rattle.std.proofs.lemmas.List.Sums.{sum_by-take-drop}
use Rattle.std.proofs.lemmas.Grind.{elements}
use Rattle.std.proofs.lemmas.Bool.{and_from, or_right, lt-ltb, le-ltb, le-leb, ne_eqb}
use Rattle.schema_rules.specs.Keys.{key_of}
use Rattle.dn_names.specs.Names.{TypeAndValue}
use Rattle.dn_names.specs.Keys.{has_double}
use Rattle.dn_names.specs.Writing.{rdn_text}
use Rattle.dn_names.specs.Sound.{has_key, is_rdn, IsName}
use Rattle.dn_names.specs.declared.fault.NameFault.{NameFault}
use Rattle.dn_names.specs.declared.fault.NameFault.TheVariants.{BadName, UnknownType, TooLong, NoMemory}
use Rattle.dn_names.specs.declared.name_chars.NameChar.{NameChar}
use Rattle.dn_names.specs.declared.name_chars.NameChar.TheVariants.{Stray}
use Rattle.dn_names.specs.Reading.{IsNameFault, and_then, with_first, or_bad, is_plain, pair_of, pair_at, pairs_of, type_of, value_of, value_chars, octets_of_chars, is_empty, first_rdn, rdns_of, after_comma, chars_width, char_width, chars_of, rdn_of, checked_rdn, name_of_text}
use Rattle.dn_names.proofs.Cuts.{slice_split-some, slice_split-none, before_first-none}

-- the items before what the rest is read as
abbrev pub with_all : {A : Type 0} → List A → Result (List A) NameFault → Result (List A) NameFault
with_all items (Ok more) = Ok (items ++ more)
with_all items (Err fault) = Err fault

-- an item that was read stands after those before it
pub with_all-push : {A : Type 0} (items : List A) (item : A) (read : Result (List A) NameFault) → with_all items (with_first item read) ≡ with_all (items ++ item ∷ []) read
with_all-push items item (Ok more) = ap Ok (sym (append_assoc items (item ∷ []) more))
with_all-push items item (Err fault) = refl

-- where each fault of the one is the other's
pub IsFaultOf-along : {A B : Type 0} (one : Result A NameFault) (other : Result B NameFault) (fault : NameFault)
    → ((f : NameFault) → one ≡ Err f → other ≡ Err f) → IsNameFault one fault → IsNameFault other fault
IsFaultOf-along one other (BadName place) along same = along (BadName place) same
IsFaultOf-along one other (UnknownType place) along same = along (UnknownType place) same
IsFaultOf-along one other (TooLong place) along same = along (TooLong place) same
IsFaultOf-along one other NoMemory along same = tt

filled : {A : Type 0} (parts : List A) → length parts ≢ 0 → not (is_empty parts) ≡ true
filled [] some = absurd (some refl)
filled (part ∷ parts) some = refl

split_filled : (chars : List NameChar) → length (slice_split (is_plain 43) chars) ≢ 0
split_filled chars = omega (arith, length-slice_split (is_plain 43) chars)

pairs_of-more : (place : ℕ) (ended : Bool) (chars : List NameChar) → list_any (is_plain 43) chars ≡ true
    → pairs_of place ended (slice_split (is_plain 43) chars)
    ≡ and_then (pair_of place true (before_first (is_plain 43) chars)) (λ pair. with_first pair (pairs_of place ended (slice_split (is_plain 43) (after_first (is_plain 43) chars))))
pairs_of-more place ended chars more =
    rw (slice_split-some (is_plain 43) Stray chars more, filled (slice_split (is_plain 43) (after_first (is_plain 43) chars)) (split_filled (after_first (is_plain 43) chars)), or_right ended true refl) refl

pairs_of-last : (place : ℕ) (ended : Bool) (chars : List NameChar) → list_any (is_plain 43) chars ≡ false
    → pairs_of place ended (slice_split (is_plain 43) chars) ≡ and_then (pair_of place ended (before_first (is_plain 43) chars)) (λ pair. Ok (pair ∷ []))
pairs_of-last place ended chars none = rw (slice_split-none (is_plain 43) chars none, or-false ended, before_first-none (is_plain 43) chars none) refl

-- ---- a step of the loop over the pairs

module _ (place : ℕ) (ended : Bool) (whole : Result (List TypeAndValue) NameFault) (pairs : List TypeAndValue) (rest : List NameChar)
    (so_far : whole ≡ with_all pairs (pairs_of place ended (slice_split (is_plain 43) rest))) where
  -- a pair before a plus sign is read, and the pairs after it are left
  pub next_pair : list_any (is_plain 43) rest ≡ true → (pair : TypeAndValue) → pair_of place true (before_first (is_plain 43) rest) ≡ Ok pair
      → whole ≡ with_all (pairs ++ pair ∷ []) (pairs_of place ended (slice_split (is_plain 43) (after_first (is_plain 43) rest)))
  next_pair more pair read =
      rw (so_far, pairs_of-more place ended rest more, read) (with_all-push pairs pair (pairs_of place ended (slice_split (is_plain 43) (after_first (is_plain 43) rest))))

  -- a pair that is refused refuses the RDN
  pub next_fault : list_any (is_plain 43) rest ≡ true → (fault : NameFault) → pair_of place true (before_first (is_plain 43) rest) ≡ Err fault → whole ≡ Err fault
  next_fault more fault read = rw (so_far, pairs_of-more place ended rest more, read) refl

  -- the last pair is read, and with it all of them
  pub last_pair : list_any (is_plain 43) rest ≡ false → (pair : TypeAndValue) → pair_of place ended (before_first (is_plain 43) rest) ≡ Ok pair → whole ≡ Ok (pairs ++ pair ∷ [])
  last_pair none pair read = rw (so_far, pairs_of-last place ended rest none, read) refl

  -- so does the last one
  pub last_fault : list_any (is_plain 43) rest ≡ false → (fault : NameFault) → pair_of place ended (before_first (is_plain 43) rest) ≡ Err fault → whole ≡ Err fault
  last_fault none fault read = rw (so_far, pairs_of-last place ended rest none, read) refl

  -- a pair before a plus sign that is refused is the fault of the RDN
  pub next_refused : list_any (is_plain 43) rest ≡ true → (fault : NameFault) → IsNameFault (pair_of place true (before_first (is_plain 43) rest)) fault → IsNameFault whole fault
  next_refused more fault refused = IsFaultOf-along (pair_of place true (before_first (is_plain 43) rest)) whole fault (next_fault more) refused

  -- the last pair that is refused is the fault of the RDN
  pub last_refused : list_any (is_plain 43) rest ≡ false → (fault : NameFault) → IsNameFault (pair_of place ended (before_first (is_plain 43) rest)) fault → IsNameFault whole fault
  last_refused none fault refused = IsFaultOf-along (pair_of place ended (before_first (is_plain 43) rest)) whole fault (last_fault none) refused

-- ---- what was read has a key

value_of-keyed : (kind : ℕ) (chars : List NameChar) (value : List ℕ) → value_of kind chars ≡ Some value → is_some (key_of kind value) ≡ true
value_of-keyed kind chars value read = checked (octets_of_chars chars) read
  where
    tested : (octets : List ℕ) (keyed : Bool) → is_some (key_of kind octets) ≡ keyed → (if keyed then Some octets else None) ≡ Some value → is_some (key_of kind value) ≡ true
    tested octets true is_keyed same = let one : octets ≡ value = (cc) in rw (← one) is_keyed
    tested octets false is_keyed same = (cc)

    checked : (read : Option (List ℕ)) → option_and_then (λ octets. if is_some (key_of kind octets) then Some octets else None) read ≡ Some value → is_some (key_of kind value) ≡ true
    checked None same = (cc)
    checked (Some octets) same = tested octets (is_some (key_of kind octets)) refl same

pair_at-keyed : (place : ℕ) (ended : Bool) (chars : List NameChar) (pair : TypeAndValue) → pair_at place ended chars ≡ Ok pair → has_key pair ≡ true
pair_at-keyed place ended chars pair read = typed (type_of place (before_first (is_plain 61) chars)) read
  where
    valued : (kind : ℕ) (value : Option (List ℕ)) → value_of kind (value_chars ended (after_first (is_plain 61) chars)) ≡ value
        → and_then (or_bad place value) (λ v. Ok (record { kind = kind; value = v })) ≡ Ok pair → has_key pair ≡ true
    valued kind None is_value same = (cc)
    valued kind (Some value) is_value same =
        let one : (record { kind = kind; value = value }) ≡ pair = (cc) in
        rw (← one) (value_of-keyed kind (value_chars ended (after_first (is_plain 61) chars)) value is_value)

    typed : (kind : Result ℕ NameFault)
        → and_then kind (λ k. and_then (or_bad place (value_of k (value_chars ended (after_first (is_plain 61) chars)))) (λ v. Ok (record { kind = k; value = v }))) ≡ Ok pair
        → has_key pair ≡ true
    typed (Err fault) same = (cc)
    typed (Ok kind) same = valued kind (value_of kind (value_chars ended (after_first (is_plain 61) chars))) refl same

pair_of-keyed : (place : ℕ) (ended : Bool) (chars : List NameChar) (pair : TypeAndValue) → pair_of place ended chars ≡ Ok pair → has_key pair ≡ true
pair_of-keyed place ended chars pair read = cut (list_any (is_plain 61) chars) read
  where
    cut : (some : Bool) → (if some then pair_at place ended chars else Err (BadName place)) ≡ Ok pair → has_key pair ≡ true
    cut true same = pair_at-keyed place ended chars pair same
    cut false same = (cc)

-- each pair that was read has a key, and each part gave one
first_keyed : (place : ℕ) (ended : Bool) (part : List NameChar) (pairs : List TypeAndValue) (count : ℕ) (one : Result TypeAndValue NameFault) (rest : Result (List TypeAndValue) NameFault)
    → pair_of place ended part ≡ one → ((more : List TypeAndValue) → rest ≡ Ok more → (list_all has_key more ≡ true) × (length more ≡ count))
    → and_then one (λ pair. with_first pair rest) ≡ Ok pairs → (list_all has_key pairs ≡ true) × (length pairs ≡ suc count)
first_keyed place ended part pairs count (Err fault) rest is_one later same = (cc)
first_keyed place ended part pairs count (Ok pair) (Err fault) is_one later same = (cc)
first_keyed place ended part pairs count (Ok pair) (Ok more) is_one later same =
    let all : pair ∷ more ≡ pairs = (cc) in
    let rest = later more refl in
    rw (← all) (and_from (has_key pair) (list_all has_key more) (pair_of-keyed place ended part pair is_one) rest.0, ap suc rest.1)

-- each pair that was read has a key, and there are as many as parts
pub pairs_of-keyed : (place : ℕ) (ended : Bool) (parts : List (List NameChar)) (pairs : List TypeAndValue) → pairs_of place ended parts ≡ Ok pairs
    → (list_all has_key pairs ≡ true) × (length pairs ≡ length parts)
pairs_of-keyed place ended [] pairs read = let none : [] ≡ pairs = (cc) in rw (← none) (refl, refl)
pairs_of-keyed place ended (part ∷ parts) pairs read =
    first_keyed place (ended || not (is_empty parts)) part pairs (length parts) (pair_of place (ended || not (is_empty parts)) part) (pairs_of place ended parts)
    refl (λ more is_more. pairs_of-keyed place ended parts more is_more) read

-- ---- a step of the loop over the RDNs

-- an RDN before a comma is the first of the name
pub rdns_of-more : (room bytes : ℕ) (chars : List NameChar) (rdn : List TypeAndValue) → list_any (is_plain 44) chars ≡ true → first_rdn bytes chars ≡ Ok rdn
    → rdns_of (suc room) bytes chars ≡ with_first rdn (rdns_of room bytes (after_comma chars))
unfolding rdns_of
rdns_of-more room bytes chars rdn more read = rw (read, more) refl

-- an RDN without a comma is all of the name
pub rdns_of-last : (room bytes : ℕ) (chars : List NameChar) (rdn : List TypeAndValue) → list_any (is_plain 44) chars ≡ false → first_rdn bytes chars ≡ Ok rdn
    → rdns_of (suc room) bytes chars ≡ Ok (rdn ∷ [])
unfolding rdns_of
rdns_of-last room bytes chars rdn none read = rw (read, none) refl

rdns_of-full : (bytes : ℕ) (chars : List NameChar) (rdn : List TypeAndValue) → first_rdn bytes chars ≡ Ok rdn → rdns_of 0 bytes chars ≡ Err (TooLong (bytes - chars_width chars))
unfolding rdns_of
rdns_of-full bytes chars rdn read = rw read refl

rdns_of-fault : (room bytes : ℕ) (chars : List NameChar) (fault : NameFault) → first_rdn bytes chars ≡ Err fault → rdns_of room bytes chars ≡ Err fault
unfolding rdns_of
rdns_of-fault zero bytes chars fault read = rw read refl
rdns_of-fault (suc room) bytes chars fault read = rw read refl

module _ (bytes : ℕ) (whole : Result (List (List TypeAndValue)) NameFault) (rdns : List (List TypeAndValue)) (rest : List NameChar)
    (so_far : whole ≡ with_all rdns (rdns_of (32 - length rdns) bytes rest)) where
  -- an RDN before a comma is read, and the RDNs after it are left
  pub next_rdn : (rdn : List TypeAndValue) (all : List (List TypeAndValue)) → all ≡ rdns ++ rdn ∷ [] → length rdns < 32 → list_any (is_plain 44) rest ≡ true
      → first_rdn bytes rest ≡ Ok rdn → whole ≡ with_all all (rdns_of (32 - length all) bytes (after_comma rest))
  next_rdn rdn all is_all room more read =
      let before : 32 - length rdns ≡ suc (31 - length rdns) = omega arith in
      let after : 32 - length (rdns ++ rdn ∷ []) ≡ 31 - length rdns = omega (arith, length-append rdns (rdn ∷ [])) in
      rw (is_all, after, so_far, before, rdns_of-more (31 - length rdns) bytes rest rdn more read)
      (with_all-push rdns rdn (rdns_of (31 - length rdns) bytes (after_comma rest)))

  -- the last RDN is read, and with it the name
  pub last_rdn : (rdn : List TypeAndValue) (all : List (List TypeAndValue)) → all ≡ rdns ++ rdn ∷ [] → length rdns < 32 → list_any (is_plain 44) rest ≡ false
      → first_rdn bytes rest ≡ Ok rdn → whole ≡ Ok all
  last_rdn rdn all is_all room none read =
      let before : 32 - length rdns ≡ suc (31 - length rdns) = omega arith in
      rw (is_all, so_far, before, rdns_of-last (31 - length rdns) bytes rest rdn none read) refl

  -- an RDN after the most that there may be is refused as too long
  pub no_room : (rdn : List TypeAndValue) → 32 ≤ length rdns → first_rdn bytes rest ≡ Ok rdn → whole ≡ Err (TooLong (bytes - chars_width rest))
  no_room rdn full read =
      let before : 32 - length rdns ≡ 0 = omega arith in
      rw (so_far, before, rdns_of-full bytes rest rdn read) refl

  -- an RDN that is refused is the fault of the name
  pub rdn_refused : (fault : NameFault) → IsNameFault (first_rdn bytes rest) fault → IsNameFault whole fault
  rdn_refused fault refused =
      IsFaultOf-along (first_rdn bytes rest) whole fault
      (λ f read. rw (so_far, rdns_of-fault (32 - length rdns) bytes rest f read) refl) refused

-- ---- an RDN and its pairs

-- an RDN that begins with a space is refused
pub rdn_of-spaced : (place : ℕ) (ended : Bool) (chars : List NameChar) → nat_lt 0 (prefix_len (is_plain 32) chars) ≡ true → rdn_of place ended chars ≡ Err (BadName place)
unfolding rdn_of
rdn_of-spaced place ended chars space = rw space refl

-- an RDN whose pairs are read is checked next
pub rdn_of-pairs : (place : ℕ) (ended : Bool) (chars : List NameChar) (pairs : List TypeAndValue) → nat_lt 0 (prefix_len (is_plain 32) chars) ≡ false
    → pairs_of place ended (slice_split (is_plain 43) chars) ≡ Ok pairs → rdn_of place ended chars ≡ checked_rdn place pairs
unfolding rdn_of
rdn_of-pairs place ended chars pairs none read = rw (none, read) refl

rdn_of-fault : (place : ℕ) (ended : Bool) (chars : List NameChar) (fault : NameFault) → nat_lt 0 (prefix_len (is_plain 32) chars) ≡ false
    → pairs_of place ended (slice_split (is_plain 43) chars) ≡ Err fault → rdn_of place ended chars ≡ Err fault
unfolding rdn_of
rdn_of-fault place ended chars fault none read = rw (none, read) refl

-- an RDN with a pair that is refused is refused for it
pub rdn_of-refused : (place : ℕ) (ended : Bool) (chars : List NameChar) (fault : NameFault) → nat_lt 0 (prefix_len (is_plain 32) chars) ≡ false
    → IsNameFault (pairs_of place ended (slice_split (is_plain 43) chars)) fault → IsNameFault (rdn_of place ended chars) fault
rdn_of-refused place ended chars fault none refused =
    IsFaultOf-along (pairs_of place ended (slice_split (is_plain 43) chars)) (rdn_of place ended chars) fault (λ f read. rdn_of-fault place ended chars f none read) refused

-- an RDN with two pairs of one type and key is refused
pub checked-double : (place : ℕ) (pairs : List TypeAndValue) → has_double pairs ≡ true → checked_rdn place pairs ≡ Err (BadName place)
checked-double place pairs double = rw double refl

-- an RDN that is written in too many bytes is refused
pub checked-long : (place : ℕ) (pairs : List TypeAndValue) → has_double pairs ≡ false → 1024 < length (rdn_text pairs) → checked_rdn place pairs ≡ Err (TooLong place)
checked-long place pairs single long = rw (single, lt-ltb 1024 (length (rdn_text pairs)) long) refl

-- an RDN without two such pairs and not too long is as it was read
pub checked-fine : (place : ℕ) (pairs : List TypeAndValue) → has_double pairs ≡ false → length (rdn_text pairs) ≤ 1024 → checked_rdn place pairs ≡ Ok pairs
checked-fine place pairs single fits = rw (single, le-ltb 1024 (length (rdn_text pairs)) fits) refl

-- the pairs that are read and checked are an RDN
pub read_is_rdn : (place : ℕ) (ended : Bool) (chars : List NameChar) (pairs : List TypeAndValue) → pairs_of place ended (slice_split (is_plain 43) chars) ≡ Ok pairs
    → has_double pairs ≡ false → length (rdn_text pairs) ≤ 1024 → is_rdn pairs ≡ true
read_is_rdn place ended chars pairs read single fits =
    let keyed = pairs_of-keyed place ended (slice_split (is_plain 43) chars) pairs read in
    let some : length pairs ≢ 0 = omega (arith, keyed.1, length-slice_split (is_plain 43) chars) in
    rw (ne_eqb (length pairs) 0 some, keyed.0, single, le-leb (length (rdn_text pairs)) 1024 fits) refl

-- what follows the first comma is no wider than the whole
pub width-after_comma : (chars : List NameChar) → chars_width (after_comma chars) ≤ chars_width chars
width-after_comma chars =
    omega (
      arith,
      sum_by-take-drop char_width (after_first (is_plain 44) chars) (prefix_len (is_plain 32) (after_first (is_plain 44) chars)),
      sum_by-take-drop char_width chars (position_or_len (is_plain 44) chars + 1),
    )

-- a name with one more RDN is one, where it is not too long
pub IsName-push : (rdns : List (List TypeAndValue)) (rdn : List TypeAndValue) → IsName rdns → is_rdn rdn ≡ true → length rdns < 32 → IsName (rdns ++ rdn ∷ [])
IsName-push rdns rdn sound one room = record {
  rdns = grind (arith, elements, sound.rdns);
  few = omega (arith, length-append rdns (rdn ∷ []));
}

-- ---- a name and its RDNs

-- the empty text is the empty name
pub name_of_text-empty : (text : List ℕ) → nat_eq (length text) 0 ≡ true → name_of_text text ≡ Ok []
unfolding name_of_text
name_of_text-empty text none = rw none refl

-- another text is read RDN by RDN
pub name_of_text-rdns : (text : List ℕ) → nat_eq (length text) 0 ≡ false → name_of_text text ≡ rdns_of 32 (length text) (chars_of text)
unfolding name_of_text
name_of_text-rdns text some = rw some refl
