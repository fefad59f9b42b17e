-- What was written is read again as the same.
use Rattle.std.proofs.Common.{◌≡◌, ℕ, zero, suc, ◌-◌, ◌<◌, ◌≤◌, Bool, true, false, not, ◌||◌, ◌&&◌, nat_eq, nat_le, List, [], ◌∷◌, ◌++◌, length, map, get_or, Some, is_some, Ok, refl, sym, ◌∙◌, ap, arith, append_assoc, inl, inr, if◌then◌else◌, subst, zero-add, length-append}
use Rattle.std.proofs.lemmas.List.{append-nil}
use Rattle.std.proofs.lemmas.List.Folds.{list_any-append}
use Rattle.std.specs.Prelude.{codes, ◌==◌}
use Rattle.std.specs.List.{list_any, list_all, before_first, after_first, slice_split, AllPass, range_with_len}
use Rattle.std.proofs.lemmas.List.FromFn.{get_or-map-range_with_len}
use Rattle.std.proofs.lemmas.Bool.{or_parts, or_cases, and_parts, or_from, or_left, or_right, cases_Bool, eqb-true, not-true, leb-true, false≢true, ne_eqb}
use Rattle.dn_names.specs.declared.name_chars.NameChar.{NameChar}
use Rattle.dn_names.specs.declared.name_chars.NameChar.TheVariants.{Plain, Escaped, Hexadecimal}
use Rattle.schema_rules.specs.Schema.{types, type_name, type_named, type_rule, is_operational, is_operational_rule}
use Rattle.schema_rules.specs.declared.types.Rule.{Rule}
use Rattle.schema_rules.specs.declared.types.Rule.TheVariants.{Class, Folded, FoldedAscii, ExactAscii, Whole, Flag, Time, Operational}
use Rattle.schema_rules.specs.Keys.{key_of, key_by}
use Rattle.dn_names.specs.Names.{TypeAndValue}
use Rattle.dn_names.specs.Keys.{has_double}
use Rattle.dn_names.specs.Sound.{has_key, is_rdn, IsName}
use Rattle.dn_names.specs.Writing.{is_special, is_special_at_edge, byte_text, bytes_text, value_text, pair_text, more_pairs_text, rdn_text, more_rdns_text, name_text}
use Rattle.dn_names.specs.Reading.{is_escapable, escape, chars_of, is_plain, string_byte, is_refused, each_some, octets_of_chars, plain_byte, trimmed, type_of, value_of, value_chars, pair_of, pairs_of, rdn_of, is_empty, with_first, first_rdn, rdns_of, after_comma, without_leading_spaces, chars_width, rdn_of_text, name_of_text}
use Rattle.dn_names.proofs.CharLists.{chars_of-cons, chars_of-nil}
use Rattle.dn_names.proofs.Cuts.{slice_split-none, before_first-none}
use Rattle.dn_names.proofs.Pieces.{rdn_of-pairs, checked-fine, rdns_of-more, rdns_of-last, name_of_text-empty, name_of_text-rdns}
use Rattle.dn_names.proofs.Equality.{keyed_below, found_type, rdn-keyed}
use Rattle.dn_names.proofs.Marks.{BeginsOtherwise, EndsOtherwise, before_mark, after_mark, has_mark, split_at_mark, none_leading, kept_prefix, kept_back, otherwise_from_none, ends_from_none}

-- ---- what is known of an RDN

rdn_facts : (rdn : List TypeAndValue) → is_rdn rdn ≡ true → (has_double rdn ≡ false) × (length (rdn_text rdn) ≤ 1024)
rdn_facts rdn sound =
    let first = and_parts (not (nat_eq (length rdn) 0)) (list_all has_key rdn && (not (has_double rdn) && nat_le (length (rdn_text rdn)) 1024)) sound in
    let second = and_parts (list_all has_key rdn) (not (has_double rdn) && nat_le (length (rdn_text rdn)) 1024) first.1 in
    let third = and_parts (not (has_double rdn)) (nat_le (length (rdn_text rdn)) 1024) second.1 in
    (not-true (has_double rdn) third.0, leb-true (length (rdn_text rdn)) 1024 third.1)

-- ---- the characters of what is written

-- the bytes, whatever follows, have these characters
abbrev pub Spells : List ℕ → List NameChar → Type 0
Spells text chars = (rest : List ℕ) → chars_of (text ++ rest) ≡ chars ++ chars_of rest

spells-append : (one other : List ℕ) (s t : List NameChar) → Spells one s → Spells other t → Spells (one ++ other) (s ++ t)
spells-append one other s t first second rest =
    ap chars_of (append_assoc one other rest) ∙ first (other ++ rest) ∙ ap (λ more. s ++ more) (second rest) ∙ sym (append_assoc s t (chars_of rest))

abbrev pub byte_char : Bool → Bool → ℕ → NameChar
byte_char first last byte =
    if is_special byte || is_special_at_edge first last byte then Escaped byte else if nat_eq byte 0 then Hexadecimal 0 else Plain byte

abbrev pub bytes_chars : Bool → List ℕ → List NameChar
bytes_chars first [] = []
bytes_chars first (byte ∷ bytes) = byte_char first (nat_eq (length bytes) 0) byte ∷ bytes_chars false bytes

-- what holds of each of some numbers holds of one that is among them
among : (p : ℕ → Bool) (values : List ℕ) → list_all p values ≡ true → (byte : ℕ) → list_any (nat_eq byte) values ≡ true → p byte ≡ true
among p [] all byte any = (cc)
among p (v ∷ vs) all byte any =
    let parts = and_parts (p v) (list_all p vs) all in
    elim (or_cases (nat_eq byte v) (list_any (nat_eq byte) vs) any) [
      | inl first ↦ rw (eqb-true byte v first) parts.0
      | inr rest ↦ among p vs parts.1 byte rest
    ]

-- what is not among some numbers is not among fewer
not_among : (some fewer : List ℕ) → list_all (λ v. list_any (nat_eq v) some) fewer ≡ true → (byte : ℕ) → list_any (nat_eq byte) some ≡ false → list_any (nat_eq byte) fewer ≡ false
not_among some fewer all byte none =
    elim (cases_Bool (list_any (nat_eq byte) fewer)) [
      | inl any ↦ absurd (let there = among (λ v. list_any (nat_eq v) some) fewer all byte any in cc)
      | inr other ↦ other
    ]

special_escapable : (byte : ℕ) → is_special byte ≡ true → is_escapable byte ≡ true
special_escapable byte special = among is_escapable (codes "\"+,;<>\\") refl byte special

edge_escapable : (first last : Bool) (byte : ℕ) → is_special_at_edge first last byte ≡ true → is_escapable byte ≡ true
edge_escapable first last byte edge =
    elim (or_cases (nat_eq byte 32 && (first || last)) (nat_eq byte 35 && first) edge) [
      | inl space ↦ rw (eqb-true byte 32 (and_parts (nat_eq byte 32) (first || last) space).0) refl
      | inr sharp ↦ rw (eqb-true byte 35 (and_parts (nat_eq byte 35) first sharp).0) refl
    ]

escape-known : (byte : ℕ) (rest : List ℕ) → is_escapable byte ≡ true → escape (byte ∷ rest) ≡ Escaped byte
escape-known byte [] known = rw known refl
escape-known byte (next ∷ rest) known = rw known refl

spells-escaped : (byte : ℕ) → is_escapable byte ≡ true → Spells (92 ∷ byte ∷ []) (Escaped byte ∷ [])
spells-escaped byte known rest =
    chars_of-cons 92 (byte ∷ rest) ∙ rw (escape-known byte rest known) refl

spells-plain : (byte : ℕ) → nat_eq byte 92 ≡ false → Spells (byte ∷ []) (Plain byte ∷ [])
spells-plain byte other rest = chars_of-cons byte rest ∙ rw other refl

spells-null : Spells (92 ∷ 48 ∷ 48 ∷ []) (Hexadecimal 0 ∷ [])
spells-null rest = chars_of-cons 92 (48 ∷ 48 ∷ rest)

spells-byte_at : (first last : Bool) (byte : ℕ) (escaped null : Bool) → (is_special byte || is_special_at_edge first last byte) ≡ escaped → nat_eq byte 0 ≡ null
    → Spells (if escaped then 92 ∷ byte ∷ [] else if null then codes "\\00" else byte ∷ []) ((if escaped then Escaped byte else if null then Hexadecimal 0 else Plain byte) ∷ [])
spells-byte_at first last byte true null is_escaped is_null =
    spells-escaped byte (elim (or_cases (is_special byte) (is_special_at_edge first last byte) is_escaped) [
      | inl special ↦ special_escapable byte special
      | inr edge ↦ edge_escapable first last byte edge
    ])
spells-byte_at first last byte false true is_escaped is_null = spells-null
spells-byte_at first last byte false false is_escaped is_null =
    spells-plain byte (or_parts (nat_eq byte 92) false (not_among (codes "\"+,;<>\\") (92 ∷ []) refl byte (or_parts (is_special byte) (is_special_at_edge first last byte) is_escaped).0)).0

spells-byte : (first last : Bool) (byte : ℕ) → Spells (byte_text first last byte) (byte_char first last byte ∷ [])
spells-byte first last byte = spells-byte_at first last byte (is_special byte || is_special_at_edge first last byte) (nat_eq byte 0) refl refl

spells-bytes : (first : Bool) (value : List ℕ) → Spells (bytes_text first value) (bytes_chars first value)
spells-bytes first [] = λ rest. refl
spells-bytes first (byte ∷ bytes) =
    spells-append (byte_text first (nat_eq (length bytes) 0) byte) (bytes_text false bytes) (byte_char first (nat_eq (length bytes) 0) byte ∷ []) (bytes_chars false bytes)
    (spells-byte first (nat_eq (length bytes) 0) byte) (spells-bytes false bytes)

-- no backslash, space, plus sign, comma or equals sign
abbrev pub delimiters : List ℕ
delimiters = 92 ∷ 32 ∷ 43 ∷ 44 ∷ 61 ∷ []

abbrev pub is_clean : List ℕ → Bool
is_clean name = list_all (λ byte. not (list_any (nat_eq byte) delimiters)) name

clean_byte : (byte : ℕ) (bytes : List ℕ) → is_clean (byte ∷ bytes) ≡ true → (mark : ℕ) → list_any (nat_eq mark) delimiters ≡ true → nat_eq byte mark ≡ false
clean_byte byte bytes clean mark is =
    let none : list_any (nat_eq byte) delimiters ≡ false = not-true (list_any (nat_eq byte) delimiters) (and_parts (not (list_any (nat_eq byte) delimiters)) (is_clean bytes) clean).0 in
    (or_parts (nat_eq byte mark) false (not_among delimiters (mark ∷ []) (rw is refl) byte none)).0

clean_rest : (byte : ℕ) (bytes : List ℕ) → is_clean (byte ∷ bytes) ≡ true → is_clean bytes ≡ true
clean_rest byte bytes clean = (and_parts (not (list_any (nat_eq byte) delimiters)) (is_clean bytes) clean).1

spells-name : (name : List ℕ) → is_clean name ≡ true → Spells name (map Plain name)
spells-name [] clean = λ rest. refl
spells-name (byte ∷ bytes) clean =
    spells-append (byte ∷ []) bytes (Plain byte ∷ []) (map Plain bytes) (spells-plain byte (clean_byte byte bytes clean 92 refl)) (spells-name bytes (clean_rest byte bytes clean))

abbrev pub pair_chars : TypeAndValue → List NameChar
pair_chars pair = map Plain (type_name pair.kind) ++ Plain 61 ∷ bytes_chars true pair.value

abbrev pub more_pairs_chars : List TypeAndValue → List NameChar
more_pairs_chars [] = []
more_pairs_chars (pair ∷ pairs) = Plain 43 ∷ (pair_chars pair ++ more_pairs_chars pairs)

abbrev pub rdn_chars : List TypeAndValue → List NameChar
rdn_chars [] = []
rdn_chars (pair ∷ pairs) = pair_chars pair ++ more_pairs_chars pairs

abbrev pub more_rdns_chars : List (List TypeAndValue) → List NameChar
more_rdns_chars [] = []
more_rdns_chars (rdn ∷ rdns) = Plain 44 ∷ (rdn_chars rdn ++ more_rdns_chars rdns)

spells-mark : (mark : ℕ) (text : List ℕ) (chars : List NameChar) → nat_eq mark 92 ≡ false → Spells text chars → Spells (mark ∷ text) (Plain mark ∷ chars)
spells-mark mark text chars other spells = spells-append (mark ∷ []) text (Plain mark ∷ []) chars (spells-plain mark other) spells

-- a pair that can be read again: its type is found by a name without marks, and has keys
pub record IsReadable (pair : TypeAndValue) : Type 0 where
  pub clean : is_clean (type_name pair.kind) ≡ true
  pub found : type_named (type_name pair.kind) ≡ Some pair.kind
  pub user : is_operational pair.kind ≡ false
  pub keyed : is_some (key_of pair.kind pair.value) ≡ true

abbrev pub AreReadable : List TypeAndValue → Type 0
AreReadable [] = Unit {0}
AreReadable (pair ∷ pairs) = IsReadable pair × AreReadable pairs

abbrev pub AllReadable : List (List TypeAndValue) → Type 0
AllReadable [] = Unit {0}
AllReadable (rdn ∷ rdns) = AreReadable rdn × AllReadable rdns

spells-pair : (pair : TypeAndValue) → IsReadable pair → Spells (pair_text pair) (pair_chars pair)
spells-pair pair readable =
    spells-append (type_name pair.kind) (61 ∷ value_text pair.value) (map Plain (type_name pair.kind)) (Plain 61 ∷ bytes_chars true pair.value)
    (spells-name (type_name pair.kind) readable.clean)
    (spells-mark 61 (value_text pair.value) (bytes_chars true pair.value) refl (spells-bytes true pair.value))

spells-more_pairs : (pairs : List TypeAndValue) → AreReadable pairs → Spells (more_pairs_text pairs) (more_pairs_chars pairs)
spells-more_pairs [] readable = λ rest. refl
spells-more_pairs (pair ∷ pairs) readable =
    spells-mark 43 (pair_text pair ++ more_pairs_text pairs) (pair_chars pair ++ more_pairs_chars pairs) refl
    (spells-append (pair_text pair) (more_pairs_text pairs) (pair_chars pair) (more_pairs_chars pairs) (spells-pair pair readable.0) (spells-more_pairs pairs readable.1))

spells-rdn : (rdn : List TypeAndValue) → AreReadable rdn → Spells (rdn_text rdn) (rdn_chars rdn)
spells-rdn [] readable = λ rest. refl
spells-rdn (pair ∷ pairs) readable =
    spells-append (pair_text pair) (more_pairs_text pairs) (pair_chars pair) (more_pairs_chars pairs) (spells-pair pair readable.0) (spells-more_pairs pairs readable.1)

spells-more_rdns : (rdns : List (List TypeAndValue)) → AllReadable rdns → Spells (more_rdns_text rdns) (more_rdns_chars rdns)
spells-more_rdns [] readable = λ rest. refl
spells-more_rdns (rdn ∷ rdns) readable =
    spells-mark 44 (rdn_text rdn ++ more_rdns_text rdns) (rdn_chars rdn ++ more_rdns_chars rdns) refl
    (spells-append (rdn_text rdn) (more_rdns_text rdns) (rdn_chars rdn) (more_rdns_chars rdns) (spells-rdn rdn readable.0) (spells-more_rdns rdns readable.1))

chars-from_spells : (text : List ℕ) (chars : List NameChar) → Spells text chars → chars_of text ≡ chars
chars-from_spells text chars spells =
    ap chars_of (sym (append-nil text)) ∙ spells [] ∙ ap (λ rest. chars ++ rest) (chars_of-nil [] refl) ∙ append-nil chars

-- ---- a value read again

not_plain : (first last : Bool) (mark byte : ℕ) → (is_special mark || is_special_at_edge first last mark) ≡ true → is_plain mark (byte_char first last byte) ≡ false
not_plain first last mark byte special = at (is_special byte || is_special_at_edge first last byte) (nat_eq byte 0) (nat_eq byte mark) refl refl
  where
    at : (escaped null same : Bool) → (is_special byte || is_special_at_edge first last byte) ≡ escaped → nat_eq byte mark ≡ same
        → is_plain mark (if escaped then Escaped byte else if null then Hexadecimal 0 else Plain byte) ≡ false
    at true null same is_escaped is_same = refl
    at false true same is_escaped is_same = refl
    at false false false is_escaped is_same = is_same
    at false false true is_escaped is_same =
        absurd (let one : byte ≡ mark = eqb-true byte mark is_same in let both = rw one at is_escaped in cc)

none_of_mark : (mark : ℕ) → is_special mark ≡ true → (first : Bool) (value : List ℕ) → list_any (is_plain mark) (bytes_chars first value) ≡ false
none_of_mark mark special first [] = refl
none_of_mark mark special first (byte ∷ bytes) =
    or_from (is_plain mark (byte_char first (nat_eq (length bytes) 0) byte)) (list_any (is_plain mark) (bytes_chars false bytes))
    (not_plain first (nat_eq (length bytes) 0) mark byte (or_left (is_special mark) (is_special_at_edge first (nat_eq (length bytes) 0) mark) special))
    (none_of_mark mark special false bytes)

value_begins : (value : List ℕ) → BeginsOtherwise (is_plain 32) (bytes_chars true value)
value_begins [] = tt
value_begins (byte ∷ bytes) = not_plain true (nat_eq (length bytes) 0) 32 byte refl

value_ends : (first : Bool) (value : List ℕ) → EndsOtherwise (is_plain 32) (bytes_chars first value)
value_ends first [] = inl refl
value_ends first (byte ∷ []) =
    inr ([], byte_char first true byte, refl, not_plain first true 32 byte (or_left (first || true) false (or_right first true refl)))
value_ends first (byte ∷ next ∷ bytes) =
    let name_char : NameChar = byte_char first (nat_eq (length (next ∷ bytes)) 0) byte in
    elim (value_ends false (next ∷ bytes)) [
      | inl none ↦ absurd (cc)
      | inr ends ↦ inr (name_char ∷ ends.0, ends.1, ap (λ rest. name_char ∷ rest) ends.2, ends.3)
    ]

string_byte-back : (first last : Bool) (byte : ℕ) → string_byte (byte_char first last byte) ≡ Some byte
string_byte-back first last byte = at (is_special byte || is_special_at_edge first last byte) (nat_eq byte 0) refl refl
  where
    at : (escaped null : Bool) → (is_special byte || is_special_at_edge first last byte) ≡ escaped → nat_eq byte 0 ≡ null
        → string_byte (if escaped then Escaped byte else if null then Hexadecimal 0 else Plain byte) ≡ Some byte
    at true null is_escaped is_null = refl
    at false true is_escaped is_null = ap Some (sym (eqb-true byte 0 is_null))
    at false false is_escaped is_null =
        let allowed : is_refused byte ≡ false = or_from (nat_eq byte 0) (list_any (nat_eq byte) (codes "\"+,;<>")) is_null
        (not_among (codes "\"+,;<>\\") (codes "\"+,;<>") refl byte (or_parts (is_special byte) (is_special_at_edge first last byte) is_escaped).0) in
        rw allowed refl

string-back : (first : Bool) (value : List ℕ) → each_some string_byte (bytes_chars first value) ≡ Some value
string-back first [] = refl
string-back first (byte ∷ bytes) = rw (string_byte-back first (nat_eq (length bytes) 0) byte, string-back false bytes) refl

octets-back : (value : List ℕ) → octets_of_chars (bytes_chars true value) ≡ Some value
octets-back [] = refl
octets-back (byte ∷ bytes) = rw (not_plain true (nat_eq (length bytes) 0) 35 byte (or_right ((35 == 32) && true) true refl)) (string-back true (byte ∷ bytes))

value_of-back : (kind : ℕ) (value : List ℕ) → is_some (key_of kind value) ≡ true → value_of kind (bytes_chars true value) ≡ Some value
value_of-back kind value keyed = rw (octets-back value, keyed) refl

value_chars-back : (ended : Bool) (value : List ℕ) → value_chars ended (bytes_chars true value) ≡ bytes_chars true value
value_chars-back true value = rw (kept_prefix (is_plain 32) (bytes_chars true value) (value_begins value)) (kept_back (is_plain 32) (bytes_chars true value) (value_ends true value))
value_chars-back false value = kept_prefix (is_plain 32) (bytes_chars true value) (value_begins value)

-- ---- a type read again

no_mark_in : (mark : ℕ) → list_any (nat_eq mark) delimiters ≡ true → (name : List ℕ) → is_clean name ≡ true → list_any (is_plain mark) (map Plain name) ≡ false
no_mark_in mark is [] clean = refl
no_mark_in mark is (byte ∷ bytes) clean =
    or_from (nat_eq byte mark) (list_any (is_plain mark) (map Plain bytes)) (clean_byte byte bytes clean mark is) (no_mark_in mark is bytes (clean_rest byte bytes clean))

plain-back : (name : List ℕ) → each_some plain_byte (map Plain name) ≡ Some name
plain-back [] = refl
plain-back (byte ∷ bytes) = rw (plain-back bytes) refl

trimmed-back : (name : List ℕ) → is_clean name ≡ true → trimmed (map Plain name) ≡ map Plain name
trimmed-back name clean =
    let none : list_any (is_plain 32) (map Plain name) ≡ false = no_mark_in 32 refl name clean in
    rw (kept_prefix (is_plain 32) (map Plain name) (otherwise_from_none (is_plain 32) (map Plain name) none))
    (kept_back (is_plain 32) (map Plain name) (ends_from_none (is_plain 32) (map Plain name) none))

type_of-back : (place : ℕ) (pair : TypeAndValue) → IsReadable pair → type_of place (map Plain (type_name pair.kind)) ≡ Ok pair.kind
type_of-back place pair readable =
    rw (trimmed-back (type_name pair.kind) readable.clean, plain-back (type_name pair.kind), readable.found, readable.user) refl

pair_of-back : (place : ℕ) (ended : Bool) (pair : TypeAndValue) → IsReadable pair → pair_of place ended (pair_chars pair) ≡ Ok pair
pair_of-back place ended pair readable =
    let none : list_any (is_plain 61) (map Plain (type_name pair.kind)) ≡ false = no_mark_in 61 refl (type_name pair.kind) readable.clean in
    rw (
      has_mark (is_plain 61) (map Plain (type_name pair.kind)) (Plain 61) (bytes_chars true pair.value) refl,
      before_mark (is_plain 61) (map Plain (type_name pair.kind)) (Plain 61) (bytes_chars true pair.value) none refl,
      after_mark (is_plain 61) (map Plain (type_name pair.kind)) (Plain 61) (bytes_chars true pair.value) none refl,
      type_of-back place pair readable,
      value_chars-back ended pair.value,
      value_of-back pair.kind pair.value readable.keyed,
    ) refl

-- ---- an RDN read again

no_mark_in_pair : (mark : ℕ) → is_special mark ≡ true → list_any (nat_eq mark) delimiters ≡ true → nat_eq 61 mark ≡ false → (pair : TypeAndValue) → IsReadable pair → list_any (is_plain mark) (pair_chars pair) ≡ false
no_mark_in_pair mark special is other pair readable =
    list_any-append (is_plain mark) (map Plain (type_name pair.kind)) (Plain 61 ∷ bytes_chars true pair.value)
    ∙ or_from (list_any (is_plain mark) (map Plain (type_name pair.kind))) (nat_eq 61 mark || list_any (is_plain mark) (bytes_chars true pair.value))
    (no_mark_in mark is (type_name pair.kind) readable.clean)
    (or_from (nat_eq 61 mark) (list_any (is_plain mark) (bytes_chars true pair.value)) other (none_of_mark mark special true pair.value))

parts-back : (pair : TypeAndValue) (pairs : List TypeAndValue) → IsReadable pair → AreReadable pairs → slice_split (is_plain 43) (pair_chars pair ++ more_pairs_chars pairs) ≡ pair_chars pair ∷ map pair_chars pairs
parts-back pair [] one rest =
    ap (slice_split (is_plain 43)) (append-nil (pair_chars pair)) ∙ slice_split-none (is_plain 43) (pair_chars pair) (no_mark_in_pair 43 refl refl refl pair one)
parts-back pair (next ∷ pairs) one rest =
    split_at_mark (is_plain 43) (pair_chars pair) (Plain 43) (pair_chars next ++ more_pairs_chars pairs) (no_mark_in_pair 43 refl refl refl pair one) refl
    ∙ ap (λ parts. pair_chars pair ∷ parts) (parts-back next pairs rest.0 rest.1)

pairs-back : (place : ℕ) (ended : Bool) (pairs : List TypeAndValue) → AreReadable pairs → pairs_of place ended (map pair_chars pairs) ≡ Ok pairs
pairs-back place ended [] readable = refl
pairs-back place ended (pair ∷ pairs) readable =
    rw (pair_of-back place (ended || not (is_empty (map pair_chars pairs))) pair readable.0, pairs-back place ended pairs readable.1) refl

pair_begins : (pair : TypeAndValue) (rest : List NameChar) → IsReadable pair → BeginsOtherwise (is_plain 32) (pair_chars pair ++ rest)
pair_begins pair rest readable = at (type_name pair.kind) readable.clean
  where
    at : (name : List ℕ) → is_clean name ≡ true → BeginsOtherwise (is_plain 32) ((map Plain name ++ Plain 61 ∷ bytes_chars true pair.value) ++ rest)
    at [] clean = refl
    at (byte ∷ bytes) clean = clean_byte byte bytes clean 32 refl

-- the text of an RDN is read as that RDN
pub rdn-back : (place : ℕ) (ended : Bool) (rdn : List TypeAndValue) → is_rdn rdn ≡ true → AreReadable rdn → rdn_of place ended (rdn_chars rdn) ≡ Ok rdn
rdn-back place ended [] sound readable = (cc)
rdn-back place ended (pair ∷ pairs) sound readable =
    let facts = rdn_facts (pair ∷ pairs) sound in
    rdn_of-pairs place ended (pair_chars pair ++ more_pairs_chars pairs) (pair ∷ pairs)
    (rw (none_leading (is_plain 32) (pair_chars pair ++ more_pairs_chars pairs) (pair_begins pair (more_pairs_chars pairs) readable.0)) refl)
    (ap (pairs_of place ended) (parts-back pair pairs readable.0 readable.1) ∙ pairs-back place ended (pair ∷ pairs) readable)
    ∙ checked-fine place (pair ∷ pairs) facts.0 facts.1

-- ---- a name read again

no_comma_in_more : (pairs : List TypeAndValue) → AreReadable pairs → list_any (is_plain 44) (more_pairs_chars pairs) ≡ false
no_comma_in_more [] readable = refl
no_comma_in_more (pair ∷ pairs) readable =
    list_any-append (is_plain 44) (pair_chars pair) (more_pairs_chars pairs)
    ∙ or_from (list_any (is_plain 44) (pair_chars pair)) (list_any (is_plain 44) (more_pairs_chars pairs)) (no_mark_in_pair 44 refl refl refl pair readable.0) (no_comma_in_more pairs readable.1)

no_comma : (rdn : List TypeAndValue) → AreReadable rdn → list_any (is_plain 44) (rdn_chars rdn) ≡ false
no_comma [] readable = refl
no_comma (pair ∷ pairs) readable =
    list_any-append (is_plain 44) (pair_chars pair) (more_pairs_chars pairs)
    ∙ or_from (list_any (is_plain 44) (pair_chars pair)) (list_any (is_plain 44) (more_pairs_chars pairs)) (no_mark_in_pair 44 refl refl refl pair readable.0) (no_comma_in_more pairs readable.1)

rdn_begins : (rdn : List TypeAndValue) (rest : List NameChar) → is_rdn rdn ≡ true → AreReadable rdn → BeginsOtherwise (is_plain 32) (rdn_chars rdn ++ rest)
rdn_begins [] rest sound readable = absurd (false≢true sound)
rdn_begins (pair ∷ pairs) rest sound readable =
    let P : List NameChar → Type 0 = λ chars. BeginsOtherwise (is_plain 32) chars in
    subst P (sym (append_assoc (pair_chars pair) (more_pairs_chars pairs) rest)) (pair_begins pair (more_pairs_chars pairs ++ rest) readable.0)

rdns-back : (room bytes : ℕ) (rdn : List TypeAndValue) (rdns : List (List TypeAndValue)) → length rdns ≤ room → is_rdn rdn ≡ true → AreReadable rdn → AllPass is_rdn rdns → AllReadable rdns
    → rdns_of (suc room) bytes (rdn_chars rdn ++ more_rdns_chars rdns) ≡ Ok (rdn ∷ rdns)
rdns-back room bytes rdn [] within sound readable all_sound all_readable =
    let none : list_any (is_plain 44) (rdn_chars rdn ++ []) ≡ false = rw (append-nil (rdn_chars rdn)) (no_comma rdn readable) in
    rdns_of-last room bytes (rdn_chars rdn ++ []) rdn none
    (rw (none, before_first-none (is_plain 44) (rdn_chars rdn ++ []) none, append-nil (rdn_chars rdn)) (rdn-back (bytes - chars_width (rdn_chars rdn)) false rdn sound readable))
rdns-back zero bytes rdn (next ∷ rdns) within sound readable all_sound all_readable = absurd (omega arith)
rdns-back (suc room) bytes rdn (next ∷ rdns) within sound readable all_sound all_readable =
    let whole : List NameChar = rdn_chars rdn ++ Plain 44 ∷ (rdn_chars next ++ more_rdns_chars rdns) in
    let none : list_any (is_plain 44) (rdn_chars rdn) ≡ false = no_comma rdn readable in
    let more : list_any (is_plain 44) whole ≡ true = has_mark (is_plain 44) (rdn_chars rdn) (Plain 44) (rdn_chars next ++ more_rdns_chars rdns) refl in
    let prefix : before_first (is_plain 44) whole ≡ rdn_chars rdn = before_mark (is_plain 44) (rdn_chars rdn) (Plain 44) (rdn_chars next ++ more_rdns_chars rdns) none refl in
    let after : after_first (is_plain 44) whole ≡ rdn_chars next ++ more_rdns_chars rdns = after_mark (is_plain 44) (rdn_chars rdn) (Plain 44) (rdn_chars next ++ more_rdns_chars rdns) none refl in
    let first : first_rdn bytes whole ≡ Ok rdn = rw (more, prefix) (rdn-back (bytes - chars_width whole) true rdn sound readable) in
    let sound_next : is_rdn next ≡ true = all_sound 0 next (omega arith) in
    let beyond : after_comma whole ≡ rdn_chars next ++ more_rdns_chars rdns =
    ap without_leading_spaces after ∙ kept_prefix (is_plain 32) (rdn_chars next ++ more_rdns_chars rdns) (rdn_begins next (more_rdns_chars rdns) sound_next all_readable.0) in
    let later : rdns_of (suc room) bytes (rdn_chars next ++ more_rdns_chars rdns) ≡ Ok (next ∷ rdns) =
    rdns-back room bytes next rdns (omega arith) sound_next all_readable.0 (λ k d inside. all_sound (suc k) d (omega arith)) all_readable.1 in
    rdns_of-more (suc room) bytes whole rdn more first ∙ ap (λ chars. with_first rdn (rdns_of (suc room) bytes chars)) beyond ∙ ap (with_first rdn) later

-- ---- what is known of the types of the table

all_clean : map (λ n. is_clean (type_name n)) (range_with_len 0 24) ≡ map (λ n. true) (range_with_len 0 24)
unfolding types
all_clean = refl

clean_name : (kind : ℕ) → kind < 24 → is_clean (type_name kind) ≡ true
clean_name kind below =
    sym (get_or-map-range_with_len (λ n. is_clean (type_name n)) 0 24 kind kind true below (zero-add kind))
    ∙ ap (λ tests. get_or tests kind true) all_clean
    ∙ get_or-map-range_with_len (λ n. true) 0 24 kind kind true below (zero-add kind)

-- a value of an operational type has no key
pub no_key : (rule : Rule) (value : List ℕ) → is_operational_rule rule ≡ true → is_some (key_by rule value) ≡ false
no_key Class value operational = (cc)
no_key Folded value operational = (cc)
no_key FoldedAscii value operational = (cc)
no_key ExactAscii value operational = (cc)
no_key Whole value operational = (cc)
no_key Flag value operational = (cc)
no_key Time value operational = (cc)
no_key Operational value operational = refl

-- what has a key is of a type of users
pub user_type : (kind : ℕ) (value : List ℕ) → is_some (key_of kind value) ≡ true → is_operational kind ≡ false
unfolding key_of
user_type kind value keyed =
    elim (cases_Bool (is_operational kind)) [
      | inl operational ↦ absurd (let none : is_some (key_by (type_rule kind) value) ≡ false = no_key (type_rule kind) value operational in cc)
      | inr user ↦ user
    ]

readable_pairs : (pairs : List TypeAndValue) → list_all has_key pairs ≡ true → AreReadable pairs
readable_pairs [] keyed = tt
readable_pairs (pair ∷ pairs) keyed =
    let both = and_parts (has_key pair) (list_all has_key pairs) keyed in (
      record {
        clean = clean_name pair.kind (keyed_below pair.kind pair.value both.0);
        found = found_type pair.kind pair.value both.0;
        user = user_type pair.kind pair.value both.0;
        keyed = both.0;
      },
      readable_pairs pairs both.1,
    )

readable_rdn : (rdn : List TypeAndValue) → is_rdn rdn ≡ true → AreReadable rdn
readable_rdn rdn sound = readable_pairs rdn (rdn-keyed rdn sound)

readable_rdns : (rdns : List (List TypeAndValue)) → AllPass is_rdn rdns → AllReadable rdns
readable_rdns [] sound = tt
readable_rdns (rdn ∷ rdns) sound = (readable_rdn rdn (sound 0 rdn (omega arith)), readable_rdns rdns (λ k d inside. sound (suc k) d (omega arith)))

-- ---- the laws

-- an RDN is read again from its text
pub rdn_read_again : (rdn : List TypeAndValue) → is_rdn rdn ≡ true → rdn_of_text (rdn_text rdn) ≡ Ok rdn
unfolding rdn_of_text
rdn_read_again rdn sound =
    let readable = readable_rdn rdn sound in
    ap (rdn_of 0 false) (chars-from_spells (rdn_text rdn) (rdn_chars rdn) (spells-rdn rdn readable)) ∙ rdn-back 0 false rdn sound readable

rdn_text-filled : (rdn : List TypeAndValue) (rest : List ℕ) → is_rdn rdn ≡ true → nat_eq (length (rdn_text rdn ++ rest)) 0 ≡ false
rdn_text-filled [] rest sound = absurd (false≢true sound)
rdn_text-filled (pair ∷ pairs) rest sound =
    ne_eqb (length (rdn_text (pair ∷ pairs) ++ rest)) 0
    (omega (
      arith,
      length-append (rdn_text (pair ∷ pairs)) rest,
      length-append (pair_text pair) (more_pairs_text pairs),
      length-append (type_name pair.kind) (61 ∷ value_text pair.value),
    ))

-- a name is read again from its text
pub name_read_again : (name : List (List TypeAndValue)) → IsName name → name_of_text (name_text name) ≡ Ok name
name_read_again [] sound = name_of_text-empty [] refl
name_read_again (rdn ∷ rdns) sound =
    let sound_rdn : is_rdn rdn ≡ true = sound.rdns 0 rdn (omega arith) in
    let readable = readable_rdn rdn sound_rdn in
    let all_sound : AllPass is_rdn rdns = λ k d inside. sound.rdns (suc k) d (omega arith) in
    let all_readable = readable_rdns rdns all_sound in
    let chars = chars-from_spells (rdn_text rdn ++ more_rdns_text rdns) (rdn_chars rdn ++ more_rdns_chars rdns)
    (spells-append (rdn_text rdn) (more_rdns_text rdns) (rdn_chars rdn) (more_rdns_chars rdns) (spells-rdn rdn readable) (spells-more_rdns rdns all_readable)) in
    name_of_text-rdns (rdn_text rdn ++ more_rdns_text rdns) (rdn_text-filled rdn (more_rdns_text rdns) sound_rdn)
    ∙ ap (rdns_of 32 (length (rdn_text rdn ++ more_rdns_text rdns))) chars
    ∙ rdns-back 31 (length (rdn_text rdn ++ more_rdns_text rdns)) rdn rdns (omega (arith, sound.few)) sound_rdn readable all_sound all_readable
