-- What a text that begins with the path of an RDN reports: the set of its pairs.
use Rattle.std.proofs.Common.{◌≡◌, ◌⊎◌, ℕ, ◌<◌, ◌^◌, true, nat_lt, nat_eq, List, [], ◌∷◌, ◌++◌, length, map, Some, refl, sym, ◌∙◌, ap, arith, inl, inr, append_assoc}
use Rattle.std.specs.Cmp.Lexicographic.{pointwise, bytes_decides}
use Rattle.std.specs.Int.{w32, from_be_bytes, byte_at}
use Rattle.std.specs.List.{list_all}
use Rattle.std.proofs.lemmas.Bool.{and_parts, and_from, eqb-true, eq-eqb, ltb-true}
use Rattle.std.proofs.lemmas.List.Quantifiers.{position-Some}
use Rattle.std.proofs.lemmas.Nat.{from_be_bytes-to_be_bytes_4}
use Rattle.std.specs.Str.{str_eq_ignore_ascii_case}
use Rattle.schema_rules.specs.Schema.{types, no_type, type_name, type_named}
use Rattle.dn_names.specs.Names.{TypeAndValue, pair_key, same_pair, same_name}
use Rattle.dn_names.specs.Paths.{four_octets, pair_piece, piece_set, rdn_path, has_short_key, has_small_numbers}
use Rattle.dn_names.specs.Sound.{has_key, is_rdn, IsName}
use Rattle.dn_names.proofs.Equality.{IsKnown, keyed_below, rdn-keyed, from_texts, into_texts, sets_by-from_same, same-from_sets_by}
use Rattle.dn_names.proofs.KeyTexts.{joined}
use Rattle.dn_names.proofs.SortedLists.{In}

-- ---- texts of one length

-- two texts of one length that begin one text are equal, and so is what follows them
texts-apart : (one other rest more : List ℕ) → length one ≡ length other → one ++ rest ≡ other ++ more → (one ≡ other) × (rest ≡ more)
texts-apart [] [] rest more long same = (refl, same)
texts-apart [] (b ∷ bs) rest more long same = absurd (omega arith)
texts-apart (a ∷ as') [] rest more long same = absurd (omega arith)
texts-apart (a ∷ as') (b ∷ bs) rest more long same =
    let first : a ≡ b = (cc) in
    let tails : as' ++ rest ≡ bs ++ more = (cc) in
    let later = texts-apart as' bs rest more (omega arith) tails in
    let prefix : as' ≡ bs = later.0 in
    ((cc), later.1)

-- four octets report their number
octets-apart : (one other : ℕ) (rest more : List ℕ) → one < 2 ^ 32 → other < 2 ^ 32 → four_octets one ++ rest ≡ four_octets other ++ more → (one ≡ other) × (rest ≡ more)
octets-apart one other rest more small_one small_other same =
    let parts = texts-apart (four_octets one) (four_octets other) rest more refl same in
    (sym (from_be_bytes-to_be_bytes_4 one small_one) ∙ ap (from_be_bytes w32) parts.0 ∙ from_be_bytes-to_be_bytes_4 other small_other, parts.1)

-- ---- pieces

-- the text of a type and a key, whose numbers have a place in four octets
record IsPiece (piece : List ℕ) : Type 0 where
  kind : ℕ
  key : List ℕ
  known : kind < 2 ^ 32
  short : length key < 2 ^ 32
  is : piece ≡ four_octets kind ++ (four_octets (length key) ++ key)

spread : (x y z rest : List ℕ) → (x ++ (y ++ z)) ++ rest ≡ x ++ (y ++ (z ++ rest))
spread x y z rest = append_assoc x (y ++ z) rest ∙ ap (λ t. x ++ t) (append_assoc y z rest)

piece-spread : (piece rest : List ℕ) (a : IsPiece piece) → piece ++ rest ≡ four_octets a.kind ++ (four_octets (length a.key) ++ (a.key ++ rest))
piece-spread piece rest a = ap (λ t. t ++ rest) a.is ∙ spread (four_octets a.kind) (four_octets (length a.key)) a.key rest

piece-apart : (one other rest more : List ℕ) → IsPiece one → IsPiece other → one ++ rest ≡ other ++ more → (one ≡ other) × (rest ≡ more)
piece-apart one other rest more a b same =
    let kinds = octets-apart a.kind b.kind (four_octets (length a.key) ++ (a.key ++ rest)) (four_octets (length b.key) ++ (b.key ++ more)) a.known b.known
    (sym (piece-spread one rest a) ∙ same ∙ piece-spread other more b) in
    let lengths = octets-apart (length a.key) (length b.key) (a.key ++ rest) (b.key ++ more) a.short b.short kinds.1 in
    let keys = texts-apart a.key b.key rest more lengths.0 lengths.1 in (
      a.is
          ∙ ap (λ kind. four_octets kind ++ (four_octets (length a.key) ++ a.key)) kinds.0
          ∙ ap (λ key. four_octets b.kind ++ (four_octets (length key) ++ key)) keys.0
          ∙ sym b.is,
      keys.1,
    )

abbrev ArePieces : List (List ℕ) → Type 0
ArePieces pieces = (p : List ℕ) → In p pieces → IsPiece p

-- as many pieces that begin one text are the same, and so is what follows them
pieces-apart : (one other : List (List ℕ)) (rest more : List ℕ) → ArePieces one → ArePieces other → length one ≡ length other → joined one ++ rest ≡ joined other ++ more
    → (one ≡ other) × (rest ≡ more)
pieces-apart [] [] rest more are_one are_other long same = (refl, same)
pieces-apart [] (n ∷ ns) rest more are_one are_other long same = absurd (omega arith)
pieces-apart (m ∷ ms) [] rest more are_one are_other long same = absurd (omega arith)
pieces-apart (m ∷ ms) (n ∷ ns) rest more are_one are_other long same =
    let firsts = piece-apart m n (joined ms ++ rest) (joined ns ++ more) (are_one m (inl refl)) (are_other n (inl refl))
    (sym (append_assoc m (joined ms) rest) ∙ same ∙ append_assoc n (joined ns) more) in
    let later = pieces-apart ms ns rest more (λ p member. are_one p (inr member)) (λ p member. are_other p (inr member)) (omega arith) firsts.1 in
    let first : m ≡ n = firsts.0 in
    let tails : ms ≡ ns = later.0 in
    ((cc), later.1)

-- ---- the pieces of an RDN

known_small : (kind : ℕ) → kind < 24 → kind < 2 ^ 32
known_small kind known = omega arith

piece_of : (pairs : List TypeAndValue) → list_all has_key pairs ≡ true → list_all has_short_key pairs ≡ true → (p : List ℕ) → In p (map pair_piece pairs) → IsPiece p
piece_of [] keyed short p member = absurd member
piece_of (pair ∷ pairs) keyed short p (inl first) =
    let k = and_parts (has_key pair) (list_all has_key pairs) keyed in
    let s = and_parts (has_short_key pair) (list_all has_short_key pairs) short in
    record {
      kind = pair.kind;
      key = pair_key pair;
      known = known_small pair.kind (keyed_below pair.kind pair.value k.0);
      short = ltb-true (length (pair_key pair)) (2 ^ 32) s.0;
      is = first;
    }
piece_of (pair ∷ pairs) keyed short p (inr rest) =
    piece_of pairs (and_parts (has_key pair) (list_all has_key pairs) keyed).1 (and_parts (has_short_key pair) (list_all has_short_key pairs) short).1 p rest

record AreNumbered (rdn : List TypeAndValue) : Type 0 where
  count : length (piece_set rdn) < 2 ^ 32
  pieces : ArePieces (piece_set rdn)

numbered : (rdn : List TypeAndValue) → is_rdn rdn ≡ true → has_small_numbers rdn ≡ true → AreNumbered rdn
numbered rdn sound small =
    let both = and_parts (nat_lt (length (piece_set rdn)) (2 ^ 32)) (list_all has_short_key rdn) small in
    record {
      count = ltb-true (length (piece_set rdn)) (2 ^ 32) both.0;
      pieces = λ p member. piece_of rdn (rdn-keyed rdn sound) both.1 p (from_texts pair_piece rdn p member);
    }

-- the paths of two RDNs that begin one text report the same set of pairs, and what follows them is equal
pub rdn_path-apart : (one other : List TypeAndValue) (rest more : List ℕ) → is_rdn one ≡ true → is_rdn other ≡ true → has_small_numbers one ≡ true → has_small_numbers other ≡ true
    → rdn_path one ++ rest ≡ rdn_path other ++ more → (piece_set one ≡ piece_set other) × (rest ≡ more)
rdn_path-apart one other rest more sound_one sound_other small_one small_other same =
    let a = numbered one sound_one small_one in
    let b = numbered other sound_other small_other in
    let counts = octets-apart (length (piece_set one)) (length (piece_set other)) (joined (piece_set one) ++ rest) (joined (piece_set other) ++ more) a.count b.count
    (sym (append_assoc (four_octets (length (piece_set one))) (joined (piece_set one)) rest)
    ∙ same
    ∙ append_assoc (four_octets (length (piece_set other))) (joined (piece_set other)) more) in
    pieces-apart (piece_set one) (piece_set other) rest more a.pieces b.pieces counts.0 counts.1

some_in : (set : List (List ℕ)) (m : List ℕ) → In m set → 0 < length set
some_in [] m member = absurd member
some_in (k ∷ ks) m member = omega arith

-- an RDN has a pair
pub some_pieces : (rdn : List TypeAndValue) → is_rdn rdn ≡ true → 0 < length (piece_set rdn)
some_pieces [] sound = absurd (cc)
some_pieces (pair ∷ pairs) sound = some_in (piece_set (pair ∷ pairs)) (pair_piece pair) (into_texts pair_piece (pair ∷ pairs) (pair_piece pair) (inl refl))

-- ---- where a path ends

-- nothing, or a text that begins with the number 0: no path of a further RDN begins there
abbrev pub IsStop : List ℕ → Type 0
IsStop tail = (tail ≡ []) ⊎ ((rest : List ℕ) × (tail ≡ four_octets 0 ++ rest))

-- a text that stops begins with no number above 0
pub stops : (number : ℕ) (tail rest : List ℕ) → 0 < number → number < 2 ^ 32 → IsStop tail → tail ≡ four_octets number ++ rest → ⊥
stops number tail rest some small (inl none) same =
    let never : [] ≡ byte_at 3 number ∷ (byte_at 2 number ∷ byte_at 1 number ∷ byte_at 0 number ∷ rest) = sym none ∙ same in
    cc
stops number tail rest some small (inr zeros) same =
    let parts = octets-apart 0 number zeros.0 rest (omega arith) small (sym zeros.1 ∙ same) in
    let zero : 0 ≡ number = parts.0 in
    omega arith

-- ---- pairs match exactly where their pieces are equal

piece-from_same : (one other : TypeAndValue) → same_pair one other ≡ true → pair_piece one ≡ pair_piece other
piece-from_same one other same =
    let both = and_parts (nat_eq one.kind other.kind) (pointwise nat_eq (pair_key one) (pair_key other)) same in
    let kinds : one.kind ≡ other.kind = eqb-true one.kind other.kind both.0 in
    let keys : pair_key one ≡ pair_key other = (bytes_decides (pair_key one) (pair_key other)).0 both.1 in
    ap (λ kind. four_octets kind ++ (four_octets (length (pair_key one)) ++ pair_key one)) kinds
    ∙ ap (λ key. four_octets other.kind ++ (four_octets (length key) ++ key)) keys

-- a type that is found by its name is in the schema
named_below : (kind : ℕ) → type_named (type_name kind) ≡ Some kind → kind < 24
unfolding types type_named
named_below kind known = (position-Some (λ row. str_eq_ignore_ascii_case row.name (type_name kind)) types kind no_type known).0

same-from_piece : (one other : TypeAndValue) → IsKnown one → IsKnown other → pair_piece one ≡ pair_piece other → same_pair one other ≡ true
same-from_piece one other known_one known_other same =
    let kinds = octets-apart one.kind other.kind (four_octets (length (pair_key one)) ++ pair_key one) (four_octets (length (pair_key other)) ++ pair_key other)
    (known_small one.kind (named_below one.kind known_one)) (known_small other.kind (named_below other.kind known_other)) same in
    let keys = texts-apart (four_octets (length (pair_key one))) (four_octets (length (pair_key other))) (pair_key one) (pair_key other) refl kinds.1 in
    and_from (nat_eq one.kind other.kind) (pointwise nat_eq (pair_key one) (pair_key other)) (eq-eqb one.kind other.kind kinds.0) ((bytes_decides (pair_key one) (pair_key other)).1 keys.1)

-- equal names have the same sets of pieces
pub pieces-from_same_name : (one other : List (List TypeAndValue)) → same_name one other ≡ true → map piece_set one ≡ map piece_set other
pieces-from_same_name one other same = sets_by-from_same pair_piece piece-from_same same-from_piece one other same

-- names with the same sets of pieces are equal
pub same_name-from_pieces : (one other : List (List TypeAndValue)) → IsName one → IsName other → map piece_set one ≡ map piece_set other → same_name one other ≡ true
same_name-from_pieces one other sound_one sound_other sets = same-from_sets_by pair_piece piece-from_same same-from_piece one other sound_one sound_other sets
