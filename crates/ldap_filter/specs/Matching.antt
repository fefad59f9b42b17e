-- What an item of a filter asks of the key of a value (RFC 4511, sections 4.5.1.7.1 to 4.5.1.7.5).
use Rattle.std.specs.Prelude.{◌≡◌, ℕ, Bool, true, false, ◌&&◌, if◌then◌else◌, List, [], ◌∷◌, length, drop, Option, Some, None, is_some, option_map, option_and_then, nat_eq, int_le}
use Rattle.std.specs.Cmp.Lexicographic.{slice_cmp}
use Rattle.std.specs.List.{list_all, filter_map, starts_with, ends_with}
use Rattle.std.specs.Option.{option_map_or}
use Rattle.std.specs.Ordering.{is_le, nat_cmp}
use Rattle.text_keys.specs.Integer.{is_integer, integer_of, has_64_bits}
use Rattle.text_keys.specs.Text.{piece_key as text_key}
use Rattle.schema_rules.specs.Keys.{is_ascii, key_of}
use Rattle.schema_rules.specs.Schema.{type_named, type_rule, is_operational}
use Rattle.schema_rules.specs.declared.types.Rule.{Rule}
use Rattle.schema_rules.specs.declared.types.Rule.TheVariants.{Class, Folded, FoldedAscii, ExactAscii, Whole, Flag, Time, Operational}
use Rattle.ldap_filter.specs.declared.matching.Rank.{Rank}
use Rattle.ldap_filter.specs.declared.matching.Rank.TheVariants.{Number, Instant}
use Rattle.ldap_filter.specs.declared.matching.AskedKey.{AskedKey}
use Rattle.ldap_filter.specs.declared.matching.PieceKeys.{PieceKeys}
use Rattle.ldap_filter.specs.declared.matching.Test.{Test}
use Rattle.ldap_filter.specs.declared.matching.Test.TheVariants.{AtLeast, AtMost, Substrings}

-- a type that clients give: one of the schema's, but none that the directory keeps itself
abbrev pub asked_type : List ℕ → Option ℕ
asked_type name =
    option_and_then (λ kind. if is_operational kind then None else Some kind) (type_named name)

-- ---- equality

-- what is asked for: a type and a key
abbrev pub asked_of : ℕ → List ℕ → AskedKey
asked_of kind key = record { kind = kind; key = key }

-- the type with the key that the value has as one of it
abbrev pub typed_key : List ℕ → ℕ → Option AskedKey
typed_key value kind = option_map (asked_of kind) (key_of kind value)

-- what an equality asks for, where its name is that of a type that clients give, and its value is
-- of the syntax
abbrev pub asked_key : List ℕ → List ℕ → Option AskedKey
asked_key name value = option_and_then (typed_key value) (asked_type name)

-- ---- order

-- the rank of a value by its key: numbers by number, times by text; values of
-- other types have no order
abbrev pub rank_by : Rule → List ℕ → Option Rank
rank_by Class key = None
rank_by Folded key = None
rank_by FoldedAscii key = None
rank_by ExactAscii key = None
rank_by Whole key = Some (Number (integer_of key))
rank_by Flag key = None
rank_by Time key = Some (Instant key)
rank_by Operational key = None

abbrev pub is_at_most : Rank → Rank → Bool
is_at_most (Number low) (Number high) = int_le low high
is_at_most (Number low) (Instant high) = false
is_at_most (Instant low) (Number high) = false
is_at_most (Instant low) (Instant high) = is_le (slice_cmp nat_cmp low high)

-- the key of a number is the text of an integer of 64 bits
abbrev pub IsKey : Rule → List ℕ → Type 0
IsKey rule key = rule ≡ Whole → (is_integer key && has_64_bits (integer_of key)) ≡ true

-- ---- substrings, on keys

-- the key of a piece, which it has by the rules of text alone
abbrev pub piece_key_by : Rule → List ℕ → Bool → Bool → Option (List ℕ)
piece_key_by Class piece first last = None
piece_key_by Folded piece first last = text_key piece true first last
piece_key_by FoldedAscii piece first last =
    if is_ascii piece then text_key piece true first last else None
piece_key_by ExactAscii piece first last =
    if is_ascii piece then text_key piece false first last else None
piece_key_by Whole piece first last = None
piece_key_by Flag piece first last = None
piece_key_by Time piece first last = None
piece_key_by Operational piece first last = None

-- a piece that is absent stays so
abbrev pub end_key : Rule → Option (List ℕ) → Bool → Bool → Option (Option (List ℕ))
end_key rule None first last = Some None
end_key rule (Some piece) first last =
    option_map (λ key. Some key) (piece_key_by rule piece first last)

abbrev pub middle_key : Rule → List ℕ → Option (List ℕ)
middle_key rule piece = piece_key_by rule piece false false

-- the keys of all pieces, where each has one
abbrev pub middle_keys : Rule → List (List ℕ) → Option (List (List ℕ))
middle_keys rule pieces =
    if list_all (λ piece. is_some (middle_key rule piece)) pieces
    then Some (filter_map (middle_key rule) pieces)
    else None

abbrev pub keys_of_pieces :
    Rule → Option (List ℕ) → List (List ℕ) → Option (List ℕ) → Option PieceKeys
keys_of_pieces rule initial middle last =
    option_and_then
    (λ i.
    option_and_then
    (λ m.
    option_map (λ l. record { initial = i; middle = m; last = l })
    (end_key rule last false true))
    (middle_keys rule middle))
    (end_key rule initial true false)

-- what stands after a piece at the start
abbrev pub after_prefix : List ℕ → List ℕ → Option (List ℕ)
after_prefix piece text =
    if starts_with nat_eq text piece then Some (drop (length piece) text) else None

abbrev pub after_initial : Option (List ℕ) → List ℕ → Option (List ℕ)
after_initial None text = Some text
after_initial (Some piece) text = after_prefix piece text

-- what stands after the first place of a piece
abbrev pub after_first : List ℕ → List ℕ → Option (List ℕ)
after_first piece [] = after_prefix piece []
after_first piece (c ∷ cs) =
    if starts_with nat_eq (c ∷ cs) piece then Some (drop (length piece) (c ∷ cs))
    else after_first piece cs

-- and after each of these pieces in turn
abbrev pub after_all : List (List ℕ) → List ℕ → Option (List ℕ)
after_all [] text = Some text
after_all (piece ∷ pieces) text = option_and_then (after_all pieces) (after_first piece text)

abbrev pub has_last : Option (List ℕ) → List ℕ → Bool
has_last None text = true
has_last (Some piece) text = ends_with nat_eq text piece

-- the initial piece is a prefix, each middle piece stands at its first place after those before
-- it, and the last piece ends what is left
abbrev pub has_pieces : PieceKeys → List ℕ → Bool
has_pieces pieces text =
    option_map_or (has_last pieces.last)
    (option_and_then (after_all pieces.middle) (after_initial pieces.initial text)) false

-- ---- tests

-- what the key of a value has to pass
abbrev pub passes : Rule → Test → List ℕ → Bool
passes rule (AtLeast least) key =
    option_map_or (λ rank. is_at_most least rank) (rank_by rule key) false
passes rule (AtMost most) key =
    option_map_or (λ rank. is_at_most rank most) (rank_by rule key) false
passes rule (Substrings pieces) key = has_pieces pieces key

-- a value that is not of its type's syntax passes no test
abbrev pub matches : ℕ → Test → List ℕ → Bool
matches kind test value = option_map_or (passes (type_rule kind) test) (key_of kind value) false

-- the rank of a value of the type
abbrev pub rank_of : ℕ → List ℕ → Option Rank
rank_of kind value = option_and_then (rank_by (type_rule kind)) (key_of kind value)

-- the tests of the items, and none where the value is not of the syntax, or the
-- type has no such test
abbrev pub at_least_test : ℕ → List ℕ → Option Test
at_least_test kind value = option_map (λ rank. AtLeast rank) (rank_of kind value)

abbrev pub at_most_test : ℕ → List ℕ → Option Test
at_most_test kind value = option_map (λ rank. AtMost rank) (rank_of kind value)

abbrev pub substrings_test : ℕ → Option (List ℕ) → List (List ℕ) → Option (List ℕ) → Option Test
substrings_test kind initial middle last =
    option_map (λ pieces. Substrings pieces) (keys_of_pieces (type_rule kind) initial middle last)
