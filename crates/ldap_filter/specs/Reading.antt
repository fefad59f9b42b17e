-- How a filter's text is read (RFC 4515, section 3; RFC 4526). A reading takes the place after the
-- text and the bytes that are left, and gives a value and the bytes after it, or the first fault.
use Rattle.std.specs.Prelude.{ℕ, zero, suc, ◌+◌, ◌-◌, ◌*◌, Bool, false, not, ◌&&◌, ◌||◌, ◌==◌, if◌then◌else◌, List, [], ◌∷◌, length, take, drop, take_while, Option, Some, None, Result, Ok, Err}
use Rattle.std.specs.List.{slice_index_or}
use Rattle.std.specs.Option.{option_map_or}
use Rattle.std.specs.Str.Lossy.{utf8_valid_len}
use Rattle.ldap_filter.specs.declared.fault.FilterFault.{FilterFault}
use Rattle.ldap_filter.specs.declared.fault.FilterFault.TheVariants.{BadFilter, TooDeep}
use Rattle.ldap_filter.specs.Grammar.{is_type_byte, hex_value, begins_with}
use Rattle.ldap_filter.specs.FilterTree.{FilterTree, all_of, any_of, negated, equal, substrings, at_least, at_most, present, approx, trees}

infixl 10 ◌>>=◌
abbrev pub ◌>>=◌ :
    {A B : Type 0} → Result A FilterFault → (A → Result B FilterFault) → Result B FilterFault
Ok x >>= f = f x
Err fault >>= f = Err fault

abbrev pub Reading : Type 0 → Type 0
Reading X = ℕ → List ℕ → Result (X × List ℕ) FilterFault

-- the first of these bytes is refused, or that they end
abbrev pub refused : {X : Type 0} → ℕ → List ℕ → Result X FilterFault
refused stop bytes = Err (BadFilter (stop - length bytes))

-- this byte, and the bytes after it
abbrev pub past : ℕ → ℕ → List ℕ → Result (List ℕ) FilterFault
past byte stop bytes = if begins_with byte bytes then Ok (drop 1 bytes) else refused stop bytes

-- as many values as begin here, at most n
abbrev pub many_in : {X : Type 0} → (List ℕ → Bool) → Reading X → ℕ → Reading (List X)
many_in begins f zero stop bytes = Ok ([], bytes)
many_in begins f (suc most) stop bytes =
    if begins bytes
    then (f stop bytes >>= λ x. many_in begins f most stop x.1 >>= λ xs. Ok (x.0 ∷ xs.0, xs.1))
    else Ok ([], bytes)

-- as many values as begin here
unfoldable pub many_at : {X : Type 0} → (List ℕ → Bool) → Reading X → Reading (List X)
many_at begins f stop bytes = many_in begins f (length bytes) stop bytes

-- ---- values

-- a value ends at `)` and at `*`
abbrev pub value_goes_on : List ℕ → Bool
value_goes_on [] = false
value_goes_on (c ∷ bytes) = not (c == 41 || c == 42)

-- HEX
abbrev pub hex_at : Reading ℕ
hex_at stop [] = refused stop []
hex_at stop (c ∷ bytes) =
    option_map_or (λ digit. Ok (digit, bytes)) (hex_value c) (refused stop (c ∷ bytes))

-- escaped = ESC HEX HEX, after its ESC
unfoldable pub escaped_at : Reading ℕ
escaped_at stop bytes =
    hex_at stop bytes >>= λ high. hex_at stop high.1 >>= λ low. Ok (16 * high.0 + low.0, low.1)

-- normal / escaped
abbrev pub value_byte_at : Reading ℕ
value_byte_at stop [] = refused stop []
value_byte_at stop (c ∷ bytes) =
    if c == 92 then escaped_at stop bytes
    else if c == 0 || c == 40 then refused stop (c ∷ bytes) else Ok (c, bytes)

-- assertionvalue = *(normal / escaped)
unfoldable pub value_at : Reading (List ℕ)
value_at stop bytes = many_at value_goes_on value_byte_at stop bytes

-- ASTERISK assertionvalue
unfoldable pub starred_at : Reading (List ℕ)
starred_at stop bytes = past 42 stop bytes >>= λ rest. value_at stop rest

-- ---- items

abbrev pub type_at : Reading (List ℕ)
type_at stop bytes =
    let name = take_while is_type_byte bytes in
    if length name == 0 then refused stop bytes else Ok (name, drop (length name) bytes)

-- EQUALS assertionvalue
unfoldable pub compared_at : Reading (List ℕ)
compared_at stop bytes = past 61 stop bytes >>= λ rest. value_at stop rest

abbrev pub made :
    {X Y : Type 0} → (X → Y) → Result (X × List ℕ) FilterFault → Result (Y × List ℕ) FilterFault
made item read = read >>= λ x. Ok (item x.0, x.1)

abbrev pub filled : List ℕ → Option (List ℕ)
filled piece = if length piece == 0 then None else Some piece

-- what stands after an `=` with a `*`: presence where there is no piece, and else pieces, the
-- first and the last of which are absent where they are empty
abbrev pub pieced : List ℕ → List ℕ → List (List ℕ) → List ℕ → FilterTree
pieced name first middle last =
    if length middle == 0 && (length first == 0 && length last == 0) then present name
    else substrings name (filled first) middle (filled last)

-- and without one: a value
abbrev pub asserted : List ℕ → List ℕ → List (List ℕ) → FilterTree
asserted name first beyond =
    let most = length beyond - 1 in
    if length beyond == 0 then equal name first
    else pieced name first (take most beyond) (slice_index_or beyond most [])

unfoldable pub stars_at : Reading (List (List ℕ))
stars_at stop bytes = many_at (begins_with 42) starred_at stop bytes

unfoldable pub equal_at : List ℕ → Reading FilterTree
equal_at name stop bytes =
    value_at stop bytes >>= λ first.
    stars_at stop first.1 >>= λ beyond.
    Ok (asserted name first.0 beyond.0, beyond.1)

-- filtertype assertionvalue
abbrev pub item_of : List ℕ → Reading FilterTree
item_of name stop bytes =
    if begins_with 61 bytes then equal_at name stop (drop 1 bytes)
    else if begins_with 126 bytes then made (approx name) (compared_at stop (drop 1 bytes))
    else if begins_with 62 bytes then made (at_least name) (compared_at stop (drop 1 bytes))
    else if begins_with 60 bytes then made (at_most name) (compared_at stop (drop 1 bytes))
    else refused stop bytes

-- simple / present / substring
unfoldable pub item_at : Reading FilterTree
item_at stop bytes = type_at stop bytes >>= λ name. item_of name.0 stop name.1

-- ---- filters

-- filterlist = *filter, by RFC 4526
unfoldable pub filters_at : Reading FilterTree → Reading (List FilterTree)
filters_at f stop bytes = many_at (begins_with 40) f stop bytes

-- filtercomp = and / or / not / item
abbrev pub component_at : Reading FilterTree → Reading FilterTree
component_at f stop bytes =
    if begins_with 38 bytes then made (λ ts. all_of (trees ts)) (filters_at f stop (drop 1 bytes))
    else if begins_with 124 bytes
    then made (λ ts. any_of (trees ts)) (filters_at f stop (drop 1 bytes))
    else if begins_with 33 bytes then made negated (f stop (drop 1 bytes))
    else item_at stop bytes

-- filter = LPAREN filtercomp RPAREN
abbrev pub enclosed_at : Reading FilterTree → Reading FilterTree
enclosed_at f stop bytes =
    past 40 stop bytes >>= λ inner.
    component_at f stop inner >>= λ t.
    past 41 stop t.1 >>= λ rest.
    Ok (t.0, rest)

-- a filter in at most n levels
unfoldable pub filter_in : ℕ → Reading FilterTree
filter_in zero stop bytes = if begins_with 40 bytes then Err TooDeep else refused stop bytes
filter_in (suc levels) stop bytes = enclosed_at (filter_in levels) stop bytes

-- a filter and nothing after it
unfoldable pub whole_at : List ℕ → Result FilterTree FilterFault
whole_at bytes =
    filter_in 32 (length bytes) bytes >>= λ t.
    if length t.1 == 0 then Ok t.0 else refused (length bytes) t.1

-- the first byte that is not part of UTF-8 text is refused, where no byte before it is
abbrev pub refused_at : ℕ → Result FilterTree FilterFault → Result FilterTree FilterFault
refused_at place (Ok t) = Err (BadFilter place)
refused_at place (Err fault) = Err fault

-- what a text is read as
unfoldable pub read_filter : List ℕ → Result FilterTree FilterFault
read_filter text =
    let valid = utf8_valid_len text in
    if valid == length text then whole_at text else refused_at valid (whole_at (take valid text))
