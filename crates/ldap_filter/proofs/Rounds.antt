-- A filter that was written is read again.
use Rattle.std.proofs.Math.Bool.{and-false}
use Rattle.std.proofs.Common.{◌≡◌, ◌≢◌, ℕ, zero, suc, ◌+◌, ◌-◌, ◌≤◌, Bool, true, false, not, ◌&&◌, ◌==◌, if◌then◌else◌, List, [], ◌∷◌, ◌++◌, length, take, drop, take_while, Option, Some, None, Result, Ok, refl, sym, ap, ◌∙◌, arith, append-nil, length-append}
use Rattle.std.proofs.lemmas.Bool.{and_parts, false≢true, ne_eqb, not-true}
use Rattle.std.proofs.lemmas.List.{take_at, drop_at, get_or_push, length_push}
use Rattle.std.specs.List.{list_all, flat_map, prefix_len}
use Rattle.ldap_filter.specs.declared.fault.FilterFault.{FilterFault}
use Rattle.ldap_filter.specs.Grammar.{is_type_byte, all_type_bytes, is_type, begins_with}
use Rattle.ldap_filter.specs.Pieces.{has_piece}
use Rattle.ldap_filter.specs.Reading.{◌>>=◌, Reading, refused, past, many_in, many_at, value_goes_on, starred_at, stars_at, type_at, compared_at, made, filled, asserted, equal_at, item_of, item_at, filters_at, component_at, enclosed_at, filter_in}
use Rattle.ldap_filter.specs.FilterTree.{FilterTree, Trees, all_of, any_of, negated, equal, substrings, at_least, at_most, present, approx, extensible, no_trees, more_trees, trees, listed, depth, deepest}
use Rattle.ldap_filter.specs.Writing.{is_filled, is_absent_or_filled, are_filled, has_substrings_text, has_text, have_texts, are_bytes, is_absent_or_bytes, are_sound_pieces, is_sound, are_sound, value_text, end_text, middle_text, enclosed, substrings_text, text_of, texts_of}
use Rattle.ldap_filter.proofs.Values.{joined, many_stops, many_one, value_read}
use Rattle.ldap_ber.proofs.Lists.{list_all_push}

-- ---- types

one_taken : (p : ℕ → Bool) (b : ℕ) (bs : List ℕ) → p b ≡ true → take_while p (b ∷ bs) ≡ b ∷ take_while p bs
one_taken p b bs passes =
    let one : 1 + prefix_len p bs ≡ suc (prefix_len p bs) = omega arith in rw passes (ap (λ (n : ℕ). take n (b ∷ bs)) one)

none_taken : (p : ℕ → Bool) (b : ℕ) (bs : List ℕ) → p b ≡ false → take_while p (b ∷ bs) ≡ []
none_taken p b bs fails = rw fails refl

taken : (name : List ℕ) (c : ℕ) (more : List ℕ) → all_type_bytes name ≡ true → is_type_byte c ≡ false → take_while is_type_byte (name ++ c ∷ more) ≡ name
taken [] c more typed other = none_taken is_type_byte c more other
taken (b ∷ bs) c more typed other =
    let parts = and_parts (is_type_byte b) (all_type_bytes bs) typed in
    one_taken is_type_byte b (bs ++ c ∷ more) parts.0 ∙ ap (λ (n : List ℕ). b ∷ n) (taken bs c more parts.1 other)

type_read : (name : List ℕ) (stop c : ℕ) (more : List ℕ) → is_type name ≡ true → is_type_byte c ≡ false → type_at stop (name ++ c ∷ more) ≡ Ok (name, c ∷ more)
type_read name stop c more typed other =
    let parts = and_parts (not (length name == 0)) (all_type_bytes name) typed in
    let some : (length name == 0) ≡ false = not-true (length name == 0) parts.0 in
    let bytes = name ++ c ∷ more in
    ap (λ (n : List ℕ). if length n == 0 then refused stop bytes else Ok (n, drop (length n) bytes)) (taken name c more parts.1 other)
    ∙ rw some (ap (λ (r : List ℕ). Ok (name, r)) (drop_at name (c ∷ more) (length name) refl))

item_read : (name : List ℕ) (stop c : ℕ) (more : List ℕ) (r : Result (FilterTree × List ℕ) FilterFault) → is_type name ≡ true → is_type_byte c ≡ false
    → item_of name stop (c ∷ more) ≡ r → item_at stop (name ++ c ∷ more) ≡ r
unfolding item_at
item_read name stop c more r typed other read =
    ap (λ (q : Result (List ℕ × List ℕ) FilterFault). q >>= λ n. item_of n.0 stop n.1) (type_read name stop c more typed other) ∙ read

type_other : (c k : ℕ) → is_type_byte c ≡ true → is_type_byte k ≡ false → (c == k) ≡ false
type_other c k typed other = ne_eqb c k (λ e. false≢true (sym other ∙ ap is_type_byte (sym e) ∙ typed))

-- what begins with a type is an item
component_read : (f : Reading FilterTree) (name : List ℕ) (stop : ℕ) (more : List ℕ) (r : Result (FilterTree × List ℕ) FilterFault) → is_type name ≡ true
    → item_at stop (name ++ more) ≡ r → component_at f stop (name ++ more) ≡ r
component_read f [] stop more r typed read = absurd (false≢true typed)
component_read f (c ∷ cs) stop more r typed read =
    let parts = and_parts (not (length (c ∷ cs) == 0)) (all_type_bytes (c ∷ cs)) typed in
    let first = and_parts (is_type_byte c) (all_type_bytes cs) parts.1 in
    rw (type_other c 38 first.0 refl, type_other c 124 first.0 refl, type_other c 33 first.0 refl) read

-- ---- enclosed

enclosed_read : (f : Reading FilterTree) (stop : ℕ) (inner rest : List ℕ) (t : FilterTree) → component_at f stop (inner ++ 41 ∷ rest) ≡ Ok (t, 41 ∷ rest)
    → enclosed_at f stop (enclosed inner ++ rest) ≡ Ok (t, rest)
enclosed_read f stop inner rest t read =
    ap (λ (r : Result (FilterTree × List ℕ) FilterFault). r >>= λ u. past 41 stop u.1 >>= λ left. Ok (u.0, left))
    (ap (component_at f stop) (joined inner (41 ∷ []) rest) ∙ read)

level_read : (levels stop : ℕ) (inner rest : List ℕ) (t : FilterTree) → component_at (filter_in levels) stop (inner ++ 41 ∷ rest) ≡ Ok (t, 41 ∷ rest)
    → filter_in (suc levels) stop (enclosed inner ++ rest) ≡ Ok (t, rest)
unfolding filter_in
level_read levels stop inner rest t read = enclosed_read (filter_in levels) stop inner rest t read

-- an item of a type, a sign and what stands after it
signed_read : (levels stop : ℕ) (name : List ℕ) (c : ℕ) (tail rest : List ℕ) (t : FilterTree) → is_type name ≡ true → is_type_byte c ≡ false
    → item_of name stop (c ∷ (tail ++ 41 ∷ rest)) ≡ Ok (t, 41 ∷ rest) → filter_in (suc levels) stop (enclosed (name ++ c ∷ tail) ++ rest) ≡ Ok (t, rest)
signed_read levels stop name c tail rest t typed other read =
    level_read levels stop (name ++ c ∷ tail) rest t
    (ap (component_at (filter_in levels) stop) (joined name (c ∷ tail) (41 ∷ rest))
    ∙ component_read (filter_in levels) name stop (c ∷ (tail ++ 41 ∷ rest)) (Ok (t, 41 ∷ rest)) typed (item_read name stop c (tail ++ 41 ∷ rest) (Ok (t, 41 ∷ rest)) typed other read))

-- ---- values after stars

abbrev starred_text : List ℕ → List ℕ
starred_text piece = 42 ∷ value_text piece

stars_stop : (ps : List (List ℕ)) (rest : List ℕ) → value_goes_on rest ≡ false → value_goes_on (flat_map starred_text ps ++ rest) ≡ false
stars_stop [] rest ends = ends
stars_stop (p ∷ ps) rest ends = refl

starred_read : (piece : List ℕ) (stop : ℕ) (rest : List ℕ) → are_bytes piece ≡ true → value_goes_on rest ≡ false → starred_at stop (42 ∷ (value_text piece ++ rest)) ≡ Ok (piece, rest)
unfolding starred_at
starred_read piece stop rest bytes ends = value_read piece stop rest bytes ends

stars_in : (ps : List (List ℕ)) (most stop : ℕ) (rest : List ℕ) → list_all are_bytes ps ≡ true → length ps ≤ most → value_goes_on rest ≡ false → begins_with 42 rest ≡ false
    → many_in (begins_with 42) starred_at most stop (flat_map starred_text ps ++ rest) ≡ Ok (ps, rest)
stars_in [] most stop rest bytes room ends last = many_stops (begins_with 42) starred_at most stop rest last
stars_in (p ∷ ps) zero stop rest bytes room ends last = absurd (omega arith)
stars_in (p ∷ ps) (suc most) stop rest bytes room ends last =
    let parts = and_parts (are_bytes p) (list_all are_bytes ps) bytes in
    let beyond = flat_map starred_text ps ++ rest in
    ap (λ (t : List ℕ). many_in (begins_with 42) starred_at (suc most) stop (42 ∷ t)) (joined (value_text p) (flat_map starred_text ps) rest)
    ∙ many_one (begins_with 42) starred_at most stop (42 ∷ (value_text p ++ beyond)) p beyond ps rest refl
    (starred_read p stop beyond parts.0 (stars_stop ps rest ends)) (stars_in ps most stop rest parts.1 (omega arith) ends last)

stars_length : (ps : List (List ℕ)) → length ps ≤ length (flat_map starred_text ps)
stars_length [] = omega arith
stars_length (p ∷ ps) = omega (arith, stars_length ps, length-append (starred_text p) (flat_map starred_text ps))

stars_read : (ps : List (List ℕ)) (stop : ℕ) (rest : List ℕ) → list_all are_bytes ps ≡ true → value_goes_on rest ≡ false → begins_with 42 rest ≡ false
    → stars_at stop (flat_map starred_text ps ++ rest) ≡ Ok (ps, rest)
unfolding stars_at many_at
stars_read ps stop rest bytes ends last =
    stars_in ps (length (flat_map starred_text ps ++ rest)) stop rest bytes (omega (arith, stars_length ps, length-append (flat_map starred_text ps) rest)) ends last

-- ---- items

equal_read : (name first : List ℕ) (beyond : List (List ℕ)) (stop : ℕ) (rest : List ℕ) → are_bytes first ≡ true → list_all are_bytes beyond ≡ true
    → equal_at name stop (value_text first ++ (flat_map starred_text beyond ++ 41 ∷ rest)) ≡ Ok (asserted name first beyond, 41 ∷ rest)
unfolding equal_at
equal_read name first beyond stop rest bytes all =
    rw (value_read first stop (flat_map starred_text beyond ++ 41 ∷ rest) bytes (stars_stop beyond (41 ∷ rest) refl), stars_read beyond stop (41 ∷ rest) all refl refl) refl

compared_read : (value : List ℕ) (stop : ℕ) (rest : List ℕ) → are_bytes value ≡ true → compared_at stop (61 ∷ (value_text value ++ 41 ∷ rest)) ≡ Ok (value, 41 ∷ rest)
unfolding compared_at
compared_read value stop rest bytes = value_read value stop (41 ∷ rest) bytes refl

-- ---- pieces

abbrev or_empty : Option (List ℕ) → List ℕ
or_empty None = []
or_empty (Some piece) = piece

end_is : (piece : Option (List ℕ)) → end_text piece ≡ value_text (or_empty piece)
unfolding value_text
end_is None = refl
end_is (Some piece) = refl

end_bytes : (piece : Option (List ℕ)) → is_absent_or_bytes piece ≡ true → are_bytes (or_empty piece) ≡ true
end_bytes None bytes = refl
end_bytes (Some piece) bytes = bytes

end_filled : (piece : Option (List ℕ)) → is_absent_or_filled piece ≡ true → filled (or_empty piece) ≡ piece
end_filled None some = refl
end_filled (Some piece) some = rw (not-true (length piece == 0) some) refl

-- the stars of a text stand before their pieces as well as after them
shifted : (middle : List (List ℕ)) (last : List ℕ) → 42 ∷ (flat_map middle_text middle ++ value_text last) ≡ flat_map starred_text (middle ++ last ∷ [])
shifted [] last = sym (append-nil (starred_text last))
shifted (m ∷ ms) last =
    let beyond = flat_map middle_text ms ++ value_text last in
    let left : (middle_text m ++ flat_map middle_text ms) ++ value_text last ≡ value_text m ++ (42 ∷ beyond) =
    joined (middle_text m) (flat_map middle_text ms) (value_text last) ∙ joined (value_text m) (42 ∷ []) beyond in
    ap (λ (t : List ℕ). 42 ∷ t) (left ∙ ap (λ (t : List ℕ). value_text m ++ t) (shifted ms last))

piece_there : (initial : Option (List ℕ)) (middle : List (List ℕ)) (last : Option (List ℕ)) → has_piece initial middle last ≡ true
    → is_absent_or_filled initial ≡ true → is_absent_or_filled last ≡ true
    → (length middle == 0 && (length (or_empty initial) == 0 && length (or_empty last) == 0)) ≡ false
piece_there (Some i) middle last there first end = rw (not-true (length i == 0) first) (and-false (length middle == 0))
piece_there None middle (Some l) there first end = rw (not-true (length l == 0) end) (and-false (length middle == 0))
piece_there None [] None there first end = absurd (false≢true there)
piece_there None (m ∷ ms) None there first end = let some : length (m ∷ ms) ≢ 0 = omega arith in rw (ne_eqb (length (m ∷ ms)) 0 some) refl

asserted_is : (name : List ℕ) (initial : Option (List ℕ)) (middle : List (List ℕ)) (last : Option (List ℕ)) → has_piece initial middle last ≡ true
    → is_absent_or_filled initial ≡ true → is_absent_or_filled last ≡ true
    → asserted name (or_empty initial) (middle ++ or_empty last ∷ []) ≡ substrings name initial middle last
asserted_is name initial middle last there first end =
    let l = or_empty last in
    let ps = middle ++ l ∷ [] in
    let longer = length_push middle l in
    let some : length ps ≢ 0 = omega arith in
    let most : length middle ≡ length ps - 1 = omega arith in
    rw (
      ne_eqb (length ps) 0 some,
      take_at middle (l ∷ []) (length ps - 1) most,
      get_or_push middle l [] (length ps - 1) most,
      piece_there initial middle last there first end,
      end_filled initial first,
      end_filled last end,
    ) refl

pieces_read : (levels stop : ℕ) (name : List ℕ) (initial : Option (List ℕ)) (middle : List (List ℕ)) (last : Option (List ℕ)) (rest : List ℕ)
    → has_substrings_text name initial middle last ≡ true → are_sound_pieces initial middle last ≡ true
    → filter_in (suc levels) stop (substrings_text name initial middle last ++ rest) ≡ Ok (substrings name initial middle last, rest)
pieces_read levels stop name initial middle last rest text sound =
    let typed = and_parts (is_type name) (are_filled initial middle last) text in
    let first = and_parts (is_absent_or_filled initial) (list_all is_filled middle && is_absent_or_filled last) typed.1 in
    let end = and_parts (list_all is_filled middle) (is_absent_or_filled last) first.1 in
    let there = and_parts (has_piece initial middle last) (is_absent_or_bytes initial && (list_all are_bytes middle && is_absent_or_bytes last)) sound in
    let bytes = and_parts (is_absent_or_bytes initial) (list_all are_bytes middle && is_absent_or_bytes last) there.1 in
    let others = and_parts (list_all are_bytes middle) (is_absent_or_bytes last) bytes.1 in
    let i = or_empty initial in
    let ps = middle ++ or_empty last ∷ [] in
    let beyond : 42 ∷ (flat_map middle_text middle ++ end_text last) ≡ flat_map starred_text ps =
    ap (λ (t : List ℕ). 42 ∷ (flat_map middle_text middle ++ t)) (end_is last) ∙ shifted middle (or_empty last) in
    let tail : end_text initial ++ (42 ∷ (flat_map middle_text middle ++ end_text last)) ≡ value_text i ++ flat_map starred_text ps =
    ap (λ (t : List ℕ). t ++ (42 ∷ (flat_map middle_text middle ++ end_text last))) (end_is initial) ∙ ap (λ (t : List ℕ). value_text i ++ t) beyond in
    ap (λ (t : List ℕ). filter_in (suc levels) stop (enclosed (name ++ 61 ∷ t) ++ rest)) tail
    ∙ signed_read levels stop name 61 (value_text i ++ flat_map starred_text ps) rest (substrings name initial middle last) typed.0 refl
    (ap (equal_at name stop) (joined (value_text i) (flat_map starred_text ps) (41 ∷ rest))
    ∙ equal_read name i ps stop rest (end_bytes initial bytes.0) (list_all_push are_bytes middle (or_empty last) others.0 (end_bytes last others.1))
    ∙ ap (λ (t : FilterTree). Ok (t, 41 ∷ rest)) (asserted_is name initial middle last there.0 first.0 end.1))

-- ---- filters

-- trees are those of their list
pub trees_listed : (ts : Trees) → trees (listed ts) ≡ ts
trees_listed no_trees = refl
trees_listed (more_trees t ts) = ap (λ (us : Trees). more_trees t us) (trees_listed ts)

text_begins : (t : FilterTree) (rest : List ℕ) → has_text t ≡ true → begins_with 40 (text_of t ++ rest) ≡ true
text_begins (all_of ts) rest text = refl
text_begins (any_of ts) rest text = refl
text_begins (negated t) rest text = refl
text_begins (equal n v) rest text = refl
text_begins (substrings n i m l) rest text = refl
text_begins (at_least n v) rest text = refl
text_begins (at_most n v) rest text = refl
text_begins (present n) rest text = refl
text_begins (approx n v) rest text = refl
text_begins (extensible b) rest text = absurd (false≢true text)

begins_some : (bytes : List ℕ) → begins_with 40 bytes ≡ true → 1 ≤ length bytes
begins_some [] begins = absurd (false≢true begins)
begins_some (b ∷ bytes) begins = omega arith

texts_length : (ts : Trees) → have_texts ts ≡ true → length (listed ts) ≤ length (texts_of ts)
texts_length no_trees text = omega arith
texts_length (more_trees t ts) text =
    let parts = and_parts (has_text t) (have_texts ts) text in
    let some = begins_some (text_of t ++ []) (text_begins t [] parts.0) in
    omega (arith, some, texts_length ts parts.1, length-append (text_of t) (texts_of ts), length-append (text_of t) [])

depth_some : (t : FilterTree) → 1 ≤ depth t
depth_some (all_of ts) = omega arith
depth_some (any_of ts) = omega arith
depth_some (negated t) = omega arith
depth_some (equal n v) = omega arith
depth_some (substrings n i m l) = omega arith
depth_some (at_least n v) = omega arith
depth_some (at_most n v) = omega arith
depth_some (present n) = omega arith
depth_some (approx n v) = omega arith
depth_some (extensible b) = omega arith

-- a lone star is presence
presence_read : (name : List ℕ) (stop : ℕ) (rest : List ℕ) → item_of name stop (61 ∷ (42 ∷ (41 ∷ rest))) ≡ Ok (present name, 41 ∷ rest)
unfolding value_text
presence_read name stop rest = equal_read name [] ([] ∷ []) stop rest refl refl

-- the filters of a list, in as many steps as there are bytes
group_read : (ts : Trees) (levels stop : ℕ) (rest : List ℕ) → have_texts ts ≡ true
    → ((most : ℕ) → length (listed ts) ≤ most → many_in (begins_with 40) (filter_in levels) most stop (texts_of ts ++ rest) ≡ Ok (listed ts, rest))
    → filters_at (filter_in levels) stop (texts_of ts ++ rest) ≡ Ok (listed ts, rest)
unfolding filters_at many_at
group_read ts levels stop rest text each = each (length (texts_of ts ++ rest)) (omega (arith, texts_length ts text, length-append (texts_of ts) rest))

mutual
  -- the text of a filter is read as that filter, whatever follows
  pub filter_read : (t : FilterTree) (levels stop : ℕ) (rest : List ℕ) → has_text t ≡ true → is_sound t ≡ true → depth t ≤ levels
      → filter_in levels stop (text_of t ++ rest) ≡ Ok (t, rest)
  filter_read t zero stop rest text sound within = absurd (omega (arith, depth_some t))
  filter_read (all_of ts) (suc levels) stop rest text sound within =
      level_read levels stop (38 ∷ texts_of ts) rest (all_of ts)
      (ap (made (λ us. all_of (trees us))) (group_read ts levels stop (41 ∷ rest) text (λ most room. filters_in ts levels most stop (41 ∷ rest) text sound (omega arith) room refl)) ∙ ap (λ (us : Trees). Ok (all_of us, 41 ∷ rest)) (trees_listed ts))
  filter_read (any_of ts) (suc levels) stop rest text sound within =
      level_read levels stop (124 ∷ texts_of ts) rest (any_of ts)
      (ap (made (λ us. any_of (trees us))) (group_read ts levels stop (41 ∷ rest) text (λ most room. filters_in ts levels most stop (41 ∷ rest) text sound (omega arith) room refl)) ∙ ap (λ (us : Trees). Ok (any_of us, 41 ∷ rest)) (trees_listed ts))
  filter_read (negated t) (suc levels) stop rest text sound within =
      level_read levels stop (33 ∷ text_of t) rest (negated t) (ap (made negated) (filter_read t levels stop (41 ∷ rest) text sound (omega arith)))
  filter_read (equal n v) (suc levels) stop rest text sound within =
      signed_read levels stop n 61 (value_text v) rest (equal n v) text refl (equal_read n v [] stop rest sound refl)
  filter_read (substrings n i m l) (suc levels) stop rest text sound within = pieces_read levels stop n i m l rest text sound
  filter_read (at_least n v) (suc levels) stop rest text sound within =
      signed_read levels stop n 62 (61 ∷ value_text v) rest (at_least n v) text refl (ap (made (at_least n)) (compared_read v stop rest sound))
  filter_read (at_most n v) (suc levels) stop rest text sound within =
      signed_read levels stop n 60 (61 ∷ value_text v) rest (at_most n v) text refl (ap (made (at_most n)) (compared_read v stop rest sound))
  filter_read (present n) (suc levels) stop rest text sound within =
      signed_read levels stop n 61 (42 ∷ []) rest (present n) text refl (presence_read n stop rest)
  filter_read (approx n v) (suc levels) stop rest text sound within =
      signed_read levels stop n 126 (61 ∷ value_text v) rest (approx n v) text refl (ap (made (approx n)) (compared_read v stop rest sound))
  filter_read (extensible b) (suc levels) stop rest text sound within = absurd (false≢true text)

  filters_in : (ts : Trees) (levels most stop : ℕ) (rest : List ℕ) → have_texts ts ≡ true → are_sound ts ≡ true → deepest ts ≤ levels → length (listed ts) ≤ most
      → begins_with 40 rest ≡ false → many_in (begins_with 40) (filter_in levels) most stop (texts_of ts ++ rest) ≡ Ok (listed ts, rest)
  filters_in no_trees levels most stop rest text sound within room last = many_stops (begins_with 40) (filter_in levels) most stop rest last
  filters_in (more_trees t ts) levels zero stop rest text sound within room last = absurd (omega arith)
  filters_in (more_trees t ts) levels (suc most) stop rest text sound within room last =
      let texts = and_parts (has_text t) (have_texts ts) text in
      let sounds = and_parts (is_sound t) (are_sound ts) sound in
      let beyond = texts_of ts ++ rest in
      ap (λ (b : List ℕ). many_in (begins_with 40) (filter_in levels) (suc most) stop b) (joined (text_of t) (texts_of ts) rest)
      ∙ many_one (begins_with 40) (filter_in levels) most stop (text_of t ++ beyond) t beyond (listed ts) rest (text_begins t beyond texts.0)
      (filter_read t levels stop beyond texts.0 sounds.0 (omega arith)) (filters_in ts levels most stop rest texts.1 sounds.1 (omega arith) (omega arith) last)
