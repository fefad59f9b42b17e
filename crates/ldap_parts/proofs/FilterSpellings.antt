-- The canonical spelling of a filter is one of its spellings.
use Rattle.std.proofs.Common.{◌≡◌, ◌≢◌, ℕ, zero, suc, ◌<◌, ◌≤◌, ◌%◌, ◌^◌, true, List, ◌++◌, length, Option, refl, sym, ap, subst, ◌∙◌, append_assoc, arith}
use Rattle.std.specs.List.{flat_map, AllByRecursion}
use Rattle.std.proofs.lemmas.List.Concat.{flat_map-cons}
use Rattle.std.proofs.lemmas.Bool.{and_parts}
use Rattle.ldap_ber.specs.Form.{OctetString, Both, Tagged, ListOf}
use Rattle.ldap_ber.specs.Canonical.{element}
use Rattle.ldap_ber.proofs.CanonicalLemmas.{Spelled, Anything, Always, Lacks, octets_spelled, both_spelled, meaning_spelled, sequence_spelled, list_spelled, tagged_spelled, none_next}
use Rattle.ldap_filter.specs.Pieces.{has_piece}
use Rattle.ldap_filter.specs.FilterTree.{FilterTree, Trees, all_of, any_of, negated, equal, substrings, at_least, at_most, present, approx, extensible, no_trees, more_trees, depth, deepest, listed}
use Rattle.ldap_parts.specs.Components.{OptionForm, string_octets}
use Rattle.ldap_parts.specs.Filters.{While, Parts, ArePieces, PiecesForm, SubstringsForm, AssertionForm, FilterIn, pieces_octets, substrings_octets, assertion_octets, filter_octets, filters_octets, have_piece, all_have_piece}
use Rattle.ldap_parts.proofs.ComponentLemmas.{option_spelled, option_lacks}
use Rattle.ldap_parts.proofs.WhileLemmas.{strings_while_spelled, strings_lack}

-- ---- the pieces of a substring filter

abbrev beyond : List (List ℕ) × Option (List ℕ) → List ℕ
beyond parts = flat_map (element 129) parts.0 ++ string_octets 130 parts.1

abbrev parts_octets : Parts → List ℕ
parts_octets parts = string_octets 128 parts.0 ++ beyond parts.1

-- no piece comes next
abbrev NoPiece : List ℕ → Type 0
NoPiece rest = Lacks 128 rest × (Lacks 129 rest × Lacks 130 rest)

after_spelled : Spelled (Both (While 129 (OctetString 129)) (OptionForm 130)) beyond (λ p. Unit {0} × Unit {0}) NoPiece
after_spelled = both_spelled (While 129 (OctetString 129)) (OptionForm 130) (flat_map (element 129)) (string_octets 130) (Always {X = List (List ℕ)}) (Always {X = Option (List ℕ)}) (Lacks 129) NoPiece
    (strings_while_spelled 129 (omega arith)) (record { spells = λ value rest small sound after. (option_spelled 130 (omega arith)).spells value rest small sound after.1.1 })
    (λ value rest sound after. option_lacks 129 130 value rest (omega arith) after.1.0)

parts_spelled : Spelled (Both (OptionForm 128) (Both (While 129 (OctetString 129)) (OptionForm 130))) parts_octets (λ p. Unit {0} × (Unit {0} × Unit {0})) NoPiece
parts_spelled = both_spelled (OptionForm 128) (Both (While 129 (OctetString 129)) (OptionForm 130)) (string_octets 128) beyond (Always {X = Option (List ℕ)}) (λ p. Unit {0} × Unit {0}) (Lacks 128) NoPiece
    (option_spelled 128 (omega arith)) after_spelled
    (λ parts rest sound after. subst (λ (y : List ℕ). Lacks 128 y) (sym (append_assoc (flat_map (element 129) parts.0) (string_octets 130 parts.1) rest)) (strings_lack 128 129 parts.0 (string_octets 130 parts.1 ++ rest) (omega arith) (option_lacks 128 130 parts.1 rest (omega arith) after.0)))

abbrev HasPiece : Parts → Type 0
HasPiece parts = has_piece parts.0 parts.1.0 parts.1.1 ≡ true

pieces_spelled : Spelled PiecesForm pieces_octets HasPiece Anything
pieces_spelled = meaning_spelled ArePieces (Tagged 48 (Both (OptionForm 128) (Both (While 129 (OctetString 129)) (OptionForm 130)))) (λ x. element 48 (parts_octets x)) (λ p. Unit {0} × (Unit {0} × Unit {0})) Anything (λ (x : Parts). x) HasPiece
    (λ parts sound. ((refl, sound), (tt, (tt, tt))))
    (tagged_spelled 48 (Both (OptionForm 128) (Both (While 129 (OctetString 129)) (OptionForm 130))) parts_octets (λ p. Unit {0} × (Unit {0} × Unit {0})) NoPiece (omega arith) parts_spelled (none_next 128, (none_next 129, none_next 130)))

-- ---- items

substrings_spelled : Spelled SubstringsForm substrings_octets (λ item. Unit {0} × HasPiece item.1) Anything
substrings_spelled = sequence_spelled 164 (Both (OctetString 4) PiecesForm) (λ item. element 4 item.0 ++ pieces_octets item.1) (λ item. Unit {0} × HasPiece item.1) Anything (omega arith)
    (both_spelled (OctetString 4) PiecesForm (element 4) pieces_octets (Always {X = List ℕ}) HasPiece Anything Anything (octets_spelled 4 (omega arith)) pieces_spelled (λ y rest sound after. tt)) tt

-- what is written of a type with a value is an encoding of it
pub assertion_spelled : (tag : ℕ) → tag % 32 ≢ 31 → Spelled (AssertionForm tag) (assertion_octets tag) (λ item. Unit {0} × Unit {0}) Anything
assertion_spelled tag low = sequence_spelled tag (Both (OctetString 4) (OctetString 4)) (λ item. element 4 item.0 ++ element 4 item.1) (λ item. Unit {0} × Unit {0}) Anything low
    (both_spelled (OctetString 4) (OctetString 4) (element 4) (element 4) (Always {X = List ℕ}) (Always {X = List ℕ}) Anything Anything (octets_spelled 4 (omega arith)) (octets_spelled 4 (omega arith)) (λ y rest sound after. tt)) tt

-- ---- filters

-- what has a spelling in n levels
abbrev pub FitsIn : ℕ → FilterTree → Type 0
FitsIn levels filter = (depth filter ≤ levels) × (have_piece filter ≡ true)

filters_flat : (ts : Trees) → filters_octets ts ≡ flat_map filter_octets (listed ts)
filters_flat no_trees = refl
filters_flat (more_trees t ts) = ap (λ (y : List ℕ). filter_octets t ++ y) (filters_flat ts) ∙ sym (flat_map-cons filter_octets t (listed ts))

each_fits : (levels : ℕ) (ts : Trees) → deepest ts ≤ levels → all_have_piece ts ≡ true → AllByRecursion (FitsIn levels) (listed ts)
each_fits d no_trees deep some = tt
each_fits d (more_trees t ts) deep some =
    let b = and_parts (have_piece t) (all_have_piece ts) some in
    ((omega arith, b.0), each_fits d ts (omega arith) b.1)

list_goes : (tag levels : ℕ) → tag % 32 ≢ 31 → Spelled (FilterIn levels) filter_octets (FitsIn levels) Anything → (ts : Trees) (rest : List ℕ) → length (element tag (filters_octets ts)) < 2 ^ 32 → deepest ts ≤ levels → all_have_piece ts ≡ true
    → ListOf tag (FilterIn levels) (element tag (filters_octets ts) ++ rest) (listed ts) rest
list_goes tag d low p ts rest small deep some =
    let flat = filters_flat ts in
    subst (λ (y : List ℕ). ListOf tag (FilterIn d) (element tag y ++ rest) (listed ts) rest) (sym flat)
    ((list_spelled tag (FilterIn d) filter_octets (FitsIn d) low p).spells (listed ts) rest (subst (λ (y : List ℕ). length (element tag y) < 2 ^ 32) flat small) (each_fits d ts deep some) tt)

filter_goes : (levels : ℕ) → Spelled (FilterIn levels) filter_octets (FitsIn levels) Anything → (t : FilterTree) (rest : List ℕ) → length (filter_octets t) < 2 ^ 32 → FitsIn (suc levels) t → FilterIn (suc levels) (filter_octets t ++ rest) t rest
unfolding FilterIn
filter_goes d p (all_of ts) rest small fits = list_goes 160 d (omega arith) p ts rest small (omega (arith, fits.0)) fits.1
filter_goes d p (any_of ts) rest small fits = list_goes 161 d (omega arith) p ts rest small (omega (arith, fits.0)) fits.1
filter_goes d p (negated t) rest small fits = (tagged_spelled 162 (FilterIn d) filter_octets (FitsIn d) Anything (omega arith) p tt).spells t rest small (omega (arith, fits.0), fits.1) tt
filter_goes d p (equal n v) rest small fits = (assertion_spelled 163 (omega arith)).spells (n, v) rest small (tt, tt) tt
filter_goes d p (substrings n i m l) rest small fits = substrings_spelled.spells (n, (i, (m, l))) rest small (tt, fits.1) tt
filter_goes d p (at_least n v) rest small fits = (assertion_spelled 165 (omega arith)).spells (n, v) rest small (tt, tt) tt
filter_goes d p (at_most n v) rest small fits = (assertion_spelled 166 (omega arith)).spells (n, v) rest small (tt, tt) tt
filter_goes d p (present n) rest small fits = (octets_spelled 135 (omega arith)).spells n rest small tt tt
filter_goes d p (approx n v) rest small fits = (assertion_spelled 168 (omega arith)).spells (n, v) rest small (tt, tt) tt
filter_goes d p (extensible v) rest small fits = (octets_spelled 169 (omega arith)).spells v rest small tt tt

some_level : (t : FilterTree) → depth t ≤ 0 → ⊥
some_level (all_of ts) h = omega arith
some_level (any_of ts) h = omega arith
some_level (negated t) h = omega arith
some_level (equal n v) h = omega arith
some_level (substrings n i m l) h = omega arith
some_level (at_least n v) h = omega arith
some_level (at_most n v) h = omega arith
some_level (present n) h = omega arith
some_level (approx n v) h = omega arith
some_level (extensible v) h = omega arith

-- so is what is written of a filter that fits in these levels
pub filter_spelled : (levels : ℕ) → Spelled (FilterIn levels) filter_octets (FitsIn levels) Anything
filter_spelled zero = record { spells = λ t rest small fits after. absurd (some_level t fits.0) }
filter_spelled (suc d) = record { spells = λ t rest small fits after. filter_goes d (filter_spelled d) t rest small fits }
