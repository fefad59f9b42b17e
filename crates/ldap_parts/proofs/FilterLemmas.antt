-- Filters: their reading is exact, at each depth.
use Rattle.std.proofs.Common.{◌≡◌, ℕ, zero, suc, ◌-◌, ◌<◌, true, false, List, [], ◌∷◌, ◌++◌, length, map, Result, Ok, Err, refl, sym, ap, subst, ◌∙◌, inl, inr}
use Rattle.std.proofs.lemmas.List.{map_push}
use Rattle.ldap_ber.specs.Element.{Begins}
use Rattle.ldap_ber.specs.Reader.{has_tag}
use Rattle.ldap_ber.specs.Form.{OctetString, Both, Tagged, ListOf}
use Rattle.ldap_ber.specs.Reading.{Reading, many_at, tagged_at, list_at}
use Rattle.ldap_ber.proofs.Steps.{chosen, guard_on, ok_is}
use Rattle.ldap_ber.proofs.SkipLemmas.{Begins-shorter}
use Rattle.ldap_ber.proofs.ManyLemmas.{Advances, with_prefix, many_goes_on, many_fails, many_ended}
use Rattle.ldap_ber.proofs.ExactLemmas.{Exact, Shortens, made_ok, both_exact, meaning_exact, tagged_exact, sequence_exact, list_exact, advances}
use Rattle.ldap_filter.specs.declared.filter.Filter.{Filter}
use Rattle.ldap_filter.specs.Pieces.{has_piece}
use Rattle.ldap_filter.specs.FilterTree.{FilterTree, all_of, any_of, negated, equal, substrings, at_least, at_most, present, approx, extensible, trees, tree_of, listed}
use Rattle.ldap_filter.proofs.Rounds.{trees_listed}
use Rattle.ldap_parts.specs.declared.fault.ComponentFault.{ComponentFault}
use Rattle.ldap_parts.specs.declared.fault.ComponentFault.TheVariants.{Refused, NoMemory}
use Rattle.ldap_parts.specs.Faults.{ComponentFails, place_of}
use Rattle.ldap_parts.specs.Components.{OptionForm, octet_string_at}
use Rattle.ldap_parts.specs.Filters.{While, while_at, Parts, ArePieces, PiecesForm, SubstringsForm, AssertionForm, FilterIn, pieces_of, parts_at, pieces_at, substrings_at, assertion_at, all_with, any_with, substrings_with, equal_with, at_least_with, at_most_with, approx_with, item_at, filter_in}
use Rattle.ldap_parts.proofs.ComponentLemmas.{octet_string_exact, string_shortens, option_exact}
use Rattle.ldap_parts.proofs.WhileLemmas.{and_prefix, while_goes_on, while_fails, while_ended, while_exact}

-- ---- the pieces of a substring filter

piece_advances : Advances (octet_string_at 129)
piece_advances = advances (OctetString 129) (octet_string_at 129) (octet_string_exact 129) (string_shortens 129)

-- at first no piece was read
pub middle_begins : (read : Result (List (List ℕ) × List ℕ) ℕ) → and_prefix [] read ≡ read
middle_begins (Ok xs) = refl
middle_begins (Err e) = refl

-- one that was read stands after those before it
pub middle_goes_on : (prefix next : List (List ℕ)) (stop after : ℕ) (bytes : List ℕ) (x : List ℕ) (rest : List ℕ) (all : Result (List (List ℕ) × List ℕ) ℕ) → true ≡ has_tag 129 bytes → octet_string_at 129 stop bytes ≡ Ok (x, rest)
    → next ≡ prefix ++ x ∷ [] → after ≡ stop → and_prefix prefix (while_at 129 (octet_string_at 129) stop bytes) ≡ all → and_prefix next (while_at 129 (octet_string_at 129) after rest) ≡ all
middle_goes_on prefix next stop after bytes x rest all here h n a e = rw (n, a) (while_goes_on 129 (octet_string_at 129) piece_advances prefix stop bytes x rest (sym here) h ∙ e)

-- where one is refused, all are
pub middle_fails : (prefix : List (List ℕ)) (stop : ℕ) (bytes : List ℕ) (fault : ComponentFault) (all : Result (List (List ℕ) × List ℕ) ℕ) → true ≡ has_tag 129 bytes → ComponentFails fault (octet_string_at 129 stop bytes) → and_prefix prefix (while_at 129 (octet_string_at 129) stop bytes) ≡ all → ComponentFails fault all
middle_fails prefix stop bytes (Refused place) all here h e = sym e ∙ while_fails 129 (octet_string_at 129) piece_advances prefix stop bytes place (sym here) h
middle_fails prefix stop bytes NoMemory all here h e = tt

-- where no element has their tag, they are those that were read
pub middle_ends : (prefix : List (List ℕ)) (stop : ℕ) (bytes : List ℕ) (all : Result (List (List ℕ) × List ℕ) ℕ) → false ≡ has_tag 129 bytes → and_prefix prefix (while_at 129 (octet_string_at 129) stop bytes) ≡ all → all ≡ Ok (prefix, bytes)
middle_ends prefix stop bytes all none e = sym e ∙ while_ended 129 (octet_string_at 129) prefix stop bytes (sym none)

pieces_there : (place : ℕ) (read pieces : Parts) → pieces_of place read ≡ Ok pieces → ArePieces read pieces
pieces_there place read pieces h =
    let g = guard_on (has_piece read.0 read.1.0 read.1.1) place (Ok read) pieces h in
    (ok_is read pieces g.1, g.0)

pieces_back : (place : ℕ) (read pieces : Parts) → ArePieces read pieces → pieces_of place read ≡ Ok pieces
pieces_back place read pieces h = rw h.1 (ap (λ (p : Parts). Ok p) h.0)

pieces_exact : Exact PiecesForm pieces_at
pieces_exact = meaning_exact ArePieces pieces_of (Tagged 48 (Both (OptionForm 128) (Both (While 129 (OctetString 129)) (OptionForm 130)))) (tagged_at place_of 48 parts_at) pieces_there pieces_back
    (tagged_exact place_of 48 _ parts_at (both_exact _ _ _ _ (option_exact 128) (both_exact _ _ _ _ (while_exact 129 (OctetString 129) (octet_string_at 129) (octet_string_exact 129) (string_shortens 129)) (option_exact 130))))

substrings_exact : Exact SubstringsForm substrings_at
substrings_exact = sequence_exact place_of 164 _ _ (both_exact _ _ _ _ (octet_string_exact 4) pieces_exact)

-- a type with a value is read exactly where it is encoded so
pub assertion_exact : (tag : ℕ) → Exact (AssertionForm tag) (assertion_at tag)
assertion_exact tag = sequence_exact place_of tag _ _ (both_exact _ _ _ _ (octet_string_exact 4) (octet_string_exact 4))

-- ---- items

of_this : (levels : ℕ) (bytes : List ℕ) (x y : FilterTree) (rest : List ℕ) → x ≡ y → FilterIn levels bytes x rest → FilterIn levels bytes y rest
of_this levels bytes x y rest e h = subst (λ (z : FilterTree). FilterIn levels bytes z rest) e h

item_found : (levels stop : ℕ) (bytes : List ℕ) (x : FilterTree) (rest : List ℕ) → item_at stop bytes ≡ Ok (x, rest) → FilterIn (suc levels) bytes x rest
unfolding FilterIn item_at
item_found d stop bytes x rest h = elim (chosen (has_tag 163 bytes) _ _ _ h) [
  | inl s ↦ let m = made_ok equal_with (assertion_at 163) stop bytes x rest s.1 in of_this (suc d) bytes (equal_with m.0) x rest m.2 ((assertion_exact 163).found stop bytes m.0 rest m.1)
  | inr s ↦ elim (chosen (has_tag 164 bytes) _ _ _ s.1) [
    | inl t ↦ let m = made_ok substrings_with substrings_at stop bytes x rest t.1 in of_this (suc d) bytes (substrings_with m.0) x rest m.2 (substrings_exact.found stop bytes m.0 rest m.1)
    | inr t ↦ elim (chosen (has_tag 165 bytes) _ _ _ t.1) [
      | inl u ↦ let m = made_ok at_least_with (assertion_at 165) stop bytes x rest u.1 in of_this (suc d) bytes (at_least_with m.0) x rest m.2 ((assertion_exact 165).found stop bytes m.0 rest m.1)
      | inr u ↦ elim (chosen (has_tag 166 bytes) _ _ _ u.1) [
        | inl v ↦ let m = made_ok at_most_with (assertion_at 166) stop bytes x rest v.1 in of_this (suc d) bytes (at_most_with m.0) x rest m.2 ((assertion_exact 166).found stop bytes m.0 rest m.1)
        | inr v ↦ elim (chosen (has_tag 135 bytes) _ _ _ v.1) [
          | inl w ↦ let m = made_ok present (octet_string_at 135) stop bytes x rest w.1 in of_this (suc d) bytes (present m.0) x rest m.2 ((octet_string_exact 135).found stop bytes m.0 rest m.1)
          | inr w ↦ elim (chosen (has_tag 168 bytes) _ _ _ w.1) [
            | inl a ↦ let m = made_ok approx_with (assertion_at 168) stop bytes x rest a.1 in of_this (suc d) bytes (approx_with m.0) x rest m.2 ((assertion_exact 168).found stop bytes m.0 rest m.1)
            | inr a ↦ let m = made_ok extensible (octet_string_at 169) stop bytes x rest a.1 in of_this (suc d) bytes (extensible m.0) x rest m.2 ((octet_string_exact 169).found stop bytes m.0 rest m.1)
          ]
        ]
      ]
    ]
  ]
]

-- an element begins with its tag
pub starts : (bytes : List ℕ) (tag : ℕ) (body rest : List ℕ) → Begins bytes tag body rest → (more : List ℕ) × (bytes ≡ tag ∷ more)
starts bytes tag body rest h = (h.octets ++ (body ++ rest), h.parts)

-- a reading that goes by the first octet does so for the bytes of this element
pub goes_by : {X Y : Type 0} (f : Reading ℕ X) (g : Reading ℕ Y) (stop : ℕ) (bytes : List ℕ) (tag : ℕ) (body rest after : List ℕ) (x : X) (y : Y) → Begins bytes tag body rest
    → ((more : List ℕ) → f stop (tag ∷ more) ≡ Ok (x, after) → g stop (tag ∷ more) ≡ Ok (y, after)) → f stop bytes ≡ Ok (x, after) → g stop bytes ≡ Ok (y, after)
goes_by f g stop bytes tag body rest after x y b step h =
    let s = starts bytes tag body rest b in
    subst (λ (bs : List ℕ). f stop bs ≡ Ok (x, after) → g stop bs ≡ Ok (y, after)) (sym s.1) (step s.0) h

-- ---- filters

listed_trees : (ts : List FilterTree) → listed (trees ts) ≡ ts
listed_trees [] = refl
listed_trees (t ∷ ts) = ap (λ (us : List FilterTree). t ∷ us) (listed_trees ts)

-- a filter takes at least one byte
pub filter_shortens : (levels : ℕ) → Shortens (FilterIn levels)
unfolding FilterIn
filter_shortens zero bytes t rest h = absurd h
filter_shortens (suc d) bytes (all_of ts) rest h = Begins-shorter bytes 160 h.0 rest h.1
filter_shortens (suc d) bytes (any_of ts) rest h = Begins-shorter bytes 161 h.0 rest h.1
filter_shortens (suc d) bytes (negated t) rest h = Begins-shorter bytes 162 h.0 rest h.1
filter_shortens (suc d) bytes (equal n v) rest h = Begins-shorter bytes 163 h.0 rest h.2
filter_shortens (suc d) bytes (substrings n i m l) rest h = Begins-shorter bytes 164 h.0 rest h.2
filter_shortens (suc d) bytes (at_least n v) rest h = Begins-shorter bytes 165 h.0 rest h.2
filter_shortens (suc d) bytes (at_most n v) rest h = Begins-shorter bytes 166 h.0 rest h.2
filter_shortens (suc d) bytes (present n) rest h = Begins-shorter bytes 135 n rest h
filter_shortens (suc d) bytes (approx n v) rest h = Begins-shorter bytes 168 h.0 rest h.2
filter_shortens (suc d) bytes (extensible v) rest h = Begins-shorter bytes 169 v rest h

filters_exact : (tag levels : ℕ) → Exact (FilterIn levels) (filter_in levels) → Exact (ListOf tag (FilterIn levels)) (list_at place_of tag (filter_in levels))
filters_exact tag d p = list_exact place_of tag (FilterIn d) (filter_in d) p (filter_shortens d)

list_here : (tag levels stop : ℕ) (bytes : List ℕ) (ts : List FilterTree) (rest : List ℕ) → Exact (FilterIn levels) (filter_in levels) → list_at place_of tag (filter_in levels) stop bytes ≡ Ok (ts, rest) → ListOf tag (FilterIn levels) bytes (listed (trees ts)) rest
list_here tag d stop bytes ts rest p h =
    subst (λ (us : List FilterTree). ListOf tag (FilterIn d) bytes us rest) (sym (listed_trees ts)) ((filters_exact tag d p).found stop bytes ts rest h)

filter_found : (levels : ℕ) → Exact (FilterIn levels) (filter_in levels) → (stop : ℕ) (bytes : List ℕ) (x : FilterTree) (rest : List ℕ) → filter_in (suc levels) stop bytes ≡ Ok (x, rest) → FilterIn (suc levels) bytes x rest
unfolding FilterIn filter_in
filter_found d p stop bytes x rest h = elim (chosen (has_tag 160 bytes) _ _ _ h) [
  | inl s ↦ let m = made_ok all_with (list_at place_of 160 (filter_in d)) stop bytes x rest s.1 in of_this (suc d) bytes (all_with m.0) x rest m.2 (list_here 160 d stop bytes m.0 rest p m.1)
  | inr s ↦ elim (chosen (has_tag 161 bytes) _ _ _ s.1) [
    | inl t ↦ let m = made_ok any_with (list_at place_of 161 (filter_in d)) stop bytes x rest t.1 in of_this (suc d) bytes (any_with m.0) x rest m.2 (list_here 161 d stop bytes m.0 rest p m.1)
    | inr t ↦ elim (chosen (has_tag 162 bytes) _ _ _ t.1) [
      | inl u ↦ let m = made_ok negated (tagged_at place_of 162 (filter_in d)) stop bytes x rest u.1 in of_this (suc d) bytes (negated m.0) x rest m.2 ((tagged_exact place_of 162 (FilterIn d) (filter_in d) p).found stop bytes m.0 rest m.1)
      | inr u ↦ item_found d stop bytes x rest u.1
    ]
  ]
]

filter_only : (levels : ℕ) → Exact (FilterIn levels) (filter_in levels) → (stop : ℕ) (bytes : List ℕ) (x : FilterTree) (rest : List ℕ) → FilterIn (suc levels) bytes x rest → filter_in (suc levels) stop bytes ≡ Ok (x, rest)
unfolding FilterIn filter_in item_at
filter_only d p stop bytes (all_of ts) rest h = goes_by (list_at place_of 160 (filter_in d)) (filter_in (suc d)) stop bytes 160 h.0 rest rest (listed ts) (all_of ts) h.1 (λ more r. rw (r, trees_listed ts) refl) ((filters_exact 160 d p).only stop bytes (listed ts) rest h)
filter_only d p stop bytes (any_of ts) rest h = goes_by (list_at place_of 161 (filter_in d)) (filter_in (suc d)) stop bytes 161 h.0 rest rest (listed ts) (any_of ts) h.1 (λ more r. rw (r, trees_listed ts) refl) ((filters_exact 161 d p).only stop bytes (listed ts) rest h)
filter_only d p stop bytes (negated t) rest h = goes_by (tagged_at place_of 162 (filter_in d)) (filter_in (suc d)) stop bytes 162 h.0 rest rest t (negated t) h.1 (λ more r. rw r refl) ((tagged_exact place_of 162 (FilterIn d) (filter_in d) p).only stop bytes t rest h)
filter_only d p stop bytes (equal n v) rest h = goes_by (assertion_at 163) (filter_in (suc d)) stop bytes 163 h.0 rest rest (n, v) (equal n v) h.2 (λ more r. rw r refl) ((assertion_exact 163).only stop bytes (n, v) rest h)
filter_only d p stop bytes (substrings n i m l) rest h = goes_by substrings_at (filter_in (suc d)) stop bytes 164 h.0 rest rest (n, (i, (m, l))) (substrings n i m l) h.2 (λ more r. rw r refl) (substrings_exact.only stop bytes (n, (i, (m, l))) rest h)
filter_only d p stop bytes (at_least n v) rest h = goes_by (assertion_at 165) (filter_in (suc d)) stop bytes 165 h.0 rest rest (n, v) (at_least n v) h.2 (λ more r. rw r refl) ((assertion_exact 165).only stop bytes (n, v) rest h)
filter_only d p stop bytes (at_most n v) rest h = goes_by (assertion_at 166) (filter_in (suc d)) stop bytes 166 h.0 rest rest (n, v) (at_most n v) h.2 (λ more r. rw r refl) ((assertion_exact 166).only stop bytes (n, v) rest h)
filter_only d p stop bytes (present n) rest h = goes_by (octet_string_at 135) (filter_in (suc d)) stop bytes 135 n rest rest n (present n) h (λ more r. rw r refl) ((octet_string_exact 135).only stop bytes n rest h)
filter_only d p stop bytes (approx n v) rest h = goes_by (assertion_at 168) (filter_in (suc d)) stop bytes 168 h.0 rest rest (n, v) (approx n v) h.2 (λ more r. rw r refl) ((assertion_exact 168).only stop bytes (n, v) rest h)
filter_only d p stop bytes (extensible v) rest h = goes_by (octet_string_at 169) (filter_in (suc d)) stop bytes 169 v rest rest v (extensible v) h (λ more r. rw r refl) ((octet_string_exact 169).only stop bytes v rest h)

no_level : Exact (FilterIn zero) (filter_in zero)
unfolding FilterIn filter_in
no_level = record { found = λ stop bytes x rest h. absurd cc; only = λ stop bytes x rest h. absurd h }

-- so is a filter in these levels
pub filter_exact : (levels : ℕ) → Exact (FilterIn levels) (filter_in levels)
filter_exact zero = no_level
filter_exact (suc d) = record { found = filter_found d (filter_exact d); only = filter_only d (filter_exact d) }

-- ---- one filter after the other

filter_advances : (levels : ℕ) → Advances (filter_in levels)
filter_advances levels = advances (FilterIn levels) (filter_in levels) (filter_exact levels) (filter_shortens levels)

-- one that was read stands after those before it
pub filters_go_on : (levels : ℕ) (xs : List Filter) (x : Filter) (stop : ℕ) (bytes rest : List ℕ) → 0 < length bytes → filter_in levels stop bytes ≡ Ok (tree_of x, rest)
    → with_prefix (map tree_of (xs ++ x ∷ [])) (many_at (filter_in levels) stop rest) ≡ with_prefix (map tree_of xs) (many_at (filter_in levels) stop bytes)
filters_go_on levels xs x stop bytes rest some h = rw (map_push tree_of xs x) (many_goes_on (filter_in levels) (filter_advances levels) (map tree_of xs) stop bytes (tree_of x) rest some h)

-- where one is refused, all are
pub filters_fail : (levels : ℕ) (prefix : List FilterTree) (stop : ℕ) (bytes : List ℕ) (e : ℕ) → 0 < length bytes → filter_in levels stop bytes ≡ Err e → with_prefix prefix (many_at (filter_in levels) stop bytes) ≡ Err e
filters_fail levels prefix stop bytes e some h = many_fails (filter_in levels) (filter_advances levels) prefix stop bytes e some h

-- where no byte is left, they are those that were read
pub filters_end : (levels : ℕ) (prefix : List FilterTree) (stop : ℕ) (bytes : List ℕ) → length bytes ≡ 0 → with_prefix prefix (many_at (filter_in levels) stop bytes) ≡ Ok prefix
filters_end levels prefix stop bytes none = many_ended (filter_in levels) prefix stop bytes none
