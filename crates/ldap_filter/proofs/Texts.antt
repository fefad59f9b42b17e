-- What is written of a filter is UTF-8 text, and is read as the filter.
use Rattle.std.proofs.Common.{◌≡◌, ◌≢◌, ℕ, ◌<◌, ◌≤◌, true, false, not, ◌&&◌, ◌==◌, if◌then◌else◌, List, [], ◌∷◌, ◌++◌, length, Option, Some, None, Result, Ok, sym, ap, ◌∙◌, arith, inl, inr, append-nil}
use Rattle.std.proofs.lemmas.Bool.{and_parts, false≢true, eq-eqb, ne_eqb, cases_lt}
use Rattle.std.proofs.lemmas.Bool.Decides.{nat_tests}
use Rattle.std.proofs.lemmas.Str.{utf8_valid_len-IsUtf8, IsUtf8-nil, IsUtf8-append}
use Rattle.std.specs.Int.{is_in_range}
use Rattle.std.specs.List.{list_all, flat_map}
use Rattle.std.specs.Str.{IsUtf8}
use Rattle.std.specs.Str.Lossy.{utf8_valid_len}
use Rattle.ldap_filter.specs.declared.fault.FilterFault.{FilterFault}
use Rattle.ldap_filter.specs.Grammar.{is_type_byte, all_type_bytes, is_type}
use Rattle.ldap_filter.specs.Pieces.{has_piece}
use Rattle.ldap_filter.specs.Reading.{◌>>=◌, refused, filter_in, whole_at, read_filter}
use Rattle.ldap_filter.specs.FilterTree.{FilterTree, Trees, all_of, any_of, negated, equal, substrings, at_least, at_most, present, approx, extensible, no_trees, more_trees, depth}
use Rattle.ldap_filter.specs.Writing.{are_filled, has_text, have_texts, are_bytes, is_absent_or_bytes, is_sound, are_sound, value_text, end_text, middle_text, enclosed, text_of, texts_of}
use Rattle.ldap_filter.proofs.Rounds.{filter_read}
use Rattle.ldap_filter.proofs.Utf8.{utf8_cons, value_utf8}

-- ---- UTF-8

past_range : (low high c : ℕ) → high < c → is_in_range low high c ≡ false
past_range low high c past = grind (arith, nat_tests)

type_small : (c : ℕ) → is_type_byte c ≡ true → c < 128
type_small c typed =
    elim (cases_lt c 128) [
      | inl small ↦ small
      | inr large ↦
          let h : c ≢ 45 = omega arith in
          let d : c ≢ 46 = omega arith in
          let s : c ≢ 59 = omega arith in
          let z : 122 < c = omega arith in
          let u : 90 < c = omega arith in
          let n : 57 < c = omega arith in
          let none : false ≡ true = rw (past_range 97 122 c z, past_range 65 90 c u, past_range 48 57 c n, ne_eqb c 45 h, ne_eqb c 46 d, ne_eqb c 59 s) at typed in
          absurd cc
    ]

type_utf8 : (name : List ℕ) → all_type_bytes name ≡ true → IsUtf8 name
type_utf8 [] typed = IsUtf8-nil
type_utf8 (c ∷ cs) typed =
    let parts = and_parts (is_type_byte c) (all_type_bytes cs) typed in utf8_cons c cs (type_small c parts.0) (type_utf8 cs parts.1)

named_utf8 : (name tail : List ℕ) → is_type name ≡ true → IsUtf8 tail → IsUtf8 (name ++ tail)
named_utf8 name tail typed text =
    let parts = and_parts (not (length name == 0)) (all_type_bytes name) typed in IsUtf8-append name tail (type_utf8 name parts.1) text

enclosed_utf8 : (inner : List ℕ) → IsUtf8 inner → IsUtf8 (enclosed inner)
enclosed_utf8 inner text = utf8_cons 40 _ (omega arith) (IsUtf8-append inner (41 ∷ []) text (utf8_cons 41 [] (omega arith) IsUtf8-nil))

end_utf8 : (piece : Option (List ℕ)) → is_absent_or_bytes piece ≡ true → IsUtf8 (end_text piece)
end_utf8 None bytes = IsUtf8-nil
end_utf8 (Some piece) bytes = value_utf8 piece bytes

middle_utf8 : (pieces : List (List ℕ)) → list_all are_bytes pieces ≡ true → IsUtf8 (flat_map middle_text pieces)
middle_utf8 [] bytes = IsUtf8-nil
middle_utf8 (p ∷ ps) bytes =
    let parts = and_parts (are_bytes p) (list_all are_bytes ps) bytes in
    IsUtf8-append (middle_text p) (flat_map middle_text ps) (IsUtf8-append (value_text p) (42 ∷ []) (value_utf8 p parts.0) (utf8_cons 42 [] (omega arith) IsUtf8-nil)) (middle_utf8 ps parts.1)

pieces_utf8 : (initial : Option (List ℕ)) (middle : List (List ℕ)) (last : Option (List ℕ))
    → (is_absent_or_bytes initial && (list_all are_bytes middle && is_absent_or_bytes last)) ≡ true
    → IsUtf8 (61 ∷ (end_text initial ++ (42 ∷ (flat_map middle_text middle ++ end_text last))))
pieces_utf8 initial middle last bytes =
    let first = and_parts (is_absent_or_bytes initial) (list_all are_bytes middle && is_absent_or_bytes last) bytes in
    let others = and_parts (list_all are_bytes middle) (is_absent_or_bytes last) first.1 in
    utf8_cons 61 _ (omega arith) (IsUtf8-append (end_text initial) _ (end_utf8 initial first.0)
    (utf8_cons 42 _ (omega arith) (IsUtf8-append (flat_map middle_text middle) (end_text last) (middle_utf8 middle others.0) (end_utf8 last others.1))))

two_utf8 : (c : ℕ) (value : List ℕ) → c < 128 → are_bytes value ≡ true → IsUtf8 (c ∷ (61 ∷ value_text value))
two_utf8 c value small bytes = utf8_cons c _ small (utf8_cons 61 _ (omega arith) (value_utf8 value bytes))

mutual
  text_utf8 : (t : FilterTree) → has_text t ≡ true → is_sound t ≡ true → IsUtf8 (text_of t)
  text_utf8 (all_of ts) text sound = enclosed_utf8 (38 ∷ texts_of ts) (utf8_cons 38 (texts_of ts) (omega arith) (texts_utf8 ts text sound))
  text_utf8 (any_of ts) text sound = enclosed_utf8 (124 ∷ texts_of ts) (utf8_cons 124 (texts_of ts) (omega arith) (texts_utf8 ts text sound))
  text_utf8 (negated t) text sound = enclosed_utf8 (33 ∷ text_of t) (utf8_cons 33 (text_of t) (omega arith) (text_utf8 t text sound))
  text_utf8 (equal n v) text sound = enclosed_utf8 _ (named_utf8 n (61 ∷ value_text v) text (utf8_cons 61 (value_text v) (omega arith) (value_utf8 v sound)))
  text_utf8 (substrings n i m l) text sound =
      let typed = and_parts (is_type n) (are_filled i m l) text in
      let bytes = and_parts (has_piece i m l) (is_absent_or_bytes i && (list_all are_bytes m && is_absent_or_bytes l)) sound in
      enclosed_utf8 _ (named_utf8 n _ typed.0 (pieces_utf8 i m l bytes.1))
  text_utf8 (at_least n v) text sound = enclosed_utf8 _ (named_utf8 n _ text (two_utf8 62 v (omega arith) sound))
  text_utf8 (at_most n v) text sound = enclosed_utf8 _ (named_utf8 n _ text (two_utf8 60 v (omega arith) sound))
  text_utf8 (present n) text sound = enclosed_utf8 _ (named_utf8 n (61 ∷ (42 ∷ [])) text (utf8_cons 61 (42 ∷ []) (omega arith) (utf8_cons 42 [] (omega arith) IsUtf8-nil)))
  text_utf8 (approx n v) text sound = enclosed_utf8 _ (named_utf8 n _ text (two_utf8 126 v (omega arith) sound))
  text_utf8 (extensible b) text sound = absurd (false≢true text)

  texts_utf8 : (ts : Trees) → have_texts ts ≡ true → are_sound ts ≡ true → IsUtf8 (texts_of ts)
  texts_utf8 no_trees text sound = IsUtf8-nil
  texts_utf8 (more_trees t ts) text sound =
      let texts = and_parts (has_text t) (have_texts ts) text in
      let sounds = and_parts (is_sound t) (are_sound ts) sound in
      IsUtf8-append (text_of t) (texts_of ts) (text_utf8 t texts.0 sounds.0) (texts_utf8 ts texts.1 sounds.1)

-- ---- reading

whole_read : (t : FilterTree) → has_text t ≡ true → is_sound t ≡ true → depth t ≤ 32 → whole_at (text_of t) ≡ Ok t
unfolding whole_at
whole_read t text sound within =
    let stop = length (text_of t) in
    ap (λ (r : Result (FilterTree × List ℕ) FilterFault). r >>= λ u. if length u.1 == 0 then Ok u.0 else refused stop u.1)
    (ap (filter_in 32 stop) (sym (append-nil (text_of t))) ∙ filter_read t 32 stop [] text sound within)

-- what was written of a filter of at most 32 levels is read as the filter
pub written_read : (t : FilterTree) → has_text t ≡ true → is_sound t ≡ true → depth t ≤ 32 → read_filter (text_of t) ≡ Ok t
unfolding read_filter
written_read t text sound within =
    let all : utf8_valid_len (text_of t) ≡ length (text_of t) = utf8_valid_len-IsUtf8 (text_of t) (text_utf8 t text sound) in
    rw (eq-eqb (utf8_valid_len (text_of t)) (length (text_of t)) all) (whole_read t text sound within)
