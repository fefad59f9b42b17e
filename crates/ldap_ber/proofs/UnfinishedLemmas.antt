-- What a writer keeps of elements that are not ended, as they begin, grow and end.
use Rattle.std.proofs.Common.{◌≡◌, ℕ, ◌+◌, ◌-◌, ◌<◌, ◌≤◌, zero, suc, List, [], ◌∷◌, ◌++◌, length, take, drop, get_or, set, reverse, refl, sym, ap, subst, ◌∙◌, append_assoc, arith}
use Rattle.std.proofs.lemmas.List.{length-append, length-take-le, length-drop, take-append-le, take-append-drop, take_more, drop-append-le, drop-drop, set_split}
use Rattle.ldap_ber.specs.Canonical.{length_octets, element}
use Rattle.ldap_ber.specs.Writer.{after_bytes, after_begin, after_end, IsSmall, EndsSmall}
use Rattle.ldap_ber.specs.Unfinished.{put_at, written, AreKept, HasRoomFor}
use Rattle.ldap_ber.specs.declared.writer.Begun.{Begun}
use Rattle.ldap_ber.proofs.ElementLemmas.{element_size}
use Rattle.ldap_ber.proofs.LengthLemmas.{seam}

-- ---- octets that are put in the place of others

-- two elements of a list that are set, one after the other
pub two_set : (xs : List ℕ) (i a b : ℕ) → i + 2 ≤ length xs → set (set xs i a) (i + 1) b ≡ take i xs ++ (a ∷ b ∷ drop (i + 2) xs)
two_set [] i a b low = absurd (omega (arith, low))
two_set (x ∷ []) i a b low = absurd (omega (arith, low))
two_set (x ∷ y ∷ xs) zero a b low = refl
two_set (x ∷ y ∷ xs) (suc i) a b low =
    let one : suc i + 1 ≡ suc (i + 1) = omega arith in
    let two : suc i + 2 ≡ suc (i + 2) = omega arith in
    ap (λ (n : ℕ). set (set (x ∷ y ∷ xs) (suc i) a) n b) one
    ∙ ap (λ (l : List ℕ). x ∷ l) (two_set (y ∷ xs) i a b (omega (arith, low)))
    ∙ ap (λ (n : ℕ). take (suc i) (x ∷ y ∷ xs) ++ (a ∷ b ∷ drop n (x ∷ y ∷ xs))) (sym two)

-- none are put yet
pub put_none : (xs : List ℕ) (place : ℕ) → xs ≡ put_at xs place []
put_none xs place =
    let same : place + 0 ≡ place = omega arith in
    sym (ap (λ (n : ℕ). take place xs ++ drop n xs) same ∙ take-append-drop place xs)

-- one more is put
pub put_more : (xs others : List ℕ) (place k : ℕ) → place + length others ≤ length xs → k < length others
    → set (put_at xs place (take k others)) (place + k) (get_or others k 0) ≡ put_at xs place (take (k + 1) others)
put_more xs others place k within low =
    let h = take k others in
    let value = get_or others k 0 in
    let size : length h ≡ k = length-take-le k others (omega arith) in
    let front = take place xs ++ h in
    let rest = drop (place + length h) xs in
    let front_size : length front ≡ place + k = omega (arith, length-append (take place xs) h, size, length-take-le place xs (omega arith)) in
    let is : put_at xs place h ≡ front ++ rest = sym (append_assoc (take place xs) h rest) in
    let cut = seam (place + k) front rest front_size in
    let inside : place + k < length (front ++ rest) = omega (arith, length-append front rest, length-drop (place + length h) xs, size, front_size) in
    let next : suc (place + k) ≡ place + k + 1 = omega arith in
    let here : place + k + 1 ≡ place + (k + 1) = omega arith in
    let size_more : length (take (k + 1) others) ≡ k + 1 = length-take-le (k + 1) others (omega arith) in
    let after : drop (suc (place + k)) (front ++ rest) ≡ drop (place + length (take (k + 1) others)) xs =
    ap (λ (n : ℕ). drop n (front ++ rest)) next
    ∙ sym (drop-drop 1 (place + k) (front ++ rest))
    ∙ ap (drop 1) cut.1
    ∙ drop-drop 1 (place + length h) xs
    ∙ (λ i. drop (place + size i + 1) xs)
    ∙ ap (λ (n : ℕ). drop n xs) here
    ∙ (λ i. drop (place + sym size_more i) xs) in
    ap (λ (ys : List ℕ). set ys (place + k) value) is
    ∙ set_split (front ++ rest) (place + k) value inside
    ∙ (λ i. cut.0 i ++ value ∷ after i)
    ∙ append_assoc (take place xs) h (value ∷ drop (place + length (take (k + 1) others)) xs)
    ∙ ap (λ (ys : List ℕ). take place xs ++ ys)
    (sym (append_assoc h (value ∷ []) (drop (place + length (take (k + 1) others)) xs))
    ∙ ap (λ (ys : List ℕ). ys ++ drop (place + length (take (k + 1) others)) xs) (sym (take_more others k 0 low)))

-- ---- room for a header

-- what stands in front, and what comes after n octets of the rest
cut_front : (place n : ℕ) (xs rest : List ℕ) → place ≤ length xs
    → (take place (take place xs ++ rest) ≡ take place xs) × (drop (place + n) (take place xs ++ rest) ≡ drop n rest)
cut_front place n xs rest low =
    let cut = seam place (take place xs) rest (length-take-le place xs low) in
    (cut.0, sym (drop-drop n place (take place xs ++ rest)) ∙ ap (drop n) cut.1)

-- no octet fewer
pub narrowed_none : (place count : ℕ) (xs : List ℕ) → count ≡ 0 → xs ≡ take place xs ++ drop (place + count) xs
narrowed_none place count xs none =
    let same : place + count ≡ place = omega arith in
    sym (ap (λ (n : ℕ). take place xs ++ drop n xs) same ∙ take-append-drop place xs)

-- one octet fewer, and then others
pub narrowed_more : (place count less : ℕ) (xs ys zs : List ℕ) → place + count ≤ length xs → count ≡ less + 1
    → ys ≡ take place xs ++ drop (suc place) xs → zs ≡ take place ys ++ drop (place + less) ys → zs ≡ take place xs ++ drop (place + count) xs
narrowed_more place count less xs ys zs within one out rest =
    let cut = cut_front place less xs (drop (suc place) xs) (omega arith) in
    let sum : suc place + less ≡ place + count = omega arith in
    rest
    ∙ (λ i. take place (out i) ++ drop (place + less) (out i))
    ∙ (λ i. cut.0 i ++ cut.1 i)
    ∙ ap (λ (ys : List ℕ). take place xs ++ ys) (drop-drop less (suc place) xs ∙ ap (λ (n : ℕ). drop n xs) sum)

-- as much room as there was
pub room_same : (place room count : ℕ) (xs : List ℕ) → place + room ≤ length xs → count ≡ room → HasRoomFor place room xs count xs
room_same place room count xs within same = record {
  front = refl;
  body = ap (λ (n : ℕ). drop (place + n) xs) same;
  within = omega arith;
}

-- less room
pub room_narrowed : (place room count : ℕ) (xs ys : List ℕ) → place + room ≤ length xs → count ≤ room
    → ys ≡ take place xs ++ drop (place + (room - count)) xs → HasRoomFor place room xs count ys
room_narrowed place room count xs ys within low is =
    let rest = drop (place + (room - count)) xs in
    let cut = cut_front place count xs rest (omega arith) in
    let sum : place + (room - count) + count ≡ place + room = omega arith in
    record {
      front = ap (take place) is ∙ cut.0;
      body = ap (drop (place + count)) is ∙ cut.1 ∙ drop-drop count (place + (room - count)) xs ∙ ap (λ (n : ℕ). drop n xs) sum;
      within = omega (arith, ap (length {A = ℕ}) is, length-append (take place xs) rest, length-take-le place xs (omega arith), length-drop (place + (room - count)) xs);
    }

-- more room
pub room_widened : (place room count : ℕ) (xs ys : List ℕ) → place + room ≤ length xs → room ≤ count
    → HasRoomFor place 0 xs (count - room) ys → HasRoomFor place room xs count ys
room_widened place room count xs ys within high wide =
    let sum : place + (count - room) + room ≡ place + count = omega arith in
    let none : place + 0 + room ≡ place + room = omega arith in
    let left : drop (place + count) ys ≡ drop (place + room) xs =
    sym (ap (λ (n : ℕ). drop n ys) sum)
    ∙ sym (drop-drop room (place + (count - room)) ys)
    ∙ ap (drop room) wide.body
    ∙ drop-drop room (place + 0) xs
    ∙ ap (λ (n : ℕ). drop n xs) none in
    record {
      front = wide.front;
      body = left;
      within = omega (arith, wide.within, ap (length {A = ℕ}) wide.body, length-drop (place + (count - room)) ys, length-drop (place + 0) xs);
    }

-- no more room
pub room_none : (place count : ℕ) (xs : List ℕ) → place ≤ length xs → count ≡ 0 → HasRoomFor place 0 xs count xs
room_none place count xs low none = room_same place 0 count xs (omega arith) none

-- one octet more, and then others
pub room_more : (place count less : ℕ) (xs ys zs : List ℕ) → place ≤ length xs → count ≡ less + 1
    → ys ≡ take place xs ++ 0 ∷ drop place xs → HasRoomFor place 0 ys less zs → HasRoomFor place 0 xs count zs
room_more place count less xs ys zs low one in_it rest =
    let cut = cut_front place 0 xs (0 ∷ drop place xs) low in
    let sum : place + less + 1 ≡ place + count = omega arith in
    let none : place + 0 ≡ place = omega arith in
    let left : drop (place + less) zs ≡ 0 ∷ drop place xs = rest.body ∙ ap (drop (place + 0)) in_it ∙ cut.1 in
    record {
      front = rest.front ∙ ap (take place) in_it ∙ cut.0;
      body =
          sym (ap (λ (n : ℕ). drop n zs) sum) ∙ sym (drop-drop 1 (place + less) zs) ∙ ap (drop 1) left
          ∙ sym (ap (λ (n : ℕ). drop n xs) none);
      within = omega (arith, rest.within, ap (length {A = ℕ}) left, length-drop (place + less) zs);
    }

-- an octet that was put in is taken out
pub taken_back : (place : ℕ) (xs ys zs : List ℕ) → place ≤ length xs → ys ≡ take place xs ++ 0 ∷ drop place xs → zs ≡ take place ys ++ drop (suc place) ys → zs ≡ xs
taken_back place xs ys zs low in_it out =
    let cut = cut_front place 1 xs (0 ∷ drop place xs) low in
    let next : suc place ≡ place + 1 = omega arith in
    out
    ∙ (λ i. take place (in_it i) ++ drop (next i) (in_it i))
    ∙ (λ i. cut.0 i ++ cut.1 i)
    ∙ take-append-drop place xs

-- ---- a header in its place

-- a body that is short enough has a small element
pub small_element : (tag : ℕ) (body : List ℕ) → length body ≤ 4294967289 → IsSmall (element tag body)
small_element tag body short = omega (arith, element_size tag body)

-- a header in front of its body is the element
pub header_put : (tag place room length_is count : ℕ) (xs ys zs : List ℕ) → HasRoomFor place room xs length_is ys → length_is ≡ length (length_octets count) + 1
    → count ≡ length (drop (place + room) xs) → zs ≡ put_at ys place (tag ∷ length_octets count) → zs ≡ take place xs ++ element tag (drop (place + room) xs)
unfolding element
header_put tag place room length_is count xs ys zs fitted size counted is =
    let body = drop (place + room) xs in
    let whole : length (tag ∷ length_octets count) ≡ length_is = omega (arith, size) in
    is
    ∙ (λ i. fitted.front i ++ ((tag ∷ length_octets count) ++ drop (place + whole i) ys))
    ∙ (λ i. take place xs ++ (tag ∷ (length_octets count ++ fitted.body i)))
    ∙ ap (λ (n : ℕ). take place xs ++ (tag ∷ (length_octets n ++ body))) counted

-- ---- what is written

-- nothing is begun where nothing is open
pub written-none : (begun : List Begun) (out : List ℕ) → (written begun out).opened ≡ [] → out ≡ (written begun out).bytes
written-none [] out none = refl
written-none (innermost ∷ others) out none = absurd cc

-- bytes that are put at the end
pub record PutsInside (begun : List Begun) (out bytes : List ℕ) : Type 0 where
  pub value : written begun (out ++ bytes) ≡ after_bytes (written begun out) bytes
  pub kept : AreKept begun (out ++ bytes)

-- what is put stands inside each element that was begun
pub puts_inside : (begun : List Begun) (out bytes : List ℕ) → AreKept begun out → PutsInside begun out bytes
puts_inside [] out bytes kept = record { value = refl; kept = tt }
puts_inside (innermost ∷ others) out bytes (placed, kept) =
    let front : take innermost.start (out ++ bytes) ≡ take innermost.start out = take-append-le innermost.start out bytes (omega arith) in
    let rest : drop (innermost.start + innermost.room) (out ++ bytes) ≡ drop (innermost.start + innermost.room) out ++ bytes =
    drop-append-le (innermost.start + innermost.room) out bytes placed in
    record {
      value = λ i. after_bytes (after_begin (written others (front i)) innermost.tag) (rest i);
      kept = (omega (arith, length-append out bytes), subst (λ (x : List ℕ). AreKept others x) (sym front) kept);
    }

-- the octets in front of the innermost element have room for its header
pub last_within : (begun others : List Begun) (last : Begun) (out : List ℕ) → begun ≡ last ∷ others → AreKept begun out → last.start + last.room ≤ length out
last_within begun others last out top kept = (subst (λ (x : List Begun). AreKept x out) top kept).0

-- an element whose body is short enough is small
pub ends_small : (begun others : List Begun) (last : Begun) (out : List ℕ) → begun ≡ last ∷ others → IsSmall (element last.tag (drop (last.start + last.room) out))
    → EndsSmall (written begun out)
ends_small begun others last out top small = rw top small

-- the innermost element ends
pub record Ends (begun rest : List Begun) (out after : List ℕ) : Type 0 where
  pub value : written (reverse rest) after ≡ after_end (written (reverse begun) out)
  pub kept : AreKept (reverse rest) after

-- where the innermost element ends, the others are still begun
pub ends : (begun rest : List Begun) (last : Begun) (out after : List ℕ) (number : ℕ) → reverse begun ≡ last ∷ reverse (take (length begun - 1) begun) → number ≡ length begun
    → rest ≡ take (number - 1) begun → after ≡ take last.start out ++ element last.tag (drop (last.start + last.room) out) → AreKept (reverse begun) out → Ends begun rest out after
ends begun rest last out after number top number_is rest_are after_is kept =
    let others = reverse (take (length begun - 1) begun) in
    let rest_is : reverse rest ≡ others = ap (λ (x : List Begun). reverse x) (rest_are ∙ ap (λ (n : ℕ). take (n - 1) begun) number_is) in
    let all = subst (λ (x : List Begun). AreKept x out) top kept in
    let puts = puts_inside others (take last.start out) (element last.tag (drop (last.start + last.room) out)) all.1 in
    record {
      value = (λ i. written (rest_is i) (after_is i)) ∙ puts.value ∙ sym (ap (λ (x : List Begun). after_end (written x out)) top);
      kept = subst (λ (x : List ℕ). AreKept (reverse rest) x) (sym after_is) (subst (λ (x : List Begun). AreKept x (take last.start out ++ element last.tag (drop (last.start + last.room) out))) (sym rest_is) puts.kept);
    }
