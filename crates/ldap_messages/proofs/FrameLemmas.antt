-- The frame that the first bytes announce is that of the message.
use Rattle.std.proofs.Common.{◌≡◌, ℕ, ◌+◌, ◌-◌, ◌<◌, ◌≤◌, ◌||◌, not, cond, ltb, eqb, List, [], ◌∷◌, ◌++◌, length, take, get_or, Option, Some, None, Result, Ok, Err, refl, sym, ap, subst, ◌∙◌, inl, inr, arith, append_assoc, length-append}
use Rattle.std.specs.Prelude.{IfOk, IfSome}
use Rattle.std.proofs.lemmas.Bool.{lt-ltb, le-ltb, ne_eqb, ltb-false}
use Rattle.std.proofs.lemmas.List.{append-nil, length-take, get_or-take}
use Rattle.std.proofs.Math.Seq.{take-append_seam}
use Rattle.ldap_ber.specs.Element.{Begins, IsLength, number_after}
use Rattle.ldap_ber.specs.Reading.{whole_at}
use Rattle.ldap_ber.proofs.Steps.{chosen}
use Rattle.ldap_ber.proofs.LengthLemmas.{seam}
use Rattle.ldap_ber.proofs.ExactLemmas.{whole_found, whole_only}
use Rattle.ldap_parts.specs.Faults.{place_of}
use Rattle.ldap_messages.specs.declared.frame.Frame.{Frame}
use Rattle.ldap_messages.specs.declared.frame.Frame.TheVariants.{Partial, Refused, Long, Held}
use Rattle.ldap_messages.specs.declared.fault.MessageFault.{MessageFault}
use Rattle.ldap_messages.specs.declared.message.Message.{Message}
use Rattle.ldap_messages.specs.Whole.{MessageValue, message_value, MessageForm, message_at}
use Rattle.ldap_messages.specs.Frame.{framed, frame_at, Read, message, held, in_frame, read_of, HasMeaning, Spells}
use Rattle.ldap_messages.proofs.MessageLemmas.{message_exact}

framed_held : (header count so_far : ℕ) → count ≤ 4194304 → header + count ≤ so_far → framed header count so_far ≡ Held (header + count)
framed_held header count so_far small there = rw (le-ltb 4194304 count small, le-ltb so_far (header + count) there) refl

abbrev Announces : List ℕ → ℕ → Type 0
Announces bytes k = frame_at bytes ≡ Held k

frame_only : (octets body after : List ℕ) → IsLength octets (length body) → length body ≤ 4194304 → Announces (48 ∷ (octets ++ (body ++ after))) (1 + length octets + length body)
frame_only [] body after h small = absurd h
frame_only (b ∷ ds) body after h small = elim h [
  | inl s ↦
      let there : 2 + b ≤ length (body ++ after) + 2 = omega (arith, length-append body after, s.2) in
      let f = framed_held 2 b (length (body ++ after) + 2) (omega (arith, s.2)) there in
      let same : 2 + b ≡ 1 + (length (b ∷ [])) + length body = omega (arith, s.2) in
      subst (λ (ys : List ℕ). Announces (48 ∷ b ∷ (ys ++ (body ++ after))) (1 + length (b ∷ ys) + length body)) (sym s.1) (rw (lt-ltb b 128 s.0, f) (ap (λ (n : ℕ). Held n) same))
  | inr s ↦
      let p = seam (b - 128) ds (body ++ after) s.2 in
      let low : 128 ≤ b = omega arith in
      let there : (b - 126) + length body ≤ length (ds ++ (body ++ after)) + 2 = omega (arith, length-append ds (body ++ after), length-append body after, s.2) in
      let counted : b - 128 ≤ length (ds ++ (body ++ after)) = omega (arith, length-append ds (body ++ after), s.2) in
      let f : framed (b - 126) (number_after 0 ds) (length (ds ++ (body ++ after)) + 2) ≡ Held ((b - 126) + number_after 0 ds) =
      framed_held (b - 126) (number_after 0 ds) (length (ds ++ (body ++ after)) + 2) (omega (arith, s.3)) (omega (arith, s.3, there)) in
      let same : (b - 126) + number_after 0 ds ≡ 1 + length (b ∷ ds) + length body = omega (arith, s.2, s.3) in
      rw (le-ltb b 128 low, ne_eqb b 128 (omega arith), le-ltb 132 b s.1, le-ltb (length (ds ++ (body ++ after))) (b - 128) counted, p.0, f) (ap (λ (n : ℕ). Held n) same)
]

-- an element that is short enough is a frame, whatever follows
pub frame_there : (prefix after body : List ℕ) → Begins prefix 48 body [] → length body ≤ 4194304 → frame_at (prefix ++ after) ≡ Held (length prefix)
frame_there prefix after body h small =
    let parts : prefix ++ after ≡ 48 ∷ (h.octets ++ (body ++ after)) = ap (λ (x : List ℕ). x ++ after) (h.parts ∙ ap (λ (x : List ℕ). 48 ∷ (h.octets ++ x)) (append-nil body)) ∙ ap (λ (x : List ℕ). 48 ∷ x) (append_assoc h.octets body after) in
    let size : length prefix ≡ 1 + length h.octets + length body = omega (arith, ap (λ (x : List ℕ). length x) h.parts, length-append h.octets (body ++ []), length-append body []) in
    rw (parts, size) (frame_only h.octets body after h.counted small)

framed_is : (header count so_far k : ℕ) → framed header count so_far ≡ Held k → (header + count ≡ k) × (count ≤ 4194304)
framed_is header count so_far k h =
    elim (chosen (ltb 4194304 count) _ _ _ h) [
      | inl s ↦ absurd cc
      | inr s ↦ elim (chosen (ltb so_far (header + count)) _ _ _ s.1) [
        | inl t ↦ absurd cc
        | inr t ↦ (cc, ltb-false _ _ s.0)
      ]
    ]

-- the header's length by its second octet
abbrev header_of : ℕ → ℕ
header_of b = cond (ltb b 128) 2 (b - 126)

header_is : (tag b : ℕ) (octets : List ℕ) (k : ℕ) → frame_at (tag ∷ b ∷ octets) ≡ Held k → k ≤ header_of b + 4194304
header_is tag b octets k h = elim (chosen (not (eqb tag 48)) _ _ _ h) [
  | inl s ↦ absurd cc
  | inr s ↦ elim (chosen (ltb b 128) _ _ _ s.1) [
    | inl t ↦ let f = framed_is 2 b (length octets + 2) k t.1 in rw t.0 (omega (arith, f.0, f.1))
    | inr t ↦ elim (chosen ((eqb b 128) || ltb 132 b) _ _ _ t.1) [
      | inl u ↦ absurd cc
      | inr u ↦ elim (chosen (ltb (length octets) (b - 128)) _ _ _ u.1) [
        | inl v ↦ absurd cc
        | inr v ↦ let f = framed_is (b - 126) (number_after 0 (take (b - 128) octets)) (length octets + 2) k v.1 in rw t.0 (omega (arith, f.0, f.1))
      ]
    ]
  ]
]

-- what is announced is within the limit
frame_within : (octets body more : List ℕ) (k : ℕ) → IsLength octets (length body) → length (48 ∷ (octets ++ (body ++ []))) ≤ k → (b : ℕ) → (b ≡ get_or octets 0 0) → k ≤ header_of b + 4194304 → length body ≤ 4194304
frame_within [] body more k h size b is le = absurd h
frame_within (c ∷ ds) body more k h size b is le = elim h [
  | inl s ↦ omega (arith, s.0, s.2)
  | inr s ↦
      let long : k ≤ (c - 126) + 4194304 = rw (le-ltb c 128 (omega arith)) at (subst (λ (x : ℕ). k ≤ header_of x + 4194304) is le) in
      omega (arith, s.2, long, size, length-append ds (body ++ []), length-append body [])
]

second : (k tag b : ℕ) (octets prefix rest : List ℕ) → take k (tag ∷ b ∷ octets) ≡ 48 ∷ (prefix ++ rest) → 0 < length prefix → 1 < k → b ≡ get_or prefix 0 0
second k tag b octets [] rest e some big = absurd (omega arith)
second k tag b octets (c ∷ ds) rest e some big = sym (get_or-take k (tag ∷ b ∷ octets) 1 0 big) ∙ ap (λ (x : List ℕ). get_or x 1 0) e

counted_some : (octets : List ℕ) (n : ℕ) → IsLength octets n → 0 < length octets
counted_some [] n h = absurd h
counted_some (b ∷ octets) n h = omega arith

within_limit : (bytes : List ℕ) (k : ℕ) → frame_at bytes ≡ Held k → (body : List ℕ) → Begins (take k bytes) 48 body [] → length body ≤ 4194304
within_limit [] k h body s = absurd cc
within_limit (tag ∷ []) k h body s = elim (chosen (eqb tag 48) _ _ _ h) [ inl e ↦ absurd cc | inr e ↦ absurd cc ]
within_limit (tag ∷ b ∷ octets) k h body s =
    let size : length (48 ∷ (s.octets ++ (body ++ []))) ≤ k = omega (arith, length-take k (tag ∷ b ∷ octets), ap (λ (x : List ℕ). length x) s.parts) in
    let some : 0 < length s.octets = counted_some s.octets (length body) s.counted in
    let big : 1 < k = omega (arith, size, length-append s.octets (body ++ [])) in
    frame_within s.octets body [] k s.counted size b (second k tag b octets s.octets (body ++ []) s.parts some big) (header_is tag b octets k h)

in_held : (bytes : List ℕ) (m : MessageValue) (k j : ℕ) (r : Result MessageValue ℕ) → whole_at place_of message_at (take j bytes) ≡ r → held j r ≡ message m k → (Held j ≡ Held k) × (whole_at place_of message_at (take k bytes) ≡ Ok m)
in_held bytes m k j (Ok n) e h =
    let same : j ≡ k = cc in
    let value : n ≡ m = cc in
    (ap (λ (x : ℕ). Held x) same, subst (λ (x : ℕ). whole_at place_of message_at (take x bytes) ≡ Ok m) same (e ∙ ap (λ (x : MessageValue). Ok x) value))
in_held bytes m k j (Err at) e h = absurd cc

read_is : (bytes : List ℕ) (m : MessageValue) (k : ℕ) (f : Frame) → frame_at bytes ≡ f → in_frame bytes f ≡ message m k → (f ≡ Held k) × (whole_at place_of message_at (take k bytes) ≡ Ok m)
read_is bytes m k Partial e h = absurd cc
read_is bytes m k (Refused at) e h = absurd cc
read_is bytes m k Long e h = absurd cc
read_is bytes m k (Held j) e h = in_held bytes m k j (whole_at place_of message_at (take j bytes)) refl h

-- what is read of bytes is spelled by the first of them
pub read_found : (bytes : List ℕ) (m : MessageValue) (k : ℕ) → read_of bytes ≡ message m k → Spells (take k bytes) m
unfolding MessageForm read_of
read_found bytes m k h =
    let r = read_is bytes m k (frame_at bytes) refl h in
    (whole_found place_of MessageForm message_at message_exact (take k bytes) m r.1, within_limit bytes k r.0)

-- bytes that spell a message are read as it, whatever follows them
pub read_only : (prefix after : List ℕ) (m : MessageValue) → Spells prefix m → read_of (prefix ++ after) ≡ message m (length prefix)
unfolding MessageForm read_of
read_only prefix after m h =
    let w = whole_only place_of MessageForm message_at message_exact prefix m h.0 in
    let b = h.0 in
    let body : Begins prefix 48 b.0 [] = b.2 in
    rw (frame_there prefix after b.0 body (h.1 b.0 body), take-append_seam prefix after, w) refl

-- a message that was read is spelled by the first bytes
pub found_meaning : (bytes : List ℕ) (r : Result (Option (Message × ℕ)) MessageFault) → HasMeaning r (read_of bytes) → IfOk r (λ o. IfSome o (λ x. Spells (take x.1 bytes) (message_value x.0)))
found_meaning bytes (Ok None) h = tt
found_meaning bytes (Ok (Some x)) h = read_found bytes (message_value x.0) x.1 h
found_meaning bytes (Err e) h = tt

-- bytes that begin with a spelling are read as its message
pub only_meaning : (result : Result (Option (Message × ℕ)) MessageFault) (bytes : List ℕ) (whole : MessageValue) (prefix after : List ℕ) → HasMeaning result (read_of bytes) → bytes ≡ prefix ++ after → Spells prefix whole → HasMeaning result (message whole (length prefix))
only_meaning result bytes whole prefix after t e h = subst (λ (r : Read). HasMeaning result r) (ap read_of e ∙ read_only prefix after whole h) t
