-- What the first bytes are read or refused as stays so, whatever bytes follow.
use Rattle.std.proofs.Common.{◌≡◌, ◌≢◌, ℕ, ◌+◌, ◌-◌, ◌≤◌, ◌||◌, not, ltb, eqb, List, [], ◌∷◌, ◌++◌, length, take, refl, ap, ◌∙◌, inl, inr, arith, length-append}
use Rattle.std.proofs.lemmas.Bool.{le-ltb, ltb-false, cases_Bool}
use Rattle.std.proofs.lemmas.List.{take-append-le}
use Rattle.ldap_ber.specs.Element.{number_after}
use Rattle.ldap_ber.specs.Reading.{whole_at}
use Rattle.ldap_ber.proofs.Steps.{chosen}
use Rattle.ldap_parts.specs.Faults.{place_of}
use Rattle.ldap_messages.specs.declared.frame.Frame.{Frame}
use Rattle.ldap_messages.specs.declared.frame.Frame.TheVariants.{Partial, Refused, Long, Held}
use Rattle.ldap_messages.specs.Whole.{message_at}
use Rattle.ldap_messages.specs.Frame.{framed, frame_at, in_frame, read_of, partial, held}

framed_stays : (header count so_far later : ℕ) → so_far ≤ later → framed header count so_far ≢ Partial → framed header count later ≡ framed header count so_far
framed_stays header count so_far later grown decided = elim (cases_Bool (ltb 4194304 count)) [
  | inl long ↦ rw long refl
  | inr short ↦ elim (cases_Bool (ltb so_far (header + count))) [
    | inl less ↦ absurd (decided (rw (short, less) refl))
    | inr whole ↦ rw (short, whole, le-ltb later (header + count) (omega (arith, ltb-false _ _ whole))) refl
  ]
]

-- a frame that is whole, or is refused, stays so
frame_stays : (prefix after : List ℕ) → frame_at prefix ≢ Partial → frame_at (prefix ++ after) ≡ frame_at prefix
frame_stays [] after decided = absurd (decided refl)
frame_stays (tag ∷ []) [] decided = refl
frame_stays (tag ∷ []) (next ∷ after) decided = elim (cases_Bool (eqb tag 48)) [
  | inl begins ↦ absurd (decided (rw begins refl))
  | inr other ↦ rw other refl
]
frame_stays (tag ∷ first ∷ octets) after decided =
    let grown : length octets + 2 ≤ length (octets ++ after) + 2 = omega (arith, length-append octets after) in
    elim (cases_Bool (eqb tag 48)) [
      | inl begins ↦ elim (cases_Bool (ltb first 128)) [
        | inl short ↦ rw (begins, short) (framed_stays 2 first _ _ grown (λ e. decided (rw (begins, short) e)))
        | inr long ↦ elim (cases_Bool ((eqb first 128) || ltb 132 first)) [
          | inl wrong ↦ rw (begins, long, wrong) refl
          | inr right ↦ elim (cases_Bool (ltb (length octets) (first - 128))) [
            | inl less ↦ absurd (decided (rw (begins, long, right, less) refl))
            | inr there ↦
                let counted : first - 128 ≤ length octets = ltb-false _ _ there in
                rw (begins, long, right, there, le-ltb (length (octets ++ after)) (first - 128) (omega (arith, counted, length-append octets after)), take-append-le (first - 128) octets after counted)
                (framed_stays (first - 126) (number_after 0 (take (first - 128) octets)) _ _ grown (λ e. decided (rw (begins, long, right, there) e)))
          ]
        ]
      ]
      | inr other ↦ rw other refl
    ]

framed_there : (header count so_far k : ℕ) → framed header count so_far ≡ Held k → k ≤ so_far
framed_there header count so_far k h = elim (chosen (ltb 4194304 count) _ _ _ h) [
  | inl long ↦ absurd cc
  | inr short ↦ elim (chosen (ltb so_far (header + count)) _ _ _ short.1) [
    | inl less ↦ absurd cc
    | inr whole ↦ let same : header + count ≡ k = cc in omega (arith, ltb-false _ _ whole.0)
  ]
]

-- all octets of a whole frame are there
frame_came : (bytes : List ℕ) (k : ℕ) → frame_at bytes ≡ Held k → k ≤ length bytes
frame_came [] k h = absurd cc
frame_came (tag ∷ []) k h = elim (chosen (eqb tag 48) _ _ _ h) [ inl begins ↦ absurd cc | inr other ↦ absurd cc ]
frame_came (tag ∷ first ∷ octets) k h = elim (chosen (not (eqb tag 48)) _ _ _ h) [
  | inl other ↦ absurd cc
  | inr begins ↦ elim (chosen (ltb first 128) _ _ _ begins.1) [
    | inl short ↦ omega (arith, framed_there 2 first _ k short.1)
    | inr long ↦ elim (chosen ((eqb first 128) || ltb 132 first) _ _ _ long.1) [
      | inl wrong ↦ absurd cc
      | inr right ↦ elim (chosen (ltb (length octets) (first - 128)) _ _ _ right.1) [
        | inl less ↦ absurd cc
        | inr there ↦ omega (arith, framed_there (first - 126) (number_after 0 (take (first - 128) octets)) _ k there.1)
      ]
    ]
  ]
]

-- the message in a whole frame is that of the frame's own octets
in_frame_stays : (prefix after : List ℕ) (frame : Frame) → frame_at prefix ≡ frame → in_frame (prefix ++ after) frame ≡ in_frame prefix frame
in_frame_stays prefix after Partial is = refl
in_frame_stays prefix after (Refused place) is = refl
in_frame_stays prefix after Long is = refl
in_frame_stays prefix after (Held k) is = ap (λ (bytes : List ℕ). held k (whole_at place_of message_at bytes)) (take-append-le k prefix after (frame_came prefix k is))

-- what the first bytes are read or refused as stays so, whatever bytes follow
pub read_stays : (prefix after : List ℕ) → read_of prefix ≢ partial → read_of (prefix ++ after) ≡ read_of prefix
unfolding read_of
read_stays prefix after decided =
    let known = frame_stays prefix after (λ e. decided (ap (in_frame prefix) e)) in
    ap (in_frame (prefix ++ after)) known ∙ in_frame_stays prefix after (frame_at prefix) refl
