-- The messages of a stream, from its first byte on.
use Rattle.std.proofs.Common.{◌≡◌, ℕ, zero, suc, ◌<◌, ◌≤◌, List, [], ◌∷◌, length, take, drop, refl, sym, ap, subst, ◌∙◌, arith, length-drop}
use Rattle.std.proofs.lemmas.List.{length-take, take-append-drop}
use Rattle.ldap_messages.specs.Whole.{MessageValue}
use Rattle.ldap_messages.specs.Frame.{Read, partial, refused, long, message, read_of}
use Rattle.ldap_messages.proofs.FrameLemmas.{read_found, read_only}
use Rattle.ldap_session.specs.Incoming.{Incoming, Arrived, Wrong, incoming_then, incoming_within, incoming_in, rest_then, rest_within, rest_of}

-- without a byte no message is read yet
pub nothing_read : read_of [] ≡ partial
unfolding read_of
nothing_read = refl

count_of : Read → ℕ
count_of partial = 0
count_of (refused place) = 0
count_of long = 0
count_of (message whole count) = count

-- the frame of a message is what it was read of
frame_is : (bytes : List ℕ) (whole : MessageValue) (count : ℕ) → read_of bytes ≡ message whole count → count ≡ length (take count bytes)
unfolding count_of
frame_is bytes whole count is =
    let again = read_only (take count bytes) (drop count bytes) whole (read_found bytes whole count is) in
    let there = subst (λ (xs : List ℕ). read_of xs ≡ message whole (length (take count bytes))) (take-append-drop count bytes) again in
    ap count_of (sym is ∙ there)

-- a message takes no more octets than there are
pub frame_within : (bytes : List ℕ) (whole : MessageValue) (count : ℕ) → read_of bytes ≡ message whole count → count ≤ length bytes
frame_within bytes whole count is = omega (arith, frame_is bytes whole count is, length-take count bytes)

-- a message takes one octet at least
pub frame_some : (bytes : List ℕ) (whole : MessageValue) (count : ℕ) → read_of bytes ≡ message whole count → 0 < count
frame_some bytes whole zero is =
    let again = read_only [] [] whole (read_found bytes whole zero is) in
    absurd (cc (again, nothing_read))
frame_some bytes whole (suc count) is = omega arith

-- ---- as many messages as there are bytes are enough

incoming_step : (n m : ℕ) (bytes : List ℕ) (read : Read) → read_of bytes ≡ read → length bytes ≤ suc n → length bytes ≤ suc m
    → ((left : List ℕ) → length left ≤ n → length left ≤ m → incoming_within n left ≡ incoming_within m left)
    → incoming_then (incoming_within n) bytes read ≡ incoming_then (incoming_within m) bytes read
incoming_step n m bytes partial is p q later = refl
incoming_step n m bytes (refused place) is p q later = refl
incoming_step n m bytes long is p q later = refl
incoming_step n m bytes (message whole count) is p q later =
    let some : 0 < count = frame_some bytes whole count is in
    ap (λ (more : List Incoming). Arrived whole ∷ more) (later (drop count bytes) (omega (arith, some, length-drop count bytes)) (omega (arith, some, length-drop count bytes)))

incoming_of_nothing : (n : ℕ) → incoming_within n [] ≡ []
incoming_of_nothing zero = refl
incoming_of_nothing (suc n) = rw nothing_read refl

incoming_of_empty : (n : ℕ) (bytes : List ℕ) → length bytes ≤ 0 → incoming_within n bytes ≡ []
incoming_of_empty n [] none = incoming_of_nothing n
incoming_of_empty n (byte ∷ bytes) none = absurd (omega arith)

incoming_enough : (n m : ℕ) (bytes : List ℕ) → length bytes ≤ n → length bytes ≤ m → incoming_within n bytes ≡ incoming_within m bytes
incoming_enough zero m bytes p q = sym (incoming_of_empty m bytes p)
incoming_enough (suc n) zero bytes p q = incoming_of_empty (suc n) bytes q
incoming_enough (suc n) (suc m) bytes p q = incoming_step n m bytes (read_of bytes) refl p q (λ left. incoming_enough n m left)

rest_step : (n m : ℕ) (bytes : List ℕ) (read : Read) → read_of bytes ≡ read → length bytes ≤ suc n → length bytes ≤ suc m
    → ((left : List ℕ) → length left ≤ n → length left ≤ m → rest_within n left ≡ rest_within m left)
    → rest_then (rest_within n) bytes read ≡ rest_then (rest_within m) bytes read
rest_step n m bytes partial is p q later = refl
rest_step n m bytes (refused place) is p q later = refl
rest_step n m bytes long is p q later = refl
rest_step n m bytes (message whole count) is p q later =
    let some : 0 < count = frame_some bytes whole count is in
    later (drop count bytes) (omega (arith, some, length-drop count bytes)) (omega (arith, some, length-drop count bytes))

rest_of_nothing : (n : ℕ) → rest_within n [] ≡ []
rest_of_nothing zero = refl
rest_of_nothing (suc n) = rw nothing_read refl

rest_of_empty : (n : ℕ) (bytes : List ℕ) → length bytes ≤ 0 → rest_within n bytes ≡ bytes
rest_of_empty n [] none = rest_of_nothing n
rest_of_empty n (byte ∷ bytes) none = absurd (omega arith)

rest_enough : (n m : ℕ) (bytes : List ℕ) → length bytes ≤ n → length bytes ≤ m → rest_within n bytes ≡ rest_within m bytes
rest_enough zero m bytes p q = sym (rest_of_empty m bytes p)
rest_enough (suc n) zero bytes p q = rest_of_empty (suc n) bytes q
rest_enough (suc n) (suc m) bytes p q = rest_step n m bytes (read_of bytes) refl p q (λ left. rest_enough n m left)

-- ---- the first message, and what follows it

incoming_once : (bytes : List ℕ) → incoming_in bytes ≡ incoming_then (incoming_within (length bytes)) bytes (read_of bytes)
unfolding incoming_in
incoming_once bytes = incoming_enough (length bytes) (suc (length bytes)) bytes (omega arith) (omega arith)

incoming_by : (bytes : List ℕ) (read : Read) → read_of bytes ≡ read → incoming_in bytes ≡ incoming_then (incoming_within (length bytes)) bytes read
incoming_by bytes read is = incoming_once bytes ∙ ap (λ (r : Read). incoming_then (incoming_within (length bytes)) bytes r) is

rest_once : (bytes : List ℕ) → rest_of bytes ≡ rest_then (rest_within (length bytes)) bytes (read_of bytes)
unfolding rest_of
rest_once bytes = rest_enough (length bytes) (suc (length bytes)) bytes (omega arith) (omega arith)

rest_by : (bytes : List ℕ) (read : Read) → read_of bytes ≡ read → rest_of bytes ≡ rest_then (rest_within (length bytes)) bytes read
rest_by bytes read is = rest_once bytes ∙ ap (λ (r : Read). rest_then (rest_within (length bytes)) bytes r) is

-- of bytes that are no whole message, none comes in
pub incoming_none : (bytes : List ℕ) → read_of bytes ≡ partial → incoming_in bytes ≡ []
incoming_none bytes is = incoming_by bytes partial is

-- of bytes that are no whole message, all are left
pub rest_none : (bytes : List ℕ) → read_of bytes ≡ partial → rest_of bytes ≡ bytes
rest_none bytes is = rest_by bytes partial is

-- at a refused octet something wrong comes in, and nothing after it
pub incoming_refused : (bytes : List ℕ) (place : ℕ) → read_of bytes ≡ refused place → incoming_in bytes ≡ Wrong place ∷ []
incoming_refused bytes place is = incoming_by bytes (refused place) is

-- a message that is too long is wrong at its beginning
pub incoming_long : (bytes : List ℕ) → read_of bytes ≡ long → incoming_in bytes ≡ Wrong 0 ∷ []
incoming_long bytes is = incoming_by bytes long is

-- a message that is read comes in, and then what is in the bytes after it
pub incoming_more : (bytes : List ℕ) (whole : MessageValue) (count : ℕ) → read_of bytes ≡ message whole count → incoming_in bytes ≡ Arrived whole ∷ incoming_in (drop count bytes)
unfolding incoming_in
incoming_more bytes whole count is =
    incoming_by bytes (message whole count) is
    ∙ ap (λ (more : List Incoming). Arrived whole ∷ more) (incoming_enough (length bytes) (length (drop count bytes)) (drop count bytes) (omega (arith, length-drop count bytes)) (omega arith))

-- what is left after a message is what is left of the bytes after it
pub rest_more : (bytes : List ℕ) (whole : MessageValue) (count : ℕ) → read_of bytes ≡ message whole count → rest_of bytes ≡ rest_of (drop count bytes)
unfolding rest_of
rest_more bytes whole count is =
    rest_by bytes (message whole count) is
    ∙ rest_enough (length bytes) (length (drop count bytes)) (drop count bytes) (omega (arith, length-drop count bytes)) (omega arith)
