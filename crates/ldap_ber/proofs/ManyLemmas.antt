-- Reading one component after the other, as a loop does.
use Rattle.std.proofs.Common.{◌≡◌, ℕ, zero, suc, ◌<◌, ◌≤◌, List, [], ◌∷◌, ◌++◌, length, Result, Ok, Err, refl, ap, ◌∙◌, append_assoc, arith}
use Rattle.std.proofs.lemmas.List.{append-nil}
use Rattle.ldap_ber.specs.Reader.{◌>>=◌}
use Rattle.ldap_ber.specs.Reading.{Reading, many_in, many_at}
use Rattle.ldap_ber.proofs.Steps.{bind_same}

-- each reading takes an octet at least
abbrev pub Advances : {X E : Type 0} → Reading E X → Type 0
Advances {X} f = (stop : ℕ) (bytes : List ℕ) (x : X) (rest : List ℕ) → f stop bytes ≡ Ok (x, rest) → length rest < length bytes

-- more steps than there are octets change nothing
pub many_enough : {X E : Type 0} (f : Reading E X) → Advances f → (m n stop : ℕ) (bytes : List ℕ) → length bytes ≤ m → length bytes ≤ n → many_in f m stop bytes ≡ many_in f n stop bytes
many_enough f adv m n stop [] h k = refl
many_enough f adv zero n stop (b ∷ bytes) h k = absurd (omega arith)
many_enough f adv (suc m) zero stop (b ∷ bytes) h k = absurd (omega arith)
many_enough f adv (suc m) (suc n) stop (b ∷ bytes) h k =
    bind_same (f stop (b ∷ bytes)) _ _ (λ x e.
    let less : length x.1 < length (b ∷ bytes) = adv stop (b ∷ bytes) x.0 x.1 e in
    ap (λ r. r >>= λ xs. Ok (x.0 ∷ xs)) (many_enough f adv m n stop x.1 (omega arith) (omega arith)))

-- one more is read in front
pub many_next : {X E : Type 0} (f : Reading E X) → Advances f → (stop b : ℕ) (bytes : List ℕ) → many_at f stop (b ∷ bytes) ≡ (f stop (b ∷ bytes) >>= λ x. many_at f stop x.1 >>= λ xs. Ok (x.0 ∷ xs))
unfolding many_at
many_next f adv stop b bytes =
    bind_same (f stop (b ∷ bytes)) _ _ (λ x e.
    let less : length x.1 < length (b ∷ bytes) = adv stop (b ∷ bytes) x.0 x.1 e in
    ap (λ r. r >>= λ xs. Ok (x.0 ∷ xs)) (many_enough f adv (length bytes) (length x.1) stop x.1 (omega arith) (omega arith)))

-- no bytes are read as an empty list
pub many_none : {X E : Type 0} (f : Reading E X) (stop : ℕ) → many_at f stop [] ≡ Ok []
unfolding many_at
many_none f stop = refl

-- what was read before, and what is still read
abbrev pub with_prefix : {X E : Type 0} → List X → Result (List X) E → Result (List X) E
with_prefix prefix read = read >>= λ xs. Ok (prefix ++ xs)

regroup : {X E : Type 0} (prefix : List X) (x : X) (read : Result (List X) E) → with_prefix (prefix ++ x ∷ []) read ≡ with_prefix prefix (read >>= λ xs. Ok (x ∷ xs))
regroup prefix x (Ok xs) = ap (λ ys. Ok ys) (simp append_assoc)
regroup prefix x (Err f) = refl

-- an item that is read is the next of the list
pub many_goes_on : {X E : Type 0} (f : Reading E X) → Advances f → (prefix : List X) (stop : ℕ) (bytes : List ℕ) (x : X) (rest : List ℕ) → 0 < length bytes → f stop bytes ≡ Ok (x, rest)
    → with_prefix (prefix ++ x ∷ []) (many_at f stop rest) ≡ with_prefix prefix (many_at f stop bytes)
many_goes_on f adv prefix stop [] x rest some h = absurd (omega arith)
many_goes_on f adv prefix stop (b ∷ bytes) x rest some h = regroup prefix x (many_at f stop rest) ∙ rw (many_next f adv stop b bytes, h) refl

-- an item that is refused is the fault of the list
pub many_fails : {X E : Type 0} (f : Reading E X) → Advances f → (prefix : List X) (stop : ℕ) (bytes : List ℕ) (e : E) → 0 < length bytes → f stop bytes ≡ Err e
    → with_prefix prefix (many_at f stop bytes) ≡ Err e
many_fails f adv prefix stop [] e some h = absurd (omega arith)
many_fails f adv prefix stop (b ∷ bytes) e some h = rw (many_next f adv stop b bytes, h) refl

-- the list is read where no byte is left
pub many_ended : {X E : Type 0} (f : Reading E X) (prefix : List X) (stop : ℕ) (bytes : List ℕ) → length bytes ≡ 0 → with_prefix prefix (many_at f stop bytes) ≡ Ok prefix
many_ended f prefix stop [] none = rw (many_none f stop) (ap (λ ys. Ok ys) (append-nil prefix))
many_ended f prefix stop (b ∷ bytes) none = absurd (omega arith)
