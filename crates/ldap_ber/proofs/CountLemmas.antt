-- Counting elements.
use Rattle.std.proofs.Common.{◌≡◌, ℕ, ◌+◌, ◌<◌, List, [], ◌∷◌, length, Result, Ok, Err, refl, ap, arith}
use Rattle.ldap_ber.specs.declared.fault.BerFault.{BerFault}
use Rattle.ldap_ber.specs.Reader.{◌>>=◌, Element, element_at}
use Rattle.ldap_ber.specs.Reading.{many_at, any_at, count_at}
use Rattle.ldap_ber.proofs.ManyLemmas.{many_next, many_none}
use Rattle.ldap_ber.proofs.SkipLemmas.{any_advances}

-- how many there are with those that were counted before
abbrev pub counted_on : ℕ → Result ℕ BerFault → Result ℕ BerFault
counted_on count rest = rest >>= λ more. Ok (count + more)

one_more : {X : Type 0} (count : ℕ) (x : X) (read : Result (List X) BerFault) → counted_on (count + 1) (read >>= λ xs. Ok (length xs)) ≡ counted_on count ((read >>= λ xs. Ok (x ∷ xs)) >>= λ xs. Ok (length xs))
one_more count x (Ok xs) =
    let same : count + 1 + length xs ≡ count + length (x ∷ xs) = omega arith in
    ap (λ n. Ok n) same
one_more count x (Err fault) = refl

-- an element that is read is counted
pub count_goes_on : (count stop : ℕ) (bytes : List ℕ) (e : Element) (rest : List ℕ) → 0 < length bytes → element_at stop bytes ≡ Ok (e, rest) → counted_on (count + 1) (count_at stop rest) ≡ counted_on count (count_at stop bytes)
unfolding count_at
count_goes_on count stop [] e rest some h = absurd (omega arith)
count_goes_on count stop (b ∷ bytes) e rest some h = rw (many_next any_at any_advances stop b bytes, h) (one_more count (e.tag, e.body) (many_at any_at stop rest))

-- an element that is refused is the fault of counting
pub count_fails : (count stop : ℕ) (bytes : List ℕ) (fault : BerFault) → 0 < length bytes → element_at stop bytes ≡ Err fault → counted_on count (count_at stop bytes) ≡ Err fault
unfolding count_at
count_fails count stop [] fault some h = absurd (omega arith)
count_fails count stop (b ∷ bytes) fault some h = rw (many_next any_at any_advances stop b bytes, h) refl

-- where no byte is left all are counted
pub count_ends : (count stop : ℕ) (bytes : List ℕ) → length bytes ≡ 0 → counted_on count (count_at stop bytes) ≡ Ok count
unfolding count_at
count_ends count stop [] none = rw (many_none any_at stop) (ap (λ n. Ok n) (omega arith))
count_ends count stop (b ∷ bytes) none = absurd (omega arith)
