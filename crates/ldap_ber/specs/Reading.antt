-- Components of messages, and how they are read: one reading for each form, as a function
-- with the first fault.
use Rattle.std.specs.Prelude.{ℕ, zero, suc, ◌-◌, List, [], ◌∷◌, length, Bool, if◌then◌else◌, Option, Some, None, Result, Ok, Err, ℤ}
use Rattle.ldap_ber.specs.declared.fault.BerFault.{BerFault}
use Rattle.ldap_ber.specs.Reader.{◌>>=◌, element_at, expect_at, has_tag, end_at, integer_in, boolean_in}

-- from the place after the bytes and the bytes: a value and the bytes that are
-- left, or the first fault
abbrev pub Reading : Type 0 → Type 0 → Type 0
Reading E X = ℕ → List ℕ → Result (X × List ℕ) E

-- the same, where a fault of an element is reported in the words of the caller
abbrev pub reworded : {X E : Type 0} → (BerFault → E) → Result X BerFault → Result X E
reworded reword (Ok x) = Ok x
reworded reword (Err fault) = Err (reword fault)

abbrev pub octets_at : ℕ → Reading BerFault (List ℕ)
octets_at tag stop bytes = expect_at tag stop bytes >>= λ e. Ok (e.0.body, e.1)

abbrev pub integer_at : ℕ → Reading BerFault ℤ
integer_at tag stop bytes =
    expect_at tag stop bytes >>= λ e. integer_in e.0 >>= λ value. Ok (value, e.1)

abbrev pub boolean_at : ℕ → Reading BerFault Bool
boolean_at tag stop bytes =
    expect_at tag stop bytes >>= λ e. boolean_in e.0 >>= λ value. Ok (value, e.1)

abbrev pub optional_at : {X E : Type 0} → ℕ → Reading E X → Reading E (Option X)
optional_at tag f stop bytes =
    if has_tag tag bytes then (f stop bytes >>= λ x. Ok (Some x.0, x.1)) else Ok (None, bytes)

abbrev pub default_at : {X E : Type 0} → ℕ → X → Reading E X → Reading E X
default_at tag usual f stop bytes = if has_tag tag bytes then f stop bytes else Ok (usual, bytes)

abbrev pub both_at : {X Y E : Type 0} → Reading E X → Reading E Y → Reading E (X × Y)
both_at f g stop bytes = f stop bytes >>= λ x. g stop x.1 >>= λ y. Ok ((x.0, y.0), y.1)

-- a component and what its value stands for; `g` gets the place of the component
abbrev pub meaning_at : {X Y E : Type 0} → (ℕ → X → Result Y E) → Reading E X → Reading E Y
meaning_at g f stop bytes = f stop bytes >>= λ x. g (stop - length bytes) x.0 >>= λ y. Ok (y, x.1)

-- a component, of which a value is made
abbrev pub made_at : {X Y E : Type 0} → (X → Y) → Reading E X → Reading E Y
made_at make f stop bytes = f stop bytes >>= λ x. Ok (make x.0, x.1)

-- any number of a component, as long as bytes are left and at most n
abbrev pub many_in : {X E : Type 0} → Reading E X → ℕ → ℕ → List ℕ → Result (List X) E
many_in f most stop [] = Ok []
many_in f zero stop (b ∷ bytes) = Ok []
many_in f (suc most) stop (b ∷ bytes) =
    f stop (b ∷ bytes) >>= λ x. many_in f most stop x.1 >>= λ xs. Ok (x.0 ∷ xs)

-- any number of a component that takes an octet at least
unfoldable pub many_at : {X E : Type 0} → Reading E X → ℕ → List ℕ → Result (List X) E
many_at f stop bytes = many_in f (length bytes) stop bytes

abbrev pub any_at : Reading BerFault (ℕ × List ℕ)
any_at stop bytes = element_at stop bytes >>= λ e. Ok ((e.0.tag, e.0.body), e.1)

-- passing over elements up to the end of the bytes
unfoldable pub skip_at : ℕ → List ℕ → Result (Unit {0}) BerFault
skip_at stop bytes = many_at any_at stop bytes >>= λ es. Ok tt

-- how many elements there are up to the end of the bytes
unfoldable pub count_at : ℕ → List ℕ → Result ℕ BerFault
count_at stop bytes = many_at any_at stop bytes >>= λ es. Ok (length es)

abbrev pub tagged_at : {X E : Type 0} → (BerFault → E) → ℕ → Reading E X → Reading E X
tagged_at reword tag f stop bytes =
    reworded reword (expect_at tag stop bytes) >>= λ e.
    f e.0.stop e.0.body >>= λ x.
    reworded reword (end_at e.0.stop x.1) >>= λ u.
    Ok (x.0, e.1)

abbrev pub sequence_at : {X E : Type 0} → (BerFault → E) → ℕ → Reading E X → Reading E X
sequence_at reword tag f stop bytes =
    reworded reword (expect_at tag stop bytes) >>= λ e.
    f e.0.stop e.0.body >>= λ x.
    reworded reword (skip_at e.0.stop x.1) >>= λ u.
    Ok (x.0, e.1)

abbrev pub list_at : {X E : Type 0} → (BerFault → E) → ℕ → Reading E X → Reading E (List X)
list_at reword tag f stop bytes =
    reworded reword (expect_at tag stop bytes) >>= λ e.
    many_at f e.0.stop e.0.body >>= λ xs.
    Ok (xs, e.1)

-- the component that all of the bytes are
abbrev pub whole_at : {X E : Type 0} → (BerFault → E) → Reading E X → List ℕ → Result X E
whole_at reword f bytes =
    f (length bytes) bytes >>= λ x. reworded reword (end_at (length bytes) x.1) >>= λ u. Ok x.0
