-- Components of messages, and how bytes may spell them. A form says that the bytes begin with a
-- spelling of a value, and what follows it.
use Rattle.std.specs.Prelude.{◌≡◌, ℕ, ◌<◌, ◌≤◌, List, [], ◌∷◌, length, Bool, not, ◌==◌, Option, Some, None, ℤ, ◌⊎◌}
use Rattle.ldap_ber.specs.Element.{integer_of, Begins}
use Rattle.ldap_ber.specs.Reader.{tag_at}

abbrev pub Form : Type 0 → Type 1
Form X = List ℕ → X → List ℕ → Type 0

-- octets in the primitive form (X.690, 8.7; RFC 4511, section 5.1)
abbrev pub OctetString : ℕ → Form (List ℕ)
OctetString tag bytes octets rest = Begins bytes tag octets rest

-- one to eight octets, no matter whether fewer would do
abbrev pub Integer : ℕ → Form ℤ
Integer tag bytes value rest =
    (body : List ℕ) × Begins bytes tag body rest × (0 < length body) × (length body ≤ 8)
    × (value ≡ integer_of body)

-- one octet, of which all but 0 mean true (X.690, 8.2.2)
abbrev pub Boolean : ℕ → Form Bool
Boolean tag bytes value rest =
    (octet : ℕ) × Begins bytes tag (octet ∷ []) rest × (value ≡ not (octet == 0))

-- a component, or nothing where the next element does not have its tag (X.690, 8.9.3)
abbrev pub Optional : {X : Type 0} → ℕ → Form X → Form (Option X)
Optional tag R bytes (Some x) rest = (tag_at bytes ≡ Some tag) × R bytes x rest
Optional tag R bytes None rest = (rest ≡ bytes) × (tag_at bytes ≡ Some tag → ⊥)

-- a component, or nothing, which stands for the usual value (X.690, 8.9.3)
abbrev pub Default : {X : Type 0} → ℕ → X → Form X → Form X
Default tag usual R bytes x rest =
    ((tag_at bytes ≡ Some tag) × R bytes x rest)
    ⊎ ((x ≡ usual) × (rest ≡ bytes) × (tag_at bytes ≡ Some tag → ⊥))

-- one component, and the other after it
abbrev pub Both : {X Y : Type 0} → Form X → Form Y → Form (X × Y)
Both R S bytes x rest = (between : List ℕ) × R bytes x.0 between × S between x.1 rest

-- a component whose value stands for another one
abbrev pub Meaning : {X Y : Type 0} → (X → Y → Type 0) → Form X → Form Y
Meaning {X} P R bytes y rest = (x : X) × R bytes x rest × P x y

-- a component that makes the value of these parts
abbrev pub MadeOf : {X Y : Type 0} → (Y → X) → Form X → Form Y
MadeOf parts R bytes y rest = R bytes (parts y) rest

-- any number of a component up to the end of the bytes
abbrev pub Many : {X : Type 0} → Form X → List ℕ → List X → Type 0
Many R bytes [] = bytes ≡ []
Many R bytes (x ∷ xs) = (rest : List ℕ) × R bytes x rest × Many R rest xs

-- an element of any tag
abbrev pub AnyElement : Form (ℕ × List ℕ)
AnyElement bytes e rest = Begins bytes e.0 e.1 rest

abbrev pub AreElements : List ℕ → Type 0
AreElements bytes = (es : List (ℕ × List ℕ)) × Many AnyElement bytes es

-- an element whose body is a component
abbrev pub Tagged : {X : Type 0} → ℕ → Form X → Form X
Tagged tag R bytes x rest = (body : List ℕ) × Begins bytes tag body rest × R body x []

-- an element whose body is a component and unknown elements after it (RFC 4511, section 4)
abbrev pub Sequence : {X : Type 0} → ℕ → Form X → Form X
Sequence tag R bytes x rest =
    (body : List ℕ) × (unknown : List ℕ) × Begins bytes tag body rest × R body x unknown
    × AreElements unknown

-- an element whose body is any number of a component (X.690, 8.10, 8.12)
abbrev pub ListOf : {X : Type 0} → ℕ → Form X → Form (List X)
ListOf tag R bytes xs rest = (body : List ℕ) × Begins bytes tag body rest × Many R body xs
