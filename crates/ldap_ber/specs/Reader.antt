-- Reading elements from left to right: the next one, or the first refused place.
use Rattle.std.specs.Prelude.{ℕ, ◌-◌, ◌%◌, List, [], ◌∷◌, length, take, drop, Bool, false, not, ◌||◌, nat_lt, nat_eq, ◌==◌, if◌then◌else◌, Option, Some, None, Result, Ok, Err, ℤ}
use Rattle.ldap_ber.specs.Element.{number_after, integer_of}
use Rattle.ldap_ber.specs.declared.fault.BerKind.{BerKind}
use Rattle.ldap_ber.specs.declared.fault.BerKind.TheVariants.{Short, Indefinite, LongLength, WrongTag, BadInteger, BadBoolean, Trailing}
use Rattle.ldap_ber.specs.declared.fault.BerFault.{BerFault}

infixl 10 ◌>>=◌
abbrev pub ◌>>=◌ : {A B E : Type 0} → Result A E → (A → Result B E) → Result B E
(Ok x) >>= f = f x
(Err e) >>= f = Err e

-- what a reader has not read: the place after the bytes that are left, and these
pub record Unread : Type 0 where
  pub stop : ℕ
  pub left : List ℕ

-- an element, the place of its first octet, and the place after its last one
pub record Element : Type 0 where
  pub tag : ℕ
  pub at : ℕ
  pub stop : ℕ
  pub body : List ℕ

-- refused at the first of the bytes that are left
abbrev pub fault : BerKind → ℕ → List ℕ → BerFault
fault kind stop bytes = record { kind = kind; at = stop - length bytes }

-- the length in front, and what follows it
abbrev pub length_at : List ℕ → Result (ℕ × List ℕ) BerKind
length_at [] = Err Short
length_at (first ∷ more) =
    if nat_lt first 128 then Ok (first, more) else
    if first == 128 then Err Indefinite else
    if nat_lt 132 first then Err LongLength else
    if nat_lt (length more) (first - 128) then Err Short else
    Ok (number_after 0 (take (first - 128) more), drop (first - 128) more)

-- the parts of the element in front: its tag, its body, and what follows it
abbrev pub parts_at : List ℕ → Result (ℕ × List ℕ × List ℕ) BerKind
parts_at [] = Err Short
parts_at (tag ∷ more) =
    if tag % 32 == 31 then Err WrongTag else
    length_at more >>= λ counted.
    if nat_lt (length counted.1) counted.0 then Err Short
    else Ok (tag, take counted.0 counted.1, drop counted.0 counted.1)

-- these parts with their places
abbrev pub placed :
    ℕ → List ℕ → Result (ℕ × List ℕ × List ℕ) BerKind → Result (Element × List ℕ) BerFault
placed stop bytes (Ok parts) =
    Ok (
      record {
        tag = parts.0;
        at = stop - length bytes;
        stop = stop - length parts.2;
        body = parts.1;
      },
      parts.2,
    )
placed stop bytes (Err kind) = Err (fault kind stop bytes)

-- the element in front and what follows it, or a fault at its first octet
unfoldable pub element_at : ℕ → List ℕ → Result (Element × List ℕ) BerFault
element_at stop bytes = placed stop bytes (parts_at bytes)

-- the element in front, which has to have this tag
unfoldable pub expect_at : ℕ → ℕ → List ℕ → Result (Element × List ℕ) BerFault
expect_at tag stop bytes = do
  e ← element_at stop bytes
  if e.0.tag == tag then Ok e else Err (fault WrongTag stop bytes)

-- the octet in front, where the next element has its tag
abbrev pub tag_at : List ℕ → Option ℕ
tag_at [] = None
tag_at (tag ∷ bytes) = Some tag

abbrev pub has_tag : ℕ → List ℕ → Bool
has_tag tag [] = false
has_tag tag (first ∷ bytes) = nat_eq first tag

-- nothing is left
abbrev pub end_at : ℕ → List ℕ → Result (Unit {0}) BerFault
end_at stop [] = Ok tt
end_at stop (first ∷ bytes) = Err (fault Trailing stop (first ∷ bytes))

-- the integer in an element, which has one to eight octets
unfoldable pub integer_in : Element → Result ℤ BerFault
integer_in e =
    if (length e.body == 0) || nat_lt 8 (length e.body)
    then Err (record { kind = BadInteger; at = e.at })
    else Ok (integer_of e.body)

-- the truth value of a body at this place: one octet, of which all but 0 are true (X.690, 8.2.2)
abbrev pub boolean_of : ℕ → List ℕ → Result Bool BerFault
boolean_of at [] = Err (record { kind = BadBoolean; at = at })
boolean_of at (octet ∷ []) = Ok (not (octet == 0))
boolean_of at (octet ∷ another ∷ more) = Err (record { kind = BadBoolean; at = at })

abbrev pub boolean_in : Element → Result Bool BerFault
boolean_in e = boolean_of e.at e.body
