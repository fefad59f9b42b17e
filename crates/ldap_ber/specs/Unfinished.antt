-- How a writer keeps what it has written of elements that are not ended: each of them starts with
-- octets that say nothing, which its header takes the place of.
use Rattle.std.specs.Prelude.{◌≡◌, ℕ, ◌+◌, ◌≤◌, List, [], ◌∷◌, ◌++◌, length, take, drop}
use Rattle.ldap_ber.specs.Writer.{Written, after_bytes, after_begin}
use Rattle.ldap_ber.specs.declared.writer.Begun.{Begun}

-- what is written of the elements that are not ended, the innermost first
abbrev pub written : List Begun → List ℕ → Written
written [] out = record { opened = []; bytes = out }
written (innermost ∷ others) out =
    after_bytes (after_begin (written others (take innermost.start out)) innermost.tag)
    (drop (innermost.start + innermost.room) out)

-- each element is begun in the one around it, with room for its header
abbrev pub AreKept : List Begun → List ℕ → Type 0
AreKept [] out = Unit {0}
AreKept (innermost ∷ others) out =
    (innermost.start + innermost.room ≤ length out) × AreKept others (take innermost.start out)

-- at a place there is so much room in the place of that which was there; what comes before it and
-- after it is the same
pub record HasRoomFor (place room : ℕ) (before : List ℕ) (count : ℕ) (after : List ℕ) : Type 0 where
  pub front : take place after ≡ take place before
  pub body : drop (place + count) after ≡ drop (place + room) before
  pub within : place + count ≤ length after

-- the octets with others in the place of as many
abbrev pub put_at : List ℕ → ℕ → List ℕ → List ℕ
put_at octets place others =
    take place octets ++ (others ++ drop (place + length others) octets)

-- nothing of the bytes is lost
abbrev pub Extends : List ℕ → List ℕ → Type 0
Extends before after = (more : List ℕ) × (after ≡ before ++ more)
