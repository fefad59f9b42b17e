-- The frame that the first bytes announce, and the message in it (RFC 4511, section 5.2).
use Rattle.std.specs.Prelude.{◌≡◌, ℕ, ◌+◌, ◌-◌, ◌≤◌, List, [], ◌∷◌, length, take, not, ◌||◌, nat_lt, ◌==◌, if◌then◌else◌, Option, Some, None, Result, Ok, Err}
use Rattle.ldap_ber.specs.Element.{number_after, Begins}
use Rattle.ldap_ber.specs.Reading.{whole_at}
use Rattle.ldap_parts.specs.Faults.{place_of}
use Rattle.ldap_messages.specs.declared.frame.Frame.{Frame}
use Rattle.ldap_messages.specs.declared.frame.Frame.TheVariants.{Partial, Refused, Long, Held}
use Rattle.ldap_messages.specs.declared.fault.MessageFault.{MessageFault}
use Rattle.ldap_messages.specs.declared.fault.MessageFault.TheVariants.{BadMessage, TooLong, NoMemory}
use Rattle.ldap_messages.specs.declared.message.Message.{Message}
use Rattle.ldap_messages.specs.Whole.{MessageValue, message_value, MessageForm, message_at}

-- a header, a body of this length, and the bytes so far
abbrev pub framed : ℕ → ℕ → ℕ → Frame
framed header count so_far =
    if nat_lt 4194304 count then Long
    else (if nat_lt so_far (header + count) then Partial else Held (header + count))

abbrev pub frame_at : List ℕ → Frame
frame_at [] = Partial
frame_at (tag ∷ []) = if tag == 48 then Partial else Refused 0
frame_at (tag ∷ first ∷ octets) =
    if not (tag == 48) then Refused 0 else
    if nat_lt first 128 then framed 2 first (length octets + 2) else
    if (first == 128) || nat_lt 132 first then Refused 1 else
    if nat_lt (length octets) (first - 128) then Partial else
    framed (first - 126) (number_after 0 (take (first - 128) octets)) (length octets + 2)

-- what the bytes so far are: the begin of a message, one that is refused, or a
-- message and its length
pub data Read : Type 0 where
  partial : Read
  refused : ℕ → Read
  long : Read
  message : MessageValue → ℕ → Read

abbrev pub held : ℕ → Result MessageValue ℕ → Read
held count (Ok whole) = message whole count
held count (Err place) = refused place

abbrev pub in_frame : List ℕ → Frame → Read
in_frame bytes Partial = partial
in_frame bytes (Refused place) = refused place
in_frame bytes Long = long
in_frame bytes (Held count) = held count (whole_at place_of message_at (take count bytes))

unfoldable pub read_of : List ℕ → Read
read_of bytes = in_frame bytes (frame_at bytes)

-- what `read` answered, beside what the bytes are
abbrev pub HasMeaning : Result (Option (Message × ℕ)) MessageFault → Read → Type 0
HasMeaning (Ok None) read = read ≡ partial
HasMeaning (Ok (Some found)) read = read ≡ message (message_value found.0) found.1
HasMeaning (Err (BadMessage place)) read = read ≡ refused place
HasMeaning (Err TooLong) read = read ≡ long
HasMeaning (Err NoMemory) read = Unit {0}

-- the bytes spell a message, whose announced length is within the limit
abbrev pub Spells : List ℕ → MessageValue → Type 0
Spells bytes whole =
    MessageForm bytes whole [] × ((body : List ℕ) → Begins bytes 48 body [] → length body ≤ 4194304)
