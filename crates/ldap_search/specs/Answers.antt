-- The answer to a search (RFC 4511, section 4.5.2), and what is printed of it.
use Rattle.std.specs.Prelude.{◌≡◌, ◌==◌, ℕ, ℤ, Bool, true, false, if◌then◌else◌, List, [], ◌++◌, All, codes}
use Rattle.std.specs.Fmt.{signed_decimal}
use Rattle.std.specs.List.{flat_map}
use Rattle.ldif_text.specs.Received.{received_text}
use Rattle.ldap_messages.specs.Operation.{Operation, entry, reference, search_done}
use Rattle.ldap_messages.specs.Whole.{MessageValue}
use Rattle.schema_rules.specs.declared.raw.RawAttribute.{RawAttribute}

-- the message ID of the search
abbrev pub search_id : ℕ
search_id = 1

-- what a message is to the search: one of its entries, a reference, its end with the result code, or
-- no part of its answer
pub data AnswerPart : Type 0 where
  Entry : (name : List ℕ) → (attributes : List RawAttribute) → AnswerPart
  Reference : AnswerPart
  End : (code : ℤ) → AnswerPart
  Stray : AnswerPart

unfoldable pub part_of_operation : Operation → AnswerPart
part_of_operation (entry parts) = Entry parts.0 parts.1
part_of_operation (reference uris) = Reference
part_of_operation (search_done outcome) = End outcome.code
part_of_operation _ = Stray

abbrev pub part_of : MessageValue → AnswerPart
part_of whole = if whole.0 == search_id then part_of_operation whole.1.0 else Stray

-- the line `result CODE`
abbrev pub result_text : ℤ → List ℕ
result_text code = codes "result " ++ signed_decimal code ++ codes "\n"

-- what is printed of a part
abbrev pub part_text : AnswerPart → List ℕ
part_text (Entry name attributes) = received_text name attributes
part_text Reference = []
part_text (End code) = result_text code
part_text Stray = []

-- more of the answer comes after it
abbrev pub goes_on : AnswerPart → Bool
goes_on (Entry name attributes) = true
goes_on Reference = true
goes_on (End code) = false
goes_on Stray = false

-- what is printed of messages
abbrev pub texts_of : List MessageValue → List ℕ
texts_of messages = flat_map (λ whole. part_text (part_of whole)) messages

-- entries and references in any number
abbrev pub AreParts : List MessageValue → Type 0
AreParts messages = All (λ whole. goes_on (part_of whole) ≡ true) messages
