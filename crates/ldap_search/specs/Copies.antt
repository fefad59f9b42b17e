-- A copy that follows a search (RFC 4533, section 3), and what is printed of it.
use Rattle.std.specs.Prelude.{◌≡◌, ℕ, ◌+◌, List, [], ◌∷◌, ◌++◌, length, map, codes}
use Rattle.std.specs.Fmt.{decimal}
use Rattle.std.specs.List.{flat_map}
use Rattle.hex.specs.Hex.{encode_lower}
use Rattle.sha2.specs.Sha256.{sha256}
use Rattle.cascade_report.specs.ReportLines.{text_of}
use Rattle.entry_tree.specs.declared.entry.Entry.{Entry}
use Rattle.ldap_messages.specs.declared.message.Message.{Message}
use Rattle.ldap_messages.specs.Whole.{MessageValue, message_value}
use Rattle.sync_consumer.specs.declared.consumer.Taken.{Taken}
use Rattle.sync_consumer.specs.declared.consumer.Taken.TheVariants.{Staged, Stored, Copied, Over, Fault, NoMemory}
use Rattle.sync_consumer.specs.Taking as taking
use Rattle.sync_model.specs.Copy.{Copy}

-- the line `stored entries E sha256 H`: E entries, whose text has the SHA-256 digest H
abbrev pub stored_text : List Entry → List ℕ
stored_text entries =
    codes "stored entries "
    ++ (decimal (length entries)
    ++ (codes " sha256 " ++ (encode_lower (sha256 (text_of entries)) ++ codes "\n")))

-- a message that was taken, what came of it, and the copy after it
pub record TakenMessage : Type 0 where
  pub message : Message
  pub taken : Taken
  pub copy : Copy

-- the search goes on after it
abbrev pub GoesOn : Taken → Type 0
GoesOn Staged = Unit {0}
GoesOn (Stored commit) = Unit {0}
GoesOn (Copied commit) = Unit {0}
GoesOn (Over code) = ⊥
GoesOn (Fault found) = ⊥
GoesOn NoMemory = ⊥

-- a copy takes some messages, one after another, and its search goes on
abbrev pub TakesAll : Copy → List TakenMessage → Copy → Type 0
TakesAll copy [] last = last ≡ copy
TakesAll copy (one ∷ more) last =
    taking.Takes copy one.message one.copy one.taken × GoesOn one.taken
    × TakesAll one.copy more last

-- what is printed of a message: a line for each cookie that is stored
abbrev pub text_of_taken : Taken → List Entry → List ℕ
text_of_taken (Stored commit) held = stored_text held
text_of_taken _ held = []

abbrev pub taken_text : TakenMessage → List ℕ
taken_text one = text_of_taken one.taken one.copy.held

abbrev pub taken_texts : List TakenMessage → List ℕ
taken_texts messages = flat_map taken_text messages

-- how many cookies were stored
abbrev pub stored_in : Taken → ℕ
stored_in (Stored commit) = 1
stored_in _ = 0

abbrev pub stored_count : List TakenMessage → ℕ
stored_count [] = 0
stored_count (one ∷ more) = stored_in one.taken + stored_count more

-- the messages that were taken
abbrev pub values_of : List TakenMessage → List MessageValue
values_of messages = map (λ one. message_value one.message) messages
