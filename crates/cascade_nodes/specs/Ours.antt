-- Searches of a script, whose messages have one message ID and have spellings.
use Rattle.std.specs.Prelude.{◌≡◌, ⊤, ℕ, List}
use Rattle.ldap_messages.specs.Whole.{message_value, HasSpelling}
use Rattle.sync_provider.specs.Law.{EachSearch}
use Rattle.sync_provider.specs.Search.{SearchState}
use Rattle.sync_provider.specs.declared.handed.Handed.{Handed}
use Rattle.sync_provider.specs.declared.handed.Handed.TheVariants as handed
use Rattle.cascade_nodes.specs.Opening.{message_id}

abbrev pub IsOurs : SearchState → Type 0
IsOurs s = s.id ≡ message_id

abbrev pub AreOurs : List (ℕ × SearchState) → Type 0
AreOurs searches = EachSearch IsOurs searches

-- a message that is handed out has a spelling
abbrev pub IsSpelled : Handed → Type 0
IsSpelled (handed.Message message) = HasSpelling (message_value message)
IsSpelled (handed.Ended code message) = HasSpelling (message_value message)
IsSpelled handed.Nothing = ⊤
IsSpelled handed.NoSuchSearch = ⊤
IsSpelled handed.NoMemory = ⊤
