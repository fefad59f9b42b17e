-- Writes that a directory accepts.
use Rattle.std.specs.Prelude.{◌≡◌, ◌<◌, ℕ, true, List, length, get_or, None}
use Rattle.csn_cookie.specs.Csn.{IsCsn}
use Rattle.dn_names.specs.Names.{TypeAndValue}
use Rattle.entry_tree.specs.declared.entry.Entry.{Entry}
use Rattle.entry_tree.specs.declared.op.Write.{Write}
use Rattle.entry_tree.specs.Codes.{code_of}
use Rattle.entry_tree.specs.History.{state_of}
use Rattle.entry_tree.specs.Sound.{is_sound_op}
use Rattle.directory_writes.specs.Formed.{IsWellFormed}

-- a client may ask for the write, its CSN is in range, and nothing rejects it in these entries
pub record IsAcceptedFromClient
    (suffix : List (List TypeAndValue)) (entries : List Entry) (write : Write) : Type 0 where
  pub formed : IsWellFormed write.op
  pub sound : is_sound_op write.op ≡ true
  pub is_csn : IsCsn write.csn
  pub free : code_of suffix entries write.op ≡ None

-- each write was accepted in the entries that the writes before it left
abbrev pub WereAccepted : List (List TypeAndValue) → ℕ → List Write → Type 0
WereAccepted suffix history writes =
    (number : ℕ) (other : Write) → number < length writes
    → IsAcceptedFromClient suffix (state_of history writes number) (get_or writes number other)
