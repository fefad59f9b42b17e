-- Changes to a directory, as they come in.
use Rattle.std.specs.Prelude.{ℕ, Result, Ok, Err, List}
use Rattle.dn_names.specs.Names.{TypeAndValue}
use Rattle.entry_tree.specs.Reading.{read_change}
use Rattle.entry_tree.specs.declared.op.Op.{Op}
use Rattle.entry_tree.specs.declared.op.Write.{Write}
use Rattle.schema_rules.specs.declared.raw.Change.{Change}
use Rattle.session_log.specs.Log.{Log, fresh}
use Rattle.directory_writes.specs.Directory.{DirectoryState, written}
use Rattle.sync_provider.specs.Machine.{ProviderState, write_code, wrote}

-- a directory of the history of this number, which is its own number in its CSNs too,
-- with this session log
abbrev pub logged_directory : ℕ → List (List TypeAndValue) → List Write → Log → DirectoryState
logged_directory number suffix writes log =
    record { suffix = suffix; sid = number; history = number; writes = writes; log = log }

-- one whose log keeps nothing, since no write depends on that
abbrev pub directory_of : ℕ → List (List TypeAndValue) → List Write → DirectoryState
directory_of number suffix writes = logged_directory number suffix writes (fresh 0)

-- the code of what was read, which is success where it is accepted
abbrev pub code_of_read : ProviderState → ℕ → Result Op ℕ → ℕ
code_of_read p now (Ok op) = write_code p op now
code_of_read p now (Err code) = code

-- the code of a change where the clock shows `now`: a replica is unwilling to perform any
-- that can be read
abbrev pub change_code : ProviderState → ℕ → Change → ℕ
change_code p now change = code_of_read p now (read_change change)

abbrev pub written_read : DirectoryState → ℕ → Result Op ℕ → DirectoryState
written_read d now (Ok op) = written d op now
written_read d now (Err code) = d

-- the directory of a root after a change
abbrev pub changed : DirectoryState → ℕ → Change → DirectoryState
changed d now change = written_read d now (read_change change)

-- the provider after what was read, with what it owes to its searches then
abbrev pub wrote_read : ProviderState → ℕ → Result Op ℕ → ProviderState
wrote_read p now (Ok op) = wrote p op now
wrote_read p now (Err code) = p

-- the provider after a change
abbrev pub wrote_change : ProviderState → ℕ → Change → ProviderState
wrote_change p now change = wrote_read p now (read_change change)
