-- What a served directory begins with, by its configuration.
use Rattle.std.specs.Prelude.{◌≡◌, ◌≢◌, ◌⊎◌, ℕ, ◌+◌, ◌*◌, ◌^◌, ◌≤◌, List, [], Option, Some, None, Result, Ok, IfOk, OnErr, IfSome, IsSome, is_some, Bool, true, false}
use Rattle.dn_names.specs.Names.{TypeAndValue}
use Rattle.ldap_session.specs.declared.access.Access.{Access}
use Rattle.ldap_session.specs.declared.access.Access.TheVariants.{Free, Named}
use Rattle.ldap_filter.specs.FilterTree.{depth, tree_of}
use Rattle.ldif_text.specs.Lines.{text_lines}
use Rattle.ldif_text.specs.Reader.{RecordReader}
use Rattle.sync_config.specs.Settings.{IsReadAs, Refuses}
use Rattle.sync_config.specs.declared.config.Config.{Config}
use Rattle.sync_config.specs.declared.fault.ConfigFault.{ConfigFault}
use Rattle.sync_config.specs.declared.fault.ConfigFault.TheVariants.{NoMemory}
use Rattle.sync_io.specs.Faults.{CountHasRisen}
use Rattle.sync_provider.specs.Journal.{JournalledProvider, journal_in, port_state}
use Rattle.sync_provider.specs.Machine as machine
use Rattle.sync_provider.specs.Ports.{PortState}
use Rattle.sync_provider.specs.declared.provider.Kind.{Kind}
use Rattle.sync_provider.specs.declared.provider.Kind.TheVariants.{Replica, Root}
use Rattle.directory_setup.specs.Filling.{FillsUp}
use Rattle.directory_setup.specs.Texts.{IsRead, too_long}
use Rattle.directory_setup.specs.declared.filling.Filling.TheVariants as filling
use Rattle.directory_setup.specs.declared.refusal.SetupRefusal.{SetupRefusal}
use Rattle.directory_setup.specs.declared.refusal.SetupRefusal.TheVariants.{InConfig, AtLine}
use Rattle.directory_setup.specs.declared.refusal.LineCause.{LineCause}
use Rattle.directory_setup.specs.declared.refusal.LineCause.TheVariants.{LimitReached}
use Rattle.directory_setup.specs.declared.setup.DirectoryLimits.{DirectoryLimits}
use Rattle.directory_setup.specs.declared.setup.ReadyDirectory.{ReadyDirectory}
use Rattle.directory_setup.specs.declared.setup.Configured.{Configured}
use Rattle.directory_setup.specs.declared.setup.Configured.TheVariants as configured
use Rattle.directory_setup.specs.declared.setup.Loading.{Loading}
use Rattle.directory_setup.specs.declared.setup.Loading.TheVariants.{Loaded, RefusedAt, NotRead}
use Rattle.directory_setup.specs.declared.setup.Setup as code
use Rattle.directory_setup.specs.declared.setup.Setup.TheVariants.{Ready, Refused, ReadFault}
use Rattle.directory_setup.specs.declared.text_file.FileText.{FileText}
use Rattle.directory_setup.specs.declared.text_file.FileText.TheVariants as found

-- the bytes under the names of a shelf
abbrev pub Files : Type 0
Files = List ℕ → Option (List ℕ)

-- who may write
abbrev pub access_by : Option (List (List TypeAndValue)) → Option (List ℕ) → Access
access_by None password = Free
access_by (Some name) None = Free
access_by (Some name) (Some password) = Named name password

-- the suffix of a directory, and how it takes its writes: one that follows another directory has
-- the empty suffix, and takes commits
abbrev pub place_of : Option (List (List TypeAndValue)) → (follows : Bool)
    → List (List TypeAndValue) × Kind
place_of suffix true = ([], Replica)
place_of None false = ([], Root)
place_of (Some name) false = (name, Root)

-- an empty directory, whose history is two random words
abbrev pub first_of : List (List TypeAndValue) → Kind → (sid : ℕ) → DirectoryLimits
    → (first second : ℕ)
    → machine.ProviderState
first_of suffix kind sid limits first second =
    machine.queue_limited
    (machine.log_limited (machine.fresh suffix sid (first * 2 ^ 64 + second) kind) limits.log)
    limits.queue

pub record IsEmpty
    (suffix : List (List TypeAndValue)) (kind : Kind) (sid : ℕ) (limits : DirectoryLimits)
    (first : JournalledProvider) : Type 0 where
  pub one : ℕ
  pub other : ℕ
  pub first_is : first.state ≡ first_of suffix kind sid limits one other
  pub unused : journal_in first ≡ []

-- the text of a file is refused: it is too long
pub record IsTooLong (text : List ℕ) (refusal : SetupRefusal) : Type 0 where
  pub line : ℕ
  pub limit : ℕ
  pub passed : too_long text ≡ Some (record { line = line; limit = limit })
  pub refusal_is : refusal ≡ AtLine line (LimitReached limit)

-- the file of this name was read, where the shelf reports its files
abbrev pub IsTextOf : Option Files → List ℕ → List ℕ → Type 0
IsTextOf None name text = Unit {0}
IsTextOf (Some files) name text = (bytes : List ℕ) × (files name ≡ Some bytes) × IsRead bytes text

-- the same, unless a read failed
abbrev pub IsReadFrom : Option Files → List ℕ → FileText → Type 0
IsReadFrom files name (found.Text text) = IsTextOf files name text
IsReadFrom files name found.Failed = Unit {0}

-- how the failed calls of what is read from are counted: some failed where the answer is this one,
-- and else none did, nor where memory ran out
pub record CountsReadFaults {T E : Type 0}
    (fault : T) (result : Result T E) (old new : ℕ) : Type 0 where
  pub failed : IfOk result (λ found. found ≡ fault → CountHasRisen old new)
  pub sound : IfOk result (λ found. found ≢ fault → new ≡ old)
  pub err : OnErr result (new ≡ old)
  pub later : old ≤ new

-- why the text of a configuration is refused: it is too long, or else by its keys, for which out of
-- memory is no reason
abbrev pub IsRefusedConfig : List ℕ → SetupRefusal → Type 0
IsRefusedConfig text refusal =
    IsTooLong text refusal
    ⊎ ((too_long text ≡ None) × (fault : ConfigFault) × (fault ≢ NoMemory) × Refuses text fault
    × (refusal ≡ InConfig fault))

-- the text of a file that is read as this configuration
pub record IsConfig (files : Option Files) (name : List ℕ) (config : Config) : Type 0 where
  pub text : List ℕ
  pub file : IsTextOf files name text
  pub short : too_long text ≡ None
  pub read : IsReadAs text (Ok config)

-- some text is read as this configuration
abbrev pub IsReadConfig : Config → Type 0
IsReadConfig config = (text : List ℕ) × IsReadAs text (Ok config)

-- a configuration, or why there is none
abbrev pub Configures : Option Files → List ℕ → Configured → Type 0
Configures files name (configured.Config config) = IsConfig files name config
Configures files name (configured.Refused refusal) =
    (text : List ℕ) × IsTextOf files name text × IsRefusedConfig text refusal
Configures files name configured.ReadFault = Unit {0}

-- the filter of what a configuration follows can be asked for
abbrev pub IsAskable : Configured → Type 0
IsAskable (configured.Config config) =
    IfSome config.upstream (λ upstream. depth (tree_of upstream.spec.filter) ≤ 32)
IsAskable (configured.Refused refusal) = Unit {0}
IsAskable configured.ReadFault = Unit {0}

-- the empty directory of a configuration
pub record IsFirst (config : Config) (first : JournalledProvider) : Type 0 where
  pub placed : is_some config.upstream ≡ false → IsSome config.suffix
  pub empty :
      IsEmpty (place_of config.suffix (is_some config.upstream)).0
      (place_of config.suffix (is_some config.upstream)).1 config.sid
      (record { log = config.log_limit; queue = config.queue_limit })
      first

-- the entries of an LDIF file, from its first line on
abbrev pub reader_of : List ℕ → RecordReader
reader_of text = record { lines = text_lines 1 text; line = 1; begun = false }

-- the directory has the entries of the file, if the configuration names one
abbrev pub IsFilledBy : Option Files → Option (List ℕ) → PortState → PortState → Type 0
IsFilledBy files None first new = new ≡ first
IsFilledBy files (Some name) first new =
    (text : List ℕ) × IsTextOf files name text × (too_long text ≡ None)
    × FillsUp (reader_of text) first filling.Filled new

-- the text of the file is too long, or else a record is refused
abbrev pub IsRefusedFile : Option Files → Option (List ℕ) → PortState → SetupRefusal → Type 0
IsRefusedFile files None first refusal = ⊥
IsRefusedFile files (Some name) first refusal =
    (text : List ℕ) × IsTextOf files name text
    × (IsTooLong text refusal
    ⊎ ((too_long text ≡ None) × (line : ℕ) × (why : LineCause) × (new : PortState)
    × FillsUp (reader_of text) first (filling.Refused line why) new
    × (refusal ≡ AtLine line why)))

-- the file is loaded into the directory, or is refused
abbrev pub Loads : Option Files → Option (List ℕ) → PortState → Loading → PortState → Type 0
Loads files name first Loaded new = IsFilledBy files name first new
Loads files name first (RefusedAt line why) new =
    IsRefusedFile files name first (AtLine line why)
Loads files name first NotRead new = Unit {0}

-- what is served: the directory of the configuration with its entries, at its address, for those
-- who may write, with its limits
pub record IsMade (files : Option Files) (config : Config) (ready : ReadyDirectory) : Type 0 where
  pub first : JournalledProvider
  pub begins : IsFirst config first
  pub filled : IsFilledBy files config.ldif (port_state first) (port_state ready.provider)
  pub listen : ready.listen ≡ config.listen
  pub access : ready.access ≡ access_by config.bind_name config.bind_password
  pub seats : ready.seats ≡ config.seats
  pub connections : ready.connections ≡ config.connections
  pub upstream : ready.upstream ≡ config.upstream
  pub rounds : ready.rounds ≡ config.rounds

-- what it leads to that a file was loaded into a directory, or was not
abbrev pub setup_of : Loading → ReadyDirectory → code.Setup
setup_of Loaded ready = Ready ready
setup_of (RefusedAt line why) ready = Refused (AtLine line why)
setup_of NotRead ready = ReadFault

-- what a configuration leads to
abbrev pub Makes : Option Files → Config → code.Setup → Type 0
Makes files config (Ready ready) = IsMade files config ready
Makes files config (Refused refusal) =
    (first : JournalledProvider) × IsFirst config first
    × IsRefusedFile files config.ldif (port_state first) refusal
Makes files config ReadFault = Unit {0}

abbrev pub IsReady : Option Files → List ℕ → ReadyDirectory → Type 0
IsReady files name ready =
    (config : Config) × IsConfig files name config × IsMade files config ready

-- the configuration is refused, or the file that it names
abbrev pub IsRefusedSetup : Option Files → List ℕ → SetupRefusal → Type 0
IsRefusedSetup files name refusal =
    Configures files name (configured.Refused refusal)
    ⊎ ((config : Config) × IsConfig files name config × Makes files config (Refused refusal))

-- what the files of a shelf lead to
abbrev pub SetsUp : Option Files → List ℕ → code.Setup → Type 0
SetsUp files name (Ready ready) = IsReady files name ready
SetsUp files name (Refused refusal) = IsRefusedSetup files name refusal
SetsUp files name ReadFault = Unit {0}

-- the filter of what is followed can be asked for
abbrev pub HasFilter : code.Setup → Type 0
HasFilter (Ready ready) =
    IfSome ready.upstream (λ upstream. depth (tree_of upstream.spec.filter) ≤ 32)
HasFilter (Refused refusal) = Unit {0}
HasFilter ReadFault = Unit {0}

-- what is served has 1 to 64 seats
abbrev pub HasSeats : code.Setup → Type 0
HasSeats (Ready ready) = (1 ≤ ready.seats) × (ready.seats ≤ 64)
HasSeats (Refused refusal) = Unit {0}
HasSeats ReadFault = Unit {0}

-- a read fault comes where a file or the source of random words failed, and else neither did
abbrev pub FailsOn : code.Setup → (shelf shelf' words words' : ℕ) → Type 0
FailsOn (Ready ready) shelf shelf' words words' = (shelf' ≡ shelf) × (words' ≡ words)
FailsOn (Refused refusal) shelf shelf' words words' = (shelf' ≡ shelf) × (words' ≡ words)
FailsOn ReadFault shelf shelf' words words' =
    CountHasRisen shelf shelf' ⊎ CountHasRisen words words'

-- what a directory begins with, as its sources report it: the files of a shelf, and how many calls
-- of the shelf and of the source of random words have failed
pub record SetupSources : Type 0 where
  pub files : Option Files
  pub shelf_faults : ℕ
  pub word_faults : ℕ

abbrev pub sources : Option Files → (shelf_faults word_faults : ℕ) → SetupSources
sources files shelf_faults word_faults = record {
  files = files;
  shelf_faults = shelf_faults;
  word_faults = word_faults;
}

-- what is to be served has seats, and a filter that can be asked for; with it or a refusal no
-- source failed, nor where memory ran out, and a read fault comes only where one did; the files
-- stay, and no count falls
pub record IsServable {E : Type 0}
    (old new : SetupSources) (result : Result code.Setup E) : Type 0 where
  pub seats : IfOk result HasSeats
  pub filter : IfOk result HasFilter
  pub failed : IfOk result (λ setup.
      FailsOn setup old.shelf_faults new.shelf_faults old.word_faults new.word_faults)
  pub sound : OnErr result
      ((new.shelf_faults ≡ old.shelf_faults) × (new.word_faults ≡ old.word_faults))
  pub files : new.files ≡ old.files
  pub shelf_later : old.shelf_faults ≤ new.shelf_faults
  pub words_later : old.word_faults ≤ new.word_faults
