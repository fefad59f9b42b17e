-- What `serve FILE` reads, serves and says.
use Rattle.std.specs.Prelude.{◌≡◌, ◌≢◌, ◌⊎◌, ◌<◌, ℕ, Bool, nat_eq, false, List, [], ◌∷◌, ◌++◌, Option, IsSome, Result, IfOk, OnErr, codes}
use Rattle.std.specs.Fmt.{decimal}
use Rattle.std.specs.List.{starts_with}
use Rattle.std.specs.Io.KnownBytes.{Keeps}
use Rattle.std.specs.String.{string_bytes}
use Rattle.std.specs.declared.alloc.Global.{Global}
use Rattle.std.specs.declared.string.String.{String}
use Rattle.sync_config.specs.declared.fault.ConfigFault.{ConfigFault}
use Rattle.sync_config.specs.declared.fault.ConfigFault.TheVariants as config
use Rattle.sync_io.specs.Faults.{CountHasRisen}
use Rattle.sync_io.specs.Net.{Served}
use Rattle.directory_setup.specs.Setup.{Files, IsReady, IsRefusedSetup}
use Rattle.directory_setup.specs.declared.refusal.LineCause.{LineCause}
use Rattle.directory_setup.specs.declared.refusal.LineCause.TheVariants as line
use Rattle.directory_setup.specs.declared.refusal.SetupRefusal.{SetupRefusal}
use Rattle.directory_setup.specs.declared.refusal.SetupRefusal.TheVariants.{AtLine, InConfig}
use Rattle.directory_setup.specs.declared.setup.ReadyDirectory.{ReadyDirectory}
use Rattle.syncrepl_tool.specs.Serving.{AnyEnd, HasListened, HasMemory, IsServedAt, NetView}
use Rattle.syncrepl_tool.specs.Texts.{Says, read_fault_text}
use Rattle.syncrepl_tool.specs.declared.run.Status.{Status}

-- the word `serve` and a name, which begins with no `-`
abbrev pub begins_with_dash : List ℕ → Bool
begins_with_dash name = starts_with nat_eq name (codes "-")

abbrev pub IsServe : List (String Global) → (name : List ℕ) → Type 0
IsServe [] name = ⊥
IsServe (word ∷ []) name = ⊥
IsServe (word ∷ file ∷ []) name =
    (string_bytes word ≡ codes "serve") × (string_bytes file ≡ name)
    × (begins_with_dash name ≡ false)
IsServe (word ∷ file ∷ other ∷ words) name = ⊥

-- ---- what is said

unfoldable pub net_fault_text : List ℕ
net_fault_text = codes "syncrepl: net fault\n"

-- the name of a cause, with its code or limit
unfoldable pub line_cause_text : LineCause → List ℕ
line_cause_text line.BadLine = codes "BadLine"
line_cause_text line.BadBase64 = codes "BadBase64"
line_cause_text line.BadChange = codes "BadChange"
line_cause_text (line.Refused code) = codes "Refused " ++ decimal code
line_cause_text (line.LimitReached limit) = codes "LimitReached " ++ decimal limit

-- the name of a fault, with its key
unfoldable pub config_fault_text : ConfigFault → List ℕ
config_fault_text config.NotToml = codes "NotToml"
config_fault_text (config.MissingKey key) = codes "MissingKey " ++ key
config_fault_text (config.BadValue key) = codes "BadValue " ++ key
config_fault_text config.NoMemory = codes "NoMemory"

unfoldable pub setup_refusal_text : SetupRefusal → List ℕ
setup_refusal_text (InConfig fault) =
    codes "syncrepl: config: " ++ config_fault_text fault ++ codes "\n"
setup_refusal_text (AtLine number cause) =
    codes "syncrepl: line " ++ decimal number ++ codes ": " ++ line_cause_text cause ++ codes "\n"

-- ---- how it ends

-- 8 where a limit is passed, else 3
abbrev pub line_status : LineCause → ℕ
line_status (line.LimitReached limit) = 8
line_status _ = 3

abbrev pub refusal_status : SetupRefusal → ℕ
refusal_status (InConfig fault) = 3
refusal_status (AtLine number cause) = line_status cause

abbrev pub IsServeStatus : ℕ → Type 0
IsServeStatus code = (code ≡ 0) ⊎ (code ≡ 3) ⊎ (code ≡ 4) ⊎ (code ≡ 7) ⊎ (code ≡ 8)

-- what is seen of the objects of a run at one moment: what was said, the files of the shelf, what
-- the net reports, and the faults of each
pub record Outside (L C M : Type 0) : Type 0 where
  pub said : Option (List ℕ)
  pub said_faults : ℕ
  pub files : Option Files
  pub shelf_faults : ℕ
  pub served : Option (Served L C M)
  pub net_faults : ℕ
  pub word_faults : ℕ

-- the same by what standard error, the shelf, the net and the source of random words report
abbrev pub outside : {L C M : Type 0} → Option (List ℕ) → ℕ → Option Files → ℕ
    → Option (Served L C M) → ℕ → ℕ → Outside L C M
outside said said_faults files shelf_faults served net_faults word_faults = record {
  said = said;
  said_faults = said_faults;
  files = files;
  shelf_faults = shelf_faults;
  served = served;
  net_faults = net_faults;
  word_faults = word_faults;
}

-- the text was said
abbrev pub SaysText : {L C M : Type 0} → List ℕ → Outside L C M → Outside L C M → Type 0
SaysText text before after =
    Says text before.said after.said before.said_faults after.said_faults

-- no file failed to be read, and no random word to come
abbrev pub AllCame : {L C M : Type 0} → Outside L C M → Outside L C M → Type 0
AllCame before after =
    (after.shelf_faults ≡ before.shelf_faults) × (after.word_faults ≡ before.word_faults)

-- a refusal, whose status this is, was said, and nobody was listened to
pub record IsRefusedWith {L C M : Type 0}
    (name : List ℕ) (before after : Outside L C M) (code : ℕ) : Type 0 where
  pub refusal : SetupRefusal
  pub status : refusal_status refusal ≡ code
  pub says : SaysText (setup_refusal_text refusal) before after
  pub refused : IsRefusedSetup before.files name refusal
  pub unheard : after.served ≡ before.served

-- the directory of the configuration was served at its address, to as many connections as it says
pub record IsServedBy {L C M : Type 0}
    (v : NetView L C M) (name : List ℕ) (before after : Outside L C M) : Type 0 where
  pub ready : ReadyDirectory
  pub is_ready : IsReady before.files name ready
  pub serves : IsServedAt v HasMemory ready ready.connections before.served after.served
  pub some : 0 < ready.connections

-- the same up to some connection, after which none was accepted
pub record IsCutShort {L C M : Type 0}
    (v : NetView L C M) (name : List ℕ) (before after : Outside L C M) : Type 0 where
  pub ready : ReadyDirectory
  pub is_ready : IsReady before.files name ready
  pub connections : ℕ
  pub serves : IsServedAt v AnyEnd ready connections before.served after.served

-- the net was asked to listen at its address, and no connection was accepted
pub record IsUnheard {L C M : Type 0}
    (name : List ℕ) (before after : Outside L C M) : Type 0 where
  pub ready : ReadyDirectory
  pub is_ready : IsReady before.files name ready
  pub listened : HasListened ready before.served after.served

-- the net failed: as it listened, or after some connections were served
abbrev pub FailsAtNet : {L C M : Type 0} → NetView L C M → List ℕ → Outside L C M → Outside L C M
    → Type 0
FailsAtNet v name before after = IsUnheard name before after ⊎ IsCutShort v name before after

-- Memory ran out, and neither the net nor what was read counted a fault: the net was not asked to
-- listen; or no connection was accepted; or those that were accepted were served, and no other was.
pub record RunsOut {L C M : Type 0}
    (v : NetView L C M) (name : List ℕ) (before after : Outside L C M) : Type 0 where
  pub all_came : AllCame before after
  pub faultless : after.net_faults ≡ before.net_faults
  pub stops :
      (after.served ≡ before.served) ⊎ IsUnheard name before after ⊎ IsCutShort v name before after

-- ---- a directory that is ready

-- what is seen of standard error and of the net at one moment
pub record NetSide (L C M : Type 0) : Type 0 where
  pub said : Option (List ℕ)
  pub said_faults : ℕ
  pub served : Option (Served L C M)
  pub net_faults : ℕ

-- the same by what both report
abbrev pub net_side : {L C M : Type 0} → Option (List ℕ) → ℕ → Option (Served L C M) → ℕ
    → NetSide L C M
net_side said said_faults served net_faults = record {
  said = said;
  said_faults = said_faults;
  served = served;
  net_faults = net_faults;
}

-- serving it may end with this status
pub record MayServe {L C M : Type 0}
    (v : NetView L C M) (ready : ReadyDirectory) (before after : NetSide L C M) (status : Status)
    : Type 0 where
  pub codes_are : (status.code ≡ 0) ⊎ (status.code ≡ 7)
  pub done : status.code ≡ 0
      → (0 < ready.connections)
      × IsServedAt v HasMemory ready ready.connections before.served after.served
  pub quiet : status.code ≡ 0 → Keeps before.said after.said
  pub faultless : status.code ≡ 0 → after.net_faults ≡ before.net_faults
  pub net_fault : status.code ≡ 7 → CountHasRisen before.net_faults after.net_faults
  pub net_fault_reported : status.code ≡ 7
      → Says net_fault_text before.said after.said before.said_faults after.said_faults
  pub cut_short : status.code ≡ 7
      → HasListened ready before.served after.served
      ⊎ ((n : ℕ) × IsServedAt v AnyEnd ready n before.served after.served)

-- memory ran out while it was to be served, or was served
pub record RunsOutReady {L C M : Type 0}
    (v : NetView L C M) (ready : ReadyDirectory) (before after : NetSide L C M) : Type 0 where
  pub faultless : after.net_faults ≡ before.net_faults
  pub stops :
      (after.served ≡ before.served) ⊎ HasListened ready before.served after.served
      ⊎ ((n : ℕ) × IsServedAt v AnyEnd ready n before.served after.served)

-- how serving it ends
pub record EndsReady {L C M E : Type 0}
    (v : NetView L C M) (ready : ReadyDirectory) (before after : NetSide L C M)
    (answer : Result Status E) : Type 0 where
  pub with_status : IfOk answer (MayServe v ready before after)
  pub without_memory : OnErr answer (RunsOutReady v ready before after)

-- ---- the whole

-- `serve FILE` may end with this status
pub record MayServeWith {L C M : Type 0}
    (v : NetView L C M) (name : List ℕ) (before after : Outside L C M) (status : Status)
    : Type 0 where
  pub codes_are : IsServeStatus status.code
  pub done : status.code ≡ 0 → IsServedBy v name before after
  pub quiet : status.code ≡ 0 → Keeps before.said after.said
  pub refused : status.code ≡ 3 → IsRefusedWith name before after 3
  pub limited : status.code ≡ 8 → IsRefusedWith name before after 8
  pub read_fault : status.code ≡ 4
      → CountHasRisen before.shelf_faults after.shelf_faults
      ⊎ CountHasRisen before.word_faults after.word_faults
  pub read_fault_reported : status.code ≡ 4 → SaysText read_fault_text before after
  pub all_came : status.code ≢ 4 → AllCame before after
  pub unheard : status.code ≡ 4 → after.served ≡ before.served
  pub net_fault : status.code ≡ 7 → CountHasRisen before.net_faults after.net_faults
  pub faultless : status.code ≢ 7 → after.net_faults ≡ before.net_faults
  pub net_fault_reported : status.code ≡ 7 → SaysText net_fault_text before after
  pub cut_short : status.code ≡ 7 → FailsAtNet v name before after

-- neither the configuration nor its file is refused, and nothing failed
pub record HasNoCause {L C M : Type 0}
    (name : List ℕ) (before after : Outside L C M) : Type 0 where
  pub unrefused : (refusal : SetupRefusal) → IsRefusedSetup before.files name refusal → ⊥
  pub shelf : CountHasRisen before.shelf_faults after.shelf_faults → ⊥
  pub words : CountHasRisen before.word_faults after.word_faults → ⊥
  pub net : CountHasRisen before.net_faults after.net_faults → ⊥

-- the shelf reports its files, and neither a file nor a random word failed to come
pub record HasFiles {L C M : Type 0} (before after : Outside L C M) : Type 0 where
  pub reported : IsSome before.files
  pub shelf : CountHasRisen before.shelf_faults after.shelf_faults → ⊥
  pub words : CountHasRisen before.word_faults after.word_faults → ⊥

-- a refusal of the configuration or of its file is said, with its status
pub record IsSaid {L C M : Type 0}
    (refusal : SetupRefusal) (before after : Outside L C M) (status : Status) : Type 0 where
  pub code : status.code ≡ refusal_status refusal
  pub says : SaysText (setup_refusal_text refusal) before after

-- how `serve FILE` ends: without a cause for another end all connections were served, and what is
-- refused of the files that came is said
pub record EndsServing {L C M E : Type 0}
    (v : NetView L C M) (name : List ℕ) (before after : Outside L C M) (answer : Result Status E)
    : Type 0 where
  pub with_status : IfOk answer (MayServeWith v name before after)
  pub complete : IfOk answer (λ status. HasNoCause name before after → status.code ≡ 0)
  pub refuses :
      IfOk answer
      (λ status. HasFiles before after
      → (refusal : SetupRefusal) → IsRefusedSetup before.files name refusal
      → IsSaid refusal before after status)
  pub without_memory : OnErr answer (RunsOut v name before after)
