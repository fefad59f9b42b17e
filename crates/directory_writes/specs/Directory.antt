-- A directory by its accepted writes, and what a write does to it (RFC 4511, sections 4.6 to 4.9).
use Rattle.std.specs.Prelude.{◌≡◌, ⊤, ℕ, ◌+◌, ◌<◌, ◌≤◌, Bool, true, IsTrue, ◌&&◌, nat_lt, nat_le, List, [], ◌∷◌, ◌++◌, length, map, take, Option, Some, None, Result, Ok, Err, if◌then◌else◌}
use Rattle.std.specs.List.Sorted.{IsStrictlySortedBy}
use Rattle.ldap_constants.specs.declared.result_codes.TheConstants.{SUCCESS, ADMIN_LIMIT_EXCEEDED}
use Rattle.csn_cookie.specs.Csn.{CsnValue, start, csn_cmp, is_before}
use Rattle.csn_cookie.specs.CsnMaker.{next_csn}
use Rattle.csn_cookie.specs.Cookie.{cookie_text}
use Rattle.csn_cookie.specs.declared.cookie.Cookie.{Cookie}
use Rattle.dn_names.specs.Names.{TypeAndValue}
use Rattle.entry_tree.specs.Codes.{code_of}
use Rattle.entry_tree.specs.Effects.{effect}
use Rattle.entry_tree.specs.Fitting.{fits}
use Rattle.entry_tree.specs.History.{identity, state_from, state_of}
use Rattle.entry_tree.specs.Sound.{is_commit, is_sound_op}
use Rattle.entry_tree.specs.State.{entry_at, same_named}
use Rattle.entry_tree.specs.declared.entry.Entry.{Entry}
use Rattle.entry_tree.specs.declared.fault.OpFault.{OpFault}
use Rattle.entry_tree.specs.declared.fault.OpFault.TheVariants.{Code, NoMemory}
use Rattle.entry_tree.specs.declared.op.Op.{Op}
use Rattle.entry_tree.specs.declared.op.Write.{Write}
use Rattle.entry_tree.specs.Touched.{with_changes, CanBeMade}
use Rattle.session_log.specs.Log.{Log, fresh, trimmed}
use Rattle.directory_writes.specs.declared.preview.Preview.{Preview}
use Rattle.directory_writes.specs.Formed.{AreFormed}
use Rattle.directory_writes.specs.Standing.{StandingState}
use Rattle.directory_writes.specs.Touches.{Numbers, last_touch, logged, number_at, numbers_after, IsLogged}
use Rattle.directory_writes.specs.Weights.{op_weight, kept_weight}

-- the suffix, the number that its CSNs carry, the number of its history, the accepted writes in
-- order, and the log of what they touched
pub record DirectoryState : Type 0 where
  pub suffix : List (List TypeAndValue)
  pub sid : ℕ
  pub history : ℕ
  pub writes : List Write
  pub log : Log

-- a directory, and for how many more writes and how many notes it has room
pub record DirectoryWithRoom : Type 0 where
  pub state : DirectoryState
  pub room : ℕ
  pub spare : ℕ

-- how many notes the log of a new directory keeps
abbrev pub first_log_limit : ℕ
first_log_limit = 1000

abbrev pub fresh_directory : List (List TypeAndValue) → ℕ → ℕ → DirectoryState
fresh_directory suffix sid history =
    record {
      suffix = suffix;
      sid = sid;
      history = history;
      writes = [];
      log = fresh first_log_limit;
    }

-- the entries after the writes of a list, from no entry
abbrev pub entries_after : ℕ → List Write → List Entry
entries_after history writes = state_from history [] 0 writes

abbrev pub entries_of : DirectoryState → List Entry
entries_of d = entries_after d.history d.writes

-- ---- CSNs

-- the CSN of the last write, or the one before all
abbrev pub last_csn : CsnValue → List Write → CsnValue
last_csn first [] = first
last_csn first (write ∷ writes) = last_csn write.csn writes

abbrev pub last_csn_of : DirectoryState → CsnValue
last_csn_of d = last_csn (start d.sid) d.writes

-- each entry has the number of its last touch: one that is kept, or else that of the write that has
-- the entry's CSN
abbrev pub IsNumbered : CsnValue → List Write → CsnValue → ℕ → Option ℕ → Type 0
IsNumbered first writes csn touch None = csn ≡ last_csn first (take touch writes)
IsNumbered first writes csn touch (Some number) = number ≡ touch

abbrev pub AreNumbered : CsnValue → ℕ → List Write → List Entry → Numbers → Type 0
AreNumbered first history writes entries numbers =
    (uuid : ℕ) (entry : Entry) → entry_at entries uuid ≡ Some entry
    → IsNumbered first writes entry.csn
    (last_touch (state_of history writes) (length writes) uuid) (number_at numbers uuid)

-- the CSN of the next write where the clock shows `now`, if one is left
abbrev pub csn_of_next_write : DirectoryState → ℕ → Option CsnValue
csn_of_next_write d now = next_csn now (last_csn_of d)

abbrev pub csns : List Write → List CsnValue
csns writes = map (λ write. write.csn) writes

-- the cookie of the content after the writes
abbrev pub cookie_at : ℕ → ℕ → CsnValue → Cookie
cookie_at sid history csn = record { rid = 0; sid = sid; csn = csn; history = history }

abbrev pub cookie_of : DirectoryState → List ℕ
cookie_of d = cookie_text (cookie_at d.sid d.history (last_csn_of d))

-- ---- the limits of what is kept

abbrev pub most_writes : ℕ
most_writes = 1000000

abbrev pub most_writes_weight : ℕ
most_writes_weight = 536870912

abbrev pub has_room : List Write → Op → Bool
has_room writes op =
    nat_lt (length writes) most_writes
    && nat_le (kept_weight writes + op_weight op) most_writes_weight

-- ---- writes, judged on the state before them

abbrev pub judged_code : Op → CsnValue → Option ℕ → Result Write ℕ
judged_code op csn None = Ok (record { csn = csn; op = op })
judged_code op csn (Some code) = Err code

-- adminLimitExceeded where no CSN is left, then what rejects the write
abbrev pub judged_at : DirectoryState → Op → Option CsnValue → Result Write ℕ
judged_at d op None = Err ADMIN_LIMIT_EXCEEDED
judged_at d op (Some csn) = judged_code op csn (code_of d.suffix (entries_of d) op)

-- the write that an operation becomes, with its CSN, or the first code against it:
-- adminLimitExceeded before all where it cannot be kept
abbrev pub judged : DirectoryState → Op → ℕ → Result Write ℕ
judged d op now =
    if has_room d.writes op then judged_at d op (csn_of_next_write d now)
    else Err ADMIN_LIMIT_EXCEEDED

-- an accepted write, with a note for each identity whose entry it changes
abbrev pub with_write : DirectoryState → Write → DirectoryState
with_write d write = record d {
  writes = d.writes ++ write ∷ [];
  log =
      logged (length d.writes + 1) (entries_of d)
      (entries_after d.history (d.writes ++ write ∷ [])) d.log;
}

abbrev pub with_judged : DirectoryState → Result Write ℕ → DirectoryState
with_judged d (Ok write) = with_write d write
with_judged d (Err code) = d

-- from now on the log keeps n notes
abbrev pub with_log_limit : DirectoryState → ℕ → DirectoryState
with_log_limit d limit = record d { log = trimmed limit d.log }

-- the directory after an operation
abbrev pub written : DirectoryState → Op → ℕ → DirectoryState
written d op now = with_judged d (judged d op now)

abbrev pub code_of_judged : Result Write ℕ → ℕ
code_of_judged (Ok write) = SUCCESS
code_of_judged (Err code) = code

-- the code of an operation, which is success where it is accepted
abbrev pub write_code : DirectoryState → Op → ℕ → ℕ
write_code d op now = code_of_judged (judged d op now)

-- a fault reports the code that rejects the operation; out of memory reports nothing
abbrev pub Refuses : Result Write ℕ → OpFault → Type 0
Refuses outcome (Code code) = outcome ≡ Err code
Refuses outcome NoMemory = Unit {0}

-- ---- what holds of the accepted writes

-- an operation is sound, nothing rejects it on these entries, and they have room for it
pub record IsAccepted
    (suffix : List (List TypeAndValue)) (entries : List Entry) (op : Op) : Type 0 where
  pub sound : is_sound_op op ≡ true
  pub unopposed : code_of suffix entries op ≡ None
  pub fitting : fits entries op ≡ true

-- an operation was previewed so: it is accepted and there is room for it, its CSN, which its maker
-- drew last, is after the last one, so much the kept writes weigh with it, and its changes can be
-- made and lead to the entries after it
pub record IsPreview (d : DirectoryState) (op : Op) (preview : Preview) : Type 0 where
  pub accepted : IsAccepted d.suffix (entries_of d) op
  pub room : has_room d.writes op ≡ true
  pub later : is_before (last_csn_of d) preview.csn ≡ true
  pub drawn : preview.csn_maker ≡ preview.csn
  pub weighed : preview.weight ≡ kept_weight d.writes + op_weight op
  pub leads :
      with_changes (entries_of d) preview.touched
      ≡ entries_after d.history (d.writes ++ record { csn = preview.csn; op = op } ∷ [])
  pub fit : CanBeMade (entries_of d) preview.touched

-- each write is accepted on the entries before it, from these entries and n writes on
abbrev pub AreAcceptedFrom : List (List TypeAndValue) → ℕ → List Entry → ℕ → List Write → Type 0
AreAcceptedFrom suffix history entries before [] = ⊤
AreAcceptedFrom suffix history entries before (write ∷ writes) =
    IsAccepted suffix entries write.op
    × AreAcceptedFrom suffix history
    (effect entries write.op (identity history (before + 1)) write.csn) (before + 1) writes

-- the same from no entry on
abbrev pub AreAccepted : List (List TypeAndValue) → ℕ → List Write → Type 0
AreAccepted suffix history writes = AreAcceptedFrom suffix history [] 0 writes

-- each CSN is above those before it, and above the one before all
abbrev pub CsnsRise : ℕ → List Write → Type 0
CsnsRise sid writes = IsStrictlySortedBy csn_cmp (start sid ∷ csns writes)

-- ---- what is kept beside the writes

-- within the limits of what is kept, and where no two entries are known to have one name, none have
pub record StandsWithinLimits
    (count weight : ℕ) (entries : List Entry) (has_unique_names : Bool) : Type 0 where
  pub few : count ≤ most_writes
  pub light : weight ≤ most_writes_weight
  pub unique_names : IsTrue has_unique_names → same_named entries ≡ None

-- an operation that was previewed so can become the next write after these: the limits have room
-- for it, its changes can be made, and where it is a commit they leave no two entries of one name
pub record IsNext (s : StandingState) (op : Op) (preview : Preview) : Type 0 where
  pub few : s.count < most_writes
  pub light : preview.weight ≤ most_writes_weight
  pub fit : CanBeMade s.entries preview.touched
  pub unique_names :
      is_commit op ≡ true → same_named (with_changes s.entries preview.touched) ≡ None

-- this is kept beside the writes of the directory: their number and weight, the last CSN, the
-- entries, and the number of each entry's last touch
pub record IsStanding (d : DirectoryState) (s : StandingState) : Type 0 where
  pub counted : s.count ≡ length d.writes
  pub weighed : s.weight ≡ kept_weight d.writes
  pub stamped : s.last ≡ last_csn_of d
  pub made : s.entries ≡ entries_of d
  pub touched : AreNumbered (start d.sid) d.history d.writes s.entries s.numbers
  pub numbers : s.numbers ≡ numbers_after d.history d.writes

-- what holds of a directory's writes and its log, and of what is kept beside them
pub record IsKeptBeside (d : DirectoryState) (s : StandingState) : Type 0 where
  pub standing : IsStanding d s
  pub numbered : d.sid < 4096
  pub accepted : AreAccepted d.suffix d.history d.writes
  pub rises : CsnsRise d.sid d.writes
  pub formed : AreFormed d.writes
  pub logged : IsLogged d.history d.writes d.log
