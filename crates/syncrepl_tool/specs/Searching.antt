-- What `search ADDRESS BASE SCOPE FILTER [COUNT]` asks, prints and says.
use Rattle.std.specs.Prelude.{◌≡◌, ◌≢◌, ◌⊎◌, ℕ, Bool, false, nat_eq, List, [], ◌∷◌, ◌++◌, Option, Some, None, Result, Ok, Err, IfOk, OnErr, codes}
use Rattle.std.specs.Io.KnownBytes.{Keeps}
use Rattle.std.specs.List.{starts_with}
use Rattle.std.specs.String.{string_bytes}
use Rattle.std.specs.declared.alloc.Global.{Global}
use Rattle.std.specs.declared.string.String.{String}
use Rattle.dn_names.specs.Names.{TypeAndValue}
use Rattle.dn_names.specs.Reading.{name_of_text}
use Rattle.dn_names.specs.declared.fault.NameFault.{NameFault}
use Rattle.dn_names.specs.declared.fault.NameFault.TheVariants as name
use Rattle.entry_tree.specs.Selection.{Search}
use Rattle.entry_tree.specs.declared.spec.Scope.{Scope}
use Rattle.entry_tree.specs.declared.spec.Scope.TheVariants.{Base, One, Sub}
use Rattle.ldap_client.specs.Links.{LinkState}
use Rattle.ldap_filter.specs.Reading.{read_filter}
use Rattle.ldap_filter.specs.declared.fault.FilterFault.{FilterFault}
use Rattle.ldap_filter.specs.declared.fault.FilterFault.TheVariants as filter
use Rattle.ldap_search.specs.Calls.{Searches, SearchesInPart}
use Rattle.ldap_search.specs.Talks.{OutputState}
use Rattle.ldap_search.specs.declared.end.SearchEnd.{SearchEnd}
use Rattle.ldap_search.specs.declared.end.SearchEnd.TheVariants.{Done, OutputFault, NetFault, PeerFault}
use Rattle.sync_io.specs.Dial.{Dialled}
use Rattle.sync_io.specs.Faults.{CountHasRisen}
use Rattle.sync_io.specs.Net.{Served}
use Rattle.syncrepl_tool.specs.Numbers.{IsNumber}
use Rattle.syncrepl_tool.specs.Serve.{net_fault_text}
use Rattle.syncrepl_tool.specs.Texts.{Says, write_fault_text}
use Rattle.syncrepl_tool.specs.declared.run.Status.{Status}

-- ---- the words

-- what the words ask for: an address, the texts of a base and a filter, a scope, and how many stored
-- cookies, if any number is given
pub record SearchAsked : Type 0 where
  pub address : List ℕ
  pub base : List ℕ
  pub scope : Scope
  pub filter : List ℕ
  pub count : Option ℕ

-- no word of a form begins with `-`
abbrev pub has_dash : List ℕ → Bool
has_dash word = starts_with nat_eq word (codes "-")

abbrev pub scope_text : Scope → List ℕ
scope_text Base = codes "base"
scope_text One = codes "one"
scope_text Sub = codes "sub"

-- a word that begins with no `-`, and is this text
abbrev pub IsWord : (word text : List ℕ) → Type 0
IsWord word text = (word ≡ text) × (has_dash text ≡ false)

-- the number of cookies, 1 to 1,000
abbrev pub IsCount : List (String Global) → Option ℕ → Type 0
IsCount [] None = Unit {0}
IsCount [] (Some count) = ⊥
IsCount (word ∷ []) None = ⊥
IsCount (word ∷ []) (Some count) = IsNumber (string_bytes word) 1 1000 count
IsCount (word ∷ other ∷ words) count = ⊥

-- what the words after the first one ask for
abbrev pub IsAskedBy : (address base scope filter : List ℕ) → List (String Global) → SearchAsked
    → Type 0
IsAskedBy address base scope filter more asked =
    IsWord address asked.address × IsWord base asked.base × (scope ≡ scope_text asked.scope)
    × IsWord filter asked.filter × IsCount more asked.count

abbrev pub IsSearch : List (String Global) → SearchAsked → Type 0
IsSearch (word ∷ address ∷ base ∷ scope ∷ filter ∷ more) asked =
    (string_bytes word ≡ codes "search")
    × IsAskedBy (string_bytes address) (string_bytes base) (string_bytes scope)
    (string_bytes filter) more asked
IsSearch _ asked = ⊥

-- the words are no search
abbrev pub IsNoSearch : List (String Global) → Type 0
IsNoSearch words = (asked : SearchAsked) → IsSearch words asked → ⊥

-- ---- what is said

unfoldable pub peer_fault_text : List ℕ
peer_fault_text = codes "syncrepl: peer fault\n"

abbrev pub name_fault_name : NameFault → List ℕ
name_fault_name (name.BadName place) = codes "BadName"
name_fault_name (name.UnknownType place) = codes "UnknownType"
name_fault_name (name.TooLong place) = codes "TooLong"
name_fault_name name.NoMemory = codes "NoMemory"

unfoldable pub name_fault_text : NameFault → List ℕ
name_fault_text fault = codes "syncrepl: name: " ++ name_fault_name fault ++ codes "\n"

abbrev pub filter_fault_name : FilterFault → List ℕ
filter_fault_name (filter.BadFilter place) = codes "BadFilter"
filter_fault_name filter.TooDeep = codes "TooDeep"
filter_fault_name filter.NoText = codes "NoText"
filter_fault_name filter.NoMemory = codes "NoMemory"

unfoldable pub filter_fault_text : FilterFault → List ℕ
filter_fault_text fault = codes "syncrepl: filter: " ++ filter_fault_name fault ++ codes "\n"

-- ---- how it ends

abbrev pub IsSearchStatus : ℕ → Type 0
IsSearchStatus code = (code ≡ 0) ⊎ (code ≡ 3) ⊎ (code ≡ 5) ⊎ (code ≡ 7) ⊎ (code ≡ 9)

-- what is seen of the objects of a search at one moment: the output, what was said, and the net
pub record SearchSide (L C M : Type 0) : Type 0 where
  pub output : OutputState
  pub said : Option (List ℕ)
  pub said_faults : ℕ
  pub served : Option (Served L C M)
  pub net_faults : ℕ

-- the same by what they report
abbrev pub search_side : {L C M : Type 0} → Option (List ℕ) → ℕ → Option (List ℕ) → ℕ
    → Option (Served L C M) → ℕ → SearchSide L C M
search_side printed printed_faults said said_faults served net_faults = record {
  output = record { held = printed; faults = printed_faults };
  said = said;
  said_faults = said_faults;
  served = served;
  net_faults = net_faults;
}

-- the base and the filter are read as what is wanted
pub record IsReadAs (asked : SearchAsked) (spec : Search) : Type 0 where
  pub base : name_of_text asked.base ≡ Ok spec.base
  pub scope : spec.scope ≡ asked.scope
  pub filter : read_filter asked.filter ≡ Ok spec.filter

-- the search was asked over the net and ended so, which is said with this text
pub record IsAsked {L C M : Type 0}
    (seen : M → LinkState) (dialled : C → Option (Dialled M))
    (asked : SearchAsked) (before after : SearchSide L C M) (end : SearchEnd) : Type 0 where
  pub spec : Search
  pub read : IsReadAs asked spec
  pub searches :
      Searches seen dialled asked.address spec asked.count
      before.served before.output end after.served after.output

-- the base is refused, or else the filter, which is said; nothing was asked and nothing printed
pub record IsRefusedSearch {L C M : Type 0}
    (asked : SearchAsked) (before after : SearchSide L C M) : Type 0 where
  pub why :
      ((fault : NameFault) × (name_of_text asked.base ≡ Err fault)
      × Says (name_fault_text fault) before.said after.said before.said_faults after.said_faults)
      ⊎ ((base : List (List TypeAndValue)) × (fault : FilterFault)
      × (name_of_text asked.base ≡ Ok base) × (read_filter asked.filter ≡ Err fault)
      × Says (filter_fault_text fault)
      before.said after.said before.said_faults after.said_faults)
  pub unasked : after.served ≡ before.served
  pub faultless : after.net_faults ≡ before.net_faults
  pub unprinted : after.output ≡ before.output

-- `search` may end with this status
pub record MaySearch {L C M : Type 0}
    (seen : M → LinkState) (dialled : C → Option (Dialled M))
    (asked : SearchAsked) (before after : SearchSide L C M) (status : Status) : Type 0 where
  pub codes_are : IsSearchStatus status.code
  pub done : status.code ≡ 0 → IsAsked seen dialled asked before after Done
  pub quiet : status.code ≡ 0 → Keeps before.said after.said
  pub refused : status.code ≡ 3 → IsRefusedSearch asked before after
  pub write_fault : status.code ≡ 5
      → CountHasRisen before.output.faults after.output.faults
      × IsAsked seen dialled asked before after OutputFault
  pub output_sound : status.code ≢ 5 → after.output.faults ≡ before.output.faults
  pub write_fault_reported : status.code ≡ 5
      → Says write_fault_text before.said after.said before.said_faults after.said_faults
  pub net_fault : status.code ≡ 7
      → CountHasRisen before.net_faults after.net_faults
      × IsAsked seen dialled asked before after NetFault
  pub net_sound : status.code ≢ 7 → after.net_faults ≡ before.net_faults
  pub net_fault_reported : status.code ≡ 7
      → Says net_fault_text before.said after.said before.said_faults after.said_faults
  pub peer_fault : status.code ≡ 9 → IsAsked seen dialled asked before after PeerFault
  pub peer_fault_reported : status.code ≡ 9
      → Says peer_fault_text before.said after.said before.said_faults after.said_faults

-- neither the output nor the net counted a fault
pub record IsFaultless {L C M : Type 0} (before after : SearchSide L C M) : Type 0 where
  pub output : CountHasRisen before.output.faults after.output.faults → ⊥
  pub net : CountHasRisen before.net_faults after.net_faults → ⊥

-- Where base or filter is refused the status is 3. Where both are read and nothing failed, the
-- search is done, or it ends by what the peer sent.
pub record DecidesSearch {L C M : Type 0}
    (seen : M → LinkState) (dialled : C → Option (Dialled M))
    (asked : SearchAsked) (before after : SearchSide L C M) (status : Status) : Type 0 where
  pub unread : ((spec : Search) → IsReadAs asked spec → ⊥) → status.code ≡ 3
  pub read : (spec : Search) → IsReadAs asked spec → IsFaultless before after
      → (status.code ≡ 0)
      ⊎ ((status.code ≡ 9) × IsAsked seen dialled asked before after PeerFault)

-- memory ran out, and neither the output nor the net counted a fault: before anything was asked or
-- printed; or base and filter were read, and the search was asked and its answer printed in part
pub record RunsOutSearch {L C M : Type 0}
    (seen : M → LinkState) (dialled : C → Option (Dialled M))
    (asked : SearchAsked) (before after : SearchSide L C M) : Type 0 where
  pub output_sound : after.output.faults ≡ before.output.faults
  pub net_sound : after.net_faults ≡ before.net_faults
  pub stops :
      ((after.served ≡ before.served) × (after.output ≡ before.output))
      ⊎ ((spec : Search) × IsReadAs asked spec
      × SearchesInPart seen dialled asked.address spec asked.count
      before.served before.output after.served after.output)

-- how `search` ends
pub record EndsSearch {L C M E : Type 0}
    (seen : M → LinkState) (dialled : C → Option (Dialled M))
    (asked : SearchAsked) (before after : SearchSide L C M) (answer : Result Status E)
    : Type 0 where
  pub with_status : IfOk answer (MaySearch seen dialled asked before after)
  pub complete : IfOk answer (DecidesSearch seen dialled asked before after)
  pub without_memory : OnErr answer (RunsOutSearch seen dialled asked before after)
