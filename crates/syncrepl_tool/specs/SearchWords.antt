-- The words of a search as the code has them, and what they are read as.
use Rattle.std.specs.Prelude.{◌≡◌, ◌≤◌, ℕ, List, Option, Ok, Err}
use Rattle.std.specs.Io.KnownBytes.{Keeps}
use Rattle.dn_names.specs.Names.{TypeAndValue}
use Rattle.dn_names.specs.Reading.{name_of_text}
use Rattle.entry_tree.specs.Selection.{search_of}
use Rattle.ldap_filter.specs.FilterTree.{depth, tree_of}
use Rattle.ldap_filter.specs.Reading.{read_filter}
use Rattle.ldap_search.specs.declared.end.SearchEnd.{SearchEnd}
use Rattle.ldap_search.specs.declared.end.SearchEnd.TheVariants.{Done, OutputFault, NetFault, PeerFault}
use Rattle.syncrepl_tool.specs.Searching.{IsReadAs, SearchAsked, peer_fault_text}
use Rattle.syncrepl_tool.specs.Serve.{net_fault_text}
use Rattle.syncrepl_tool.specs.Texts.{Says, write_fault_text}
use Rattle.syncrepl_tool.specs.declared.search_words.SearchWords.{SearchWords}
use Rattle.syncrepl_tool.specs.declared.searching.Reading.{Reading}
use Rattle.syncrepl_tool.specs.declared.searching.Reading.TheVariants.{Wanted, NoName, NoFilter}

abbrev pub asked_by : SearchWords → SearchAsked
asked_by words = record {
  address = words.address.now;
  base = words.base.now;
  scope = words.scope;
  filter = words.filter.now;
  count = words.count;
}

-- what the base and the filter are read as
abbrev pub ReadsAs : SearchAsked → Reading → Type 0
ReadsAs asked (Wanted spec) = IsReadAs asked (search_of spec)
ReadsAs asked (NoName fault) = name_of_text asked.base ≡ Err fault
ReadsAs asked (NoFilter fault) =
    (base : List (List TypeAndValue)) × (name_of_text asked.base ≡ Ok base)
    × (read_filter asked.filter ≡ Err fault)

-- a search that is wanted can be asked for
abbrev pub CanBeAsked : Reading → Type 0
CanBeAsked (Wanted spec) = depth (tree_of spec.filter) ≤ 32
CanBeAsked (NoName fault) = Unit {0}
CanBeAsked (NoFilter fault) = Unit {0}

-- the status of a search that ended so, and what is said of it
abbrev pub SaysEnd : SearchEnd → (code : ℕ) → (old new : Option (List ℕ)) → (before now : ℕ)
    → Type 0
SaysEnd Done code old new before now = (code ≡ 0) × Keeps old new
SaysEnd OutputFault code old new before now =
    (code ≡ 5) × Says write_fault_text old new before now
SaysEnd NetFault code old new before now = (code ≡ 7) × Says net_fault_text old new before now
SaysEnd PeerFault code old new before now = (code ≡ 9) × Says peer_fault_text old new before now
