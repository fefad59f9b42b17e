-- A directory whose ports take turns: what each of them knows, and what a turn does.
use Rattle.std.specs.Prelude.{◌≡◌, ◌≢◌, ◌≤◌, ℕ, ◌+◌, cond, nat_eq, List, [], ◌∷◌, ◌++◌, take, drop, length, slice_index, slice_get, replicate, Option, Some, None, is_some}
use Rattle.turn_cell.specs.Journals.{Every}
use Rattle.sync_provider.specs.Journal.{JournalledProvider, journal_in, followed_in}
use Rattle.sync_provider.specs.Ports.{Journal, PortState, is_open, noted_all}
use Rattle.sync_provider.specs.declared.provider.Kind.{Kind}
use Rattle.sync_provider.specs.declared.provider.Kind.TheVariants.{Root, Replica}
use Rattle.sync_provider.specs.declared.writing.CommitFault.{CommitFault}
use Rattle.sync_provider.specs.declared.writing.CommitFault.TheVariants.{NotAReplica, NoMemory}
use Rattle.shared_directory.specs.Numbers.{no_openers, numbered_with, openers_of, kept_count}

-- ---- a provider with the numbers of ports

-- a provider; how many entries its journal had when ports were made; for each entry since that is
-- no end of a search, the number of the port whose call added it; and for each number of a search
-- the port that opened the last one
pub record NumberedState : Type 0 where
  pub provider : JournalledProvider
  pub first : ℕ
  pub numbers : List ℕ
  pub openers : List ℕ

-- what came into the journal since
abbrev pub later_in : NumberedState → Journal
later_in d = drop d.first (journal_in d.provider)

-- the journal, each entry with the number of its port
abbrev pub port_journal : NumberedState → Journal
port_journal d =
    take d.first (journal_in d.provider) ++ numbered_with no_openers (later_in d) d.numbers

-- what the port with this number knows of it, one of n ports
abbrev pub port_in : (number ports : ℕ) → NumberedState → PortState
port_in number ports d = record {
  number = number;
  ports = ports;
  kind = d.provider.state.kind;
  directory = d.provider.state.directory;
  queue_limit = d.provider.state.queue_limit;
  journal = port_journal d;
  followed = λ n.
      cond (nat_eq (slice_index d.openers n) number) (followed_in d.provider n) None;
}

-- as it is when the ports are made
abbrev pub first_state : JournalledProvider → NumberedState
first_state v = record {
  provider = v;
  first = length (journal_in v);
  numbers = [];
  openers = replicate 65 0;
}

-- the numbers are those of the journal, and the searches that are followed are those that it has
-- open
pub record IsNumbered (d : NumberedState) : Type 0 where
  pub first : d.first ≤ length (journal_in d.provider)
  pub kept : kept_count (later_in d) ≡ length d.numbers
  pub places : length d.openers ≡ 65
  pub openers : (n : ℕ) → slice_index d.openers n ≡ openers_of no_openers (later_in d) d.numbers n
  pub followed : (n : ℕ)
      → is_some (followed_in d.provider n) ≡ is_open (journal_in d.provider) n

-- a call of the port with this number: it adds entries of this port, and any other port knows these
pub record IsCalled (number : ℕ) (old new : NumberedState) : Type 0 where
  pub added : Journal
  pub own : Every (λ e. e.1 ≡ number) added
  pub journal : port_journal new ≡ port_journal old ++ added
  pub others : (other : ℕ) → other ≢ number → (ports : ℕ)
      → port_in other ports new ≡ noted_all (port_in other ports old) added

-- a call of the port with this number, with its reply there
pub record IsAnswered (number : ℕ) (old new : NumberedState)
    (Replies : PortState → PortState → Type 0) : Type 0 where
  pub called : IsCalled number old new
  pub replies : (ports : ℕ) → Replies (port_in number ports old) (port_in number ports new)

-- what a commit is answered for which memory runs out
abbrev pub unmade_fault : Kind → CommitFault
unmade_fault Root = NotAReplica
unmade_fault Replica = NoMemory

-- ---- what the cell has

-- the provider, and as what each pass left it at the end of its last turn, by their numbers
pub record HeldState : Type 0 where
  pub now : NumberedState
  pub last : List NumberedState

-- as it is when n passes are made
abbrev pub first_held : JournalledProvider → (seats : ℕ) → HeldState
first_held v seats = record { now = first_state v; last = replicate (seats + 1) (first_state v) }

-- the cell's journal
abbrev pub entries_of : HeldState → Journal
entries_of h = port_journal h.now

abbrev pub listed : {X : Type 0} → Option X → List X
listed None = []
listed (Some x) = x ∷ []

-- what belongs to a pass beside its entries: as what it left the provider
abbrev pub left_by : HeldState → ℕ → List NumberedState
left_by h number = listed (slice_get h.last number)

-- Entries came in since, and the port with this number knows them.
pub record HasCome (number : ℕ) (old new : NumberedState) : Type 0 where
  pub entries : Journal
  pub journal : port_journal new ≡ port_journal old ++ entries
  pub port : (ports : ℕ) → port_in number ports new ≡ noted_all (port_in number ports old) entries

-- of each pass, since its last turn
abbrev pub HaveCome : HeldState → Type 0
HaveCome h =
    (number : ℕ) (old : NumberedState) → slice_get h.last number ≡ Some old
    → HasCome number old h.now

-- a turn of the pass with this number, which is replied to at its port
pub record IsTurnOf (number : ℕ) (old new : HeldState) (Replies : PortState → PortState → Type 0)
    : Type 0 where
  pub left : left_by new number ≡ new.now ∷ []
  pub come : (last : NumberedState) → left_by old number ≡ last ∷ [] → HasCome number last old.now
  pub replies : (ports : ℕ) → Replies (port_in number ports old.now) (port_in number ports new.now)
