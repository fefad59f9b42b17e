-- Ports as their journals go on.
use Rattle.std.specs.Prelude.{◌≡◌, ◌≤◌, ◌⊎◌, ℕ, ◌++◌, fold, All}
use Rattle.directory_writes.specs.Directory.{fresh_directory, with_write}
use Rattle.sync_provider.specs.Ports.{Journal, PortState, HasMet, HasSeenAllOf, writes_in}
use Rattle.sync_provider.specs.declared.provider.Kind.TheVariants.{Root}
use Rattle.drill_plan.specs.Ending.{history, server}
use Rattle.drill_plan.specs.Names.{suffix}
use Rattle.sync_drill.specs.Journals.{notes_of}

-- a port after more entries, of its own and of others
pub record HasGoneOn (old new : PortState) : Type 0 where
  pub number : new.number ≡ old.number
  pub ports : new.ports ≡ old.ports
  pub kind : new.kind ≡ old.kind
  pub entries : Journal
  pub journal : new.journal ≡ old.journal ++ entries
  pub directory : new.directory ≡ fold with_write old.directory (writes_in entries)
  pub by : All (λ e. (e.1 ≡ old.number) ⊎ ((1 ≤ e.1) × (e.1 ≤ old.ports))) entries

-- the port with this number, of this many ports of a directory: the directory has the writes of the
-- journal that it has seen, whose entries are of these ports
pub record IsDrillPort (number ports : ℕ) (port : PortState) : Type 0 where
  pub its_number : port.number ≡ number
  pub its_ports : port.ports ≡ ports
  pub within : (1 ≤ number) × (number ≤ ports)
  pub kind : port.kind ≡ Root
  pub directory : port.directory
      ≡ fold with_write (fresh_directory suffix server history) (writes_in port.journal)
  pub by : All (λ e. (1 ≤ e.1) × (e.1 ≤ ports)) port.journal

-- entries of other ports came in, and none of its own
pub record OthersCameIn (old new : PortState) : Type 0 where
  pub goes_on : HasGoneOn old new
  pub own : notes_of new.number new.journal ≡ notes_of old.number old.journal

-- ---- ports as they meet

-- of two values of a port: nothing became of it
pub record IsAsBefore {P H : Type 0} (home : P → H) (state : P → PortState) (old new : P)
    : Type 0 where
  pub its_home : home new ≡ home old
  pub its_state : state new ≡ state old

-- of two values of a port: nothing became of it, and this port has seen what it has
pub record WasSeen {P H : Type 0} (home : P → H) (state : P → PortState) (seen : PortState)
    (old new : P) : Type 0 where
  pub same : IsAsBefore home state old new
  pub begins : HasSeenAllOf seen (state old)

-- of two values of a port: it met one that had seen this
pub record HasMetThis {P H : Type 0} (home : P → H) (state : P → PortState) (this : PortState)
    (old new : P) : Type 0 where
  pub its_home : home new ≡ home old
  pub met : HasMet (state old) this (state new)
