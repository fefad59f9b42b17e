-- What a drill begins with, and what its writers leave.
use Rattle.std.specs.Prelude.{◌≡◌, ◌≤◌, ℕ, zero, suc, List, [], ◌∷◌, length, None}
use Rattle.entry_tree.specs.declared.op.Op.{Op}
use Rattle.directory_writes.specs.Directory.{fresh_directory}
use Rattle.sync_provider.specs.Ports.{Journal, PortState, writes_in}
use Rattle.sync_provider.specs.declared.provider.Kind.TheVariants.{Root}
use Rattle.drill_plan.specs.declared.plan.DrillPlan.{DrillPlan}
use Rattle.drill_plan.specs.Ending.{IsSchedule, history, server}
use Rattle.drill_plan.specs.Names.{suffix}
use Rattle.drill_plan.specs.Operations.{add_suffix, writer_operations}
use Rattle.sync_drill.specs.Journals.{AreWrites, notes_of, operations_in}

-- P holds of each item, by its place
abbrev pub EachAt : {X : Type 0} → (ℕ → X → Type 0) → (place : ℕ) → List X → Type 0
EachAt P place [] = Unit {0}
EachAt P place (x ∷ xs) = P place x × EachAt P (suc place) xs

-- ---- before it

-- a plan within its ranges
pub record IsPlan (plan : DrillPlan) : Type 0 where
  pub writers : (1 ≤ plan.writers) × (plan.writers ≤ 8)
  pub consumers : (1 ≤ plan.consumers) × (plan.consumers ≤ 8)
  pub size : (1 ≤ plan.size) × (plan.size ≤ 2000)

-- the port with this number, of a root that has had no write
pub record IsFreshPort (number ports : ℕ) (port : PortState) : Type 0 where
  pub its_number : port.number ≡ number
  pub its_ports : port.ports ≡ ports
  pub kind : port.kind ≡ Root
  pub directory : port.directory ≡ fresh_directory suffix server history
  pub journal : port.journal ≡ []
  pub followed : (n : ℕ) → port.followed n ≡ None

-- all ports of one directory, in the order of their numbers from 1 on
pub record AreFresh {P H : Type 0} (home : P → H) (state : P → PortState) (ports : List P)
    : Type 0 where
  pub one_home : H
  pub homes : EachAt (λ place port. home port ≡ one_home) 0 ports
  pub states : EachAt (λ number port. IsFreshPort number (length ports) (state port)) 1 ports

-- ---- after it

-- what each writer has done: the first one began with the suffix
abbrev pub done_by : DrillPlan → (writer : ℕ) → List Op
done_by plan zero = add_suffix ∷ writer_operations plan zero
done_by plan (suc writer) = writer_operations plan (suc writer)

-- the writes of the journal with the number of a writer's port are that writer's, in their order
abbrev pub HaveWritten : {P : Type 0} → (P → PortState) → DrillPlan → Journal → List P → Type 0
HaveWritten state plan journal writers =
    EachAt
    (λ writer port. operations_in (notes_of (state port).number journal) ≡ done_by plan writer)
    0 writers

-- By the journal that the first port has seen, and the directory after its writes: the writers
-- wrote their operations and did nothing else, and nothing else was written.
pub record HaveDrilled {P : Type 0} (state : P → PortState) (plan : DrillPlan) (first : P)
    (others : List P) : Type 0 where
  pub count : length (first ∷ others) ≡ plan.writers
  pub written : HaveWritten state plan (state first).journal (first ∷ others)
  pub no_search : EachAt
      (λ writer port. AreWrites (notes_of (state port).number (state first).journal))
      0 (first ∷ others)
  pub schedule : IsSchedule plan (writes_in (state first).journal)
  pub directory : (state first).directory.writes ≡ writes_in (state first).journal
