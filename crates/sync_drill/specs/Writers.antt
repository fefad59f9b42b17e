-- What the threads of writers are given, and what they give back.
use Rattle.std.specs.Prelude.{◌≡◌, ◌<◌, ◌+◌, ◌^◌, ℕ, zero, suc, Bool, true, false, List, [], ◌∷◌, ◌++◌}
use Rattle.entry_tree.specs.declared.op.Op.{Op}
use Rattle.sync_provider.specs.Ports.{PortState}
use Rattle.drill_plan.specs.declared.plan.DrillPlan.{DrillPlan}
use Rattle.drill_plan.specs.Operations.{WriterState, add_suffix, add_unit, first_state, operations}
use Rattle.sync_drill.specs.declared.writing.Writing.{Writing}
use Rattle.sync_drill.specs.Drilled.{done_by}
use Rattle.sync_drill.specs.Going.{HasGoneOn, IsDrillPort}
use Rattle.sync_drill.specs.Journals.{OpenedNone, own_operations}

-- what each writer's port wrote before its thread
abbrev pub begun : (writer : ℕ) → List Op
begun zero = add_suffix ∷ []
begun (suc writer) = []

-- what a writer still has to do
abbrev pub planned : (needs_unit : Bool) → (left : ℕ) → WriterState → List Op
planned true left w = add_unit w.writer ∷ operations left w
planned false left w = operations left w

-- a writer that has done nothing
abbrev pub first_writing : {P : Type 0} → DrillPlan → (place : ℕ) → P → Writing P
first_writing plan place port = record {
  port = port;
  writer = first_state plan.seed place;
  needs_unit = true;
  left = plan.size;
}

-- those of these ports, the first of which is at this place
abbrev pub writings_from : {P : Type 0} → DrillPlan → (place : ℕ) → List P → List (Writing P)
writings_from plan place [] = []
writings_from plan place (port ∷ ports) =
    first_writing plan place port ∷ writings_from plan (suc place) ports

-- a writer whose operations can be made
abbrev pub MayWrite : {P : Type 0} → Writing P → Type 0
MayWrite w = (w.writer.writer < 8) × (w.writer.step + w.left < 2 ^ 16)

-- a writer before its thread and after it: what it wrote and what is left are the same together
pub record WriterGoes {P H : Type 0} (home : P → H) (state : P → PortState) (old new : Writing P)
    : Type 0 where
  pub its_home : home new.port ≡ home old.port
  pub goes_on : HasGoneOn (state old.port) (state new.port)
  pub no_search : OpenedNone (state old.port) → OpenedNone (state new.port)
  pub written : own_operations (state new.port) ++ planned new.needs_unit new.left new.writer
      ≡ own_operations (state old.port) ++ planned old.needs_unit old.left old.writer

-- a writer that has nothing left, and its port
pub record HasEnded {P : Type 0} (w : Writing P) (port : P) : Type 0 where
  pub its_port : port ≡ w.port
  pub none_left : w.left ≡ 0
  pub unit : w.needs_unit ≡ false

-- ---- the ports, of one directory that has this many

module _ {P H : Type 0} (home : P → H) (state : P → PortState) (plan : DrillPlan) (many : ℕ)
    (one : H) where
  -- before the threads
  pub record HasBegun (writer : ℕ) (port : P) : Type 0 where
    pub its_home : home port ≡ one
    pub port_is : IsDrillPort (suc writer) many (state port)
    pub no_search : OpenedNone (state port)
    pub written : own_operations (state port) ≡ begun writer

  -- after them
  pub record HasFinished (writer : ℕ) (port : P) : Type 0 where
    pub its_home : home port ≡ one
    pub port_is : IsDrillPort (suc writer) many (state port)
    pub no_search : OpenedNone (state port)
    pub written : own_operations (state port) ≡ done_by plan writer

-- these ports are the first one, at which the first operation was done, and the others as before
pub record AreBegunFrom {P H : Type 0} (home : P → H) (state : P → PortState) (first : P)
    (others ports : List P) : Type 0 where
  pub writing : P
  pub are : ports ≡ writing ∷ others
  pub its_home : home writing ≡ home first
  pub goes_on : HasGoneOn (state first) (state writing)
  pub no_search : OpenedNone (state first) → OpenedNone (state writing)
  pub written : own_operations (state writing) ≡ own_operations (state first) ++ add_suffix ∷ []
