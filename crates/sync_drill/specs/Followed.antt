-- What a drill leaves of its consumers.
use Rattle.std.specs.Prelude.{◌≡◌, ◌+◌, ℕ, List, [], ◌∷◌, length, map, None}
use Rattle.entry_tree.specs.Selection.{select}
use Rattle.directory_writes.specs.Directory.{DirectoryState}
use Rattle.link_rings.specs.Ends.{offered, taken, AreOneRing}
use Rattle.sync_consumer.specs.Taking.{ConsumerState}
use Rattle.sync_provider.specs.Ports.{Journal, PortState, writes_in}
use Rattle.drill_plan.specs.declared.plan.DrillPlan.{DrillPlan}
use Rattle.drill_plan.specs.Ending.{entries_after, followed_by}
use Rattle.sync_drill.specs.declared.drilled.RingEnds.{RingEnds}
use Rattle.sync_drill.specs.declared.following.Following.{Following}
use Rattle.sync_drill.specs.Delivered.{EndedSearch, notes_in, delivered, encoded, IsMadeOf}
use Rattle.sync_drill.specs.Drilled.{EachAt, HaveDrilled}
use Rattle.sync_drill.specs.Following.{HasWorked}
use Rattle.sync_drill.specs.Handing.{AreEnded}
use Rattle.sync_drill.specs.Journals.{notes_of}
use Rattle.sync_drill.specs.Writers.{HasFinished}

-- A consumer's ring took and gave all that its searches handed out, which are those of the journal,
-- each at its place in its Stream; and its copy is what that makes of nothing: the entries that it
-- follows, after all writes of the journal.
pub record HasFollowed (d : DirectoryState) (journal : Journal) (consumer : ℕ) (port : PortState)
    (copy : ConsumerState) (ends : RingEnds) : Type 0 where
  pub ring : AreOneRing ends.producer ends.consumer
  pub searches : List EndedSearch
  pub own : notes_of port.number journal ≡ notes_in searches
  pub are_ended : AreEnded d searches
  pub offered_is : offered ends.producer ≡ map encoded (delivered d searches)
  pub taken_is : taken ends.consumer ≡ offered ends.producer
  pub made : IsMadeOf (taken ends.consumer) copy.copy
  pub entries : copy.copy.held ≡ select (followed_by consumer) (entries_after (writes_in journal))
  pub no_search : (n : ℕ) → port.followed n ≡ None

-- a consumer in the end
pub record FollowedConsumer (P : Type 0) : Type 0 where
  pub port : P
  pub copy : ConsumerState
  pub ends : RingEnds

-- what is taken out of a consumer in the end: its port, its copy and the ends of its ring
abbrev pub port_of : {P : Type 0} → Following P → P
port_of f = f.handing.port

abbrev pub copy_of : {P : Type 0} → Following P → ConsumerState
copy_of f = f.taking.copy

abbrev pub ends_of : {P : Type 0} → Following P → RingEnds
ends_of f = record { producer = f.handing.producer; consumer = f.taking.end }

-- consumers by these parts, place by place
abbrev pub together : {P : Type 0} → List P → List ConsumerState → List RingEnds
    → List (FollowedConsumer P)
together [] copies rings = []
together (port ∷ ports) [] rings = []
together (port ∷ ports) (copy ∷ copies) [] = []
together (port ∷ ports) (copy ∷ copies) (ends ∷ rings) =
    record { port = port; copy = copy; ends = ends } ∷ together ports copies rings

-- each of as many as the plan says followed what the first writer's port knows in the end
pub record HaveFollowed {P : Type 0} (state : P → PortState) (plan : DrillPlan) (first : PortState)
    (ports : List P) (copies : List ConsumerState) (rings : List RingEnds) : Type 0 where
  pub counts : (length ports ≡ plan.consumers) × (length copies ≡ plan.consumers)
      × (length rings ≡ plan.consumers)
  pub each : EachAt
      (λ place f. HasFollowed first.directory first.journal place (state f.port) f.copy f.ends) 0
      (together ports copies rings)

-- By what the first writer's port knows in the end: what the writers wrote, and what the consumers
-- followed.
pub record IsDrilled {P : Type 0} (state : P → PortState) (plan : DrillPlan)
    (writers consumers : List P) (copies : List ConsumerState) (rings : List RingEnds)
    : Type 0 where
  pub first : P
  pub others : List P
  pub are : writers ≡ first ∷ others
  pub written : HaveDrilled state plan first others
  pub followed : HaveFollowed state plan (state first) consumers copies rings

-- the writers' ports after all their operations, and the consumers after their threads
pub record HaveWorked {P H : Type 0} (home : P → H) (state : P → PortState) (plan : DrillPlan)
    (writers : List P) (followings : List (Following P)) : Type 0 where
  pub one : H
  pub counts : (length writers ≡ plan.writers) × (length followings ≡ plan.consumers)
  pub writing : EachAt (HasFinished home state plan (plan.writers + plan.consumers) one) 0 writers
  pub following : EachAt
      (HasWorked home state plan.writers (plan.writers + plan.consumers) one) 0 followings
