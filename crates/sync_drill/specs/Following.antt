-- A consumer at its port: its two halves together, before their threads, after them and in the end.
use Rattle.std.specs.Prelude.{◌≡◌, ◌<◌, ◌+◌, ℕ, suc, false, [], None}
use Rattle.link_rings.specs.Ends.{offered, taken, AreOneRing}
use Rattle.link_rings.specs.declared.ends.RingConsumer.{RingConsumer}
use Rattle.link_rings.specs.declared.ends.RingProducer.{RingProducer}
use Rattle.sync_consumer.specs.Taking.{ConsumerState}
use Rattle.sync_provider.specs.Ports.{HasSeenAllOf, PortState}
use Rattle.sync_drill.specs.declared.following.Following.{Following}
use Rattle.sync_drill.specs.Going.{HasGoneOn, IsDrillPort}
use Rattle.sync_drill.specs.Halves.{HandingGoes, HandsOut, HasCopied, TakingGoes}
use Rattle.sync_drill.specs.Handing.{HasTaken, IsDone, IsResting}
use Rattle.sync_drill.specs.Journals.{notes_of}

-- the port follows no search, and added nothing to the journal
pub record IsUnused (port : PortState) : Type 0 where
  pub alone : (n : ℕ) → port.followed n ≡ None
  pub none : notes_of port.number port.journal ≡ []

-- what was done at the port until the consumer began there
pub record BeginsAt {P H : Type 0} (home : P → H) (state : P → PortState) (port : P)
    (f : Following P) : Type 0 where
  pub its_home : home f.handing.port ≡ home port
  pub goes_on : HasGoneOn (state port) (state f.handing.port)

-- a consumer that hands out and takes
abbrev pub MayFollow : {P : Type 0} → (P → PortState) → Following P → Type 0
MayFollow state f = HandsOut state f.handing × HasCopied f.taking

-- the one at this place, of which no half has failed
pub record IsFollowing {P : Type 0} (state : P → PortState) (place : ℕ) (f : Following P)
    : Type 0 where
  pub places : (f.handing.consumer ≡ place) × (f.taking.consumer ≡ place)
  pub ring : AreOneRing f.handing.producer f.taking.end
  pub fine : (f.handing.failed ≡ false) × (f.taking.failed ≡ false)
  pub halves : MayFollow state f

-- a consumer before its halves worked and after it
pub record FollowingGoes {P H : Type 0} (home : P → H) (state : P → PortState)
    (old new : Following P) : Type 0 where
  pub handing : HandingGoes home state old.handing new.handing
  pub taking : TakingGoes old.taking new.taking

-- a consumer that has taken all that was offered
pub record IsEven {P : Type 0} (state : P → PortState) (f : Following P) : Type 0 where
  pub ring : AreOneRing f.handing.producer f.taking.end
  pub halves : MayFollow state f
  pub taken_is : taken f.taking.end ≡ offered f.handing.producer

-- a consumer after its threads, at the port with the number that comes after the writers' numbers
-- and those of the consumers before it
pub record HasWorked {P H : Type 0} (home : P → H) (state : P → PortState) (writers many : ℕ)
    (one : H) (place : ℕ) (f : Following P) : Type 0 where
  pub places : (f.handing.consumer ≡ place) × (f.taking.consumer ≡ place)
  pub ring : AreOneRing f.handing.producer f.taking.end
  pub handing : f.handing.failed ≡ false → HandsOut state f.handing
  pub taking : f.taking.failed ≡ false → HasCopied f.taking
  pub its_home : home f.handing.port ≡ one
  pub port_is : IsDrillPort (suc (writers + place)) many (state f.handing.port)

-- ---- in the end

-- a consumer after its threads, at a port of the directory that this one is a port of
pub record MaySettle {P H : Type 0} (home : P → H) (state : P → PortState) (first : P)
    (f : Following P) : Type 0 where
  pub consumers : f.taking.consumer ≡ f.handing.consumer
  pub ring : AreOneRing f.handing.producer f.taking.end
  pub handing : f.handing.failed ≡ false → HandsOut state f.handing
  pub taking : f.taking.failed ≡ false → HasCopied f.taking
  pub shared : 0 < (state f.handing.port).ports
  pub its_home : home f.handing.port ≡ home first

-- A consumer whose search was ended: before that its port had seen all that this one has, all that
-- was due was handed out, and its copy took all of it.
pub record IsSettled (consumer : ℕ) (seen port : PortState) (copy : ConsumerState)
    (producer : RingProducer) (end : RingConsumer) : Type 0 where
  pub ring : AreOneRing producer end
  pub taken_is : taken end ≡ offered producer
  pub copied : HasTaken consumer copy (taken end)
  pub resting : IsResting port (offered producer)
  pub upto : PortState
  pub search : ℕ
  pub done : IsDone consumer search upto (offered producer)
  pub begins : HasSeenAllOf upto seen
  pub goes_on : HasGoneOn upto port

-- of a consumer before that and after it
pub record IsBroughtUp {P H : Type 0} (home : P → H) (state : P → PortState) (seen : PortState)
    (old new : Following P) : Type 0 where
  pub its_home : home new.handing.port ≡ home old.handing.port
  pub goes_on : HasGoneOn (state old.handing.port) (state new.handing.port)
  pub settled : IsSettled old.handing.consumer seen (state new.handing.port) new.taking.copy
      new.handing.producer new.taking.end
  pub before : HasGoneOn (state old.handing.port) settled.upto
