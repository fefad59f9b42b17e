-- What went into a ring, what came out, and what each end knows of it. An item is its bytes.
use Rattle.std.specs.Prelude.{ℕ, List}
use Rattle.rtrb.specs.Ring.{sent, known_free, received, IsPair, SameProducer, SameConsumer}
use Rattle.rtrb.specs.Ring as ring
use Rattle.link_rings.specs.declared.ends.RingProducer.{RingProducer}
use Rattle.link_rings.specs.declared.ends.RingConsumer.{RingConsumer}

-- the items that were offered with Ok, the first at the start
abbrev pub offered : RingProducer → List (List ℕ)
offered p = sent p.end

-- how many free slots the producer knows of
abbrev pub known_slots : RingProducer → ℕ
known_slots p = known_free p.end

-- the items that were taken, the first at the start
abbrev pub taken : RingConsumer → List (List ℕ)
taken c = received c.end

-- the items that the consumer knows of, in the order in which it is to take them
abbrev pub known_items : RingConsumer → List (List ℕ)
known_items c = ring.known_items c.end

-- the two ends of one ring
abbrev pub AreOneRing : RingProducer → RingConsumer → Type 0
AreOneRing p c = IsPair p.end c.end

-- an end of the same ring as before
abbrev pub IsSameProducer : RingProducer → RingProducer → Type 0
IsSameProducer old new = SameProducer old.end new.end

abbrev pub IsSameConsumer : RingConsumer → RingConsumer → Type 0
IsSameConsumer old new = SameConsumer old.end new.end
