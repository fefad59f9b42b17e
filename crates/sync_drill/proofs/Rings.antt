-- The ends of a ring are ends of it still after calls.
use Rattle.std.proofs.Common.{refl, ◌∙◌, sym}
use Rattle.link_rings.specs.Ends.{AreOneRing, IsSameConsumer, IsSameProducer}
use Rattle.link_rings.specs.declared.ends.RingConsumer.{RingConsumer}
use Rattle.link_rings.specs.declared.ends.RingProducer.{RingProducer}

-- an end that offers is of its ring
pub same-producer : (p : RingProducer) → IsSameProducer p p
same-producer p = ((refl, refl, refl, refl), refl)

-- two calls in a row
pub producer-twice : (old mid new : RingProducer) → IsSameProducer old mid → IsSameProducer mid new → IsSameProducer old new
producer-twice old mid new first second = (
  (second.0.0 ∙ first.0.0, second.0.1 ∙ first.0.1, second.0.2 ∙ first.0.2, second.0.3 ∙ first.0.3),
  second.1 ∙ first.1,
)

-- an end that takes is of its ring
pub same-consumer : (c : RingConsumer) → IsSameConsumer c c
same-consumer c = ((refl, refl, refl, refl), refl)

-- two calls in a row
pub consumer-twice : (old mid new : RingConsumer) → IsSameConsumer old mid → IsSameConsumer mid new → IsSameConsumer old new
consumer-twice old mid new first second = (
  (second.0.0 ∙ first.0.0, second.0.1 ∙ first.0.1, second.0.2 ∙ first.0.2, second.0.3 ∙ first.0.3),
  second.1 ∙ first.1,
)

-- both ends after calls
pub one-ring : (p q : RingProducer) (c d : RingConsumer) → AreOneRing p c → IsSameProducer p q → IsSameConsumer c d → AreOneRing q d
one-ring p q c d pair same other = (
  other.0.0 ∙ pair.0 ∙ sym same.0.0,
  other.0.1 ∙ pair.1 ∙ sym same.0.1,
  other.0.2 ∙ pair.2 ∙ sym same.0.2,
  other.0.3 ∙ pair.3 ∙ sym same.0.3,
)
