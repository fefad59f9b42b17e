-- The names of the faults of a consumer.
use Rattle.std.specs.Prelude.{ℕ, List, codes}
use Rattle.sync_consumer.specs.declared.fault.PeerFault.{PeerFault}
use Rattle.sync_consumer.specs.declared.fault.PeerFault.TheVariants.{PresentUnknown, UuidDiffers, OutOfPlace, BadValue, BadEntry, StageFull, DuplicateName}

abbrev pub peer_name : PeerFault → List ℕ
peer_name (PresentUnknown uuid) = codes "PresentUnknown"
peer_name (UuidDiffers uuid other) = codes "UuidDiffers"
peer_name (OutOfPlace tag) = codes "OutOfPlace"
peer_name BadValue = codes "BadValue"
peer_name (BadEntry code) = codes "BadEntry"
peer_name StageFull = codes "StageFull"
peer_name (DuplicateName uuid other) = codes "DuplicateName"
