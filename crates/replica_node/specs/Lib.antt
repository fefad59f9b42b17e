-- A replica that follows an upstream: rounds, each over one link.
pub mod Steps
pub mod Rounds
pub mod Following
pub mod ReplicaRounds
pub mod Prefixes
pub mod Replicas
