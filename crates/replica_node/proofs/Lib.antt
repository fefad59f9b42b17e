-- Lemmas of the crate.
pub mod Counting
pub mod Stepping
pub mod Ending
pub mod Rounding
pub mod Ports
pub mod Saying
pub mod Prefixed
pub mod Holding
