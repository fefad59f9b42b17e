-- Lemmas of the crate.
pub mod Beginnings
pub mod Cutting
pub mod Deciding
pub mod Gathering
pub mod HandingOut
pub mod Overflowing
pub mod Shows
pub mod Streams
pub mod Turns
pub mod Writing
