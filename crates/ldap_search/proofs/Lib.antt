-- Lemmas of the crate.
pub mod Reading
pub mod Answered
pub mod Copying
pub mod Followed
pub mod Stopped
pub mod Writing
pub mod Storing
pub mod Called
