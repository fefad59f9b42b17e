-- A drill: what its writers do, and what they leave in the journal.
pub mod Journals
pub mod Going
pub mod Drilled
pub mod Writers
pub mod Delivered
pub mod Handing
pub mod Halves
pub mod Following
pub mod Summing
pub mod Followed
