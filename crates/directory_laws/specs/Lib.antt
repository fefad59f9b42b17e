-- Writes that a directory accepts, entries that can be sent, and the laws of both.
pub mod Accepted
pub mod Law
pub mod Reading
