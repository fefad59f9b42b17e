-- Lemmas of the crate.
pub mod AttributeLists
mod Editing
pub mod Firsts
pub mod Identities
pub mod Keyed
pub mod Passing
pub mod Same
