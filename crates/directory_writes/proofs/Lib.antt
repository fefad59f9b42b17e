-- Lemmas of the crate.
pub mod Apart
pub mod Commits
pub mod Distinct
pub mod Judged
pub mod Keyed
pub mod LastCsns
pub mod Promised
pub mod Pushed
pub mod Served
pub mod SortedIdentities
pub mod Stamped
pub mod Csns
pub mod Notified
pub mod TouchedBy
pub mod Writes
