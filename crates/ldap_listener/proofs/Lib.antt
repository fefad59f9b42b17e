-- Lemmas of the crate.
pub mod Accounts
pub mod Chains
pub mod Closing
pub mod Faults
pub mod Opening
pub mod Rows
pub mod Sent
pub mod Served
pub mod ExtraPort
