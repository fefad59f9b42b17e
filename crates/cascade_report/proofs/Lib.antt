pub mod Digests
pub mod Reports
