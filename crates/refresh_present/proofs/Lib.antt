pub mod Ascending
pub mod Deciding
