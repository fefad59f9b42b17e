pub mod TextLines
pub mod Continued
pub mod Joined
pub mod Places
pub mod Shorter
pub mod WrittenLines
pub mod WrittenRecords
pub mod WrittenEntries
