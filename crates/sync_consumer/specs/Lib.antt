-- What a consumer keeps of its search, and what it makes of each message.
pub mod Committing
pub mod Holding
pub mod SyncSession
pub mod Staging
pub mod Taking
