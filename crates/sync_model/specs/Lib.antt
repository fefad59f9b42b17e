-- What a search with content synchronisation says, what a copy makes of it, and the
-- laws of both (RFC 4533).
pub mod Copy
pub mod Examples
pub mod Incremental
pub mod Keeping
pub mod Law
pub mod Message
pub mod Stream
pub mod Within
