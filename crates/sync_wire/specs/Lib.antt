-- The messages of LDAP that a search with content synchronisation is asked for and reported
-- by, and what each says.
pub mod CanBeSent
pub mod Decoding
pub mod Kind
pub mod Law
pub mod Refusals
pub mod Requesting
pub mod Sending
pub mod Values
pub mod WireEntry
