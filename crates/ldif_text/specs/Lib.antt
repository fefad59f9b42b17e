-- LDIF: lines, what they say, records of change, and the text of an entry.
pub mod Fault
pub mod Lines
pub mod Field
pub mod Record
pub mod Reader
pub mod Written
pub mod Received
pub mod Again
