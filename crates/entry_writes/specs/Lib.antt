-- Entries, writes as they come in, and their codes and effects.
pub mod Bytes
pub mod Codes
pub mod Edits
pub mod Effects
pub mod Fault
pub mod Reading
pub mod Sound
pub mod State
pub mod Touched
