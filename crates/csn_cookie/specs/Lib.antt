pub mod Digits
pub mod Calendar
pub mod Instant
pub mod Csn
pub mod CsnMaker
pub mod Cookie
